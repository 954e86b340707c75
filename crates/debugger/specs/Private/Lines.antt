-- The lines that end in some bytes, and the beginning of the next.
use Rattle.std.specs.Prelude.{◌≡◌, ◌∷◌, ◌++◌, ◌⊎◌, ℕ, Bool, false, true, List, [], Option}
use Rattle.std.specs.Io.KnownBytes.{Consumes, IsAtEnd}
use Rattle.host.specs.Streams.Stream.{Stream}
use Rattle.debugger.specs.Conversation.{BeginsLines, HasNoEnd, SessionState, TalksOn}
use Rattle.state_text.specs.Labelled.{Known}

-- what is after the last line end is the beginning of the next line, unless the session was quit
abbrev pub IsNextLine : List ℕ → List ℕ → Bool → Type 0
IsNextLine tail next is_over = ((tail ≡ next) × HasNoEnd next) ⊎ (is_over ≡ true)

-- The lines that end in these bytes were obeyed. `line` was read of the first of them, and `next` of the next.
abbrev pub TakesLines : Known → List ℕ → List ℕ → List ℕ → List ℕ → SessionState → SessionState → Stream → Stream → Type 0
TakesLines known listing line bytes next old new before after =
    (lines : List (List ℕ)) × (tail : List ℕ) × BeginsLines (line ++ bytes) lines tail × IsNextLine tail next new.is_over × TalksOn known listing lines old new before after

-- the same, and all lines that end in the bytes were obeyed
abbrev pub TakesAllLines : Known → List ℕ → List ℕ → List ℕ → List ℕ → SessionState → SessionState → Stream → Stream → Type 0
TakesAllLines known listing line bytes next old new before after =
    (lines : List (List ℕ)) × BeginsLines (line ++ bytes) lines next × HasNoEnd next × TalksOn known listing lines old new before after

-- One read. At the end of the input what was read of a line is the last line.
abbrev pub GetsLines : Known → List ℕ → Option (List ℕ) → Option (List ℕ) → List ℕ → List ℕ → SessionState → SessionState → Stream → Stream → Bool → Type 0
GetsLines known listing from left line next old new before after false =
    (bytes : List ℕ) × Consumes from left bytes × TakesLines known listing line bytes next old new before after
GetsLines known listing from left line next old new before after true = Consumes from left [] × IsAtEnd left × TalksOn known listing (line ∷ []) old new before after
