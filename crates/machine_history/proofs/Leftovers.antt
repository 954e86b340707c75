-- The lines of a file of a session, one after the other.
use Rattle.std.proofs.Common.{◌≡◌, ◌<◌, ◌^◌, ◌++◌, ◌∷◌, [], ℕ, All, List, append_assoc, append-nil, ap, sym, ◌∙◌}
use Rattle.std.specs.List.{flat_map}
use Rattle.std.proofs.lemmas.List.Elements.{All-head, All-tail}
use Rattle.cpm_run.specs.declared.arriving.Arrival.{Arrival}
use Rattle.machine_history.specs.Recorded.{HasWidths, arrival_line, closing_line, record_text}
use Rattle.machine_history.specs.declared.recorded.Line.{Line}
use Rattle.machine_history.specs.declared.recorded.Line.TheVariants as line

pub begins_byte : (a : Arrival) (more : List Arrival) (last : ℕ) → record_text (a ∷ more) last ≡ arrival_line a ++ record_text more last
begins_byte a more last = append_assoc (arrival_line a) (flat_map arrival_line more) (closing_line last)

pub begins_end : (last : ℕ) → record_text [] last ≡ closing_line last ++ []
begins_end last = sym (append-nil (closing_line last))

-- the line that is found in a text is the one with which it begins
abbrev pub FindsByte : List ℕ → List ℕ → Line → Type 0
FindsByte text after found = (a : Arrival) (more : List ℕ) → HasWidths a → text ≡ arrival_line a ++ more → (found ≡ line.Byte a) × (after ≡ more)

abbrev pub FindsEnd : List ℕ → List ℕ → Line → Type 0
FindsEnd text after found = (n : ℕ) (more : List ℕ) → n < 2 ^ 64 → text ≡ closing_line n ++ more → (found ≡ line.End n) × (after ≡ more)

-- the last line was found, so all bytes were read
pub at_end : (items arrivals left : List Arrival) (last number : ℕ) (text after : List ℕ) (found : Line) → last < 2 ^ 64 → arrivals ≡ items ++ left → All HasWidths left → text ≡ record_text left last
    → FindsByte text after found → FindsEnd text after found → found ≡ line.End number → (items ≡ arrivals) × (number ≡ last)
at_end items arrivals [] last number text after found lt split all is byte end told =
    let at = end last [] lt (is ∙ begins_end last) in
    let same : number ≡ last = let both = sym told ∙ at.0 in cc in
    (sym (split ∙ append-nil items), same)
at_end items arrivals (a ∷ more) last number text after found lt split all is byte end told =
    let at = byte a (record_text more last) (All-head HasWidths a more all) (is ∙ begins_byte a more last) in
    let both = sym told ∙ at.0 in cc

-- the line of a byte was found, and the others are left
pub one_more : (items arrivals left : List Arrival) (last : ℕ) (text after : List ℕ) (found : Line) (a : Arrival) → last < 2 ^ 64 → arrivals ≡ items ++ left → All HasWidths left → text ≡ record_text left last
    → FindsByte text after found → FindsEnd text after found → found ≡ line.Byte a → (x : List Arrival) × (arrivals ≡ (items ++ a ∷ []) ++ x) × All HasWidths x × (after ≡ record_text x last)
one_more items arrivals [] last text after found a lt split all is byte end told =
    let at = end last [] lt (is ∙ begins_end last) in
    let both = sym told ∙ at.0 in cc
one_more items arrivals (b ∷ more) last text after found a lt split all is byte end told =
    let at = byte b (record_text more last) (All-head HasWidths b more all) (is ∙ begins_byte b more last) in
    let same : b ≡ a = let both = sym told ∙ at.0 in cc in
    (more, split ∙ ap (λ (x : Arrival). items ++ x ∷ more) same ∙ sym (append_assoc items (a ∷ []) more), All-tail HasWidths b more all, at.1)

-- a record has a first line
pub no_line : (left : List Arrival) (last : ℕ) (text : List ℕ) → last < 2 ^ 64 → All HasWidths left → text ≡ record_text left last
    → ((a : Arrival) (more : List ℕ) → HasWidths a → text ≡ arrival_line a ++ more → ⊥) → ((n : ℕ) (more : List ℕ) → n < 2 ^ 64 → text ≡ closing_line n ++ more → ⊥) → ⊥
no_line [] last text lt all is byte end = end last [] lt (is ∙ begins_end last)
no_line (a ∷ more) last text lt all is byte end = byte a (record_text more last) (All-head HasWidths a more all) (is ∙ begins_byte a more last)
