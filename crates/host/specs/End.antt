-- How a command ends: its exit status, and its line on standard error.
use Rattle.std.specs.Prelude.{◌≡◌, ◌⊎◌, ℕ, List, ◌++◌, Option, None, Some, codes, string_bytes}
use Rattle.host.specs.Streams.Stream.{Stream}
use Rattle.host.specs.Streams.Writing.{PutsAll, PutsFront, error_line}
use Rattle.host.specs.declared.end.End.{End}
use Rattle.host.specs.declared.end.End.TheVariants as end

-- the exit status: 1 for what is refused, 3 for a file or a stream
abbrev pub end_status : End → ℕ
end_status end.Done = 0
end_status (end.Refused text) = 1
end_status (end.File path ending) = 3
end_status (end.Path path) = 3
end_status end.Stream = 3
end_status end.NoMemory = 1

-- the text that follows `error: ` on standard error
abbrev pub end_text : End → Option (List ℕ)
end_text end.Done = None
end_text (end.Refused text) = Some (string_bytes text)
end_text (end.File path ending) = Some (codes "file " ++ path.now ++ ending.now)
end_text (end.Path path) = Some (codes "file " ++ string_bytes path)
end_text end.Stream = Some (codes "file -")
end_text end.NoMemory = Some (codes "NoMemory")

-- A line is put, whole or, if the stream fails, a front of it.
abbrev pub IsPut : Stream → Stream → List ℕ → Type 0
IsPut old new line = PutsAll old new line ⊎ PutsFront old new line

-- The line of an error is put, if there is an error.
abbrev pub TellsOf : Option (List ℕ) → Stream → Stream → Type 0
TellsOf None old new = new ≡ old
TellsOf (Some text) old new = IsPut old new (error_line text)

abbrev pub Tells : End → Stream → Stream → Type 0
Tells e old new = TellsOf (end_text e) old new
