-- How the steps of a command's end are done.
use Rattle.std.specs.Prelude.{◌≡◌, ℕ, List, Option, None, Some, Result, Ok, Err, map, string_bytes}
use Rattle.host.specs.declared.answer.Kind.{Kind}
use Rattle.host.specs.declared.end.End.{End}
use Rattle.host.specs.declared.end.End.TheVariants as end
use Rattle.host.specs.Streams.Stream.{Stream}
use Rattle.host.specs.Streams.Writing.{Puts, error_line}
use Rattle.host.specs.declared.streams.writing.WriteFailed.{WriteFailed}
use Rattle.host.specs.Files.{Folder}
use Rattle.host.specs.Answers.{file_of}
use Rattle.host.specs.Finishing.{AllWritten, IsUnwritten, path_of}
use Rattle.host.specs.declared.ending.Output.{Output}

-- the line of an error is put, if there is one
abbrev pub PutsLine : Option (List ℕ) → Stream → Stream → Result Unit WriteFailed → Type 0
PutsLine None old new result = new ≡ old
PutsLine (Some text) old new result = Puts old new (error_line text) result

-- a file and its path
abbrev pub with_path : List ℕ → Kind × List ℕ → List ℕ × (Kind × List ℕ)
with_path base file = (path_of base file.0, file)

-- These are the files, each with its path.
abbrev pub AreOutputs : List ℕ → List (Kind × List ℕ) → List Output → Type 0
AreOutputs base files outputs = map (λ output. (string_bytes output.path, file_of output.file.now)) outputs ≡ map (with_path base) files

-- how writing files ends
abbrev pub Writes : List ℕ → List (Kind × List ℕ) → Folder → Folder → Result Unit End → Type 0
Writes base files old new (Ok _) = AllWritten base files old new
Writes base files old new (Err (end.File path last)) = IsUnwritten base files old new path.now last.now
Writes base files old new (Err other) = ⊥

abbrev pub end_of : Result Unit End → End
end_of (Ok _) = end.Done
end_of (Err e) = e
