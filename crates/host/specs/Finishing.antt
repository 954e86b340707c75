-- How a command ends that has an answer.
use Rattle.std.specs.Prelude.{◌≡◌, ◌⊎◌, ℕ, ◌+◌, IfSome, List, ◌++◌, Option, None, Some, map, slice_get, string_bytes, take}
use Rattle.host.specs.Streams.Stream.{Stream, counted}
use Rattle.host.specs.Streams.Writing.{PrintsAll, PutsFront}
use Rattle.host.specs.declared.answer.Answer as made
use Rattle.host.specs.declared.answer.Kind.{Kind}
use Rattle.host.specs.declared.end.End.{End}
use Rattle.host.specs.declared.end.End.TheVariants as end
use Rattle.host.specs.Answers.{ending, file_of}
use Rattle.host.specs.Files.{Adds, Folder}

-- the path of a file of the command: the one that was given, and the file's ending
abbrev pub path_of : List ℕ → Kind → List ℕ
path_of base kind = base ++ ending kind

abbrev pub named : List ℕ → Kind × List ℕ → List ℕ × List ℕ
named base file = (path_of base file.0, file.1)

-- all of the files are written
abbrev pub AllWritten : List ℕ → List (Kind × List ℕ) → Folder → Folder → Type 0
AllWritten base files old new = Adds old new (map (named base) files) × (new.failures ≡ old.failures)

-- One of the files cannot be written: those before it are, and it is written or not.
abbrev pub IsUnwritten : List ℕ → List (Kind × List ℕ) → Folder → Folder → List ℕ → List ℕ → Type 0
IsUnwritten base files old new path last = (n : ℕ) × (file : Kind × List ℕ) × (slice_get files n ≡ Some file) × (path ≡ base) × (last ≡ ending file.0)
    × (Adds old new (map (named base) (take n files)) ⊎ Adds old new (map (named base) (take (n + 1) files))) × (new.failures ≡ counted old.failures)

-- The answer refuses nothing; or it refuses something, with this text if its text is known.
abbrev pub IsWhy : {R : Type 0} → (R → Option (List ℕ)) → Option R → Option (List ℕ) → Type 0
IsWhy text None None = Unit {0}
IsWhy text (Some why) (Some said) = IfSome (text why) (λ known. said ≡ known)
IsWhy text _ _ = ⊥

-- How a command ends that writes these files and prints these lines. The files are written in their order, then the lines are printed, then it
-- is said what is refused, if something is. A file that cannot be written, or standard output that fails, is the end before that. If memory runs
-- out, nothing is written or printed.
abbrev pub WritesAndPrints : List ℕ → List (Kind × List ℕ) → List ℕ → (Option (List ℕ) → Type 0) → Folder → Folder → Stream → Stream → End → Type 0
WritesAndPrints base files printed Says old new before after end.Done = AllWritten base files old new × PrintsAll before after printed × Says None
WritesAndPrints base files printed Says old new before after (end.Refused said) =
    AllWritten base files old new × PrintsAll before after printed × Says (Some (string_bytes said))
WritesAndPrints base files printed Says old new before after (end.File path last) = IsUnwritten base files old new path.now last.now × (after ≡ before)
WritesAndPrints base files printed Says old new before after (end.Path path) = ⊥
WritesAndPrints base files printed Says old new before after end.Stream = AllWritten base files old new × PutsFront before after printed
WritesAndPrints base files printed Says old new before after end.NoMemory = (new ≡ old) × (after ≡ before)

-- How a command ends whose answer this is.
abbrev pub Finishes : {R : Type 0} → (R → Option (List ℕ)) → List ℕ → made.Answer R → Folder → Folder → Stream → Stream → End → Type 0
Finishes text base a old new before after e = WritesAndPrints base (map file_of a.files.items) a.printed.items (IsWhy text a.refusal) old new before after e
