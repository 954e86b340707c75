-- What `check` prints for a sizes file and its certificate, and how it ends.
use Rattle.std.specs.Prelude.{◌≡◌, ℕ, List, [], ◌∷◌, ◌++◌, Err, codes, decimal, string_bytes}
use Rattle.cert_check.specs.declared.cert.Verdict.{Verdict}
use Rattle.cert_check.specs.declared.cert.Verdict.TheVariants.{Best, Range, TooLarge}
use Rattle.cert_check.specs.Accepts.{Accepts}
use Rattle.cert_check.specs.declared.fault.CheckFault.{CheckFault}
use Rattle.cert_check.specs.Checks.{Checks}
use Rattle.host.specs.Streams.Stream.{Stream}
use Rattle.host.specs.Streams.Writing.{PrintsAll, PutsFront}
use Rattle.host.specs.declared.end.End.{End}
use Rattle.host.specs.declared.end.End.TheVariants as end
use Rattle.z80dev.specs.CheckTexts.{check_text}

-- the line of a verdict
abbrev pub judged_line : Verdict → List ℕ
judged_line (Best n) = codes "best " ++ decimal n ++ 10 ∷ []
judged_line (Range k) = codes "range " ++ decimal k ++ 10 ∷ []
judged_line (TooLarge n) = codes "size " ++ decimal n ++ 10 ∷ []

-- the files are accepted with a verdict, and Written holds of its line
abbrev pub WithVerdict : List ℕ → List ℕ → (List ℕ → Type 0) → Type 0
WithVerdict sizes cert Written = (v : Verdict) × Accepts sizes cert v × Written (judged_line v)

-- The files have this first error. That memory ran out is not an error of files.
abbrev pub IsRefusedBy : List ℕ → List ℕ → List ℕ → Type 0
IsRefusedBy sizes cert text = (fault : CheckFault) × Checks sizes cert (Err fault) × (text ≡ check_text fault)

-- how printing a verdict ends
abbrev pub VerdictEnds : List ℕ → List ℕ → Stream → Stream → End → Type 0
VerdictEnds sizes cert old new end.Done = WithVerdict sizes cert (PrintsAll old new)
VerdictEnds sizes cert old new (end.Refused text) = IsRefusedBy sizes cert (string_bytes text) × (new ≡ old)
VerdictEnds sizes cert old new end.Stream = WithVerdict sizes cert (PutsFront old new)
VerdictEnds sizes cert old new end.NoMemory = new ≡ old
VerdictEnds sizes cert old new (end.File path ending) = ⊥
VerdictEnds sizes cert old new (end.Path path) = ⊥
