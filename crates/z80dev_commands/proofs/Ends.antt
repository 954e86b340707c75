-- How a command ends if its words are parsed without an error: with its job, or refused.
use Rattle.std.proofs.Common.{◌≡◌, ◌⊎◌, inl, inr, true, List, Some, subst, sym}
use Rattle.std.specs.Prelude.{Err, IfErr, IfOk, MatchResult, Ok, Result}
use Rattle.clap.specs.Words.{HasKind, Row, Text, fault_of, kind_of, takes}
use Rattle.clap.specs.declared.error.Error.{Error}
use Rattle.clap.specs.declared.error.kind.ErrorKind.TheVariants.{OutOfMemory}
use Rattle.z80dev_commands.specs.declared.job.Job.{Job}
use Rattle.z80dev_commands.specs.Commands.{HasRightCount, IsJob, IsJobOf, IsMiscounted, IsMiscountedOf, z80dev}
use Rattle.z80dev_commands.specs.Private.{IsRefused}
use Rattle.z80dev_commands.proofs.Rows.{IsMet}

-- the end of the command with this name, for the rows that the parse found
abbrev pub IsEnd : Text → List Row → Result Job Error → Type 0
IsEnd name rows r = MatchResult r (IsJobOf (Some (name, rows))) (IsRefused (Some (name, rows)))

pub ends_job : (words : List Text) (name : Text) (rows : List Row) (r : Result Job Error) → IsMet words name rows → IsEnd name rows r → IfOk r (IsJob words)
ends_job words name rows (Ok job) met is = (met.0, subst (λ o. IsJobOf o job) (sym met.1) is)
ends_job words name rows (Err e) met is = tt

miscounted : (words : List Text) (name : Text) (rows : List Row) (e : Error) → IsMet words name rows → IsMiscountedOf (Some (name, rows)) (kind_of e) → IsMiscounted words (kind_of e)
miscounted words name rows e met is = (met.0, subst (λ o. IsMiscountedOf o (kind_of e)) (sym met.1) is)

pub ends_refused : (words : List Text) (name : Text) (rows : List Row) (r : Result Job Error) → IsMet words name rows → IsEnd name rows r
    → IfErr r (λ e. HasKind (fault_of z80dev words) e ⊎ IsMiscounted words (kind_of e))
ends_refused words name rows (Ok job) met is = tt
ends_refused words name rows (Err e) met (inl out) = inl (inl out)
ends_refused words name rows (Err e) met (inr is) = inr (miscounted words name rows e met is)

pub ends_taken : (words : List Text) (name : Text) (rows : List Row) (r : Result Job Error) → IsMet words name rows → IsEnd name rows r
    → IfErr r (λ e. takes z80dev words ≡ true → HasRightCount words → kind_of e ≡ OutOfMemory)
ends_taken words name rows (Ok job) met is = tt
ends_taken words name rows (Err e) met (inl out) = λ takes counted. out
ends_taken words name rows (Err e) met (inr is) = λ takes counted. absurd (counted (kind_of e) (miscounted words name rows e met is))
