-- How an end with an error is reported.
use Rattle.std.proofs.Common.{◌≡◌, ℕ, ◌++◌, List, Result, Err, codes, subst}
use Rattle.host.specs.Streams.Stream.{Stream}
use Rattle.host.specs.Streams.Writing.{error_line}
use Rattle.zlink.specs.declared.fault.LinkFault.TheVariants as link
use Rattle.zlink.specs.declared.fault.BuildFault.TheVariants as build
use Rattle.host.specs.declared.end.End.{End}
use Rattle.host.specs.declared.end.End.TheVariants as end
use Rattle.host.specs.End.{IsPut, Tells, TellsOf, end_status}
use Rattle.z80dev.specs.declared.fault.Fault.{Fault}
use Rattle.z80dev.specs.declared.fault.Fault.TheVariants as fault
use Rattle.z80dev.specs.Pipe.{PrintingEnds, said_at, status_at}
use Rattle.z80dev.specs.Private.Steps.{Reports}

-- the exit status, what was written and the line on standard error belong to one end
abbrev pub OneEnd : List ℕ → Type 0 → Stream → Stream → ℕ → Stream → Stream → Type 0
OneEnd text Cut old new status before after = (e : Result Unit Fault) × (status ≡ status_at e) × PrintingEnds text Cut old new e × TellsOf (said_at e) before after

pub reported : (text : List ℕ) (Cut : Type 0) (old new : Stream) (status : ℕ) (before after : Stream) (failure : Fault) (e : End) → PrintingEnds text Cut old new (Err failure)
    → Reports failure e → status ≡ end_status e → Tells e before after → OneEnd text Cut old new status before after
reported text Cut old new status before after fault.File (end.File path ending) ends is same told =
    (Err fault.File, same, ends, subst (λ p. IsPut before after (error_line (codes "file " ++ p))) is told)
reported text Cut old new status before after fault.File end.Done ends is same told = absurd is
reported text Cut old new status before after fault.File (end.Refused said) ends is same told = absurd is
reported text Cut old new status before after fault.File (end.Path path) ends is same told = absurd is
reported text Cut old new status before after fault.File end.Stream ends is same told = absurd is
reported text Cut old new status before after fault.File end.NoMemory ends is same told = absurd is
reported text Cut old new status before after (fault.Build refusal) (end.Refused said) ends is same told =
    (Err (fault.Build refusal), same, ends, subst (λ p. IsPut before after (error_line p)) is told)
reported text Cut old new status before after (fault.Build refusal) end.NoMemory ends is same told =
    (Err (fault.Build (build.Link link.NoMemory)), same, (tt, ends.1), told)
reported text Cut old new status before after (fault.Build refusal) end.Done ends is same told = absurd is
reported text Cut old new status before after (fault.Build refusal) (end.File path ending) ends is same told = absurd is
reported text Cut old new status before after (fault.Build refusal) (end.Path path) ends is same told = absurd is
reported text Cut old new status before after (fault.Build refusal) end.Stream ends is same told = absurd is
