-- What a traced run tells.
use Rattle.std.proofs.Common.{◌≡◌, ◌∙◌, ℕ, Bool, false, List, Option, None, Some, Result, Ok, Err, IfOk, IfSome, ap, inr, subst, sym}
use Rattle.std.specs.declared.alloc.AllocError.{AllocError}
use Rattle.std.specs.Result.{result_ok}
use Rattle.cpm_run.specs.declared.ending.Why.{Why}
use Rattle.cpm_run.specs.declared.recording.Record.{Record}
use Rattle.cpm_run.specs.declared.recording.Wish.{Wish}
use Rattle.cpm_run.specs.declared.tracing.Left.{Left}
use Rattle.host.specs.Streams.Stream.{Stream}
use Rattle.z80dev_commands.specs.declared.job.Telling.{Telling}
use Rattle.z80dev_jobs.specs.Runs.Telling.{IsToldOf, IsToldRun, is_silent, wish_of}
use Rattle.z80dev_jobs.specs.declared.runs.telling.Told.{Told}
use Rattle.z80dev_run.specs.Labelled.{Known}
use Rattle.z80dev_run.specs.Program.{IsTracedRan}

pub told_run : (telling : Telling) (known : Known) (listing : Option (List ℕ)) (file : List ℕ) (words : List (List ℕ)) (image input : List ℕ) (before : Stream) (steps : ℕ) (wish : Wish)
    (end : Why) (turns : ℕ) (state : Option Left) (kept : Option Record) (told : Result Told AllocError) (shown : Option Told)
    → is_silent telling ≡ false → wish ≡ wish_of telling → IsTracedRan file words image input before steps wish end turns state kept
    → IfOk told (IsToldOf telling known listing end turns state kept) → shown ≡ result_ok told → IfSome shown (IsToldRun telling known listing file words image input before steps end turns)
told_run telling known listing file words image input before steps wish end turns state kept (Ok told) shown speaks same ran is so =
    subst (λ s. IfSome s (IsToldRun telling known listing file words image input before steps end turns)) (sym so)
    (inr (speaks, state, kept, subst (λ w. IsTracedRan file words image input before steps w end turns state kept) same ran, is))
told_run telling known listing file words image input before steps wish end turns state kept (Err why) shown speaks same ran is so =
    subst (λ s. IfSome s (IsToldRun telling known listing file words image input before steps end turns)) (sym so) tt
