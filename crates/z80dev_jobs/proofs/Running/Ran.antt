-- How `run` ends.
use Rattle.std.proofs.Common.{◌≡◌, ℕ, IfSome, List, Option, None, Some, Ok, Err, false, true, map, refl, subst, sym, unwrap_or}
use Rattle.cpm_run.specs.declared.ending.Why.{Why}
use Rattle.host.specs.Streams.Stream.{Stream}
use Rattle.z80dev_commands.specs.declared.job.Run.{Run}
use Rattle.host.specs.Files.{Folder}
use Rattle.host.specs.declared.end.End.{End}
use Rattle.z80dev_jobs.specs.Private.RunSteps.{MayTell}
use Rattle.host.specs.Reading.{bytes_in}
use Rattle.z80dev_jobs.specs.Runs.Running.{EndsBefore, EndsRun, RunEnds, RunEndsUnless, RunEndsWith, Runs, default_steps}
use Rattle.z80dev_jobs.specs.Runs.Telling.{IsToldRun, why_not_told}
use Rattle.host.specs.World.{World}
use Rattle.z80dev_jobs.specs.declared.runs.running.Inputs.{Inputs}
use Rattle.z80dev_jobs.specs.declared.runs.telling.Told.{Told}
use Rattle.z80dev_run.specs.Labelled.{Known}
use Rattle.z80dev_run.specs.Program.{IsRan}

no_reason : (why : Option (List ℕ)) (done : Unit {0}) → MayTell why (Ok done) → why ≡ None
no_reason None done may = refl
no_reason (Some why) done may = absurd may

-- a run that may tell what it is asked for
pub may_tell : (run : Run) (old new : World) (status : ℕ) (done : Unit {0}) → MayTell (why_not_told run) (Ok done) → RunEndsWith run old new status → RunEnds run old new status
may_tell run old new status done may is = subst (λ why. RunEndsUnless why run old new status) (sym (no_reason (why_not_told run) done may)) is

refuses : (why : Option (List ℕ)) (run : Run) (old new : World) (status : ℕ) (e : End)
    → MayTell why (Err e) → new.folder ≡ old.folder → new.input ≡ old.input → EndsBefore e old new status → RunEndsUnless why run old new status
refuses None run old new status e may folder input ends = absurd (let no : false ≡ true = may in cc)
refuses (Some why) run old new status e may folder input ends = (e, may, folder, input, ends)

-- a run that may not tell what it is asked for
pub may_not_tell : (run : Run) (old new : World) (status : ℕ) (e : End)
    → MayTell (why_not_told run) (Err e) → new.folder ≡ old.folder → new.input ≡ old.input → EndsBefore e old new status → RunEnds run old new status
may_not_tell run = refuses (why_not_told run) run

pub runs : (run : Run) (known : Known) (inputs : Inputs) (claimed : Folder) (old new : World) (status : ℕ) (words : List (List ℕ)) (steps : ℕ) (listing : Option (List ℕ))
    (end : Why) (turns pc : ℕ) (image : List ℕ) (printed : Stream) (told : Option Told)
    → words ≡ map (λ word. word.now) run.words.items → steps ≡ unwrap_or run.steps default_steps → listing ≡ bytes_in inputs.list
    → IsRan inputs.program.items words inputs.image.items inputs.typed.items old.output steps end turns pc image printed
    → IfSome told (IsToldRun run.telling known listing inputs.program.items words inputs.image.items inputs.typed.items old.output steps end turns)
    → EndsRun run inputs end pc image told printed new.output claimed new.folder old.errors new.errors status
    → Runs run known inputs claimed old new status
runs run known inputs claimed old new status words steps listing end turns pc image printed told same_words same_steps same_listing ran tells ends =
    let ran_words = subst (λ w. IsRan inputs.program.items w inputs.image.items inputs.typed.items old.output steps end turns pc image printed) same_words ran in
    let ran_steps = subst (λ n. IsRan inputs.program.items (map (λ word. word.now) run.words.items) inputs.image.items inputs.typed.items old.output n end turns pc image printed) same_steps ran_words in
    let told_words = subst (λ w. IfSome told (IsToldRun run.telling known listing inputs.program.items w inputs.image.items inputs.typed.items old.output steps end turns)) same_words tells in
    let told_steps = subst (λ n. IfSome told (IsToldRun run.telling known listing inputs.program.items (map (λ word. word.now) run.words.items) inputs.image.items inputs.typed.items old.output n end turns)) same_steps told_words in
    let told_listing = subst (λ l. IfSome told (IsToldRun run.telling known l inputs.program.items (map (λ word. word.now) run.words.items) inputs.image.items inputs.typed.items old.output (unwrap_or run.steps default_steps) end turns)) same_listing told_steps in
    (end, turns, pc, image, printed, told, ran_steps, told_listing, ends)
