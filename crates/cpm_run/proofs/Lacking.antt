-- A step that lacks its input stops the run.
use Rattle.std.proofs.Common.{◌≡◌, ◌∷◌, ◌⊎◌, [], inl, inr, ℕ, List, Option, None, Some, Result, Ok, Err, refl, sym, ap, subst, ◌∙◌}
use Rattle.z80_cpu.specs.State.{Machine, de}
use Rattle.z80_cpu.specs.declared.registers.Cpu.{Cpu}
use Rattle.cpm_console.specs.Dialog.{Dialog}
use Rattle.cpm_console.specs.Line.{NoInput, Stored, Transcript, WarmBoot, typed_line}
use Rattle.cpm_console.specs.Screen.{Screen, screen}
use Rattle.cpm_disk.specs.Image.{Image}
use Rattle.cpm_disk.specs.declared.control.stop.Stop.{Stop}
use Rattle.cpm_disk.specs.declared.control.stop.Stop.TheVariants as stop
use Rattle.cpm_bdos.specs.Answer.{CallerSees, InputAnswers, KnownAnswers, KnownEntry, answered}
use Rattle.cpm_bdos.specs.Console.Lines.{ReadsLine}
use Rattle.cpm_bdos.specs.Console.Raw.{TakesRaw}
use Rattle.cpm_bdos.specs.Console.Texts.{Speaks, Talk, taken_talk}
use Rattle.cpm_bdos.specs.Functions.{bios_entry_of, function_of}
use Rattle.cpm_bdos.specs.System.{System}
use Rattle.cpm_bdos.specs.declared.console.reply.Reply.{Reply}
use Rattle.cpm_bdos.specs.declared.console.reply.Reply.TheVariants as reply
use Rattle.cpm_bdos.specs.declared.function.BiosEntry.{BiosEntry}
use Rattle.cpm_bdos.specs.declared.function.BiosEntry.TheVariants as bios
use Rattle.cpm_bdos.specs.declared.function.ConsoleCall.TheVariants as console
use Rattle.cpm_bdos.specs.declared.function.Function.{Function}
use Rattle.cpm_bdos.specs.declared.function.Function.TheVariants as function
use Rattle.cpm_bdos.specs.declared.outcome.After.{After}
use Rattle.cpm_run.specs.declared.ending.Why.{Why}
use Rattle.cpm_run.specs.declared.ending.Why.TheVariants as why
use Rattle.cpm_run.specs.Looks.{CallLacks, EntryLacks, LacksAt, LacksInput, line_room}
use Rattle.cpm_run.specs.Turns.{Call, Comes, Entry, IsTurn, Place, Program, RunState, TurnAt, place_at_pc}

-- a call ended for want of input, or the console failed
abbrev Wants : {A : Type 0} → Result A Stop → Type 0
Wants result = (result ≡ Err stop.EndOfInput) ⊎ (result ≡ Err stop.ConsoleFault)

abbrev Stopped : Option Why → Type 0
Stopped end = (end ≡ Some (why.Stopped stop.EndOfInput)) ⊎ (end ≡ Some (why.Stopped stop.ConsoleFault))

spoke : (old new : Screen) (t : Talk ℕ) (outcome : Result ℕ Stop) → t.ending ≡ Err stop.EndOfInput → Speaks old new t outcome → Wants outcome
spoke old new t (Ok value) lacks speaks = absurd (let no : Ok value ≡ Err stop.EndOfInput = sym speaks.0 ∙ lacks in cc)
spoke old new t (Err stop.EndOfInput) lacks speaks = inl refl
spoke old new t (Err stop.ConsoleFault) lacks speaks = inr refl
spoke old new t (Err (stop.UnsupportedFunction n)) lacks speaks = inl (sym speaks.0 ∙ lacks)
spoke old new t (Err stop.FileReadOnly) lacks speaks = inl (sym speaks.0 ∙ lacks)
spoke old new t (Err stop.BadFcb) lacks speaks = inl (sym speaks.0 ∙ lacks)
spoke old new t (Err stop.DiskFault) lacks speaks = inl (sym speaks.0 ∙ lacks)
spoke old new t (Err stop.UnknownDrive) lacks speaks = inl (sym speaks.0 ∙ lacks)
spoke old new t (Err (stop.UnsupportedBios n)) lacks speaks = inl (sym speaks.0 ∙ lacks)

answered_so : (outcome : Result ℕ Stop) → Wants outcome → Wants (answered outcome)
answered_so outcome (inl is) = inl (ap answered is)
answered_so outcome (inr is) = inr (ap answered is)

read : (t : Transcript) (address : ℕ) (old new : Screen) (before now : List ℕ) (result : Result Reply Stop) → t.ending ≡ NoInput → ReadsLine t address old new before now result → Wants result
read t address old new before now (Ok (reply.Value value)) lacks (does, none, (bytes, stored, kept)) = absurd (let no : NoInput ≡ Stored bytes = sym lacks ∙ stored in cc)
read t address old new before now (Ok reply.WarmBoot) lacks (does, ending, kept) = absurd (let no : NoInput ≡ WarmBoot = sym lacks ∙ ending in cc)
read t address old new before now (Err stop.EndOfInput) lacks reads = inl refl
read t address old new before now (Err stop.ConsoleFault) lacks reads = inr refl
read t address old new before now (Err (stop.UnsupportedFunction n)) lacks reads = absurd reads
read t address old new before now (Err stop.FileReadOnly) lacks reads = absurd reads
read t address old new before now (Err stop.BadFcb) lacks reads = absurd reads
read t address old new before now (Err stop.DiskFault) lacks reads = absurd reads
read t address old new before now (Err stop.UnknownDrive) lacks reads = absurd reads
read t address old new before now (Err (stop.UnsupportedBios n)) lacks reads = absurd reads

sees : (old new : Cpu) (given : Result Reply Stop) (result : Result After Stop) → Wants given → CallerSees old new given result → Wants result
sees old new (Ok (reply.Value value)) result (inl is) seen = absurd cc
sees old new (Ok (reply.Value value)) result (inr is) seen = absurd cc
sees old new (Ok reply.WarmBoot) result (inl is) seen = absurd cc
sees old new (Ok reply.WarmBoot) result (inr is) seen = absurd cc
sees old new (Err why) result (inl is) seen = inl (seen.0 ∙ (let e : why ≡ stop.EndOfInput = cc in ap (λ w. Err w) e))
sees old new (Err why) result (inr is) seen = inr (seen.0 ∙ (let e : why ≡ stop.ConsoleFault = cc in ap (λ w. Err w) e))

took : (old new : Screen) (outcome : Result ℕ Stop) → old.dialog.input ≡ [] → TakesRaw old new outcome → Wants outcome
took old new (Ok byte) none takes = absurd (let no : [] ≡ byte ∷ new.dialog.input = sym none ∙ takes.0.passed.input in cc)
took old new (Err stop.EndOfInput) none takes = inl refl
took old new (Err stop.ConsoleFault) none takes = inr refl
took old new (Err (stop.UnsupportedFunction n)) none takes = absurd takes
took old new (Err stop.FileReadOnly) none takes = absurd takes
took old new (Err stop.BadFcb) none takes = absurd takes
took old new (Err stop.DiskFault) none takes = absurd takes
took old new (Err stop.UnknownDrive) none takes = absurd takes
took old new (Err (stop.UnsupportedBios n)) none takes = absurd takes

put_in : (old new : Screen) (cpu shown : Cpu) (outcome : Result ℕ Stop) (result : Result After Stop) → Wants outcome → InputAnswers old new cpu shown outcome result → Wants result
put_in old new cpu shown (Ok byte) result (inl is) answers = absurd cc
put_in old new cpu shown (Ok byte) result (inr is) answers = absurd cc
put_in old new cpu shown (Err why) result (inl is) answers = inl (answers.0 ∙ (let e : why ≡ stop.EndOfInput = cc in ap (λ w. Err w) e))
put_in old new cpu shown (Err why) result (inr is) answers = inr (answers.0 ∙ (let e : why ≡ stop.ConsoleFault = cc in ap (λ w. Err w) e))

comes : (answer : Result After Stop) (cpu : Cpu) (memory : List ℕ) (end : Option Why) (new : Machine) → Wants answer → Comes answer cpu memory end new → Stopped end
comes answer cpu memory end new (inl is) came = inl (subst (λ a. Comes a cpu memory end new) is came).0
comes answer cpu memory end new (inr is) came = inr (subst (λ a. Comes a cpu memory end new) is came).0

module _ {S : Type 0} (sectors : S → Image) (faults : S → ℕ) where
  call : (f : Option Function) (old : RunState S Dialog) (new : System S Dialog) (shown : Cpu) (now : List ℕ) (result : Result After Stop) → CallLacks f old
      → KnownAnswers sectors faults (λ (d : Dialog). d) f old.system new old.machine.cpu shown old.machine.memory now result → Wants result
  call None old new shown now result lacks answers = absurd lacks
  call (Some function.SystemReset) old new shown now result lacks answers = absurd lacks
  call (Some (function.Console console.Input)) old new shown now result lacks (given, (kept, (same, (outcome, is, speaks))), seen) =
      sees old.machine.cpu shown given result (subst Wants (sym is) (answered_so outcome (spoke _ _ (taken_talk (screen (λ (d : Dialog). d) old.system.terminal)) outcome lacks speaks))) seen
  call (Some (function.Console console.Output)) old new shown now result lacks answers = absurd lacks
  call (Some (function.Console console.Direct)) old new shown now result lacks answers = absurd lacks
  call (Some (function.Console console.PrintString)) old new shown now result lacks answers = absurd lacks
  call (Some (function.Console console.ReadLine)) old new shown now result lacks (given, (kept, reads), seen) =
      sees old.machine.cpu shown given result (read (typed_line (line_room old) (screen (λ (d : Dialog). d) old.system.terminal)) (de old.machine.cpu.main) _ _ old.machine.memory now given lacks reads) seen
  call (Some (function.Console console.Status)) old new shown now result lacks answers = absurd lacks
  call (Some (function.Setting which)) old new shown now result lacks answers = absurd lacks
  call (Some (function.Search which)) old new shown now result lacks answers = absurd lacks
  call (Some (function.File which)) old new shown now result lacks answers = absurd lacks
  call (Some (function.Record which)) old new shown now result lacks answers = absurd lacks

  entry : (e : Option BiosEntry) (n : ℕ) (old : RunState S Dialog) (new : System S Dialog) (shown : Cpu) (result : Result After Stop) → EntryLacks e old
      → KnownEntry (λ (d : Dialog). d) e old.system new n old.machine.cpu shown result → Wants result
  entry None n old new shown result lacks answers = absurd lacks
  entry (Some bios.ConsoleStatus) n old new shown result lacks answers = absurd lacks
  entry (Some bios.ConsoleInput) n old new shown result lacks (kept, (outcome, takes, given)) =
      put_in (screen (λ (d : Dialog). d) old.system.terminal) (screen (λ (d : Dialog). d) new.terminal) old.machine.cpu shown outcome result (took (screen (λ (d : Dialog). d) old.system.terminal) (screen (λ (d : Dialog). d) new.terminal) outcome lacks takes) given
  entry (Some bios.ConsoleOutput) n old new shown result lacks answers = absurd lacks

  at_place : (place : Place) (old new : RunState S Dialog) (end : Option Why) → LacksAt place old → TurnAt sectors faults (λ (d : Dialog). d) place old end new → Stopped end
  at_place Call old new end lacks (answer, cpu, memory, answers, came) =
      comes answer cpu memory end new.machine (call (function_of old.machine.cpu.main.c) old new.system cpu memory answer lacks answers) came
  at_place (Entry n) old new end lacks (answer, cpu, answers, came) =
      comes answer cpu old.machine.memory end new.machine (entry (bios_entry_of n) n old new.system cpu answer lacks answers) came
  at_place Program old new end lacks turn = absurd lacks

  pub lacking : (old new : RunState S Dialog) (end : Option Why) → LacksInput old → IsTurn sectors faults (λ (d : Dialog). d) old end new → Stopped end
  lacking old new end lacks turn = at_place (place_at_pc old.machine.cpu.pc) old new end lacks turn
