-- What function 10 puts is the echo that is shown before.
use Rattle.std.proofs.Common.{◌≡◌, ◌≢◌, ◌++◌, [], inl, inr, ℕ, List, Option, None, Some, Result, Ok, Err, refl, sym, ap, subst, ◌∙◌, append-nil}
use Rattle.std.specs.Io.KnownBytes.{Appends}
use Rattle.z80_cpu.specs.State.{Machine, de}
use Rattle.z80_cpu.specs.declared.registers.Cpu.{Cpu}
use Rattle.cpm_console.specs.Dialog.{Dialog, Event, put_by, typed_in}
use Rattle.cpm_console.specs.Line.{Transcript, typed_line}
use Rattle.cpm_console.specs.Screen.{Does, Screen, screen}
use Rattle.cpm_disk.specs.Image.{Image}
use Rattle.cpm_disk.specs.declared.control.stop.Stop.{Stop}
use Rattle.cpm_disk.specs.declared.control.stop.Stop.TheVariants as stop
use Rattle.cpm_bdos.specs.Answer.{CallerSees, KnownAnswers}
use Rattle.cpm_bdos.specs.Console.Lines.{ReadsLine}
use Rattle.cpm_bdos.specs.System.{with_console}
use Rattle.cpm_bdos.specs.declared.console.reply.Reply.{Reply}
use Rattle.cpm_bdos.specs.declared.console.reply.Reply.TheVariants as reply
use Rattle.cpm_bdos.specs.declared.outcome.After.{After}
use Rattle.cpm_run.specs.declared.ending.Why.{Why}
use Rattle.cpm_run.specs.declared.ending.Why.TheVariants as why
use Rattle.cpm_run.specs.declared.playing.state.Playing.{Playing}
use Rattle.cpm_run.specs.Looks.{TakesLine, line_room, next_echo}
use Rattle.cpm_run.specs.Private.Playing.{EchoGrows, IsAhead, IsPut, state_of}
use Rattle.cpm_run.specs.Turns.{Comes, IsTurn, RunState, TurnAt}
use Rattle.cpm_run.proofs.Asked.{line_echo, takes_at}
use Rattle.cpm_run.proofs.Growing.{line_grows}

-- ---- what a call of function 10 puts

known : (xs : List ℕ) (o : Option (List ℕ)) (more : List ℕ) → Appends (Some xs) o more → o ≡ Some (xs ++ more)
known xs None more h = absurd h
known xs (Some ys) more h = ap (λ l. Some l) h

all_put : (old new : Screen) (events : List Event) → old.dialog.output ≡ Some [] → Does old new events → new.dialog.output ≡ Some (put_by events)
all_put old new events all does = known [] new.dialog.output (put_by events) (subst (λ (o : Option (List ℕ)). Appends o new.dialog.output (put_by events)) all does.passed.output)

read : (t : Transcript) (address : ℕ) (old new : Screen) (before now : List ℕ) (result : Result Reply Stop) → old.dialog.output ≡ Some [] → result ≢ Err stop.ConsoleFault → ReadsLine t address old new before now result
    → new.dialog.output ≡ Some (put_by t.events)
read t address old new before now (Ok (reply.Value value)) all well reads = all_put old new t.events all reads.0
read t address old new before now (Ok reply.WarmBoot) all well reads = all_put old new t.events all reads.0
read t address old new before now (Err stop.EndOfInput) all well reads = all_put old new t.events all reads.0
read t address old new before now (Err stop.ConsoleFault) all well reads = absurd (well refl)
read t address old new before now (Err (stop.UnsupportedFunction n)) all well reads = absurd reads
read t address old new before now (Err stop.FileReadOnly) all well reads = absurd reads
read t address old new before now (Err stop.BadFcb) all well reads = absurd reads
read t address old new before now (Err stop.DiskFault) all well reads = absurd reads
read t address old new before now (Err stop.UnknownDrive) all well reads = absurd reads
read t address old new before now (Err (stop.UnsupportedBios n)) all well reads = absurd reads

-- the console failed, so the run ended
ended_so : (old shown : Cpu) (given : Result Reply Stop) (answer : Result After Stop) (memory : List ℕ) (end : Option Why) (new : Machine) → given ≡ Err stop.ConsoleFault → CallerSees old shown given answer → Comes answer shown memory end new
    → end ≡ Some (why.Stopped stop.ConsoleFault)
ended_so old shown given answer memory end new is seen came =
    let answers = (subst (λ r. CallerSees old shown r answer) is seen).0 in
    (subst (λ r. Comes r shown memory end new) answers came).0

module _ {S : Type 0} (sectors : S → Image) (faults : S → ℕ) where
  line_put : (old new : RunState S Dialog) (end : Option Why) → TakesLine old.machine.cpu → old.system.terminal.console.output ≡ Some [] → end ≢ Some (why.Stopped stop.ConsoleFault)
      → IsTurn sectors faults (λ (d : Dialog). d) old end new → new.system.terminal.console.output ≡ Some (next_echo old)
  line_put old new end takes all well turn =
      let (answer, cpu, memory, answers, came) = subst (λ p. TurnAt sectors faults (λ (d : Dialog). d) p old end new) (takes_at old.machine.cpu takes) turn in
      let (given, (kept, reads), seen) = subst (λ f. KnownAnswers sectors faults (λ (d : Dialog). d) f old.system new.system old.machine.cpu cpu old.machine.memory memory answer) takes.1 answers in
      let s = screen (λ (d : Dialog). d) old.system.terminal in
      read (typed_line (line_room old) s) (de old.machine.cpu.main) s (screen (λ (d : Dialog). d) new.system.terminal) old.machine.memory memory given all
      (λ is. well (ended_so old.machine.cpu cpu given answer memory end new.machine is seen came)) reads
      ∙ ap (λ l. Some l) (sym (line_echo old takes))

  -- what was shown ahead of a step is just what it put
  pub caught_up : (end : Option Why) (p q : Playing S) → IsAhead p → q.ahead.items ≡ p.ahead.items → IsTurn sectors faults (λ (d : Dialog). d) (state_of p []).run end (state_of q []).run → IsPut end q
  caught_up end p q (inl none) same turn = inl (same ∙ none)
  caught_up end p q (inr (line, all, echo)) same turn = inr (λ well. line_put (state_of p []).run (state_of q []).run end line all well turn ∙ ap (λ l. Some l) (sym (same ∙ echo)))

-- no step ended the run
pub kept_put : {S : Type 0} (end : Option Why) (q : Playing S) → ((reason : Why) → end ≢ Some reason) → IsPut end q → IsPut None q
kept_put None q other put = put
kept_put (Some reason) q other put = absurd (other reason refl)

-- ---- the echo while a line is typed

-- more bytes came for the line
pub more_typed : {S : Type 0} (bytes : List ℕ) (p q : Playing S) → TakesLine p.cpu → q.cpu ≡ p.cpu → q.memory ≡ p.memory → q.bdos ≡ with_console (typed_in bytes p.bdos.terminal.console) p.bdos → EchoGrows p q
more_typed bytes p q takes cpu memory typed =
    let r = (state_of p []).run in
    let s = screen (λ (d : Dialog). d) r.system.terminal in
    let grown = line_grows (line_room r) (record { bytes = []; start = s.column; column = s.column }) s.dialog.input bytes in
    let more : put_by (typed_line (line_room (state_of q []).run) (screen (λ (d : Dialog). d) q.bdos.terminal)).events ≡ put_by (typed_line (line_room r) s).events ++ grown.0 = rw (cpu, memory, typed) grown.1 in (
      grown.0,
      line_echo (state_of q []).run (subst TakesLine (sym cpu) takes) ∙ more ∙ ap (λ l. l ++ grown.0) (sym (line_echo r takes)),
    )

-- nothing came for the line
pub none_typed : {S : Type 0} (p : Playing S) → EchoGrows p p
none_typed p = ([], sym (append-nil (next_echo (state_of p []).run)))
