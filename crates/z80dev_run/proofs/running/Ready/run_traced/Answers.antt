use Rattle.std.proofs.Common.{ℕ, List, map, ◌∙◌, ap}
use Rattle.std.specs.Borrow.{Bor}
use Rattle.std.specs.List.{concat}
use Rattle.cpm_console.specs.Dialog.{dialog_of}
use Rattle.z80dev_run.proofs.Read.{as_read, traced_as_read}
use Rattle.z80dev_run.proofs.running.Ready.run_traced.Goals as goal

pub returns-clause-ran : goal.returns-clause-ran
returns-clause-ran g c = λ program words image input is.
    let before = g.S.Sink.stream c.args.output in (
      c.args.self.disk,
      c.run_traced-traced.result.end.disk,
      c.run_traced-traced.result.end.console,
      is.disk_is,
      as_read (λ sectors. 0) _ _ _ _ _ _ _ _ _ _ _ _ _ is.program_is
          (ap (λ (words : List (Bor (List ℕ))). map (λ w. w.now) words) c.deref.ensures.value ∙ is.words_are)
          (c.new-console.ensures ∙ ap (λ bytes. dialog_of bytes before.bytes before.failures) is.typed_is)
          c.run_traced-traced.ensures.run,
      ap concat c.unmount.ensures.device,
      c.into_writer.ensures.output,
      c.into_writer.ensures.faults,
    )

pub returns-clause-traced : goal.returns-clause-traced
returns-clause-traced g c = λ program words image input is.
    let before = g.S.Sink.stream c.args.output in (
      c.args.self.disk,
      is.disk_is,
      traced_as_read (λ sectors. 0) _ _ _ _ _ _ _ _ _ _ _ _ _ is.program_is
          (ap (λ (words : List (Bor (List ℕ))). map (λ w. w.now) words) c.deref.ensures.value ∙ is.words_are)
          (c.new-console.ensures ∙ ap (λ bytes. dialog_of bytes before.bytes before.failures) is.typed_is)
          c.run_traced-traced.ensures.trace,
    )
