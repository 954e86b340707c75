use Rattle.std.proofs.Common.{ℕ, List, map, ◌∙◌, ap}
use Rattle.std.specs.Borrow.{Bor}
use Rattle.std.specs.List.{concat}
use Rattle.z80dev_run.proofs.Read.{replayed_as_read}
use Rattle.z80dev_run.proofs.running.Ready.replay.Goals as goal

pub returns : goal.returns
returns g c = λ program words image input is. (
  c.args.self.disk,
  c.replay-played.result.disk,
  is.disk_is,
  replayed_as_read (λ sectors. 0) _ _ _ _ _ _ _ _ _ _ _ c.args.recorded.now.last _ _ _ _ c.deref-2.ensures.value is.program_is
      (ap (λ (words : List (Bor (List ℕ))). map (λ w. w.now) words) c.deref.ensures.value ∙ is.words_are)
      c.replay-played.ensures,
  ap concat c.unmount.ensures.device,
)
