use Rattle.std.proofs.Common.{ℕ, List, map, ◌∙◌, ap}
use Rattle.std.specs.Borrow.{Bor}
use Rattle.std.specs.List.{concat}
use Rattle.z80dev_run.proofs.Read.{played_as_read}
use Rattle.z80dev_run.proofs.running.Ready.play.Goals as goal

pub returns : goal.returns
returns g c = λ program words image input is. (
  c.args.self.disk,
  c.play-played.result.disk,
  is.disk_is,
  played_as_read (λ sectors. 0) _ _ _ _ _ _ _ _ _ _ _ _ _ is.program_is
      (ap (λ (words : List (Bor (List ℕ))). map (λ w. w.now) words) c.deref.ensures.value ∙ is.words_are)
      c.play-played.ensures,
  ap concat c.unmount.ensures.device,
)
