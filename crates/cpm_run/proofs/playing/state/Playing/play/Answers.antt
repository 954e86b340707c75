use Rattle.cpm_run.proofs.playing.state.Playing.play.Goals as goal

pub loop-end-preserved : goal.loop-end-preserved
loop-end-preserved g c = (
  c.go_round.ensures.bound,
  λ start before first. c.in_default.ensures.so_far start before (c.loop-end.invariant.1 start before first),
  λ start before rests. c.in_default.ensures.looks start before (c.loop-end.invariant.2 start before rests),
)

pub returns-in-Err-clause-looks : goal.returns-in-Err-clause-looks
returns-in-Err-clause-looks g c = λ start before rests. c.in-Err.ensures.looks start before (c.loop-end.invariant.2 start before rests)
