use Rattle.std.proofs.Common.{◌<◌, ◌≤◌, ◌≢◌, ◌∙◌, ap, length, arith, get_or-set_other, get_or-set_same, below_more}
use Rattle.z80dev_run.specs.Desk.{line_key}
use Rattle.z80dev_run.proofs.desk.make_returns.Goals as goal

pub loop-byte-preserved : goal.loop-byte-preserved
loop-byte-preserved c = (
  below_more _ _
      (λ k h. let ne : k ≢ c.loop-byte.byte-index = omega arith in rw get_or-set_other (c.loop-byte.invariant.0 k h))
      (let lt : c.loop-byte.byte-index < length c.loop-byte.bytes = omega arith in
      let at : c.loop-byte.byte-index ≤ c.loop-byte.byte-index = omega arith in
      rw get_or-set_same (c.line_key.ensures ∙ ap line_key (c.loop-byte.invariant.1 c.loop-byte.byte-index at))),
  λ k h. let ne : k ≢ c.loop-byte.byte-index = omega arith in
      let more : c.loop-byte.byte-index ≤ k = omega arith in
      rw get_or-set_other (c.loop-byte.invariant.1 k more),
)
