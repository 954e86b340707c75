use Rattle.std.proofs.Common.{subst}
use Rattle.relax.specs.Growth.{IsLeastFirst}
use Rattle.program_map.specs.Reasons.Reasons.{AreLongJumps}
use Rattle.program_map.proofs.reasons.program.find_long_jumps.Goals as goal

pub returns : goal.returns
returns c =
    let shape = c.in_ok-shape.ensures in
    let order = c.in_ok-growth.growth.order.items in (
      c.in_ok-links.ensures.0,
      c.in_ok-sites.ensures,
      order,
      subst (λ s. IsLeastFirst s order) shape c.in_ok-growth.ensures.growth.order,
      subst (λ s. AreLongJumps s order c.in_ok-jumps.jumps.items) shape c.in_ok-jumps.ensures,
    )
