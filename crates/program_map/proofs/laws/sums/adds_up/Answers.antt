use Rattle.program_map.proofs.Adding_up.{all_add, bytes_add, end_is, jumps_add}
use Rattle.program_map.proofs.Counting.{jumps_counted}
use Rattle.relax.specs.Choice.{Choice}
use Rattle.relax.specs.Growth.{after}
use Rattle.zlink.specs.File.Objects.{placed_shape}
use Rattle.zlink.specs.Program.Whole.{program}
use Rattle.std.proofs.Common.{◌∙◌}
use Rattle.program_map.proofs.Long_jumps.{longs_counted}
use Rattle.program_map.proofs.Ordered.{longs_are}
use Rattle.program_map.proofs.laws.sums.adds_up.Goals as goal

pub returns-clause-modules : goal.returns-clause-modules
returns-clause-modules c = all_add c.laid_out.ensures.statements c.laid_out.ensures.count

pub returns-clause-bytes : goal.returns-clause-bytes
returns-clause-bytes c = bytes_add c.laid_out.ensures.statements c.laid_out.ensures.count

pub returns-clause-end : goal.returns-clause-end
returns-clause-end c = end_is c.laid_out.ensures.statements c.laid_out.ensures.count

pub returns-clause-jumps : goal.returns-clause-jumps
returns-clause-jumps c = jumps_add c.laid_out.ensures.statements c.laid_out.ensures.count

pub returns-clause-sizes : goal.returns-clause-sizes
returns-clause-sizes c = jumps_counted

pub returns-clause-certificate : goal.returns-clause-certificate
returns-clause-certificate c = λ kinds places modules order are forcing.
    longs_counted kinds places (after order) modules are ∙ longs_are (placed_shape (program modules)) order forcing
