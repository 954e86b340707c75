use Rattle.program_map.proofs.Listed.ByLine.{others_are, own_is}
use Rattle.program_map.proofs.listings.cells.split_line.Goals as goal

pub returns-clause-own : goal.returns-clause-own
returns-clause-own c =
    rw (c.split_at-2.ensures.front, c.count_on.ensures.value, c.split_at.ensures.back, c.count_passed.ensures.value)
    (own_is c.args.source c.args.line c.args.cells.now c.requires)

pub returns-clause-others : goal.returns-clause-others
returns-clause-others c =
    rw (c.split_at-2.ensures.back, c.count_on.ensures.value, c.split_at.ensures.back, c.count_passed.ensures.value)
    (others_are c.args.source c.args.line c.args.cells.now c.requires)
