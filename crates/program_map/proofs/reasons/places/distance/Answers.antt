use Rattle.std.proofs.Common.{arith}
use Rattle.std.proofs.lemmas.Bool.{le-ltb}
use Rattle.relax.proofs.Sizes.{bytes-bound}
use Rattle.program_map.proofs.reasons.places.distance.Goals as goal

pub returns-else-from-to : goal.returns-else-from-to
returns-else-from-to c choice shape is are from to =
    let bound = bytes-bound choice shape is c.args.from in
    let here = are c.args.from (omega arith) in
    let there = are c.args.to to in
    let added = c.saturating_add.ensures in
    let taken = c.saturating_sub-else-from-to.ensures in
    rw (le-ltb c.args.from c.args.to c.if-from-to.false) (omega arith)
