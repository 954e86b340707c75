use Rattle.std.proofs.Common.{rules, ◌≡◌, ◌<◌, length, arith}
use Rattle.asm_names.specs.declared.walk.Seen.{Seen}
use Rattle.asm_names.specs.Private.Standing.{seen_at}
use Rattle.asm_names.proofs.Orders.Visits.{led, seen_read, visited_open, visited_lower}
use Rattle.asm_names.proofs.walk.Walk.visit.Goals as goal

pub open-requires-clause-led : goal.open-requires-clause-led
open-requires-clause-led c = led c.args.uses.now c.args.self.now c.args.start c.args.to c.requires.standing c.requires.top c.requires.named

pub returns-in_ok-open-in-Not : goal.returns-in_ok-open-in-Not
returns-in_ok-open-in-Not c =
    let now = c.in_ok-open-in-Not.ensures in
    visited_open c.args.uses.now c.args.self.now c.open.new.self c.args.start c.args.to c.requires.standing c.requires.top now.standing now.there now.path now.kept now.frames now.seen

pub returns-in-Open : goal.returns-in-Open
returns-in-Open c =
    let room : c.args.to < length c.args.self.now.seen.items = omega (arith, c.requires.few, c.requires.standing.told.seen_all) in
    let is : seen_at c.args.self.now.seen.items c.args.to ≡ Seen.Open c.in-Open.place = rw c.in-Open.is at (seen_read c.args.self.now.seen.items c.args.to c.index.result.now room c.index.ensures) in
    visited_lower c.args.uses.now c.args.self.now c.lower.new.self c.args.start c.args.to c.in-Open.place c.requires.standing c.requires.top c.requires.named is c.lower.ensures.frames c.lower.ensures.kept
