use Rattle.std.proofs.Common.{rules, ◌≡◌, ◌<◌, ◌∙◌, length, slice_index, sym, ap, arith}
use Rattle.asm_names.specs.Orders.Order.{named_by}
use Rattle.asm_names.specs.declared.walk.Walk.{Walk}
use Rattle.asm_names.proofs.Orders.Visits.{Reads, reads, all_followed, stepped, less_work}
use Rattle.asm_names.proofs.walk.Walk.step.Goals as goal

pub leave-requires-clause-finished : goal.leave-requires-clause-finished
leave-requires-clause-finished c =
    let r = reads c.args.uses.now c.args.self.now c.args.start c.index-definition.result.now c.index-followed.result.now c.requires.standing c.requires.top c.index-definition.ensures c.index-followed.ensures in
    all_followed c.args.uses.now c.args.self.now c.args.start c.index-definition.result.now c.index-followed.result.now r c.requires.top (rw c.named_by.ensures at c.in-None.ensures.lookup.3)

pub returns-in_ok-visit-in-Some-clause-standing : goal.returns-in_ok-visit-in-Some-clause-standing
returns-in_ok-visit-in-Some-clause-standing c =
    let r = reads c.args.uses.now c.args.self.now c.args.start c.index-definition.result.now c.index-followed.result.now c.requires.standing c.requires.top c.index-definition.ensures c.index-followed.ensures in
    let less : c.index-followed.result.now < length (named_by c.args.uses.now c.index-definition.result.now) = rw c.named_by.ensures at c.in-Some.ensures.lookup.3.0 in
    let is : c.in-Some.to.now ≡ slice_index (named_by c.args.uses.now c.index-definition.result.now) c.index-followed.result.now = rw c.named_by.ensures at (c.in-Some.ensures.lookup.3.1 0) in
    stepped c.args.uses.now c.args.self.now c.visit.new.self c.args.start c.index-definition.result.now c.index-followed.result.now c.in-Some.to.now r less is c.in_ok-visit-in-Some.ensures

pub returns-in_ok-visit-in-Some-clause-less : goal.returns-in_ok-visit-in-Some-clause-less
returns-in_ok-visit-in-Some-clause-less c =
    let r = reads c.args.uses.now c.args.self.now c.args.start c.index-definition.result.now c.index-followed.result.now c.requires.standing c.requires.top c.index-definition.ensures c.index-followed.ensures in
    let less : c.index-followed.result.now < length (named_by c.args.uses.now c.index-definition.result.now) = rw c.named_by.ensures at c.in-Some.ensures.lookup.3.0 in
    less_work c.args.uses.now c.args.self.now c.visit.new.self c.args.start c.index-definition.result.now c.index-followed.result.now c.in-Some.to.now c.requires.standing r less c.in_ok-visit-in-Some.ensures
