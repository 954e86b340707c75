use Rattle.std.proofs.Common.{rules, ◌≡◌, ◌∙◌, ap, arith}
use Rattle.asm_names.proofs.Orders.Closed.{closing, left_behind}
use Rattle.asm_names.proofs.walk.Walk.leave.Goals as goal

pub close-requires : goal.close-requires
close-requires c =
    let h = closing c.args.uses.now c.args.self.now c.pop.new.self.items c.in-Some.frame c.in-Some.ensures.items c.requires.standing c.requires.finished c.if-frame.false in
    record { stands = h.0; finished = h.1 }

pub returns-then-frame-clause-standing : goal.returns-then-frame-clause-standing
returns-then-frame-clause-standing c =
    let h = left_behind c.args.uses.now c.args.self.now c.lower.new.self c.pop.new.self.items c.in-Some.frame c.in-Some.ensures.items c.requires.standing c.requires.finished c.if-frame.true c.lower.ensures.frames in
    let k = c.lower.ensures.kept in
    rw (ap (λ w. w.seen.items) k) (rw (ap (λ w. w.followed.items) k) (rw (ap (λ w. w.path.items) k) (rw (ap (λ w. w.turns.items) k) h)))
