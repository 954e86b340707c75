use Rattle.std.proofs.Common.{◌≡◌, ◌∙◌, ◌-◌, ap, sym, subst, reverse, length, arith, append-nil, length-take}
use Rattle.std.specs.Vec.{vec_len}
use Rattle.asm_macro.specs.Private.Frames.{AreBooks, below, innermost}
use Rattle.asm_macro.proofs.Macros.{empty}
use Rattle.asm_macro.proofs.expansion.outer_book.Goals as goal

pub returns-in-None : goal.returns-in-None
returns-in-None c = λ texts tables books.
    let all = c.args.books.now in
    let left = c.pop.new.self.items in
    let same = ap length (c.in-None.ensures.items ∙ append-nil left) in
    let less = ap length c.in-None.ensures.rest in
    let none : length left ≡ 0 = omega (arith, same, less, length-take (vec_len all - 1) all.items, all.ok) in
    (c.new.ensures texts (innermost (below tables)), subst (λ bs. AreBooks texts (below tables) (reverse bs)) (sym (empty left none)) tt)
