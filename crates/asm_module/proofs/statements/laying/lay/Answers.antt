use Rattle.std.proofs.Common.{rules, ◌≡◌, ◌+◌, ◌++◌, ◌∷◌, ◌∙◌, ap, length, sym, subst, []}
use Rattle.std.specs.List.{cons_option}
use Rattle.asm_names.specs.Lines.{lines_of}
use Rattle.asm_module.proofs.Layouts.Laying_down.{IsLaid, few_so_far, few_there, more_laid}
use Rattle.asm_module.proofs.statements.laying.lay.Goals as goal

pub overflow_cast-len : goal.overflow_cast-len
overflow_cast-len c =
    let le = few_so_far c.args.grow c.args.names.now (lines_of c.args.lines.now) c.loop-line.line-index c.loop-line.next.items c.loop-line.statements.items c.requires.few c.loop-line.invariant in
    let len = c.len.ensures in
    search rules

pub line_sized-requires : goal.line_sized-requires
line_sized-requires c = few_there c.args.lines.now c.loop-line.line-index c.line-item.result c.loop-line-test.true c.line-item.is c.requires.data

pub loop-line-preserved : goal.loop-line-preserved
loop-line-preserved c =
    let next : c.push.new.self.items ≡ c.loop-line.next.items ++ length c.loop-line.statements.items ∷ [] = c.in_ok-push.ensures.items ∙ ap (λ n. c.loop-line.next.items ++ n ∷ []) (c.len.ensures ∙ c.loop-line.statements.ok.0) in
    let some : c.put.new.statements.items ≡ c.loop-line.statements.items ++ cons_option c.in_ok-one.one [] = c.in_ok-put.ensures in
    subst (λ n. IsLaid c.args.grow c.args.names.now (lines_of c.args.lines.now) (c.loop-line.line-index + 1) n c.put.new.statements.items) (sym next)
    (subst (λ ss. IsLaid c.args.grow c.args.names.now (lines_of c.args.lines.now) (c.loop-line.line-index + 1) (c.loop-line.next.items ++ length c.loop-line.statements.items ∷ []) ss) (sym some)
    (more_laid c.args.grow c.args.names.now c.args.lines.now c.loop-line.line-index c.line-item.result c.loop-line.next.items c.loop-line.statements.items c.in_ok-one.one
    c.loop-line-test.true c.line-item.is c.in_ok-one.ensures c.loop-line.invariant))
