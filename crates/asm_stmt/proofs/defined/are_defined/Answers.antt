use Rattle.std.proofs.Common.{sym, ◌∙◌}
use Rattle.asm_spell.specs.Line.{body_of}
use Rattle.asm_stmt.proofs.Passing.{passes}
use Rattle.asm_stmt.proofs.defined.are_defined.Goals as goal

pub returns : goal.returns
returns c =
    let p = passes c.args.names.now (body_of c.args.body.now) in
    (λ h. p.0 (sym c.operands_defined.ensures ∙ h), λ all. c.operands_defined.ensures ∙ p.1 all)
