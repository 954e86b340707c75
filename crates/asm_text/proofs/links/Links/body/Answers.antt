use Rattle.std.proofs.Common.{◌-◌, arith}
use Rattle.asm_text.specs.Nesting.Blocks.{between}
use Rattle.asm_text.proofs.Nesting.Walked.{body_found, body_inside, body_lost}
use Rattle.asm_text.proofs.links.Links.body.Goals as goal

pub returns-then-end-min-clause-is : goal.returns-then-end-min-clause-is
returns-then-end-min-clause-is c =
    body_found c.args.self.now c.args.from c.args.to c.ends-end.result c.ends-end.ensures (omega (arith, c.if-end-min.true, c.min.ensures, c.len.ensures))
    (omega (arith, c.if-end-min.true, c.min.ensures, c.len.ensures))

pub returns-else-end-min-clause-is : goal.returns-else-end-min-clause-is
returns-else-end-min-clause-is c =
    body_lost c.args.self.now c.args.from c.args.to c.ends-end.result c.ends-end.ensures (λ h. omega (arith, h, c.if-end-min.false, c.min.ensures, c.len.ensures))

pub returns-then-end-min-clause-within : goal.returns-then-end-min-clause-within
returns-then-end-min-clause-within c =
    body_inside (between c.args.from c.args.to c.args.self.now) (c.ends-end.result.body - c.args.from)
    (body_found c.args.self.now c.args.from c.args.to c.ends-end.result c.ends-end.ensures (omega (arith, c.if-end-min.true, c.min.ensures, c.len.ensures))
    (omega (arith, c.if-end-min.true, c.min.ensures, c.len.ensures)))
