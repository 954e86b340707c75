use Rattle.std.proofs.Common.{ap, length, arith}
use Rattle.std.proofs.lemmas.List.{length-take}
use Rattle.asm_spell.proofs.Entries.{not_one, one_entry}
use Rattle.asm_spell.proofs.directive.entry.Goals as goal

pub returns-then-len-ne1 : goal.returns-then-len-ne1
returns-then-len-ne1 c = not_one c.args.names.items (λ one. c.if-len-ne1.true (omega (arith, c.args.names.ok.0)))

pub returns : goal.returns
returns c =
    let left = simp length-take at (ap length c.pop.ensures.rest) in
    one_entry c.args.names.items _ c.pop.result (omega (arith, c.args.names.ok.0)) c.pop.ensures.items (omega (arith, left, c.args.names.ok.0))
