use Rattle.std.proofs.Common.{◌∙◌}
use Rattle.asm_spell.proofs.Looked.{looked_up_two, looked_up_three, looked_up_four, looked_up_more}
use Rattle.asm_spell.proofs.directive.directive_named.Goals as goal

pub returns-then-letters-eq2 : goal.returns-then-letters-eq2
returns-then-letters-eq2 c = c.of_two.ensures ∙ looked_up_two c.args.name.now c.if-letters-eq2.true

pub returns-then-letters-eq3 : goal.returns-then-letters-eq3
returns-then-letters-eq3 c = c.of_three.ensures ∙ looked_up_three c.args.name.now c.if-letters-eq3.true

pub returns-then-letters-eq4 : goal.returns-then-letters-eq4
returns-then-letters-eq4 c = c.of_four.ensures ∙ looked_up_four c.args.name.now c.if-letters-eq4.true

pub returns-else-letters-eq4 : goal.returns-else-letters-eq4
returns-else-letters-eq4 c = c.of_more.ensures ∙ looked_up_more c.args.name.now c.if-letters-eq2.false c.if-letters-eq3.false c.if-letters-eq4.false
