use Rattle.std.proofs.Common.{arith}
use Rattle.asm_module.proofs.Layouts.Few.{few_statements, laid_alike}
use Rattle.asm_module.proofs.Rules.Named.{all_few, object_names}
use Rattle.asm_module.proofs.Emitted.Settled_twice.{layout_is}
use Rattle.asm_module.proofs.laws.source.outlined.Goals as goal

pub returns-clause-sized : goal.returns-clause-sized
returns-clause-sized c = λ grow t lines sound. let le = few_statements grow t lines in let most = c.few.ensures.statements lines sound in omega (arith, le, most)

pub returns-clause-data : goal.returns-clause-data
returns-clause-data c = all_few c.few-2.ensures.data

pub returns-clause-names : goal.returns-clause-names
returns-clause-names c = object_names (record { defined = c.names.ensures.defined; short = c.few-2.ensures.names }) c.few.ensures.names c.distinct.ensures

pub returns-clause-tells : goal.returns-clause-tells
returns-clause-tells c = λ lines turns order. c.told.ensures _ lines turns order

pub returns-clause-layout : goal.returns-clause-layout
returns-clause-layout c = layout_is (laid_alike c.sizes.ensures.like)
