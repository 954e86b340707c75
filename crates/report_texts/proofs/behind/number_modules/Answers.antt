use Rattle.std.proofs.Common.{arith, ◌∙◌, map}
use Rattle.std.proofs.lemmas.List.{length-map}
use Rattle.report_texts.proofs.Numbers.{all_changed}
use Rattle.report_texts.proofs.Modules.{all_modules, next_module, own_pair, with_earlier}
use Rattle.report_texts.proofs.behind.number_modules.Goals as goal

pub loop-module-preserved : goal.loop-module-preserved
loop-module-preserved c = λ all counts.
    next_module all c.args.modules.now c.loop-module.modules c.loop-module.module-index c.module-item.result c.number_module.new.«module» (omega (arith, c.loop-module-test.true, c.loop-module.auto.modules))
    (c.loop-module.invariant all counts) c.loop-module-test.true (c.number_module.ensures all counts)

pub returns : goal.returns
returns c = λ all counts.
    c.loop-module.invariant all counts ∙ all_changed (with_earlier all) (map own_pair c.args.modules.now) c.loop-module.module-index (omega (arith, length-map c.args.modules.now own_pair)) ∙ all_modules all c.args.modules.now
