use Rattle.std.proofs.Common.{◌==◌, arith}
use Rattle.asm_macro.proofs.Ends.{all_before, before_first}
use Rattle.asm_macro.proofs.source.end_of.Goals as goal

pub returns-in-Some-clause-value : goal.returns-in-Some-clause-value
returns-in-Some-clause-value c =
    let first = c.in-Some.ensures in
    before_first (λ byte. byte == 0x1A) c.args.text.now c.in-Some.at first.0.high (λ j lt. first.0.before j (omega arith) lt) first.1

pub returns-in-None-clause-value : goal.returns-in-None-clause-value
returns-in-None-clause-value c = all_before (λ byte. byte == 0x1A) c.args.text.now (λ j lt. c.in-None.ensures j (omega arith) lt)
