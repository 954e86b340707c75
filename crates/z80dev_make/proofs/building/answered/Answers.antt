use Rattle.std.proofs.Common.{sym, subst}
use Rattle.z80dev_make.specs.Answers.{answer_of}
use Rattle.z80dev_make.specs.Build.{IsAnswerOf}
use Rattle.z80dev_make.proofs.building.answered.Goals as goal

pub returns-in_ok-answer-in-Ok : goal.returns-in_ok-answer-in-Ok
returns-in_ok-answer-in-Ok c =
    let answer = answer_of c.in_ok-answer-in-Ok.answer in
    subst (λ building. IsAnswerOf c.args.front c.args.wanted.grow c.args.wanted.products c.args.files.now c.args.behind.now c.args.sources.now building answer) (sym c.in-Ok.is)
    (c.with_own_lines-own.result, c.with_own_lines-own.ensures, c.in_ok-mapped-in-Ok.mapped.items, c.in_ok-mapped-in-Ok.ensures, c.in_ok-answer-in-Ok.ensures)
