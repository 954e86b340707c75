use Rattle.asm_module.proofs.Answered.{one_answer, one_program}
use Rattle.asm_module.proofs.laws.answer.one_answer.Goals as goal

pub returns-clause-answer : goal.returns-clause-answer
returns-clause-answer c = one_answer c.one_expansion.ensures (record { given = c.given.ensures.by; distinct = c.distinct.ensures })

pub returns-clause-program : goal.returns-clause-program
returns-clause-program c = one_program c.one_expansion.ensures (record { given = c.given.ensures.by; distinct = c.distinct.ensures })
