use Rattle.zlink.proofs.Exact.{exactly, of_fitting, of_modules, one_program}
use Rattle.zlink.proofs.laws.answers.exact.Goals as goal

pub returns-clause-program : goal.returns-clause-program
returns-clause-program c = λ grow sources a b are other. one_program c.one_answer.ensures.answer c.one_answer.ensures.program grow sources a b are other

pub returns-clause-answer : goal.returns-clause-answer
returns-clause-answer c = λ grow sources result is. record {
  source = λ number fault first. exactly c.one_answer.ensures.answer c.one_answer.ensures.program grow sources result is number fault first;
  modules = λ assemblies fault are there. of_modules c.one_answer.ensures.answer c.one_answer.ensures.program grow sources assemblies are fault there result is;
  fits = λ assemblies choice are none fits. of_fitting c.one_answer.ensures.answer c.one_answer.ensures.program grow sources assemblies are none choice fits result is;
}
