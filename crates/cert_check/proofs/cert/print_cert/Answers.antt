use Rattle.std.proofs.Common.{◌<◌, ◌^◌, All, subst, arith}
use Rattle.cert_check.proofs.cert.print_cert.Goals as goal

pub returns-clause-numbers : goal.returns-clause-numbers
returns-clause-numbers c = record {
  members = subst (All (λ k. k < 2 ^ 32)) c.deref.ensures.value c.numbers_fit.ensures.members;
  number = omega (arith, c.parts-number.ensures.number, c.numbers_fit.ensures.number);
}
