use Rattle.std.proofs.Common.{subst}
use Rattle.zlink.specs.Linked.{IsLinked}
use Rattle.z80dev_make.proofs.Written.{read_again}
use Rattle.z80dev_make.proofs.laws.written.Goals as goal

pub returns : goal.returns
returns c = λ modules read a b rules are of_a of_b.
    c.one_link.ensures.link modules a b (subst (λ ms. IsLinked ms a) (read_again c.one_text.ensures modules read rules are) of_a) of_b
