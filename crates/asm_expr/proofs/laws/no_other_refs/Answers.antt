use Rattle.std.proofs.Common.{◌≡◌, true}
use Rattle.asm_expr.proofs.Origins.{equated_refs, settled_refs}
use Rattle.asm_expr.proofs.laws.no_other_refs.Goals as goal

pub returns-clause-settled : goal.returns-clause-settled
returns-clause-settled c = λ p. settled_refs (λ r. p r ≡ true)

pub returns-clause-equated : goal.returns-clause-equated
returns-clause-equated c = λ p. equated_refs (λ r. p r ≡ true)
