use Rattle.std.proofs.Common.{ap, refl, ◌∙◌, Bor, List, ℕ}
use Rattle.source_warnings.proofs.Printed.{printed}
use Rattle.source_warnings.proofs.warning.printed_name.Goals as goal

pub returns : goal.returns
returns c = ap (λ (s : Bor (List ℕ)). s.now) c.unwrap_or.ensures ∙ printed c.from_utf8.result c.args.name.now _ _ refl c.from_utf8.ensures.cases
