use Rattle.zmo_object.proofs.Fields.Spelled.{expr_again, expr_spelled}
use Rattle.zmo_object.proofs.laws.fields.one_spelling.Goals as goal

pub returns-clause-again : goal.returns-clause-again
returns-clause-again c = expr_again

pub returns-clause-spelled : goal.returns-clause-spelled
returns-clause-spelled c = expr_spelled
