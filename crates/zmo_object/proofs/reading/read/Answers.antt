use Rattle.std.proofs.Common.{◌<◌, ap, subst, ◌∙◌, arith}
use Rattle.std.proofs.lemmas.List.Elements.{All-from_get_or}
use Rattle.zmo_object.specs.Reading.{AnswersAsRead, answered_module, read_of}
use Rattle.zmo_object.proofs.Whole.{found, read_again}
use Rattle.zmo_object.proofs.reading.read.Goals as goal

pub returns-clause-found : goal.returns-clause-found
returns-clause-found c = found c.args.bytes.now c.object.result (All-from_get_or (λ b. b < 256) c.args.bytes.now 0 (λ i lt. omega (arith, c.type_inv.bytes i))) c.object.ensures

pub returns-clause-only : goal.returns-clause-only
returns-clause-only c = λ m rules e. subst (AnswersAsRead (answered_module c.object.result)) (ap read_of e ∙ read_again m rules) c.object.ensures
