use Rattle.std.proofs.Common.{IfSome, subst, sym}
use Rattle.host.specs.Answers.{MemoryAside}
use Rattle.z80dev_disk.specs.Get.{IsGet}
use Rattle.z80dev_disk.specs.Refusals.{IsNotFound, IsRefusalOf, WithoutName}
use Rattle.z80dev_disk.proofs.Refused.{answers}
use Rattle.z80dev_disk.proofs.getting.get.Goals as goal

pub returns-clause-answer : goal.returns-clause-answer
returns-clause-answer c = subst (MemoryAside (IsGet c.args.image.now c.args.user c.args.name.now c.args.text)) (sym c.answered.ensures.answer) (answers (WithoutName IsNotFound) (IsGet c.args.image.now c.args.user c.args.name.now c.args.text) c.got.result c.got.ensures).0

pub returns-clause-refusals : goal.returns-clause-refusals
returns-clause-refusals c = subst (λ o. IfSome o (IsRefusalOf (WithoutName IsNotFound))) (sym c.answered.ensures.refusal) (answers (WithoutName IsNotFound) (IsGet c.args.image.now c.args.user c.args.name.now c.args.text) c.got.result c.got.ensures).1
