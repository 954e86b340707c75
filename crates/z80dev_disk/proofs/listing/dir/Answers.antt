use Rattle.std.proofs.Common.{IfSome, subst, sym}
use Rattle.host.specs.Answers.{MemoryAside}
use Rattle.z80dev_disk.specs.Dir.{IsDir}
use Rattle.z80dev_disk.specs.Refusals.{IsRefusalOf, RefusesDir}
use Rattle.z80dev_disk.proofs.Refused.{answers}
use Rattle.z80dev_disk.proofs.listing.dir.Goals as goal

pub returns-clause-answer : goal.returns-clause-answer
returns-clause-answer c = subst (MemoryAside (IsDir c.args.image.now c.args.asked.now)) (sym c.answered.ensures.answer) (answers (RefusesDir c.args.asked.now.pattern) (IsDir c.args.image.now c.args.asked.now) c.listed.result c.listed.ensures).0

pub returns-clause-refusals : goal.returns-clause-refusals
returns-clause-refusals c = subst (λ o. IfSome o (IsRefusalOf (RefusesDir c.args.asked.now.pattern))) (sym c.answered.ensures.refusal) (answers (RefusesDir c.args.asked.now.pattern) (IsDir c.args.image.now c.args.asked.now) c.listed.result c.listed.ensures).1
