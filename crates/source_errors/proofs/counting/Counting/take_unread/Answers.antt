use Rattle.std.proofs.Common.{subst, None, false}
use Rattle.std.proofs.lemmas.Result.{on_ok_weaker}
use Rattle.asm_module.specs.Whys.{line_why}
use Rattle.source_errors.specs.Findings.{name_told}
use Rattle.source_errors.specs.Private.State.{Refuses, numbered_of}
use Rattle.source_errors.proofs.Taking.{no_name_told, takes_unread}
use Rattle.source_errors.proofs.counting.Counting.take_unread.Goals as goal

pub returns : goal.returns
returns c =
    let l = numbered_of c.args.line in
    on_ok_weaker c.refuse.result
    (λ refused. takes_unread c.args.self.now c.refuse.new.self l c.requires.sound c.args.why c.requires.read
    (subst (λ n. Refuses l (line_why c.args.why) n false c.args.self.now c.refuse.new.self) (no_name_told (line_why c.args.why))
    (subst (λ w. Refuses l w (name_told w None) false c.args.self.now c.refuse.new.self) c.from.ensures refused)))
    c.refuse.ensures
