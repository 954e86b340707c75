use Rattle.std.proofs.Common.{[], Err, Some, ap, false}
use Rattle.report_texts.proofs.Refused.{caused}
use Rattle.report_texts.proofs.sharing.first_fault.Goals as goal

pub returns-in_default : goal.returns-in_default
returns-in_default c =
    let fault = c.in-Err.fault in
    let other = c.in_default.not-NoMemory in
    (Err fault, other, caused [] c.args.text.now false fault fault.why other c.in-Err.ensures.answer, ap Some c.told_alone.ensures)
