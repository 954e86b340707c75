use Rattle.std.proofs.Common.{sym}
use Rattle.cert_check.proofs.Numbers.{capped, no_target}
use Rattle.cert_check.proofs.lines.target.Goals as goal

pub returns-then-not-is_number : goal.returns-then-not-is_number
returns-then-not-is_number c = no_target c.args.word.now c.args.line.now c.in_ok-digits.digits.now c.in_ok-digits.ensures (sym c.if-not-is_number.ensures)

pub returns : goal.returns
returns c = rw c.unwrap_or.ensures (capped c.args.word.now c.args.line.now c.in_ok-digits.digits.now c.value.result c.in_ok-digits.ensures (sym c.if-not-is_number.ensures) c.value.ensures)
