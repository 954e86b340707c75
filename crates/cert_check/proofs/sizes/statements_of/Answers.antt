use Rattle.std.proofs.Common.{◌≢◌, ◌+◌, length, arith, sym}
use Rattle.std.proofs.lemmas.Bool.{eqb-false, eqb-true}
use Rattle.cert_check.proofs.SizesRead.{one_more, ended, broken_header, broken_missing, broken_line, broken_end}
use Rattle.cert_check.proofs.sizes.statements_of.Goals as goal

pub returns-in_default : goal.returns-in_default
returns-in_default c = broken_header c.args.text.now c.in_default.ensures

pub returns-then-not-is_empty : goal.returns-then-not-is_empty
returns-then-not-is_empty c =
    let some = eqb-false (length c.in-Some-first_line.after.now) 0 (sym c.if-not-is_empty.ensures) in
    broken_end c.args.text.now c.loop-line.rest.now c.in-Some-first_line.line.now c.in-Some-first_line.after.now c.loop-line.statements.items (c.len-number.result + 2 + 1) c.loop-line.invariant (omega (arith, c.len-number.ensures)) c.in-Some-first_line.ensures.line.1 c.if-is_end.ensures (omega (arith, some))

pub returns-then-is_end : goal.returns-then-is_end
returns-then-is_end c =
    ended c.args.text.now c.loop-line.rest.now c.in-Some-first_line.line.now c.in-Some-first_line.after.now c.loop-line.statements.items c.loop-line.invariant c.in-Some-first_line.ensures.line.1 c.if-is_end.ensures (eqb-true (length c.in-Some-first_line.after.now) 0 (sym c.if-not-is_empty.ensures))

pub returns-then-len-eq-MOST_STATEMENTS : goal.returns-then-len-eq-MOST_STATEMENTS
returns-then-len-eq-MOST_STATEMENTS c =
    broken_line c.args.text.now c.loop-line.rest.now c.in-Some-first_line.line.now c.in-Some-first_line.after.now c.loop-line.statements.items (c.len-number.result + 2) c.loop-line.invariant (omega (arith, c.len-number.ensures)) c.in-Some-first_line.ensures.line.0 c.in-Some-first_line.ensures.line.1
    (λ _ few. absurd (omega (arith, few, c.len.ensures))) c.if-is_end.ensures

pub returns-in_default-statement : goal.returns-in_default-statement
returns-in_default-statement c =
    broken_line c.args.text.now c.loop-line.rest.now c.in-Some-first_line.line.now c.in-Some-first_line.after.now c.loop-line.statements.items (c.len-number.result + 2) c.loop-line.invariant (omega (arith, c.len-number.ensures)) c.in-Some-first_line.ensures.line.0 c.in-Some-first_line.ensures.line.1
    (λ is_line _. c.in_default-statement.ensures is_line) c.if-is_end.ensures

pub loop-line-preserved : goal.loop-line-preserved
loop-line-preserved c =
    let full : length c.loop-line.statements.items ≢ 20000 = omega (arith, c.len.ensures) in
    rw c.in_ok-push.ensures.items (one_more c.args.text.now c.loop-line.rest.now c.in-Some-first_line.line.now c.in-Some-first_line.after.now c.loop-line.statements.items c.in-Some-statement.found c.loop-line.invariant c.in-Some-first_line.ensures.line.1 full c.in-Some-statement.ensures)

pub returns : goal.returns
returns c =
    broken_missing c.args.text.now c.loop-line.rest.now c.loop-line.statements.items (c.len-2.result + 2) c.loop-line.invariant (omega (arith, c.len-2.ensures)) c.in_default-first_line.ensures.line
