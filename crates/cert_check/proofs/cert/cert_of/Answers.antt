use Rattle.std.proofs.Common.{◌+◌, length, map, arith, sym}
use Rattle.std.proofs.lemmas.Bool.{eqb-false}
use Rattle.std.proofs.lemmas.List.{length-map}
use Rattle.cert_check.specs.Texts.{forced_line}
use Rattle.cert_check.proofs.Breaks.{headless, misplaced, missing, trailing}
use Rattle.cert_check.proofs.CertTexts.{cert_grammar, in_order}
use Rattle.cert_check.proofs.cert.cert_of.Goals as goal

pub returns-in_default : goal.returns-in_default
returns-in_default c = headless cert_grammar c.args.text.now c.in_default.ensures

pub returns-in-Some-Last : goal.returns-in-Some-Last
returns-in-Some-Last c =
    let order = c.loop-line.order.items in
    let said = rw c.in-Some-Last.field-0-is at c.in-Some-Last.ensures in
    let some = eqb-false (length c.in-Some-first_line.after.now) 0 (sym c.if-not-is_empty.ensures) in
    trailing cert_grammar c.args.text.now (c.len-number.result + 2 + 1) (map forced_line order) c.loop-line.rest.now c.in-Some-first_line.line.now c.in-Some-first_line.after.now c.loop-line.invariant.text_is (omega (arith, c.len-number.ensures, length-map order forced_line)) (in_order order c.loop-line.invariant.members) tt c.in-Some-first_line.ensures.line.1 (c.in-Some-Last.field-0-0, said.0, said.1) (omega (arith, some))

pub returns-in-None : goal.returns-in-None
returns-in-None c =
    let order = c.loop-line.order.items in
    misplaced cert_grammar c.args.text.now (c.len-number.result + 2) (map forced_line order) c.loop-line.rest.now c.in-Some-first_line.line.now c.in-Some-first_line.after.now c.loop-line.invariant.text_is (omega (arith, c.len-number.ensures, length-map order forced_line)) (in_order order c.loop-line.invariant.members) tt c.in-Some-first_line.ensures.line.0 c.in-Some-first_line.ensures.line.1 (λ m _. c.in-None.ensures.0 m) c.in-None.ensures.1

pub returns : goal.returns
returns c =
    missing cert_grammar c.args.text.now _ (map forced_line c.loop-line.order.items) c.loop-line.rest.now c.loop-line.invariant.text_is (omega (arith, c.len.ensures, length-map c.loop-line.order.items forced_line)) (in_order c.loop-line.order.items c.loop-line.invariant.members) tt c.in_default-first_line.ensures.line
