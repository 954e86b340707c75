use Rattle.std.proofs.Common.{sym, ◌∙◌}
use Rattle.cert_check.proofs.Numbers.{digits_text, same_text, parsed}
use Rattle.cert_check.proofs.lines.value.Goals as goal

pub returns-in_err-text : goal.returns-in_err-text
returns-in_err-text c = absurd (digits_text c.args.digits.now _ _ c.from_utf8.result c.requires (sym c.in_err-text.was ∙ c.ok.ensures.value) c.from_utf8.ensures.cases)

pub returns : goal.returns
returns c =
    let same = same_text c.from_utf8.result c.args.digits.now c.in_ok-text.text _ c.in_ok-text.ensures.value c.from_utf8.ensures.cases in
    rw c.ok-2.ensures.value (parsed c.args.digits.now c.in_ok-text.text.now c.parse.result c.requires same c.parse.ensures.value.0)
