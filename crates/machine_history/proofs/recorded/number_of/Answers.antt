use Rattle.std.proofs.Common.{◌∙◌, ap, sym}
use Rattle.std.specs.Result.{result_ok}
use Rattle.std.proofs.lemmas.Fmt.{parse-decimal}
use Rattle.machine_history.proofs.Cutting.{decimal_text, no_text, same_text}
use Rattle.machine_history.proofs.recorded.number_of.Goals as goal

pub returns-in_err-text : goal.returns-in_err-text
returns-in_err-text c = λ n lt is. absurd (no_text c.from_utf8.result c.args.digits.now _ _ (sym c.in_err-text.was ∙ c.ok.ensures.value) c.from_utf8.ensures.cases (decimal_text n c.args.digits.now lt is))

pub returns : goal.returns
returns c = λ n lt is.
    let same = same_text c.from_utf8.result c.args.digits.now c.in_ok-text.text _ c.in_ok-text.ensures.value c.from_utf8.ensures.cases in
    c.ok-2.ensures.value ∙ ap result_ok (parse-decimal 64 n c.in_ok-text.text.now c.parse.result lt lt (same ∙ is) c.parse.ensures.value.0)
