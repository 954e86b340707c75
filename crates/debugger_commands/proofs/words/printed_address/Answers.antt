use Rattle.std.proofs.Common.{◌∙◌, sym}
use Rattle.debugger_commands.proofs.Digits.{not_printed, printed_is, same_text}
use Rattle.debugger_commands.proofs.words.printed_address.Goals as goal

pub returns-in_err-digits : goal.returns-in_err-digits
returns-in_err-digits c =
    c.from_residual.ensures ∙ not_printed c.from_utf8.result c.args.word.now _ _ c.if-word-ne-ADDRESS_DIGITS.false (sym c.in_err-digits.was ∙ c.ok.ensures.value) c.from_utf8.ensures.cases

pub returns : goal.returns
returns c =
    let same = same_text c.from_utf8.result c.args.word.now c.in_ok-digits.digits _ c.in_ok-digits.ensures.value c.from_utf8.ensures.cases in
    c.ok-2.ensures.value ∙ printed_is c.from_str_radix.result c.in_ok-digits.digits.now c.args.word.now same c.if-word-ne-ADDRESS_DIGITS.false c.if-word-eq43.false c.from_str_radix.ensures.value
