use Rattle.std.proofs.Common.{◌∙◌, sym}
use Rattle.debugger_commands.proofs.Digits.{not_turns, same_text, turns_are}
use Rattle.debugger_commands.proofs.words.turns_of.Goals as goal

pub returns-in_err-digits : goal.returns-in_err-digits
returns-in_err-digits c = c.from_residual.ensures ∙ not_turns c.from_utf8.result c.args.word.now _ _ (sym c.in_err-digits.was ∙ c.ok.ensures.value) c.from_utf8.ensures.cases

pub returns : goal.returns
returns c =
    let same = same_text c.from_utf8.result c.args.word.now c.in_ok-digits.digits _ c.in_ok-digits.ensures.value c.from_utf8.ensures.cases in
    c.ok-2.ensures.value ∙ turns_are c.from_str_radix.result c.in_ok-digits.digits.now c.args.word.now same c.from_str_radix.ensures.value
