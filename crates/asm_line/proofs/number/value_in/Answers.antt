use Rattle.std.proofs.Common.{◌∙◌, sym, arith}
use Rattle.asm_line.proofs.Values.{no_value, value_read, same_text}
use Rattle.asm_line.proofs.number.value_in.Goals as goal

pub returns-in_err-digits : goal.returns-in_err-digits
returns-in_err-digits c = c.from_residual.ensures ∙ no_value c.from_utf8.result c.args.base c.args.digits.now _ _ (omega arith) (sym c.in_err-digits.was ∙ c.ok.ensures.value) c.from_utf8.ensures.cases

pub returns : goal.returns
returns c =
    let same = same_text c.from_utf8.result c.args.digits.now c.in_ok-digits.digits _ c.in_ok-digits.ensures.value c.from_utf8.ensures.cases in
    c.ok-2.ensures.value ∙ value_read c.from_str_radix.result c.args.base c.in_ok-digits.digits.now c.args.digits.now same c.requires.begun c.from_str_radix.ensures.value
