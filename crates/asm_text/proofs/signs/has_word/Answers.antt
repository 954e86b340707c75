use Rattle.std.proofs.Common.{◌∙◌, sym, rules, tests, not}
use Rattle.std.proofs.lemmas.Iterator.Search.{any_from_yields_List}
use Rattle.std.proofs.lemmas.Iterator.Splits.{YieldsList-from_slice_split}
use Rattle.asm_line.specs.Classes.{continues_name}
use Rattle.asm_text.specs.Signs.{is_sign}
use Rattle.asm_text.proofs.Pairs.{no_pair}
use Rattle.asm_text.proofs.signs.has_word.Goals as goal

pub returns : goal.returns
returns c =
    any_from_yields_List (is_sign c.args.sign) c.any.new.self _ c.any.result c.any.ensures.ran
    (YieldsList-from_slice_split _ (λ b. not (continues_name b)) c.args.text.now c.split.ensures.rest c.split.ensures.done c.split.ensures.closure (λ x r q k. search (rules, tests))) (λ x b q k. search (rules, tests))

pub returns-then-not-has_pair : goal.returns-then-not-has_pair
returns-then-not-has_pair c = sym (no_pair c.args.sign c.args.text.now (sym c.has_pair.ensures ∙ c.if-not-has_pair.true))
