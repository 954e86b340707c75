use Rattle.std.proofs.Common.{◌-◌, ap, ◌∙◌, arith}
use Rattle.std.proofs.lemmas.List.{take-map, length-map}
use Rattle.asm_line.specs.Tokens.{lexeme}
use Rattle.message_texts.proofs.place.place_of_tokens.Goals as goal

pub returns-clause-tokens : goal.returns-clause-tokens
returns-clause-tokens c = record {
  first = c.args.first;
  count = c.args.count;
  some = c.requires.some;
  few = omega (arith, length-map c.args.tokens.now lexeme);
  at_is = rw (take-map lexeme) (c.begin_after-at.ensures.begin);
  len_is = rw (take-map lexeme) (c.saturating_sub-len.ensures ∙ ap (λ n. n - c.begin_after-at.result) c.end_after-end.ensures.end);
}
