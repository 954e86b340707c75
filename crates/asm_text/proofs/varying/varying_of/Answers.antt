use Rattle.std.proofs.Common.{◌∙◌, ℕ, List, [], ap, get_or}
use Rattle.std.specs.List.{filter}
use Rattle.asm_line.specs.Replacing.Views.{in_call}
use Rattle.asm_text.specs.declared.signs.Sign.{Sign}
use Rattle.asm_text.specs.declared.varying.Varying.{Varying}
use Rattle.asm_text.specs.Private.Varying.{may_vary_plain}
use Rattle.asm_text.proofs.First_tokens.{all_where}
use Rattle.asm_text.proofs.varying.varying_of.Goals as goal

pub returns-clause-varying : goal.returns-clause-varying
returns-clause-varying c = λ t only.
    let texts = c.args.lines.now in
    let names = in_call c.args.names.now [] 0 in
    let asks : Sign → List ℕ → List ℕ = λ s. filter (λ k. may_vary_plain s names (get_or texts k [])) in
    let v : Varying = record {
      at = c.args.body.at;
      end = c.args.body.end;
      places = c.in_ok-places.places;
      with_word = c.in_ok-with_word.with_word;
      with_second = c.in_ok-with_second.with_second;
      with_both = c.in_ok-with_both.with_both;
    } in
    all_where c.front_stays.ensures t names only texts v (c.in_ok-places.ensures t only)
    (c.in_ok-with_word.ensures ∙ ap (asks Sign.Word) c.deref.ensures.value)
    (c.in_ok-with_second.ensures ∙ ap (asks Sign.Second) c.deref-2.ensures.value)
    (c.in_ok-with_both.ensures ∙ ap (asks Sign.Second) c.deref-3.ensures.value)
