use Rattle.std.proofs.Common.{◌∙◌, All, ap, arith, subst, sym, length, []}
use Rattle.std.proofs.lemmas.List.Elements.{All-nil}
use Rattle.asm_macro.specs.Views.{lines_seen}
use Rattle.asm_module.specs.Program.Spelled.{IsLineOfText}
use Rattle.source_errors.specs.Counted.{takens}
use Rattle.source_errors.proofs.Judging_lines.{counted_length}
use Rattle.source_errors.proofs.Sound.{all_texts, no_more}
use Rattle.source_errors.proofs.Taking.{takens_of}
use Rattle.source_errors.proofs.whole.errors_in.Goals as goal

pub judged-requires-clause-few : goal.judged-requires-clause-few
judged-requires-clause-few c =
    let k = c.in_ok-counting.counting in
    let lines = lines_seen c.args.expanded.lines.items in
    let most = c.few_lines.ensures c.requires.0 lines c.requires.1.0 c.requires.1.2 in
    let more = no_more [] lines in
    let same = ap length c.in_ok-counting.ensures.lines in
    let long = counted_length k.origins.items k.lines.items c.in_ok-counting.ensures.sound.many in
    omega (arith, most, more, same, long)

pub judged-requires-clause-parsed : goal.judged-requires-clause-parsed
judged-requires-clause-parsed c =
    let k = c.in_ok-counting.counting in
    subst (All (λ l. IsLineOfText l.line)) (ap takens (sym c.in_ok-counting.ensures.lines) ∙ takens_of k.origins.items k.lines.items c.in_ok-counting.ensures.sound.many)
    (all_texts [] (lines_seen c.args.expanded.lines.items) (All-nil (λ l. IsLineOfText l.line)))
