use Rattle.std.proofs.Common.{◌≡◌, ◌∙◌, ◌+◌, ◌++◌, ◌∷◌, [], ap, sym, append-nil, append_assoc, arith, map, take, drop}
use Rattle.std.proofs.lemmas.List.{drop_all, drop_more, map-append, take_more}
use Rattle.asm_macro.specs.Texts.{source_lines}
use Rattle.asm_macro.specs.Views.{lines_seen}
use Rattle.asm_text.specs.Lines.{Numbered}
use Rattle.source_warnings.specs.Noted.{first_noted}
use Rattle.source_warnings.specs.Warnings.{line_warnings, warning_of, warnings_after}
use Rattle.source_warnings.specs.Private.Known.{line_seen}
use Rattle.source_warnings.proofs.found.warnings_in.Goals as goal

pub loop-line-init : goal.loop-line-init
loop-line-init c =
    let lines : c.in_ok-lines.lines ≡ source_lines c.args.text.now = rw c.source_part.ensures.part at c.in_ok-lines.ensures.lines in
    record {
      knows = record {
        known = rw lines at c.in_ok-mentions_in.ensures;
        publics_noted = λ name. ap (λ t. first_noted t name) c.new.ensures;
        externals_noted = λ name. ap (λ t. first_noted t name) c.new-2.ensures;
      };
      warnings = ap (λ l. map warning_of l ++ warnings_after c.args.text.now [] (lines_seen c.args.expanded.now)) c.new-found.ensures.items;
    }

pub loop-line-preserved : goal.loop-line-preserved
loop-line-preserved c =
    let text = c.args.text.now in
    let lines : c.in_ok-lines.lines ≡ source_lines text = rw c.source_part.ensures.part at c.in_ok-lines.ensures.lines in
    let i = c.loop-line.line-index in
    let xs = c.args.expanded.now in
    let x = c.line-item.result in
    let l : Numbered = line_seen x in
    let said = c.in_ok-put_line.ensures text (lines_seen (take i xs)) lines c.loop-line.invariant.knows in
    let front : lines_seen (take (i + 1) xs) ≡ lines_seen (take i xs) ++ l ∷ [] = ap lines_seen (take_more xs i x c.loop-line-test.true) ∙ (ap (λ y. lines_seen (take i xs ++ y ∷ [])) (sym c.line-item.is) ∙ map-append line_seen (take i xs) (x ∷ [])) in
    let back : lines_seen (drop i xs) ≡ l ∷ lines_seen (drop (i + 1) xs) = ap lines_seen (drop_more xs i x c.loop-line-test.true) ∙ ap (λ y. lines_seen (y ∷ drop (i + 1) xs)) (sym c.line-item.is) in
    let was = rw back at c.loop-line.invariant.warnings in
    rw front record {
      knows = said.1;
      warnings = ap (λ f. f ++ warnings_after text (lines_seen (take i xs) ++ l ∷ []) (lines_seen (drop (i + 1) xs))) said.0
          ∙ (append_assoc (map warning_of c.loop-line.found.items) (line_warnings text (lines_seen (take i xs)) l) (warnings_after text (lines_seen (take i xs) ++ l ∷ []) (lines_seen (drop (i + 1) xs))) ∙ was);
    }

pub returns : goal.returns
returns c =
    let xs = c.args.expanded.now in
    let i = c.loop-line.line-index in
    let none = drop_all i xs (omega (arith, c.loop-line-test.false)) in
    sym (append-nil _) ∙ (ap (λ l. map warning_of c.loop-line.found.items ++ warnings_after c.args.text.now (lines_seen (take i xs)) (lines_seen l)) (sym none) ∙ c.loop-line.invariant.warnings)
