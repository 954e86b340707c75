use Rattle.std.proofs.Common.{◌≡◌, ◌∙◌, ◌+◌, ◌-◌, ◌++◌, ◌≤◌, [], ◌∷◌, ap, sym, arith, length, map, slice_index, take}
use Rattle.std.proofs.lemmas.List.{length-map, length-take-le, map-append, take_more}
use Rattle.zmo_object.specs.Modules.{statement_of}
use Rattle.program_map.specs.Figures.{CountedStatement, all_counted, counted_statement, figures, kind_at, is_relaxable_statement}
use Rattle.program_map.specs.Private.Adding.{added, seen_kinds}
use Rattle.program_map.proofs.Figuring.{added_bytes, added_jumps, figures_more}
use Rattle.program_map.proofs.maps.figures.figures_of.Goals as goal

pub loop-number-preserved : goal.loop-number-preserved
loop-number-preserved c =
    let i = c.loop-number.number in
    let all = c.args.statements.now in
    let kinds = seen_kinds c.args.kinds in
    let places = c.args.places.now in
    let s : CountedStatement = record { kind = c.kind_of-kind.result; bytes = slice_index places (i + 1) - slice_index places i; relaxable = c.is_relaxable.result } in
    let this : s ≡ counted_statement kinds places (i, statement_of c.index-statements-number.result) =
    (let k = c.kind_of-kind.ensures in let r = c.is_relaxable.ensures in cc) in
    let front : map statement_of (take (i + 1) all) ≡ map statement_of (take i all) ++ statement_of c.index-statements-number.result ∷ [] =
    ap (map statement_of) (take_more all i c.index-statements-number.result (omega arith)) ∙ map-append statement_of (take i all) _
    ∙ ap (λ x. map statement_of (take i all) ++ statement_of x ∷ []) (sym c.index-statements-number.is) in
    let long : length (map statement_of (take i all)) ≡ i = length-map (take i all) statement_of ∙ length-take-le i all (omega arith) in
    record {
      so_far = c.with_statement-figures.ensures ∙ ap (λ f. added f s) c.loop-number.invariant.so_far ∙ ap (added _) this ∙ sym (figures_more kinds places _ i _ long) ∙ ap (λ ss. figures (all_counted kinds places ss)) (sym front);
      bytes = (let up = c.requires.ascend i (omega arith) in omega (arith, ap (λ f. f.code + f.«data» + f.space) c.with_statement-figures.ensures, added_bytes c.loop-number.figures s));
      jumps = rw c.with_statement-figures.ensures (added_jumps c.loop-number.figures s i c.loop-number.invariant.jumps);
    }
