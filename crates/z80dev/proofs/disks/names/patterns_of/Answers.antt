use Rattle.std.proofs.Common.{◌≡◌, ◌<◌, ℕ, List, [], None, Some, arith, get_or, inl, length, map, subst, sym}
use Rattle.std.proofs.lemmas.List.{get_or-map, get_or_default, length-map}
use Rattle.std.proofs.lemmas.List.Elements.{all_zip_more}
use Rattle.std.proofs.lemmas.Option.{slice_get-get_or}
use Rattle.z80dev_disk.specs.Words.{pattern_of}
use Rattle.z80dev.specs.Private.Names.{IsBadName}
use Rattle.z80dev.proofs.disks.names.patterns_of.Goals as goal

pub returns-in-None : goal.returns-in-None
returns-in-None c =
    let words : List (List ℕ) = map (λ w. w.now) c.args.words.now in
    let k = c.loop-word.word-index in
    let lt : k < length words = omega (arith, c.loop-word-test.true, length-map c.args.words.now (λ w. w.now)) in
    let at = get_or-map (λ w. w.now) c.args.words.now k _ [] c.loop-word-test.true in
    inl (
      k,
      get_or words k [],
      c.loop-word.patterns.items,
      slice_get-get_or words k [] lt,
      c.loop-word.invariant,
      subst (λ w. pattern_of w ≡ None) (sym at) (sym c.in-None.ensures),
      subst (λ w. IsBadName w c.bad_name.result) (sym at) c.bad_name.ensures,
    )

pub loop-word-preserved : goal.loop-word-preserved
loop-word-preserved c =
    let words : List (List ℕ) = map (λ w. w.now) c.args.words.now in
    let k = c.loop-word.word-index in
    let lt : k < length words = omega (arith, c.loop-word-test.true, length-map c.args.words.now (λ w. w.now)) in
    let at = get_or-map (λ w. w.now) c.args.words.now k _ [] c.loop-word-test.true in
    let word = get_or words k [] in
    rw c.in-Ok.ensures.items (all_zip_more (λ w n. pattern_of w ≡ Some n) words c.loop-word.patterns.items k word c.in-Some.pattern lt (get_or_default words k [] word lt) c.loop-word.invariant (subst (λ w. pattern_of w ≡ Some c.in-Some.pattern) (sym at) (sym c.in-Some.ensures)))
