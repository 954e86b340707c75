use Rattle.std.proofs.Common.{◌≡◌, ◌<◌, ℕ, List, [], All, None, Some, arith, false, get_or, inl, length, map, subst, sym}
use Rattle.std.proofs.lemmas.List.{get_or-map, get_or_default, length-map}
use Rattle.std.proofs.lemmas.List.Elements.{All-push, all_zip_more}
use Rattle.std.proofs.lemmas.Option.{slice_get-get_or}
use Rattle.z80dev_disk.specs.Words.{own_name, is_wild}
use Rattle.z80dev.specs.Private.Names.{IsBadName}
use Rattle.z80dev.proofs.disks.names.own_names.Goals as goal

pub returns-in-None-clause-names : goal.returns-in-None-clause-names
returns-in-None-clause-names c =
    let words : List (List ℕ) = map (λ w. w.now) c.args.paths.now in
    let k = c.loop-path.path-index in
    let lt : k < length words = omega (arith, c.loop-path-test.true, length-map c.args.paths.now (λ w. w.now)) in
    let at = get_or-map (λ w. w.now) c.args.paths.now k _ [] c.loop-path-test.true in
    inl (
      k,
      get_or words k [],
      c.loop-path.names.items,
      slice_get-get_or words k [] lt,
      c.loop-path.invariant.0,
      subst (λ w. own_name w ≡ None) (sym at) (sym c.in-None.ensures.name),
      subst (λ w. IsBadName w c.bad_name.result) (sym at) c.bad_name.ensures,
    )

pub loop-path-preserved : goal.loop-path-preserved
loop-path-preserved c =
    let words : List (List ℕ) = map (λ w. w.now) c.args.paths.now in
    let k = c.loop-path.path-index in
    let lt : k < length words = omega (arith, c.loop-path-test.true, length-map c.args.paths.now (λ w. w.now)) in
    let at = get_or-map (λ w. w.now) c.args.paths.now k _ [] c.loop-path-test.true in
    let path = get_or words k [] in
    let more = all_zip_more (λ w n. own_name w ≡ Some n) words c.loop-path.names.items k path c.in-Some.name lt (get_or_default words k [] path lt) c.loop-path.invariant.0 (subst (λ w. own_name w ≡ Some c.in-Some.name) (sym at) (sym c.in-Some.ensures.name)) in (
      rw c.in-Ok.ensures.items more,
      subst (All (λ name. is_wild name ≡ false)) (sym c.in-Ok.ensures.items) (All-push (λ name. is_wild name ≡ false) c.loop-path.names.items c.in-Some.name c.loop-path.invariant.1 c.in-Some.ensures.plain),
    )
