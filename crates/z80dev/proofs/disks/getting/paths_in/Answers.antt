use Rattle.std.proofs.Common.{◌≡◌, ◌<◌, ◌++◌, ◌∷◌, ◌∙◌, rules, ℕ, List, [], ap, arith, get_or, length, map, string_bytes, sym, take}
use Rattle.std.proofs.lemmas.List.{get_or-map, length-map, map_push, take_more}
use Rattle.z80dev.specs.Disks.{path_in}
use Rattle.z80dev.proofs.disks.getting.paths_in.Goals as goal

pub loop-file-preserved : goal.loop-file-preserved
loop-file-preserved c =
    let folder = c.args.folder.now in
    let all : List (List ℕ) = map (λ g. (path_in folder g).0) c.args.gotten.now in
    let k = c.loop-file.file-index in
    let lt : k < length all = omega (arith, c.loop-file-test.true, length-map c.args.gotten.now (λ g. (path_in folder g).0)) in
    let at = get_or-map (λ g. (path_in folder g).0) c.args.gotten.now k c.file-item.result [] c.loop-file-test.true in
    let path : string_bytes c.in_ok-format.field-0 ≡ (path_in folder c.file-item.result).0 = search rules in
    let here : string_bytes c.in_ok-format.field-0 ≡ get_or all k [] = path ∙ ap (λ g. (path_in folder g).0) c.file-item.is ∙ sym at in
    rw (c.in_ok-push.ensures.items, map_push, c.loop-file.invariant) (ap (λ p. take k all ++ p ∷ []) here ∙ sym (take_more all k [] lt))
