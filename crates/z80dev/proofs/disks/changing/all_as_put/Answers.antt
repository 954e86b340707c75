use Rattle.std.proofs.Common.{◌≡◌, ◌<◌, ◌++◌, ◌∷◌, ◌∙◌, ℕ, List, [], ap, arith, get_or, length, map, sym, take}
use Rattle.std.proofs.lemmas.List.{get_or-map, length-map, map_push, take_more}
use Rattle.z80dev_disk.specs.Text.{cpm_text}
use Rattle.z80dev.proofs.disks.changing.all_as_put.Goals as goal

pub loop-file-preserved : goal.loop-file-preserved
loop-file-preserved c =
    let files = c.deref-file-items.result.now in
    let all : List (List ℕ) = map (λ file. cpm_text file.items) files in
    let k = c.loop-file.file-index in
    let lt : k < length all = omega (arith, c.loop-file-test.true, length-map files (λ file. cpm_text file.items)) in
    let at = get_or-map (λ file. cpm_text file.items) files k c.file-item.result [] c.loop-file-test.true in
    let here : c.in_ok-cpm_text.field-0.items ≡ get_or all k [] = c.in_ok-cpm_text.ensures ∙ ap cpm_text c.deref.ensures.value ∙ ap (λ file. cpm_text file.items) c.file-item.is ∙ sym at in
    rw (c.in_ok-push.ensures.items, map_push, c.loop-file.invariant) (ap (λ b. take k all ++ b ∷ []) here ∙ sym (take_more all k [] lt))
