use Rattle.std.proofs.Common.{◌≡◌, ◌<◌, ◌≤◌, ◌∙◌, ◌++◌, ◌∷◌, [], ℕ, List, Ok, ap, arith, length, map, option_map, subst, sym, take}
use Rattle.std.proofs.lemmas.List.{get_or-map, length-map, map_push, take_all, take_more}
use Rattle.disassembler.specs.Reading.{label_parts}
use Rattle.state_text.specs.Labelled.{symbol_parts}
use Rattle.z80dev_jobs.specs.Private.Debugging.{AreSymbols}
use Rattle.z80dev_jobs.proofs.runs.debugging.symbols_of.Goals as goal

pub loop-label-init : goal.loop-label-init
loop-label-init c = ap (map symbol_parts) c.new-symbols.ensures.items

pub loop-label-preserved : goal.loop-label-preserved
loop-label-preserved c =
    let k = c.loop-label.label-index in
    let labels = c.deref-label-items.result.now in
    let parts : List (ℕ × List ℕ) = map label_parts labels in
    let here = c.loop-label-test.true in
    let within : k < length parts = omega (arith, here, length-map labels label_parts) in
    let label = get_or-map label_parts labels k _ (0, []) here in
    rw (c.in-Ok-push.ensures.items, map_push, c.loop-label.invariant) (ap (λ p. take k parts ++ p ∷ []) (sym label) ∙ sym (take_more parts k (0, []) within))

pub returns : goal.returns
returns c =
    let labels = c.deref-label-items.result.now in
    let parts : List (ℕ × List ℕ) = map label_parts labels in
    let over : length parts ≤ c.loop-label.label-index = omega (arith, c.loop-label-test.false, length-map labels label_parts) in
    let same = c.loop-label.invariant ∙ take_all c.loop-label.label-index parts over ∙ ap (map label_parts) c.deref-label-items.ensures.value in
    subst (λ text. AreSymbols (option_map (λ bytes. bytes.now) text) (Ok c.loop-label.symbols)) (sym c.in-Some.is) (c.in-Ok.labels, c.in-Ok.ensures, same)
