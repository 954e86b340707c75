use Rattle.std.proofs.Common.{◌≡◌, ◌<◌, ◌+◌, ◌++◌, ◌∷◌, ◌∙◌, List, ℕ, [], length, map, sym, ap, take, arith}
use Rattle.std.proofs.lemmas.List.{get_or-map, length_push, length-map, map_push, take_more}
use Rattle.host.proofs.One_by_one.{text_at}
use Rattle.z80dev.proofs.programs.making.sources_of.Goals as goal

pub loop-path-preserved : goal.loop-path-preserved
loop-path-preserved c =
    let k = c.loop-path.path-index in
    let paths : List (List ℕ) = map (λ path. path.now) c.args.paths.now in
    let texts : List (List ℕ) = map (λ text. text.items) c.args.texts.now in
    let here = c.loop-path-test.true in
    let there : k < length c.args.texts.now = omega (arith, here, c.requires) in
    let here' : k < length paths = omega (arith, here, length-map c.args.paths.now (λ path. path.now)) in
    let within : k < length texts = omega (arith, there, length-map c.args.texts.now (λ text. text.items)) in
    let place : c.len.result ≡ k = c.len.ensures ∙ c.loop-path.sources.ok.0 ∙ c.loop-path.invariant.0 in
    let path = get_or-map (λ path. path.now) c.args.paths.now k _ [] here in
    let pushed = c.in_ok-push.ensures.items in (
      ap length pushed ∙ length_push c.loop-path.sources.items _ ∙ ap (λ n. n + 1) c.loop-path.invariant.0,
      rw (pushed, map_push, c.loop-path.invariant.1) (ap (λ p. take k paths ++ p ∷ []) (sym path) ∙ sym (take_more paths k [] here')),
      rw (pushed, map_push, c.loop-path.invariant.2) (ap (λ t. take k texts ++ t ∷ []) (c.deref.ensures.value ∙ text_at c.args.texts.now c.index-texts-len.result c.len.result k _ c.index-texts-len.is place there) ∙ sym (take_more texts k [] within)),
    )
