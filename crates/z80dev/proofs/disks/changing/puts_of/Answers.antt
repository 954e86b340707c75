use Rattle.std.proofs.Common.{◌≡◌, ◌<◌, ◌+◌, ◌++◌, ◌∷◌, ◌∙◌, List, ℕ, [], All, false, length, map, sym, subst, ap, take, arith}
use Rattle.std.proofs.lemmas.List.{length_push, length-map, map_push, take_more}
use Rattle.std.proofs.lemmas.List.Elements.{All-get_or, All-push}
use Rattle.z80dev_disk.specs.Words.{is_wild}
use Rattle.host.proofs.One_by_one.{text_at}
use Rattle.z80dev.proofs.disks.changing.puts_of.Goals as goal

pub loop-name-preserved : goal.loop-name-preserved
loop-name-preserved c =
    let k = c.loop-name.name-index in
    let texts : List (List ℕ) = map (λ text. text.items) c.args.texts.now in
    let here = c.loop-name-test.true in
    let there : k < length c.args.texts.now = omega (arith, here, c.requires.lengths) in
    let within : k < length texts = omega (arith, there, length-map c.args.texts.now (λ text. text.items)) in
    let place : c.len.result ≡ k = c.len.ensures ∙ c.loop-name.puts.ok.0 ∙ c.loop-name.invariant.0 in
    let pushed = c.in-Ok.ensures.items in
    let name = c.name-item.result in (
      ap length pushed ∙ length_push c.loop-name.puts.items _ ∙ ap (λ n. n + 1) c.loop-name.invariant.0,
      rw (pushed, map_push, c.loop-name.invariant.1) (ap (λ n. take k c.args.names.now ++ n ∷ []) c.name-item.is ∙ sym (take_more c.args.names.now k name here)),
      rw (pushed, map_push, c.loop-name.invariant.2) (ap (λ t. take k texts ++ t ∷ []) (c.deref.ensures.value ∙ text_at c.args.texts.now c.index-texts-len.result c.len.result k _ c.index-texts-len.is place there) ∙ sym (take_more texts k [] within)),
      subst (All (λ p. is_wild p.name ≡ false)) (sym pushed) (All-push (λ p. is_wild p.name ≡ false) c.loop-name.puts.items _ c.loop-name.invariant.3 (subst (λ n. is_wild n ≡ false) (sym c.name-item.is) (All-get_or (λ n. is_wild n ≡ false) c.args.names.now k name here c.requires.plain))),
    )
