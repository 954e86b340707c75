use Rattle.std.proofs.Common.{◌≡◌, ◌<◌, ◌+◌, ◌++◌, ◌∷◌, ◌∙◌, List, ℕ, [], Err, length, map, get_or, refl, string_bytes, sym, ap, subst, take, arith}
use Rattle.std.proofs.lemmas.List.{length_push, length-map, length-take-le, map_push, take_more}
use Rattle.std.proofs.lemmas.Result.{err_from_is_err_and}
use Rattle.z80dev_jobs.specs.Words.{AreTexts, ReadsWord}
use Rattle.host.proofs.One_by_one.{text_at}
use Rattle.z80dev_jobs.proofs.One_word.{IsTextOf, more, unread}
use Rattle.z80dev_jobs.proofs.words.texts_of.Goals as goal

pub returns-in_err-text : goal.returns-in_err-text
returns-in_err-text c =
    let left = err_from_is_err_and c.from_residual-in_err-text.result c.from_residual-in_err-text.ensures.1 in
    let k = c.loop-word.word-index in
    let words : List (List ℕ) = map (λ word. word.items) c.args.words.now in
    let place : c.len.result ≡ k = c.len.ensures ∙ c.loop-word.texts.ok.0 ∙ c.loop-word.invariant.0 in
    let word = text_at c.args.words.now c.word-item.result k k _ c.word-item.is refl c.loop-word-test.true in
    rw (left.1, left.2)
    (unread words (map string_bytes c.loop-word.texts.items) k (omega (arith, c.loop-word-test.true, length-map c.args.words.now (λ word. word.items))) c.loop-word.invariant.1 c.in_err-text.field-0.0
    (subst (λ w. ReadsWord k w (Err c.in_err-text.field-0.0)) (c.deref.ensures.value ∙ word) (subst (λ n. ReadsWord n c.deref.result.now (Err c.in_err-text.field-0.0)) place c.in_err-text.ensures)))

pub loop-word-preserved : goal.loop-word-preserved
loop-word-preserved c =
    let k = c.loop-word.word-index in
    let words : List (List ℕ) = map (λ word. word.items) c.args.words.now in
    let within : k < length words = omega (arith, c.loop-word-test.true, length-map c.args.words.now (λ word. word.items)) in
    let place : c.len.result ≡ k = c.len.ensures ∙ c.loop-word.texts.ok.0 ∙ c.loop-word.invariant.0 in
    let word = text_at c.args.words.now c.word-item.result k k _ c.word-item.is refl c.loop-word-test.true in
    let text : IsTextOf k (get_or words k []) (string_bytes c.in_ok-text.text) =
    subst (λ w. IsTextOf k w (string_bytes c.in_ok-text.text)) (c.deref.ensures.value ∙ word) (subst (λ n. IsTextOf n c.deref.result.now (string_bytes c.in_ok-text.text)) place c.in_ok-text.ensures) in
    let pushed = c.in-Ok.ensures.items in (
      ap length pushed ∙ length_push c.loop-word.texts.items _ ∙ ap (λ n. n + 1) c.loop-word.invariant.0,
      rw (pushed, map_push) (subst (λ ws. AreTexts ws (map string_bytes c.loop-word.texts.items ++ string_bytes c.in_ok-text.text ∷ [])) (sym (take_more words k [] within))
          (more (take k words) (map string_bytes c.loop-word.texts.items) (get_or words k []) (string_bytes c.in_ok-text.text) c.loop-word.invariant.1 (subst (λ n. IsTextOf n (get_or words k []) (string_bytes c.in_ok-text.text)) (sym (length-take-le k words (omega (arith, within)))) text))),
    )
