use Rattle.std.proofs.Common.{◌++◌, ◌∙◌, ap, append-nil, append_assoc, drop, drop-drop, sym}
use Rattle.std.proofs.lemmas.List.{drop_all, take_rest}
use Rattle.z80dev_disk.specs.Text.{without_cr}
use Rattle.z80dev_disk.proofs.Texts.{none_left}
use Rattle.z80dev_disk.proofs.text.host_text.Goals as goal

pub loop-number-preserved : goal.loop-number-preserved
loop-number-preserved c =
    let kept = c.before_end-kept.result.now in
    let number = c.loop-number.number in
    let first = c.first_kept.result.now in
    let rest_is = take_rest kept number in
    let kept_is = ap without_cr (sym rest_is) ∙ c.first_kept.ensures ∙ ap (λ rest. first ++ without_cr (drop 1 rest)) rest_is in
    c.loop-number.invariant ∙ ap (λ r. c.loop-number.text.items ++ r) kept_is ∙ sym (append_assoc c.loop-number.text.items first (without_cr (drop 1 (drop number kept))))
    ∙ ap (λ xs. xs ++ without_cr (drop 1 (drop number kept))) (sym c.in_ok-extend_from_slice.ensures.items) ∙ ap (λ rest. c.extend_from_slice.new.self.items ++ without_cr rest) (drop-drop 1 number kept)

pub returns : goal.returns
returns c =
    let kept = c.before_end-kept.result.now in
    let none = ap without_cr (drop_all c.loop-number.number kept c.loop-number-test.false) ∙ none_left in
    sym (ap without_cr (sym c.before_end-kept.ensures) ∙ c.loop-number.invariant ∙ ap (λ rest. c.loop-number.text.items ++ rest) none ∙ append-nil c.loop-number.text.items)
