use Rattle.std.proofs.Common.{ap, ◌∙◌, length, map}
use Rattle.std.specs.Prelude.{slice_index}
use Rattle.state_text.specs.Labelled.{parts_of}
use Rattle.state_text.proofs.Numbered.{if_any, numbered, whole}
use Rattle.state_text.proofs.labels.all_numbers.Goals as goal

pub returns : goal.returns
returns c =
    let labels = map parts_of c.args.labels.now in
    let size = ap length c.deref_mut.ensures.value ∙ c.in_ok-numbers.ensures.size in
    let lent = whole c.in_ok-numbers.numbers.len c.fill.new.numbers c.in_ok-numbers.numbers.items (c.fill.auto.numbers ∙ c.deref_mut.ensures.len) in
    let all = numbered labels 65536 c.deref_mut.result.now c.fill.new.numbers _ size (c.fill.auto.numbers ∙ size) lent
    (λ a below. ap (λ xs. slice_index xs a) c.deref_mut.ensures.value ∙ c.in_ok-numbers.ensures.each a below) c.fill.ensures in
    if_any labels _ (record { size = all.0; each = all.1 })
