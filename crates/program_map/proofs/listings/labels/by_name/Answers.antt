use Rattle.std.proofs.Common.{◌∙◌, ap, map, rules}
use Rattle.std.proofs.lemmas.List.Sorted.{answers_always}
use Rattle.zlink.specs.Linked.{symbol_of}
use Rattle.program_map.specs.Listings.Symbols as spec
use Rattle.program_map.proofs.Listed.ByName.{by_name_is, name_weak, now_then}
use Rattle.program_map.proofs.listings.labels.by_name.Goals as goal

pub returns : goal.returns
returns c =
    let sorted = c.in_ok-sort_by.ensures.sorted _ name_weak (answers_always _ _ _ (λ f a r g h. search rules)) in
    let stable = c.in_ok-sort_by.ensures.stable _ name_weak (answers_always _ _ _ (λ f a r g h. search rules)) in
    by_name_is c.in_ok-sorted.sorted.items _ sorted stable ∙ ap spec.by_name (now_then _ ∙ ap (map symbol_of) c.in_ok-sorted.ensures)
