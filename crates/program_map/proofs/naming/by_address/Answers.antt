use Rattle.std.proofs.Common.{rules}
use Rattle.std.proofs.lemmas.List.Sorted.{answers_always}
use Rattle.program_map.proofs.ByAddress.{by_address_is, place_weak}
use Rattle.program_map.proofs.naming.by_address.Goals as goal

pub returns : goal.returns
returns c =
    let sorted = c.in_ok-sort_by.ensures.sorted _ place_weak (answers_always _ _ _ (λ f a r g h. search rules)) in
    let stable = c.in_ok-sort_by.ensures.stable _ place_weak (answers_always _ _ _ (λ f a r g h. search rules)) in
    by_address_is c.args.names.items _ sorted stable
