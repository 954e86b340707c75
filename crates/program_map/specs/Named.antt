-- Names with their addresses, by address.
use Rattle.std.specs.Prelude.{ℕ, List, [], ◌∷◌, if◌then◌else◌}
use Rattle.std.specs.Ordering.{is_lt, nat_cmp}
use Rattle.program_map.specs.declared.naming.PlacedName as placed_name

-- A name and its address.
pub record NamedPlace : Type 0 where
  pub place : ℕ
  pub name : List ℕ

abbrev pub named_of : placed_name.PlacedName → NamedPlace
named_of n = record { place = n.place; name = n.name.items }

-- a name is put into a list by address: after those whose addresses are lower than its own
abbrev pub put_by_address : NamedPlace → List NamedPlace → List NamedPlace
put_by_address n [] = n ∷ []
put_by_address n (m ∷ ms) = if is_lt (nat_cmp m.place n.place) then m ∷ put_by_address n ms else n ∷ m ∷ ms

-- names by address; those of one address stay in their order
abbrev pub by_address : List NamedPlace → List NamedPlace
by_address [] = []
by_address (n ∷ ns) = put_by_address n (by_address ns)
