-- Putting pieces end to end, one after the other.
use Rattle.std.proofs.Common.{◌≡◌, ◌≤◌, ◌<◌, ◌++◌, ◌+◌, ℕ, List, length, drop, get_or, sym, ap, ◌∙◌, arith}
use Rattle.std.proofs.lemmas.List.{at_drop_more, append_assoc, length-append}
use Rattle.std.specs.List.{flat_map}

module _ {X Y : Type 0} (f : X → List Y) (xs : List X) (at : ℕ) (d : X) (front : List Y) where
  -- the next piece after those before it
  pub next_piece : front ++ flat_map f (drop at xs) ≡ flat_map f xs → at < length xs →
      (front ++ f (get_or xs at d)) ++ flat_map f (drop (at + 1) xs) ≡ flat_map f xs
  next_piece is lt =
      append_assoc front (f (get_or xs at d)) (flat_map f (drop (at + 1) xs))
      ∙ sym (at_drop_more (λ rest. front ++ flat_map f rest) xs at d lt) ∙ is

  -- the next piece has no more items than are left
  pub fits_next : front ++ flat_map f (drop at xs) ≡ flat_map f xs → at < length xs →
      length front + length (f (get_or xs at d)) ≤ length (flat_map f xs)
  fits_next is lt =
      let whole = ap length (next_piece is lt) in
      let two = length-append (front ++ f (get_or xs at d)) (flat_map f (drop (at + 1) xs)) in
      let one = length-append front (f (get_or xs at d)) in
      omega (arith, whole, two, one)
