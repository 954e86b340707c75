-- All refs are less than a number.
use Rattle.std.proofs.Common.{◌≡◌, ◌<◌, ℕ, zero, suc, true, All, List, [], ◌∷◌, refl, arith}
use Rattle.std.specs.List.{list_all}
use Rattle.std.proofs.lemmas.Bool.{ltb-true, lt-ltb}
use Rattle.std.specs.Cmp.Derive.{both_true}
use Rattle.asm_parse.specs.Types.{Item, Atom}
use Rattle.asm_parse.specs.Values.Items.{is_within, refs}
use Rattle.asm_parse.proofs.Judgements.{and_parts}

pub all_below : (n : ℕ) (items : List (Item Atom)) → list_all (is_within n) items ≡ true → All (λ r. r < n) (refs items)
all_below n [] e = λ k d h. absurd (omega (arith, h))
all_below n (Item.Leaf (Atom.Number m) ∷ items) e = all_below n items e
all_below n (Item.Unary op ∷ items) e = all_below n items e
all_below n (Item.Binary op ∷ items) e = all_below n items e
all_below n (Item.Leaf (Atom.Ref r) ∷ items) e =
    let parts = and_parts _ _ e in
    below r (refs items) (ltb-true r n parts.0) (all_below n items parts.1)
  where
    below : (r : ℕ) (rs : List ℕ) → r < n → All (λ r. r < n) rs → All (λ r. r < n) (r ∷ rs)
    below r rs h all zero d k = h
    below r rs h all (suc k) d l = all k d (omega (arith, l))

pub below_all : (n : ℕ) (items : List (Item Atom)) → All (λ r. r < n) (refs items) → list_all (is_within n) items ≡ true
below_all n [] all = refl
below_all n (Item.Leaf (Atom.Number m) ∷ items) all = below_all n items all
below_all n (Item.Unary op ∷ items) all = below_all n items all
below_all n (Item.Binary op ∷ items) all = below_all n items all
below_all n (Item.Leaf (Atom.Ref r) ∷ items) all =
    both_true (lt-ltb r n (all zero r (omega arith))) (below_all n items (λ k d h. all (suc k) d (omega (arith, h))))
