-- Items read one after the other.
use Rattle.std.proofs.Common.{◌≡◌, ◌<◌, ℕ, suc, cond, length, arith, List, [], ◌∷◌, ◌++◌, Option, Some, None, refl, sym, ap, append_assoc, inl, inr}
use Rattle.std.specs.Option.{option_map, MatchOption}
use Rattle.std.proofs.lemmas.List.{append-nil}
use Rattle.std.proofs.lemmas.Bool.{cases_Bool}
use Rattle.asm_parse.specs.declared.item.Item.{Item}
use Rattle.asm_parse.specs.declared.values.atom.Atom.{Atom}
use Rattle.asm_parse.specs.Values.Items.{IsExpr}
use Rattle.asm_parse.specs.Private.Steps.{is_expr}
use Rattle.asm_parse.proofs.Judgements.{taken, refused}
use Rattle.zmo_object.specs.Fields.Postfix.{expr_of, item_at, items_within, whole}

abbrev pub with_front : List (Item Atom) → Option (List (Item Atom)) → Option (List (Item Atom))
with_front front found = option_map (λ more. front ++ more) found

regroup : (front : List (Item Atom)) (x : Item Atom) (found : Option (List (Item Atom))) → with_front front (option_map (λ more. x ∷ more) found) ≡ with_front (front ++ x ∷ []) found
regroup front x None = refl
regroup front x (Some more) = ap (λ (items : List (Item Atom)). Some items) (sym (append_assoc front (x ∷ []) more))

pub goes_on : (front : List (Item Atom)) (n : ℕ) (bytes : List ℕ) (x : Item Atom) (after : List ℕ) → item_at bytes ≡ Some (x, after)
    → with_front front (items_within (suc n) bytes) ≡ with_front (front ++ x ∷ []) (items_within n after)
unfolding items_within
goes_on front n [] x after e = absurd cc
goes_on front n (b ∷ bytes) x after e = rw e (regroup front x (items_within n after))

at_end : (front : List (Item Atom)) (bytes : List ℕ) → with_front front (whole [] bytes) ≡ whole front bytes
at_end front [] = ap (λ (items : List (Item Atom)). Some items) (append-nil front)
at_end front (b ∷ bytes) = refl

pub stops : (front : List (Item Atom)) (n : ℕ) (bytes : List ℕ) → item_at bytes ≡ None → with_front front (items_within (suc n) bytes) ≡ whole front bytes
unfolding items_within
stops front n [] e = at_end front []
stops front n (b ∷ bytes) e = rw e refl

pub ends : (front : List (Item Atom)) (bytes : List ℕ) → with_front front (items_within 0 bytes) ≡ whole front bytes
unfolding items_within
ends front bytes = at_end front bytes

-- If the items are an expression, the answer is those items; otherwise None
pub judged_expr : (items : List (Item Atom)) (found : Option (List (Item Atom)))
    → MatchOption found (IsExpr items → ⊥) (λ e. (e ≡ items) × IsExpr items) → found ≡ cond (is_expr items) (Some items) None
judged_expr items (Some e) h =
    elim (cases_Bool (is_expr items)) [
      | inl good ↦ rw good (ap (λ (x : List (Item Atom)). Some x) h.0)
      | inr bad ↦ absurd (refused items bad h.1)
    ]
judged_expr items None h =
    elim (cases_Bool (is_expr items)) [
      | inl good ↦ absurd (h (taken items good))
      | inr bad ↦ rw bad refl
    ]

-- If the bytes are exactly one leaf, the expression is that leaf.
pub leaf_alone : (bytes : List ℕ) (atom : Atom) (rest : List ℕ) → item_at bytes ≡ Some (Item.Leaf atom, rest) → length rest < 1 → expr_of bytes ≡ Some (Item.Leaf atom ∷ [])
unfolding items_within
leaf_alone [] atom rest e none = absurd cc
leaf_alone (b ∷ bytes) atom [] e none = rw e refl
leaf_alone (b ∷ bytes) atom (r ∷ rest) e none = absurd (omega (arith, none))
