-- An expression and its bytes in an object file.
use Rattle.std.proofs.Common.{◌≡◌, ◌≤◌, ◌<◌, ◌+◌, ◌*◌, ◌-◌, ◌/◌, ◌%◌, ℕ, zero, suc, true, cond, List, [], ◌∷◌, ◌++◌, Option, Some, None, length, slice_get, refl, sym, ap, ◌∙◌, arith, inl, inr}
use Rattle.std.specs.Option.{IfSome, option_and_then, option_map}
use Rattle.std.proofs.lemmas.Bool.{cases_Bool, cases_eq, cases_lt, cond-true, eq-eqb, le-ltb, lt-ltb, ne_eqb}
use Rattle.std.proofs.lemmas.List.Elements.{All-head, All-tail}
use Rattle.asm_parse.specs.declared.item.Item.{Item}
use Rattle.asm_parse.specs.declared.operator.Binary.{Binary}
use Rattle.asm_parse.specs.declared.operator.Unary.{Unary}
use Rattle.asm_parse.specs.declared.values.atom.Atom.{Atom}
use Rattle.asm_parse.specs.declared.values.expr.TheConstants.{MOST_ITEMS}
use Rattle.asm_parse.specs.Values.Items.{IsExpr}
use Rattle.asm_parse.specs.Private.Steps.{is_expr}
use Rattle.asm_parse.proofs.Judgements.{taken, refused}
use Rattle.zmo_object.specs.declared.operator.TheConstants.{BINARIES, UNARIES}
use Rattle.zmo_object.specs.Fields.Texts.{binary_code, expr_text, item_text, unary_code, word_bytes}
use Rattle.zmo_object.specs.Fields.Field.{IsBytes}
use Rattle.zmo_object.specs.Fields.Postfix.{expr_of, item_at, items_of, items_within, leaf_at, operator_of}

unary_at : (k : ℕ) → IfSome (slice_get UNARIES k) (λ op. unary_code op ≡ 16 + k)
unary_at zero = refl
unary_at (suc zero) = refl
unary_at (suc (suc zero)) = refl
unary_at (suc (suc (suc zero))) = refl
unary_at (suc (suc (suc (suc k)))) = tt

binary_at : (k : ℕ) → IfSome (slice_get BINARIES k) (λ op. binary_code op ≡ 32 + k)
binary_at zero = refl
binary_at (suc zero) = refl
binary_at (suc (suc zero)) = refl
binary_at (suc (suc (suc zero))) = refl
binary_at (suc (suc (suc (suc zero)))) = refl
binary_at (suc (suc (suc (suc (suc zero))))) = refl
binary_at (suc (suc (suc (suc (suc (suc zero)))))) = refl
binary_at (suc (suc (suc (suc (suc (suc (suc zero))))))) = refl
binary_at (suc (suc (suc (suc (suc (suc (suc (suc zero)))))))) = refl
binary_at (suc (suc (suc (suc (suc (suc (suc (suc (suc zero))))))))) = refl
binary_at (suc (suc (suc (suc (suc (suc (suc (suc (suc (suc zero)))))))))) = refl
binary_at (suc (suc (suc (suc (suc (suc (suc (suc (suc (suc (suc zero))))))))))) = refl
binary_at (suc (suc (suc (suc (suc (suc (suc (suc (suc (suc (suc (suc zero)))))))))))) = refl
binary_at (suc (suc (suc (suc (suc (suc (suc (suc (suc (suc (suc (suc (suc zero))))))))))))) = refl
binary_at (suc (suc (suc (suc (suc (suc (suc (suc (suc (suc (suc (suc (suc (suc zero)))))))))))))) = refl
binary_at (suc (suc (suc (suc (suc (suc (suc (suc (suc (suc (suc (suc (suc (suc (suc zero))))))))))))))) = refl
binary_at (suc (suc (suc (suc (suc (suc (suc (suc (suc (suc (suc (suc (suc (suc (suc (suc k)))))))))))))))) = tt

-- The operator read from a code has this code.
pub operator_spelled : (code : ℕ) → IfSome (operator_of code) (λ op. item_text op ≡ code ∷ [])
operator_spelled code =
    elim (cases_lt code 16) [
      | inl lt ↦ rw (lt-ltb code 16 lt) tt
      | inr ge ↦ elim (cases_lt code 32) [
        | inl lt ↦ rw (le-ltb code 16 ge, lt-ltb code 32 lt) (of_unary (slice_get UNARIES (code - 16)) (unary_at (code - 16)) (omega arith))
        | inr high ↦ rw (le-ltb code 16 ge, le-ltb code 32 high) (of_binary (slice_get BINARIES (code - 32)) (binary_at (code - 32)) (omega arith))
      ]
    ]
  where
    of_unary : (found : Option Unary) → IfSome found (λ op. unary_code op ≡ 16 + (code - 16)) → 16 + (code - 16) ≡ code → IfSome (option_map Item.Unary found) (λ op. item_text op ≡ code ∷ [])
    of_unary None is e = tt
    of_unary (Some op) is e = ap (λ c. c ∷ []) (is ∙ e)

    of_binary : (found : Option Binary) → IfSome found (λ op. binary_code op ≡ 32 + (code - 32)) → 32 + (code - 32) ≡ code → IfSome (option_map Item.Binary found) (λ op. item_text op ≡ code ∷ [])
    of_binary None is e = tt
    of_binary (Some op) is e = ap (λ c. c ∷ []) (is ∙ e)

leaf_again : (n : ℕ) (rest : List ℕ) → leaf_at (word_bytes n ++ rest) ≡ Some (n, rest)
leaf_again n rest = let same : n % 256 + 256 * (n / 256) ≡ n = omega arith in ap (λ k. Some (k, rest)) same

item_again : (i : Item Atom) (rest : List ℕ) → item_at (item_text i ++ rest) ≡ Some (i, rest)
item_again (Item.Leaf (Atom.Number n)) rest = ap (option_map (λ x. (Item.Leaf (Atom.Number x.0), x.1))) (leaf_again n rest)
item_again (Item.Leaf (Atom.Ref n)) rest = ap (option_map (λ x. (Item.Leaf (Atom.Ref x.0), x.1))) (leaf_again n rest)
item_again (Item.Unary Unary.Negate) rest = refl
item_again (Item.Unary Unary.Not) rest = refl
item_again (Item.Unary Unary.High) rest = refl
item_again (Item.Unary Unary.Low) rest = refl
item_again (Item.Binary Binary.Add) rest = refl
item_again (Item.Binary Binary.Subtract) rest = refl
item_again (Item.Binary Binary.Multiply) rest = refl
item_again (Item.Binary Binary.Divide) rest = refl
item_again (Item.Binary Binary.Modulo) rest = refl
item_again (Item.Binary Binary.ShiftLeft) rest = refl
item_again (Item.Binary Binary.ShiftRight) rest = refl
item_again (Item.Binary Binary.And) rest = refl
item_again (Item.Binary Binary.Or) rest = refl
item_again (Item.Binary Binary.Xor) rest = refl
item_again (Item.Binary Binary.Equal) rest = refl
item_again (Item.Binary Binary.NotEqual) rest = refl
item_again (Item.Binary Binary.Less) rest = refl
item_again (Item.Binary Binary.LessOrEqual) rest = refl
item_again (Item.Binary Binary.Greater) rest = refl
item_again (Item.Binary Binary.GreaterOrEqual) rest = refl

step : (most : ℕ) (bytes : List ℕ) (i : Item Atom) (rest : List ℕ) → item_at bytes ≡ Some (i, rest) → items_within (suc most) bytes ≡ option_map (λ more. i ∷ more) (items_within most rest)
unfolding items_within
step most [] i rest e = absurd cc
step most (b ∷ bytes) i rest e = rw e refl

items_again : (most : ℕ) (items : List (Item Atom)) → length items ≤ most → items_within most (expr_text items) ≡ Some items
unfolding items_within
items_again zero [] few = refl
items_again (suc most) [] few = refl
items_again zero (i ∷ items) few = absurd (omega arith)
items_again (suc most) (i ∷ items) few =
    step most (item_text i ++ expr_text items) i (expr_text items) (item_again i (expr_text items))
    ∙ ap (option_map (λ more. i ∷ more)) (items_again most items (omega arith))

is_one : (items : List (Item Atom)) → IsExpr items → is_expr items ≡ true
is_one items rule =
    elim (cases_Bool (is_expr items)) [
      | inl good ↦ good
      | inr bad ↦ absurd (refused items bad rule)
    ]

pub expr_again : (items : List (Item Atom)) → IsExpr items → expr_of (expr_text items) ≡ Some items
expr_again items rule =
    ap (option_and_then (λ found. cond (is_expr found) (Some found) None)) (items_again MOST_ITEMS items rule.few)
    ∙ cond-true (is_expr items) (Some items) None (is_one items rule)

-- An item that is read from bytes has exactly these bytes.

leaf_spelled : (bytes : List ℕ) → IsBytes bytes → IfSome (leaf_at bytes) (λ x. (bytes ≡ word_bytes x.0 ++ x.1) × IsBytes x.1)
leaf_spelled [] fits = tt
leaf_spelled (low ∷ []) fits = tt
leaf_spelled (low ∷ high ∷ rest) fits =
    let behind = All-tail (λ c. c < 256) low (high ∷ rest) fits in
    let a : low < 256 = All-head (λ c. c < 256) low (high ∷ rest) fits in
    let first : low ≡ (low + 256 * high) % 256 = omega arith in
    let second : high ≡ (low + 256 * high) / 256 = omega arith in
    let whole_is : ◌≡◌ {A = List ℕ} (low ∷ high ∷ rest) ((low + 256 * high) % 256 ∷ (low + 256 * high) / 256 ∷ rest) = cc in
    (whole_is, All-tail (λ c. c < 256) high rest behind)

IsItem : List ℕ → Item Atom × List ℕ → Type 0
IsItem bytes x = (bytes ≡ item_text x.0 ++ x.1) × IsBytes x.1

of_leaf : (make : ℕ → Item Atom) (tag code : ℕ) (rest : List ℕ) → ((n : ℕ) → item_text (make n) ≡ tag ∷ word_bytes n) → code ≡ tag → (found : Option (ℕ × List ℕ))
    → IfSome found (λ x. (rest ≡ word_bytes x.0 ++ x.1) × IsBytes x.1) → IfSome (option_map (λ x. (make x.0, x.1)) found) (IsItem (code ∷ rest))
unfolding IsItem
of_leaf make tag code rest text same None is = tt
of_leaf make tag code rest text same (Some x) is =
    (ap (λ c. c ∷ rest) same ∙ ap (λ more. tag ∷ more) is.0 ∙ ap (λ front. front ++ x.1) (sym (text x.0)), is.1)

of_operator : (code : ℕ) (rest : List ℕ) → IsBytes rest → (found : Option (Item Atom)) → IfSome found (λ op. item_text op ≡ code ∷ []) → IfSome (option_map (λ op. (op, rest)) found) (IsItem (code ∷ rest))
unfolding IsItem
of_operator code rest fits None is = tt
of_operator code rest fits (Some op) is = (ap (λ front. front ++ rest) (sym is), fits)

item_spelled : (bytes : List ℕ) → IsBytes bytes → IfSome (item_at bytes) (IsItem bytes)
item_spelled [] fits = tt
item_spelled (code ∷ rest) fits =
    let behind = All-tail (λ c. c < 256) code rest fits in
    let leaf = leaf_spelled rest behind in
    elim (cases_eq code 1) as (λ _. IfSome (item_at (code ∷ rest)) (IsItem (code ∷ rest))) [
      | inl one ↦ rw (eq-eqb code 1 one) (of_leaf (λ n. Item.Leaf (Atom.Number n)) 1 code rest (λ n. refl) one (leaf_at rest) leaf)
      | inr not_one ↦ elim (cases_eq code 2) as (λ _. IfSome (item_at (code ∷ rest)) (IsItem (code ∷ rest))) [
        | inl two ↦ rw (ne_eqb code 1 not_one, eq-eqb code 2 two) (of_leaf (λ n. Item.Leaf (Atom.Ref n)) 2 code rest (λ n. refl) two (leaf_at rest) leaf)
        | inr not_two ↦ rw (ne_eqb code 1 not_one, ne_eqb code 2 not_two) (of_operator code rest behind (operator_of code) (operator_spelled code))
      ]
    ]

IsSpelled : List ℕ → List (Item Atom) → Type 0
IsSpelled bytes items = bytes ≡ expr_text items

with_first : (bytes : List ℕ) (x : Item Atom × List ℕ) → IsItem bytes x → (found : Option (List (Item Atom))) → IfSome found (IsSpelled x.1) → IfSome (option_map (λ more. x.0 ∷ more) found) (IsSpelled bytes)
unfolding IsItem IsSpelled
with_first bytes x is None others = tt
with_first bytes x is (Some more) others = is.0 ∙ ap (λ rest. item_text x.0 ++ rest) others

behind_first : (bytes : List ℕ) (most : ℕ) → ((rest : List ℕ) → IsBytes rest → IfSome (items_within most rest) (IsSpelled rest)) → (found : Option (Item Atom × List ℕ)) → IfSome found (IsItem bytes)
    → IfSome (option_and_then (λ x. option_map (λ more. x.0 ∷ more) (items_within most x.1)) found) (IsSpelled bytes)
unfolding IsItem
behind_first bytes most others None is = tt
behind_first bytes most others (Some x) is = with_first bytes x is (items_within most x.1) (others x.1 is.1)

items_spelled : (most : ℕ) (bytes : List ℕ) → IsBytes bytes → IfSome (items_within most bytes) (IsSpelled bytes)
unfolding items_within IsSpelled
items_spelled zero [] fits = refl
items_spelled zero (b ∷ bytes) fits = tt
items_spelled (suc most) [] fits = refl
items_spelled (suc most) (b ∷ bytes) fits = behind_first (b ∷ bytes) most (items_spelled most) (item_at (b ∷ bytes)) (item_spelled (b ∷ bytes) fits)

judged_spelled : (bytes : List ℕ) (found : Option (List (Item Atom))) → IfSome found (IsSpelled bytes)
    → IfSome (option_and_then (λ items. cond (is_expr items) (Some items) None) found) (λ items. IsExpr items × (bytes ≡ expr_text items))
unfolding IsSpelled
judged_spelled bytes None is = tt
judged_spelled bytes (Some items) is =
    elim (cases_Bool (is_expr items)) as (λ _. IfSome (cond (is_expr items) (Some items) None) (λ all. IsExpr all × (bytes ≡ expr_text all))) [
      | inl good ↦ rw good (taken items good, is)
      | inr bad ↦ rw bad tt
    ]

pub expr_spelled : (bytes : List ℕ) → IsBytes bytes → IfSome (expr_of bytes) (λ items. IsExpr items × (bytes ≡ expr_text items))
expr_spelled bytes fits = judged_spelled bytes (items_of bytes) (items_spelled MOST_ITEMS bytes fits)
