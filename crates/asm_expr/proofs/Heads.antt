-- Which items are those of `$+n` and `$-n`.
use Rattle.std.proofs.Common.{◌≡◌, ◌≤◌, ◌+◌, ◌-◌, suc, Bool, true, false, List, [], ◌∷◌, ◌++◌, Some, None, length, map, take, drop, get_or, nat_eq, refl, sym, ap, ◌∙◌, arith}
use Rattle.std.specs.Option.{option_map, option_eq}
use Rattle.std.proofs.lemmas.List.{map-append, take_more}
use Rattle.std.proofs.Math.Seq.{take-length}
use Rattle.std.proofs.lemmas.Bool.{eqb-true, false≢true}
use Rattle.asm_expr.specs.Types.{Binary, Item, Term}
use Rattle.asm_parse.specs.Expression.{Expression, Leaf, Prefix, Infix, postfix, and_then}
use Rattle.asm_parse.specs.Source.{Operand, Here, operand, source_item}
use Rattle.asm_parse.specs.Values.Postfix.{put, run}
use Rattle.asm_expr.specs.Private.Heads.{is_sum, sign_of, IsFromHere, IsNotFromHere}
use Rattle.asm_parse.proofs.Postfix.{run-whole, run-one}

sourced : Expression Term → Expression Operand
sourced (Leaf term) = Leaf (operand term)
sourced (Prefix op a) = Prefix op (sourced a)
sourced (Infix op a b) = Infix op (sourced a) (sourced b)

put-sourced : (x : Item Term) (before : List (Expression Term)) → put (source_item x) (map sourced before) ≡ option_map (map sourced) (put x before)
unfolding sourced
put-sourced (Item.Leaf term) before = refl
put-sourced (Item.Unary op) [] = refl
put-sourced (Item.Unary op) (a ∷ before) = refl
put-sourced (Item.Binary op) [] = refl
put-sourced (Item.Binary op) (b ∷ []) = refl
put-sourced (Item.Binary op) (b ∷ a ∷ before) = refl

run-sourced : (items : List (Item Term)) (before : List (Expression Term)) → run (map source_item items) (map sourced before) ≡ option_map (map sourced) (run items before)
run-sourced [] before = refl
run-sourced (x ∷ items) before =
    ap (λ p. and_then p (λ now. run (map source_item items) now)) (put-sourced x before)
    ∙ elim (put x before) as (λ p. and_then (option_map (map sourced) p) (λ now. run (map source_item items) now) ≡ option_map (map sourced) (and_then p (λ now. run items now))) [
      | None ↦ refl
      | Some now ↦ run-sourced items now
    ]

abbrev leaves_one : List (Item Term) → Bool
leaves_one items = option_eq nat_eq (option_map length (run items [])) (Some 1)

one_left : (items : List (Item Term)) → leaves_one items ≡ true → (e : Expression Operand) × (postfix e ≡ map source_item items)
one_left items one =
    elim (run items []) as (λ r. run items [] ≡ r → option_eq nat_eq (option_map length r) (Some 1) ≡ true → (e : Expression Operand) × (postfix e ≡ map source_item items)) [
      | None ↦ λ _ bad. cc
      | Some [] ↦ λ _ bad. cc
      | Some (e ∷ []) ↦ λ was _. (sourced e, run-one (map source_item items) (sourced e) (run-sourced items [] ∙ ap (option_map (map sourced)) was))
      | Some (e ∷ f ∷ more) ↦ λ _ bad. let two = eqb-true (length (e ∷ f ∷ more)) 1 bad in absurd (omega (arith, two))
    ] refl one

left_one : (items : List (Item Term)) (e : Expression Operand) → postfix e ≡ map source_item items → leaves_one items ≡ true
left_one items e spelled =
    let whole : option_map (map sourced) (run items []) ≡ Some (e ∷ []) = sym (run-sourced items []) ∙ run-whole (map source_item items) e spelled in
    elim (run items []) as (λ r. option_map (map sourced) r ≡ Some (e ∷ []) → option_eq nat_eq (option_map length r) (Some 1) ≡ true) [
      | None ↦ λ bad. cc
      | Some [] ↦ λ bad. cc
      | Some (x ∷ []) ↦ λ _. refl
      | Some (x ∷ y ∷ more) ↦ λ bad. cc
    ] whole

-- a list is its first element, its middle and its last element
pub ends : {A : Type 0} (xs : List A) (first last : A) → 2 ≤ length xs → first ≡ get_or xs 0 first → last ≡ get_or xs (length xs - 1) last → xs ≡ (first ∷ take (length xs - 1 - 1) (drop 1 xs)) ++ last ∷ []
ends [] first last h f l = absurd (omega (arith, h))
ends {A} (x ∷ xs) first last h f l =
    let k = length xs - 1 in
    let at : length (x ∷ xs) - 1 ≡ suc k = omega (arith, h) in
    let last_is : last ≡ get_or xs k last = l ∙ ap (λ j. get_or (x ∷ xs) j last) at in
    let count : k + 1 ≡ length xs = omega (arith, h) in
    let same : length (x ∷ xs) - 1 - 1 ≡ k = omega (arith, h) in
    let whole : xs ≡ take k xs ++ last ∷ [] =
    sym (take-length xs) ∙ ap (λ j. take j xs) (sym count) ∙ take_more xs k last (omega (arith, h)) ∙ ap (λ y. take k xs ++ y ∷ []) (sym last_is) in
    ap (λ y. y ∷ xs) (sym f) ∙ ap (λ ys. first ∷ ys) (whole ∙ ap (λ j. take j xs ++ last ∷ []) (sym same))

sign_is : (x y : Item Operand) (op : Binary) → sign_of x y ≡ Some op → (is_sum op ≡ true) × (x ≡ Item.Leaf Here) × (y ≡ Item.Binary op)
sign_is (Item.Leaf Here) (Item.Binary Binary.Add) op is = let same : Binary.Add ≡ op = cc in (ap is_sum (sym same), refl, ap Item.Binary same)
sign_is (Item.Leaf Here) (Item.Binary Binary.Subtract) op is = let same : Binary.Subtract ≡ op = cc in (ap is_sum (sym same), refl, ap Item.Binary same)
sign_is x y op is = cc

pub found : (items n : List (Item Term)) (first last : Item Term) (op : Binary) → items ≡ (first ∷ n) ++ last ∷ [] → sign_of (source_item first) (source_item last) ≡ Some op → leaves_one n ≡ true
    → IsFromHere op (map source_item n) (map source_item items)
found items n first last op cut sign one =
    let s = sign_is (source_item first) (source_item last) op sign in
    let e = one_left n one in
    let whole : map source_item items ≡ (source_item first ∷ map source_item n) ++ source_item last ∷ [] = ap (map source_item) cut ∙ map-append source_item (first ∷ n) (last ∷ []) in
    record {
      sum = s.0;
      tree = e.0;
      spelled = e.1;
      whole = ap (λ xs. (Item.Leaf Here ∷ xs) ++ Item.Binary op ∷ []) e.1 ∙ ap (λ x. (x ∷ map source_item n) ++ Item.Binary op ∷ []) (sym s.1)
          ∙ ap (λ y. (source_item first ∷ map source_item n) ++ y ∷ []) (sym s.2) ∙ sym whole;
    }

sums : (op : Binary) → is_sum op ≡ true → sign_of (Item.Leaf Here) (Item.Binary op) ≡ Some op
sums Binary.Add is = refl
sums Binary.Subtract is = refl
sums op is = cc

-- Equal lists have the same last element and the same front.
same_end : {A : Type 0} (xs ys : List A) (x y : A) → xs ++ x ∷ [] ≡ ys ++ y ∷ [] → (xs ≡ ys) × (x ≡ y)
same_end [] [] x y e = (refl, cc)
same_end [] (b ∷ []) x y e = cc
same_end [] (b ∷ c ∷ ys) x y e = cc
same_end (a ∷ []) [] x y e = cc
same_end (a ∷ c ∷ xs) [] x y e = cc
same_end (a ∷ xs) (b ∷ ys) x y e =
    let head : a ≡ b = cc in
    let rest : xs ++ x ∷ [] ≡ ys ++ y ∷ [] = cc in
    let r = same_end xs ys x y rest in
    (ap (λ h. h ∷ xs) head ∙ ap (λ t. b ∷ t) r.0, r.1)

-- The code finds every `$+n` and `$-n`.
pub not_found : (items n : List (Item Term)) (first last : Item Term) → items ≡ (first ∷ n) ++ last ∷ [] → leaves_one n ≡ false → IsNotFromHere (map source_item items)
not_found items n first last cut none = λ op e sum is.
    let whole : map source_item items ≡ (source_item first ∷ map source_item n) ++ source_item last ∷ [] = ap (map source_item) cut ∙ map-append source_item (first ∷ n) (last ∷ []) in
    let same = same_end (Item.Leaf Here ∷ postfix e) (source_item first ∷ map source_item n) (Item.Binary op) (source_item last) (is ∙ whole) in
    let inner : postfix e ≡ map source_item n = let s = same.0 in cc in
    false≢true (sym none ∙ left_one n e inner)

pub not_signed : (items n : List (Item Term)) (first last : Item Term) → items ≡ (first ∷ n) ++ last ∷ [] → sign_of (source_item first) (source_item last) ≡ None → IsNotFromHere (map source_item items)
not_signed items n first last cut none = λ op e sum is.
    let whole : map source_item items ≡ (source_item first ∷ map source_item n) ++ source_item last ∷ [] = ap (map source_item) cut ∙ map-append source_item (first ∷ n) (last ∷ []) in
    let same = same_end (Item.Leaf Here ∷ postfix e) (source_item first ∷ map source_item n) (Item.Binary op) (source_item last) (is ∙ whole) in
    let head : Item.Leaf Here ≡ source_item first = let s = same.0 in cc in
    let some : sign_of (source_item first) (source_item last) ≡ Some op = ap (λ x. sign_of x (source_item last)) (sym head) ∙ ap (sign_of (Item.Leaf Here)) (sym same.1) ∙ sums op sum in
    let bad : None ≡ Some op = sym none ∙ some in
    cc
