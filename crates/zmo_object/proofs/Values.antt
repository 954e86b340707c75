-- Fix-ups and their expressions: reading gives values with exactly these bytes, and reading the bytes of values gives these values.
use Rattle.std.proofs.Common.{◌≡◌, ◌≤◌, ◌<◌, ◌+◌, ◌&&◌, ℕ, Bool, true, false, eqb, leb, List, [], ◌∷◌, ◌++◌, Option, Some, None, Result, Ok, Err, All, length, take, drop, get_or, refl, sym, ap, ◌∙◌, append_assoc, arith, inl, inr}
use Rattle.std.specs.List.{list_all}
use Rattle.std.specs.Option.{IfSome, option_and_then}
use Rattle.std.proofs.lemmas.Bool.{and_parts, cases_Bool, cases_eq, cond-true, eq-eqb, eqb-true, le-leb, leb-true, ne_eqb}
use Rattle.std.proofs.lemmas.List.{get_or-drop, get_or-take, length-drop, length-take}
use Rattle.std.proofs.lemmas.List.Elements.{All-cons, All-from_get_or, All-get_or, All-head, All-nil, All-tail}
use Rattle.std.proofs.lemmas.List.Sums.{AllPass-from_list_all, list_all-from_AllPass}
use Rattle.common.specs.Results.{◌>>=◌}
use Rattle.asm_parse.specs.declared.item.Item.{Item}
use Rattle.asm_parse.specs.declared.values.atom.Atom.{Atom}
use Rattle.asm_parse.specs.Values.Items.{IsExpr, is_within, refs}
use Rattle.asm_parse.proofs.Refs.{all_below, below_all}
use Rattle.zmo_object.specs.declared.module.hole.Hole.{Hole}
use Rattle.zmo_object.specs.declared.module.hole.Width.{Width}
use Rattle.zmo_object.specs.Holes.{FitsWidth, IsHole, LieWithin, width_size}
use Rattle.zmo_object.specs.declared.field_fault.FieldFault.{FieldFault}
use Rattle.zmo_object.specs.declared.field_fault.FieldFault.TheVariants as fault
use Rattle.zmo_object.specs.Fields.Texts.{with_length, expr_text, word_bytes}
use Rattle.zmo_object.specs.Fields.Field.{IsBytes, code_field, counted_at, field_if_some, judged, word_field}
use Rattle.zmo_object.specs.Fields.Postfix.{expr_of}
use Rattle.zmo_object.proofs.Fields.Spelled.{expr_again, expr_spelled}
use Rattle.zmo_object.proofs.Fields.Taken.{Chain, Reads, Takes, coded_again, coded_takes, counted_again, counted_takes, joins, then_is, then_takes, word_again, word_takes}
use Rattle.zmo_object.specs.Codes.{width_code, width_of}
use Rattle.zmo_object.specs.Texts.{hole_text}
use Rattle.zmo_object.specs.Reading.{fits_width, fitting, hole_at, are_zeros, is_place, value_at, hole_expression}

-- The expression of a fix-up.

IsValue : ℕ → Width → List (Item Atom) → Type 0
IsValue count width items = IsExpr items × FitsWidth width items × All (λ r. r < count) (refs items)

width_told : (w : Width) (items : List (Item Atom)) → fits_width w items ≡ true → FitsWidth w items
width_told Width.Byte items e = e
width_told Width.Word items e = tt

width_tests : (w : Width) (items : List (Item Atom)) → FitsWidth w items → fits_width w items ≡ true
width_tests Width.Byte items e = e
width_tests Width.Word items e = refl

fitting_told : (count : ℕ) (w : Width) (text : List ℕ) (items : List (Item Atom)) → IsExpr items → text ≡ expr_text items → IfSome (fitting count w items) (λ found. IsValue count w found × (text ≡ expr_text found))
unfolding IsValue
fitting_told count w text items rule spelled =
    elim (cases_Bool (fits_width w items && list_all (is_within count) items)) as (λ _. IfSome (fitting count w items) (λ found. IsValue count w found × (text ≡ expr_text found))) [
      | inl good ↦
          let both = and_parts (fits_width w items) (list_all (is_within count) items) good in
          rw good ((rule, width_told w items both.0, all_below count items both.1), spelled)
      | inr bad ↦ rw bad tt
    ]

value_told : (count : ℕ) (w : Width) (text : List ℕ) → IsBytes text → IfSome (hole_expression count w text) (λ found. IsValue count w found × (text ≡ expr_text found))
value_told count w text fits = by (expr_of text) (expr_spelled text fits)
  where
    by : (found : Option (List (Item Atom))) → IfSome found (λ items. IsExpr items × (text ≡ expr_text items)) → IfSome (option_and_then (fitting count w) found) (λ items. IsValue count w items × (text ≡ expr_text items))
    by None is = tt
    by (Some items) is = fitting_told count w text items is.0 is.1

value_takes : (count : ℕ) (w : Width) (bytes : List ℕ) → IsBytes bytes → Reads (Takes (λ items. with_length (expr_text items)) (IsValue count w) bytes) (value_at count w bytes)
value_takes count w bytes fits =
    then_takes (counted_at bytes) _ (counted_takes bytes fits) (λ text first. by text first (hole_expression count w text.0) (value_told count w text.0 first.good.1))
  where
    by : (text : List ℕ × List ℕ) → Takes with_length (λ b. (length b ≤ 255) × IsBytes b) bytes text → (found : Option (List (Item Atom))) → IfSome found (λ items. IsValue count w items × (text.0 ≡ expr_text items))
        → Reads (Takes (λ items. with_length (expr_text items)) (IsValue count w) bytes) (field_if_some found (drop 1 bytes) text.1)
    by text first None is = record { value = tt }
    by text first (Some items) is = record { value = record { spelled = first.spelled ∙ ap (λ t. with_length t ++ text.1) is.1; rest = first.rest; good = is.0 } }

value_again : (count : ℕ) (w : Width) (items : List (Item Atom)) (rest : List ℕ) → IsValue count w items → value_at count w (with_length (expr_text items) ++ rest) ≡ Ok (items, rest)
unfolding IsValue
value_again count w items rest rule =
    then_is (expr_text items, rest) (counted_at (with_length (expr_text items) ++ rest)) _ (counted_again (expr_text items) rest)
    (ap (λ found. field_if_some found (expr_text items ++ rest) rest) found)
  where
    found : hole_expression count w (expr_text items) ≡ Some items
    found =
        ap (option_and_then (fitting count w)) (expr_again items rule.0)
        ∙ cond-true (fits_width w items && list_all (is_within count) items) (Some items) None (rw (width_tests w items rule.1, below_all count items rule.2) refl)

-- The offset and the width of a fix-up.

widths : (code : ℕ) → IfSome (width_of code) (λ w. width_code w ≡ code)
widths code =
    elim (cases_eq code 1) as (λ _. IfSome (width_of code) (λ w. width_code w ≡ code)) [
      | inl one ↦ rw (eq-eqb code 1 one) (sym one)
      | inr not_one ↦ elim (cases_eq code 2) as (λ _. IfSome (width_of code) (λ w. width_code w ≡ code)) [
        | inl two ↦ rw (ne_eqb code 1 not_one, eq-eqb code 2 two) (sym two)
        | inr not_two ↦ rw (ne_eqb code 1 not_one, ne_eqb code 2 not_two) tt
      ]
    ]

width_again : (w : Width) → width_of (width_code w) ≡ Some w
width_again Width.Byte = refl
width_again Width.Word = refl

-- the bytes that a fix-up fills begin at `from` or later, are in the statement, and are 0
IsPlace : List ℕ → ℕ → ℕ → ℕ → Type 0
IsPlace content from offset size = (from ≤ offset) × (offset + size ≤ length content) × ((k : ℕ) → k < size → get_or content (offset + k) 0 ≡ 0)

place_told : (content : List ℕ) (from offset size : ℕ) → is_place content from offset size ≡ true → IsPlace content from offset size
unfolding IsPlace
place_told content from offset size e =
    let both = and_parts (leb from offset && leb (offset + size) (length content)) (are_zeros (take size (drop offset content))) e in
    let parts = and_parts (leb from offset) (leb (offset + size) (length content)) both.0 in
    let within : offset + size ≤ length content = leb-true (offset + size) (length content) parts.1 in
    let zeros = AllPass-from_list_all (λ b. eqb b 0) (take size (drop offset content)) both.1 in (
      leb-true from offset parts.0,
      within,
      λ k lt.
          let there : k < length (take size (drop offset content)) = omega (arith, length-take size (drop offset content), length-drop offset content) in
          let none : eqb (get_or (take size (drop offset content)) k 0) 0 ≡ true = All-get_or (λ b. eqb b 0 ≡ true) (take size (drop offset content)) k 0 there zeros in
          sym (get_or-drop offset content k 0) ∙ sym (get_or-take size (drop offset content) k 0 lt) ∙ eqb-true _ 0 none,
    )

place_tests : (content : List ℕ) (from offset size : ℕ) → IsPlace content from offset size → is_place content from offset size ≡ true
unfolding IsPlace
place_tests content from offset size place =
    let zeros = All-from_get_or (λ b. eqb b 0 ≡ true) (take size (drop offset content)) 0 (λ k lt.
    let small : k < size = omega (arith, length-take size (drop offset content)) in
    eq-eqb _ 0 (get_or-take size (drop offset content) k 0 small ∙ get_or-drop offset content k 0 ∙ place.2 k small)) in
    rw (le-leb from offset place.0, le-leb (offset + size) (length content) place.1, list_all-from_AllPass (λ b. eqb b 0) (take size (drop offset content)) zeros) refl

-- A fix-up that is good and begins at `from` or later.

pub record HoleGood (count : ℕ) (content : List ℕ) (from : ℕ) (h : Hole) : Type 0 where
  pub hole : IsHole count content h
  pub behind : from ≤ h.offset
  pub within : h.offset + width_size h.width ≤ length content

judged_is : {A B : Type 0} (P : B → Type 0) (good : Bool) (bytes : List ℕ) (x : A) (f : A → Result B FieldFault) → (good ≡ true → Reads P (f x)) → Reads P (judged good bytes x >>= f)
judged_is P true bytes x f p = p refl
judged_is P false bytes x f p = record { value = tt }

pub hole_takes : (count : ℕ) (content : List ℕ) (from : ℕ) (bytes : List ℕ) → IsBytes bytes → Reads (Takes hole_text (HoleGood count content from) bytes) (hole_at count content from bytes)
unfolding IsPlace IsValue
hole_takes count content from bytes fits =
    then_takes (word_field bytes) _ (word_takes bytes fits) (λ offset first.
    then_takes (code_field width_of offset.1) _ (coded_takes width_of width_code widths offset.1 first.rest) (λ width second.
    judged_is _ (is_place content from offset.0 (width_size width.0)) bytes width _ (λ placed.
    then_takes (value_at count width.0 width.1) _ (value_takes count width.0 width.1 second.rest) (λ value third.
    let place = place_told content from offset.0 (width_size width.0) placed in
    let front = joins (width_code width.0 ∷ []) (with_length (expr_text value.0)) width.1 value.1 offset.1 second.spelled third.spelled in
    (record {
      value = record {
        spelled = joins (word_bytes offset.0) (width_code width.0 ∷ with_length (expr_text value.0)) offset.1 value.1 bytes first.spelled front;
        rest = third.rest;
        good = record { hole = record { expr = third.good.0; width = third.good.1; refs = third.good.2; blank = place.2 }; behind = place.0; within = place.1 };
      };
    })))))

hole_laid : (count : ℕ) (content : List ℕ) (from : ℕ) (h : Hole) (bytes more tail rest : List ℕ) → HoleGood count content from h
    → bytes ≡ word_bytes h.offset ++ more → more ≡ width_code h.width ∷ tail → tail ≡ with_length (expr_text h.value) ++ rest → hole_at count content from bytes ≡ Ok (h, rest)
unfolding IsPlace IsValue
hole_laid count content from h bytes more tail rest rule e1 e2 e3 =
    let kind : Width × List ℕ = (h.width, tail) in
    let placed : is_place content from h.offset (width_size h.width) ≡ true = place_tests content from h.offset (width_size h.width) (rule.behind, rule.within, rule.hole.blank) in
    then_is (h.offset, more) (word_field bytes) _ (ap word_field e1 ∙ word_again h.offset more)
    (then_is kind (code_field width_of more) _ (ap (code_field width_of) e2 ∙ coded_again width_of width_code h.width tail (width_again h.width))
    (then_is kind (judged (is_place content from h.offset (width_size h.width)) bytes kind) _
    (cond-true (is_place content from h.offset (width_size h.width)) (Ok kind) (Err (fault.BadField (length bytes))) placed)
    (then_is (h.value, rest) (value_at count h.width tail) _ (ap (value_at count h.width) e3 ∙ value_again count h.width h.value rest (rule.hole.expr, rule.hole.width, rule.hole.refs)) refl)))

pub hole_again : (count : ℕ) (content : List ℕ) (from : ℕ) (h : Hole) (rest : List ℕ) → HoleGood count content from h → hole_at count content from (hole_text h ++ rest) ≡ Ok (h, rest)
hole_again count content from h rest rule =
    let tail = with_length (expr_text h.value) ++ rest in
    hole_laid count content from h (hole_text h ++ rest) (width_code h.width ∷ tail) tail rest rule
    (append_assoc (word_bytes h.offset) (width_code h.width ∷ with_length (expr_text h.value)) rest) refl refl

-- If each fix-up begins where the one before ends, or later, the fix-ups do not overlap, and all are good.

pub lie_within : (count : ℕ) (content : List ℕ) (from : ℕ) (hs : List Hole) → Chain (HoleGood count content) (λ _ h. h.offset + width_size h.width) from hs
    → LieWithin from (length content) hs × All (IsHole count content) hs
lie_within count content from [] good = (tt, All-nil (IsHole count content))
lie_within count content from (h ∷ hs) good =
    let others = lie_within count content (h.offset + width_size h.width) hs good.1 in
    ((good.0.behind, good.0.within, others.0), All-cons (IsHole count content) h hs good.0.hole others.1)

pub chained : (count : ℕ) (content : List ℕ) (from : ℕ) (hs : List Hole) → LieWithin from (length content) hs → All (IsHole count content) hs
    → Chain (HoleGood count content) (λ _ h. h.offset + width_size h.width) from hs
chained count content from [] within all = tt
chained count content from (h ∷ hs) within all = (
  record { hole = All-head (IsHole count content) h hs all; behind = within.0; within = within.1 },
  chained count content (h.offset + width_size h.width) hs within.2 (All-tail (IsHole count content) h hs all),
)
