-- Labels, publics and externals: reading gives values with exactly these bytes, and reading the bytes of values gives these values.
use Rattle.std.proofs.Common.{◌≡◌, ◌≤◌, ◌<◌, ◌+◌, ℕ, zero, suc, true, false, not, List, [], ◌∷◌, ◌++◌, Result, Ok, Err, All, length, map, get_or, refl, sym, ap, subst, ◌∙◌, append_assoc, arith}
use Rattle.std.specs.List.{AllByRecursion, IsDistinct, flat_map, list_any}
use Rattle.std.specs.List.Sorted.{IsStrictlyIncreasing}
use Rattle.std.specs.Str.{bytes_eq}
use Rattle.std.proofs.lemmas.Bool.{and_parts, both_ways, false_from_ne_true, not-true, or_from}
use Rattle.std.proofs.lemmas.Cmp.{nat_list_eq_equiv}
use Rattle.std.proofs.lemmas.List.{append-nil}
use Rattle.std.proofs.lemmas.List.Elements.{All-cons, All-head, All-nil, All-tail}
use Rattle.std.proofs.lemmas.Map.Keys.{IsDistinct-head, IsDistinct-push, IsDistinct-tail}
use Rattle.std.proofs.lemmas.Slice.Eq.{bytes_eq-Decides}
use Rattle.zmo_object.specs.Modules.{Label}
use Rattle.zmo_object.specs.Rules.{IsLabel, IsObjectName}
use Rattle.zmo_object.specs.declared.field_fault.FieldFault.{FieldFault}
use Rattle.zmo_object.specs.Fields.Texts.{with_length, word_bytes}
use Rattle.zmo_object.specs.Fields.Field.{IsBytes, counted_at, many, number_at}
use Rattle.zmo_object.proofs.Fields.Taken.{Chain, Reads, Takes, counted_again, counted_takes, is_below, is_least, joins, kept_again, kept_takes, many_again, many_takes, number_again, number_takes, then_is, then_takes}
use Rattle.zmo_object.specs.Texts.{label_text}
use Rattle.zmo_object.specs.Reading.{Counts, Lists, externals_at, is_definable, is_new, label_field, labels_at, lists_at, name_at, public_at, publics_at, with_label, with_further_name}
use Rattle.zmo_object.proofs.Definable.{definable}

-- A name that no earlier label or external has.

IsNew : List (List ℕ) → List ℕ → Type 0
IsNew before name = list_any (bytes_eq name) before ≡ false

NameGood : List (List ℕ) → List ℕ → Type 0
NameGood before name = IsObjectName name × IsNew before name

LabelGood : ℕ → List (List ℕ) → Label → Type 0
LabelGood statements before l = IsLabel statements l × IsNew before l.name

weaker : {A : Type 0} {P Q : A → Type 0} (r : Result A FieldFault) → ((x : A) → P x → Q x) → Reads P r → Reads Q r
weaker (Ok x) to read = record { value = to x read.value }
weaker (Err f) to read = record { value = tt }

new_told : (before : List (List ℕ)) (name : List ℕ) → length name ≤ 255 → is_new before name ≡ true → NameGood before name
unfolding NameGood IsNew
new_told before name short e =
    let both = and_parts (is_definable name) (not (list_any (bytes_eq name) before)) e in
    (((definable name).0 both.0, short), not-true (list_any (bytes_eq name) before) both.1)

new_tests : (before : List (List ℕ)) (name : List ℕ) → NameGood before name → is_new before name ≡ true
unfolding NameGood IsNew
new_tests before name good = rw ((definable name).1 good.0.0, good.1) refl

name_takes : (before : List (List ℕ)) (bytes : List ℕ) → IsBytes bytes → Reads (Takes with_length (NameGood before) bytes) (name_at before bytes)
name_takes before bytes fits =
    weaker (name_at before bytes) (λ x t. (record { spelled = t.spelled; rest = t.rest; good = new_told before x.0 t.good.0.0 t.good.1 })) (kept_takes (is_new before) counted_at bytes (counted_takes bytes fits))

name_again : (before : List (List ℕ)) (name rest : List ℕ) → NameGood before name → name_at before (with_length name ++ rest) ≡ Ok (name, rest)
name_again before name rest good = kept_again (is_new before) counted_at (with_length name ++ rest) (name, rest) (counted_again name rest) (new_tests before name good)

label_takes : (statements : ℕ) (before : List (List ℕ)) (bytes : List ℕ) → IsBytes bytes → Reads (Takes label_text (LabelGood statements before) bytes) (label_field statements before bytes)
unfolding NameGood LabelGood
label_takes statements before bytes fits =
    then_takes (number_at 0 (statements + 1) bytes) _ (number_takes 0 (statements + 1) bytes fits) (λ statement first.
    then_takes (name_at before statement.1) _ (name_takes before statement.1 first.rest) (λ name second.
    let below = is_below 0 (statements + 1) statement.0 first.good.1 in
    (record {
      value = record {
        spelled = joins (word_bytes statement.0) (with_length name.0) statement.1 name.1 bytes first.spelled second.spelled;
        rest = second.rest;
        good = ((omega arith, second.good.0), second.good.1);
      };
    })))

label_laid : (statements : ℕ) (before : List (List ℕ)) (l : Label) (bytes more rest : List ℕ) → LabelGood statements before l
    → bytes ≡ word_bytes l.statement ++ more → more ≡ with_length l.name ++ rest → label_field statements before bytes ≡ Ok (l, rest)
unfolding NameGood LabelGood
label_laid statements before l bytes more rest good e1 e2 =
    then_is (l.statement, more) (number_at 0 (statements + 1) bytes) _ (ap (number_at 0 (statements + 1)) e1 ∙ number_again 0 (statements + 1) l.statement more (omega arith) (omega (arith, good.0.0)))
    (then_is (l.name, rest) (name_at before more) _ (ap (name_at before) e2 ∙ name_again before l.name rest (good.0.1, good.1)) refl)

label_again : (statements : ℕ) (before : List (List ℕ)) (l : Label) (rest : List ℕ) → LabelGood statements before l → label_field statements before (label_text l ++ rest) ≡ Ok (l, rest)
label_again statements before l rest good = label_laid statements before l (label_text l ++ rest) (with_length l.name ++ rest) rest good refl refl

-- If each name differs from all names before it, the names are distinct.

names_told : (before names : List (List ℕ)) → Chain NameGood with_further_name before names → IsDistinct bytes_eq before → All IsObjectName names × IsDistinct bytes_eq (before ++ names)
unfolding NameGood IsNew
names_told before [] good d = (All-nil IsObjectName, rw append-nil d)
names_told before (name ∷ names) good d =
    let others = names_told (before ++ name ∷ []) names good.1 (IsDistinct-push nat_list_eq_equiv before name d good.0.1) in
    (All-cons IsObjectName name names good.0.0 others.0, subst (IsDistinct bytes_eq) (append_assoc before (name ∷ []) names) others.1)

labels_told : (statements : ℕ) (before : List (List ℕ)) (ls : List Label) → Chain (LabelGood statements) with_label before ls → IsDistinct bytes_eq before
    → All (IsLabel statements) ls × IsDistinct bytes_eq (before ++ map (λ l. l.name) ls)
unfolding LabelGood IsNew
labels_told statements before [] good d = (All-nil (IsLabel statements), rw append-nil d)
labels_told statements before (l ∷ ls) good d =
    let others = labels_told statements (before ++ l.name ∷ []) ls good.1 (IsDistinct-push nat_list_eq_equiv before l.name d good.0.1) in
    (All-cons (IsLabel statements) l ls good.0.0 others.0, subst (IsDistinct bytes_eq) (append_assoc before (l.name ∷ []) (map (λ x. x.name) ls)) others.1)

one_of : (P : List ℕ → Type 0) (before : List (List ℕ)) (name : List ℕ) (more : List (List ℕ)) → AllByRecursion P (before ++ name ∷ more) → P name
one_of P [] name more all = all.0
one_of P (x ∷ before) name more all = one_of P before name more all.1

differ : (a b : List ℕ) → bytes_eq a b ≡ false → bytes_eq b a ≡ false
differ a b e = false_from_ne_true (bytes_eq b a) (λ same. both_ways (bytes_eq a b) e ((bytes_eq-Decides a b).1 (sym ((bytes_eq-Decides b a).0 same))))

apart : (before : List (List ℕ)) (name : List ℕ) (more : List (List ℕ)) → IsDistinct bytes_eq (before ++ name ∷ more) → IsNew before name
unfolding IsNew
apart [] name more d = refl
apart (x ∷ before) name more d =
    let other : bytes_eq x name ≡ false = one_of (λ y. bytes_eq x y ≡ false) before name more (IsDistinct-head bytes_eq x (before ++ name ∷ more) d) in
    or_from (bytes_eq name x) (list_any (bytes_eq name) before) (differ x name other) (apart before name more (IsDistinct-tail bytes_eq x (before ++ name ∷ more) d))

names_chained : (before names : List (List ℕ)) → All IsObjectName names → IsDistinct bytes_eq (before ++ names) → Chain NameGood with_further_name before names
unfolding NameGood
names_chained before [] all d = tt
names_chained before (name ∷ names) all d = (
  (All-head IsObjectName name names all, apart before name names d),
  names_chained (before ++ name ∷ []) names (All-tail IsObjectName name names all) (subst (IsDistinct bytes_eq) (sym (append_assoc before (name ∷ []) names)) d),
)

labels_chained : (statements : ℕ) (before : List (List ℕ)) (ls : List Label) (more : List (List ℕ)) → All (IsLabel statements) ls → IsDistinct bytes_eq (before ++ (map (λ l. l.name) ls ++ more))
    → Chain (LabelGood statements) with_label before ls
unfolding LabelGood
labels_chained statements before [] more all d = tt
labels_chained statements before (l ∷ ls) more all d = (
  (All-head (IsLabel statements) l ls all, apart before l.name (map (λ x. x.name) ls ++ more) d),
  labels_chained statements (before ++ l.name ∷ []) ls more (All-tail (IsLabel statements) l ls all) (subst (IsDistinct bytes_eq) (sym (append_assoc before (l.name ∷ []) (map (λ x. x.name) ls ++ more))) d),
)

-- The numbers of publics ascend.

PublicGood : ℕ → ℕ → ℕ → Type 0
PublicGood labels least p = (least ≤ p) × (p < labels)

public_takes : (labels least : ℕ) (bytes : List ℕ) → IsBytes bytes → Reads (Takes word_bytes (PublicGood labels least) bytes) (public_at labels least bytes)
unfolding PublicGood
public_takes labels least bytes fits =
    weaker (public_at labels least bytes) (λ x t. (record { spelled = t.spelled; rest = t.rest; good = (is_least least labels x.0 t.good.1, is_below least labels x.0 t.good.1) })) (number_takes least labels bytes fits)

public_again : (labels least p : ℕ) (rest : List ℕ) → PublicGood labels least p → public_at labels least (word_bytes p ++ rest) ≡ Ok (p, rest)
unfolding PublicGood
public_again labels least p rest good = number_again least labels p rest good.0 good.1

publics_below : (labels least : ℕ) (ps : List ℕ) → Chain (PublicGood labels) (λ _ p. p + 1) least ps → All (λ p. p < labels) ps
unfolding PublicGood
publics_below labels least [] good = All-nil (λ p. p < labels)
publics_below labels least (p ∷ ps) good = All-cons (λ p. p < labels) p ps good.0.1 (publics_below labels (p + 1) ps good.1)

ascend_at : (labels least : ℕ) (ps : List ℕ) → Chain (PublicGood labels) (λ _ p. p + 1) least ps → (k : ℕ) → k + 1 < length ps → get_or ps k 0 < get_or ps (k + 1) 0
unfolding PublicGood
ascend_at labels least [] good k lt = absurd (omega arith)
ascend_at labels least (p ∷ []) good k lt = absurd (omega arith)
ascend_at labels least (p ∷ q ∷ ps) good zero lt = omega (arith, good.1.0.0)
ascend_at labels least (p ∷ q ∷ ps) good (suc k) lt =
    let e : suc k + 1 ≡ suc (k + 1) = omega arith in
    rw e (ascend_at labels (p + 1) (q ∷ ps) good.1 k (omega arith))

publics_ascend : (labels least : ℕ) (ps : List ℕ) → Chain (PublicGood labels) (λ _ p. p + 1) least ps → IsStrictlyIncreasing ps
publics_ascend labels least ps good = ascend_at labels least ps good

others_ascend : (p : ℕ) (ps : List ℕ) → IsStrictlyIncreasing (p ∷ ps) → IsStrictlyIncreasing ps
others_ascend p ps up = λ k lt.
    let step : get_or (p ∷ ps) (suc k) 0 < get_or (p ∷ ps) (suc k + 1) 0 = up (suc k) (omega arith) in
    let e : suc k + 1 ≡ suc (k + 1) = omega arith in
    rw e at step

publics_chained : (labels least : ℕ) (ps : List ℕ) → All (λ p. p < labels) ps → IsStrictlyIncreasing ps → (0 < length ps → least ≤ get_or ps 0 0) → Chain (PublicGood labels) (λ _ p. p + 1) least ps
unfolding PublicGood
publics_chained labels least [] below up first = tt
publics_chained labels least (p ∷ ps) below up first = (
  (first (omega arith), All-head (λ p. p < labels) p ps below),
  publics_chained labels (p + 1) ps (All-tail (λ p. p < labels) p ps below) (others_ascend p ps up) (λ some. let step : p < get_or ps 0 0 = up 0 (omega arith) in omega arith),
)

-- The three lists of a module: labels, publics and externals.

pub record ListsGood (counts : Counts) (l : Lists) : Type 0 where
  pub label_count : length l.labels ≡ counts.labels
  pub public_count : length l.publics ≡ counts.publics
  pub external_count : length l.externals ≡ counts.externals
  pub labels : All (IsLabel counts.statements) l.labels
  pub public_labels : All (λ p. p < counts.labels) l.publics
  pub publics_ascend : IsStrictlyIncreasing l.publics
  pub externals : All IsObjectName l.externals
  pub distinct : IsDistinct bytes_eq (map (λ l. l.name) l.labels ++ l.externals)

abbrev pub lists_text : Lists → List ℕ
lists_text l = (flat_map label_text l.labels ++ flat_map word_bytes l.publics) ++ flat_map with_length l.externals

pub lists_take : (counts : Counts) (bytes : List ℕ) → IsBytes bytes → Reads (Takes lists_text (ListsGood counts) bytes) (lists_at counts bytes)
unfolding IsDistinct
lists_take counts bytes fits =
    then_takes (labels_at counts bytes) _ (many_takes (label_field counts.statements) with_label label_text (LabelGood counts.statements) (label_takes counts.statements) [] counts.labels bytes fits) (λ labels first.
    then_takes (publics_at counts labels.1) _ (many_takes (public_at counts.labels) (λ _ p. p + 1) word_bytes (PublicGood counts.labels) (public_takes counts.labels) 0 counts.publics labels.1 first.rest) (λ publics second.
    then_takes (externals_at counts (map (λ l. l.name) labels.0) publics.1) _
    (many_takes name_at with_further_name with_length NameGood name_takes (map (λ l. l.name) labels.0) counts.externals publics.1 second.rest) (λ externals third.
    let named = labels_told counts.statements [] labels.0 first.good.1 tt in
    let all = names_told (map (λ l. l.name) labels.0) externals.0 third.good.1 named.1 in
    (record {
      value = record {
        spelled = joins (flat_map label_text labels.0 ++ flat_map word_bytes publics.0) (flat_map with_length externals.0) publics.1 externals.1 bytes
            (joins (flat_map label_text labels.0) (flat_map word_bytes publics.0) labels.1 publics.1 bytes first.spelled second.spelled) third.spelled;
        rest = third.rest;
        good = record {
          label_count = first.good.0;
          public_count = second.good.0;
          external_count = third.good.0;
          labels = named.0;
          public_labels = publics_below counts.labels 0 publics.0 second.good.1;
          publics_ascend = publics_ascend counts.labels 0 publics.0 second.good.1;
          externals = all.0;
          distinct = all.1;
        };
      };
    }))))

lists_laid : (counts : Counts) (l : Lists) (bytes b1 b2 rest : List ℕ) → ListsGood counts l → counts.labels ≡ length l.labels → counts.publics ≡ length l.publics → counts.externals ≡ length l.externals
    → bytes ≡ flat_map label_text l.labels ++ b1 → b1 ≡ flat_map word_bytes l.publics ++ b2 → b2 ≡ flat_map with_length l.externals ++ rest → lists_at counts bytes ≡ Ok (l, rest)
lists_laid counts l bytes b1 b2 rest good c1 c2 c3 e1 e2 e3 =
    let labels = labels_chained counts.statements [] l.labels l.externals good.labels good.distinct in
    let publics = publics_chained counts.labels 0 l.publics good.public_labels good.publics_ascend (λ some. omega arith) in
    let names = names_chained (map (λ l. l.name) l.labels) l.externals good.externals good.distinct in
    then_is (l.labels, b1) (labels_at counts bytes) _
    (ap (λ n. many (label_field counts.statements) with_label [] n bytes) c1 ∙ ap (many (label_field counts.statements) with_label [] (length l.labels)) e1
    ∙ many_again (label_field counts.statements) with_label label_text (LabelGood counts.statements) (label_again counts.statements) [] l.labels b1 labels)
    (then_is (l.publics, b2) (publics_at counts b1) _
    (ap (λ n. many (public_at counts.labels) (λ _ p. p + 1) 0 n b1) c2 ∙ ap (many (public_at counts.labels) (λ _ p. p + 1) 0 (length l.publics)) e2
    ∙ many_again (public_at counts.labels) (λ _ p. p + 1) word_bytes (PublicGood counts.labels) (public_again counts.labels) 0 l.publics b2 publics)
    (then_is (l.externals, rest) (externals_at counts (map (λ l. l.name) l.labels) b2) _
    (ap (λ n. many name_at with_further_name (map (λ l. l.name) l.labels) n b2) c3 ∙ ap (many name_at with_further_name (map (λ l. l.name) l.labels) (length l.externals)) e3
    ∙ many_again name_at with_further_name with_length NameGood name_again (map (λ l. l.name) l.labels) l.externals rest names) refl))

pub lists_again : (counts : Counts) (l : Lists) (rest : List ℕ) → ListsGood counts l → lists_at counts (lists_text l ++ rest) ≡ Ok (l, rest)
lists_again counts l rest good =
    let names = flat_map with_length l.externals ++ rest in
    let regrouped : lists_text l ++ rest ≡ flat_map label_text l.labels ++ (flat_map word_bytes l.publics ++ names) =
    append_assoc (flat_map label_text l.labels ++ flat_map word_bytes l.publics) (flat_map with_length l.externals) rest ∙ append_assoc (flat_map label_text l.labels) (flat_map word_bytes l.publics) names in
    lists_laid counts l (lists_text l ++ rest) (flat_map word_bytes l.publics ++ names) names rest good (sym good.label_count) (sym good.public_count) (sym good.external_count) regrouped refl refl
