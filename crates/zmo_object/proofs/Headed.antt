-- The header of an object file: reading gives a header with exactly these bytes, and reading the bytes of a header gives this header.
use Rattle.std.proofs.Common.{◌≡◌, ◌≤◌, ◌<◌, ◌+◌, ◌-◌, ◌%◌, ◌==◌, ℕ, zero, suc, Bool, true, false, cond, leb, ltb, List, [], ◌∷◌, ◌++◌, Option, Some, None, Ok, length, refl, sym, ap, ◌∙◌, append_assoc, arith}
use Rattle.std.specs.Option.{IfSome, is_some}
use Rattle.std.proofs.lemmas.Bool.{ltb-true}
use Rattle.common.specs.declared.limits.TheConstants.{MOST_NAMES, MOST_STATEMENTS}
use Rattle.zmo_object.specs.Fields.Texts.{with_length, word_bytes}
use Rattle.zmo_object.specs.Fields.Field.{IsBytes, byte_field, counted_at, number_at, word_field}
use Rattle.zmo_object.proofs.Fields.Taken.{Reads, Takes, byte_takes, counted_again, counted_takes, is_below, joins, kept_again, kept_takes, number_again, number_takes, then_is, then_takes, word_again, word_takes}
use Rattle.zmo_object.specs.Texts.{entry_text}
use Rattle.zmo_object.specs.Reading.{Counts, Header, counts_at, entry_field, flags_at, header_at}

-- The four counts of a header.

abbrev pub counts_spelled : Counts → List ℕ
counts_spelled c = word_bytes c.statements ++ word_bytes c.labels ++ word_bytes c.publics ++ word_bytes c.externals

pub record CountsGood (c : Counts) : Type 0 where
  pub statements : c.statements ≤ MOST_STATEMENTS
  pub names : c.labels + c.externals ≤ MOST_NAMES

counts_take : (bytes : List ℕ) → IsBytes bytes → Reads (Takes counts_spelled CountsGood bytes) (counts_at bytes)
counts_take bytes fits =
    then_takes (number_at 0 (MOST_STATEMENTS + 1) bytes) _ (number_takes 0 (MOST_STATEMENTS + 1) bytes fits) (λ statements first.
    then_takes (number_at 0 (MOST_NAMES + 1) statements.1) _ (number_takes 0 (MOST_NAMES + 1) statements.1 first.rest) (λ labels second.
    then_takes (word_field labels.1) _ (word_takes labels.1 second.rest) (λ publics third.
    then_takes (number_at 0 (MOST_NAMES + 1 - labels.0) publics.1) _ (number_takes 0 (MOST_NAMES + 1 - labels.0) publics.1 third.rest) (λ externals fourth.
    let few = is_below 0 (MOST_STATEMENTS + 1) statements.0 first.good.1 in
    let room = is_below 0 (MOST_NAMES + 1 - labels.0) externals.0 fourth.good.1 in
    (record {
      value = record {
        spelled = joins (word_bytes statements.0 ++ word_bytes labels.0 ++ word_bytes publics.0) (word_bytes externals.0) publics.1 externals.1 bytes
            (joins (word_bytes statements.0 ++ word_bytes labels.0) (word_bytes publics.0) labels.1 publics.1 bytes
            (joins (word_bytes statements.0) (word_bytes labels.0) statements.1 labels.1 bytes first.spelled second.spelled) third.spelled) fourth.spelled;
        rest = fourth.rest;
        good = record { statements = omega arith; names = omega arith };
      };
    })))))

counts_laid : (c : Counts) (bytes b1 b2 b3 rest : List ℕ) → CountsGood c → bytes ≡ word_bytes c.statements ++ b1 → b1 ≡ word_bytes c.labels ++ b2 → b2 ≡ word_bytes c.publics ++ b3 → b3 ≡ word_bytes c.externals ++ rest
    → counts_at bytes ≡ Ok (c, rest)
counts_laid c bytes b1 b2 b3 rest good e1 e2 e3 e4 =
    let names = good.names in
    then_is (c.statements, b1) (number_at 0 (MOST_STATEMENTS + 1) bytes) _ (ap (number_at 0 (MOST_STATEMENTS + 1)) e1 ∙ number_again 0 (MOST_STATEMENTS + 1) c.statements b1 (omega arith) (omega (arith, good.statements)))
    (then_is (c.labels, b2) (number_at 0 (MOST_NAMES + 1) b1) _ (ap (number_at 0 (MOST_NAMES + 1)) e2 ∙ number_again 0 (MOST_NAMES + 1) c.labels b2 (omega arith) (omega arith))
    (then_is (c.publics, b3) (word_field b2) _ (ap word_field e3 ∙ word_again c.publics b3)
    (then_is (c.externals, rest) (number_at 0 (MOST_NAMES + 1 - c.labels) b3) _ (ap (number_at 0 (MOST_NAMES + 1 - c.labels)) e4 ∙ number_again 0 (MOST_NAMES + 1 - c.labels) c.externals rest (omega arith) (omega arith)) refl)))

-- The entry of a header.

EntryGood : Bool → ℕ → Option ℕ → Type 0
EntryGood has labels entry = (is_some entry ≡ has) × IfSome entry (λ e. e < labels)

entry_takes : (has : Bool) (labels : ℕ) (bytes : List ℕ) → IsBytes bytes → Reads (Takes entry_text (EntryGood has labels) bytes) (entry_field has labels bytes)
unfolding EntryGood
entry_takes false labels bytes fits = record { value = record { spelled = refl; rest = fits; good = (refl, tt) } }
entry_takes true labels bytes fits =
    then_takes (number_at 0 labels bytes) _ (number_takes 0 labels bytes fits) (λ label first.
    (record { value = record { spelled = first.spelled; rest = first.rest; good = (refl, is_below 0 labels label.0 first.good.1) } }))

entry_again : (entry : Option ℕ) (labels : ℕ) (bytes rest : List ℕ) → IfSome entry (λ e. e < labels) → bytes ≡ entry_text entry ++ rest → entry_field (is_some entry) labels bytes ≡ Ok (entry, rest)
entry_again None labels bytes rest below e = ap (λ b. Ok (None, b)) e
entry_again (Some label) labels bytes rest below e =
    then_is (label, rest) (number_at 0 labels bytes) _ (ap (number_at 0 labels) e ∙ number_again 0 labels label rest (omega arith) below) refl

-- The flags of a header.

abbrev pub flags_of : Bool → Bool → ℕ
flags_of begins has = cond begins 1 0 + cond has 2 0

flags_told : (f : ℕ) → f < 4 → flags_of (f % 2 == 1) (leb 2 f) ≡ f
flags_told zero lt = refl
flags_told (suc zero) lt = refl
flags_told (suc (suc zero)) lt = refl
flags_told (suc (suc (suc zero))) lt = refl
flags_told (suc (suc (suc (suc f)))) lt = absurd (omega arith)

flags_begin : (begins has : Bool) → (flags_of begins has % 2 == 1) ≡ begins
flags_begin true true = refl
flags_begin true false = refl
flags_begin false true = refl
flags_begin false false = refl

flags_have : (begins has : Bool) → leb 2 (flags_of begins has) ≡ has
flags_have true true = refl
flags_have true false = refl
flags_have false true = refl
flags_have false false = refl

flags_small : (begins has : Bool) → ltb (flags_of begins has) 4 ≡ true
flags_small true true = refl
flags_small true false = refl
flags_small false true = refl
flags_small false false = refl

-- The whole header, without its first four bytes.

abbrev pub header_spelled : Header → List ℕ
header_spelled h = with_length h.name ++ flags_of h.begins (is_some h.entry) ∷ counts_spelled h.counts ++ entry_text h.entry

pub record HeaderGood (h : Header) : Type 0 where
  pub name : length h.name ≤ 255
  pub counts : CountsGood h.counts
  pub entry : IfSome h.entry (λ e. e < h.counts.labels)

pub header_takes : (bytes : List ℕ) → IsBytes bytes → Reads (Takes header_spelled HeaderGood bytes) (header_at bytes)
unfolding EntryGood
header_takes bytes fits =
    then_takes (counted_at bytes) _ (counted_takes bytes fits) (λ name first.
    then_takes (flags_at name.1) _ (kept_takes (λ f. ltb f 4) byte_field name.1 (byte_takes name.1 first.rest)) (λ flags second.
    then_takes (counts_at flags.1) _ (counts_take flags.1 second.rest) (λ counts third.
    then_takes (entry_field (leb 2 flags.0) counts.0.labels counts.1) _ (entry_takes (leb 2 flags.0) counts.0.labels counts.1 third.rest) (λ entry fourth.
    let front : name.1 ≡ (flags.0 ∷ counts_spelled counts.0) ++ counts.1 = joins (flags.0 ∷ []) (counts_spelled counts.0) flags.1 counts.1 name.1 second.spelled third.spelled in
    let whole : bytes ≡ ((with_length name.0 ++ flags.0 ∷ counts_spelled counts.0) ++ entry_text entry.0) ++ entry.1 =
    joins (with_length name.0 ++ flags.0 ∷ counts_spelled counts.0) (entry_text entry.0) counts.1 entry.1 bytes
    (joins (with_length name.0) (flags.0 ∷ counts_spelled counts.0) name.1 counts.1 bytes first.spelled front) fourth.spelled in
    let same : flags.0 ≡ flags_of (flags.0 % 2 == 1) (is_some entry.0) =
    sym (flags_told flags.0 (ltb-true flags.0 4 second.good.1)) ∙ ap (flags_of (flags.0 % 2 == 1)) (sym fourth.good.0) in
    (record {
      value = record {
        spelled = whole ∙ ap (λ f. ((with_length name.0 ++ f ∷ counts_spelled counts.0) ++ entry_text entry.0) ++ entry.1) same;
        rest = fourth.rest;
        good = record { name = first.good.0; counts = third.good; entry = fourth.good.1 };
      };
    })))))

header_laid : (h : Header) (bytes b1 b2 b3 b4 rest : List ℕ) → HeaderGood h → bytes ≡ with_length h.name ++ b1 → b1 ≡ flags_of h.begins (is_some h.entry) ∷ b2 → counts_at b2 ≡ Ok (h.counts, b3)
    → b3 ≡ entry_text h.entry ++ rest → header_at bytes ≡ Ok (h, rest)
header_laid h bytes b1 b2 b3 b4 rest good e1 e2 e3 e4 =
    let f = flags_of h.begins (is_some h.entry) in
    then_is (h.name, b1) (counted_at bytes) _ (ap counted_at e1 ∙ counted_again h.name b1)
    (then_is (f, b2) (flags_at b1) _ (kept_again (λ k. ltb k 4) byte_field b1 (f, b2) (ap byte_field e2) (flags_small h.begins (is_some h.entry)))
    (then_is (h.counts, b3) (counts_at b2) _ e3
    (then_is (h.entry, rest) (entry_field (leb 2 f) h.counts.labels b3) _
    (ap (λ has. entry_field has h.counts.labels b3) (flags_have h.begins (is_some h.entry)) ∙ entry_again h.entry h.counts.labels b3 rest good.entry e4)
    (ap (λ begins. Ok (record { name = h.name; begins = begins; counts = h.counts; entry = h.entry }, rest)) (flags_begin h.begins (is_some h.entry))))))

pub header_again : (h : Header) (rest : List ℕ) → HeaderGood h → header_at (header_spelled h ++ rest) ≡ Ok (h, rest)
header_again h rest good =
    let f = flags_of h.begins (is_some h.entry) in
    let entry = entry_text h.entry ++ rest in
    let b2 = counts_spelled h.counts ++ entry in
    let regrouped : header_spelled h ++ rest ≡ with_length h.name ++ (f ∷ b2) =
    append_assoc (with_length h.name ++ f ∷ counts_spelled h.counts) (entry_text h.entry) rest ∙ append_assoc (with_length h.name) (f ∷ counts_spelled h.counts) entry in
    header_laid h (header_spelled h ++ rest) (f ∷ b2) b2 entry [] rest good regrouped refl
    (counts_laid h.counts b2 _ _ _ entry good.counts refl refl refl refl) refl
