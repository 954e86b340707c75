-- Fields: reading gives a value whose bytes are those that were read, and reading the bytes of a value gives this value.
use Rattle.std.proofs.Common.{◌≡◌, ◌≤◌, ◌<◌, ◌+◌, ◌*◌, ◌/◌, ◌%◌, ◌&&◌, ℕ, zero, suc, Bool, true, false, cond, ltb, leb, List, [], ◌∷◌, ◌++◌, Option, Some, None, Result, Ok, Err, length, take, drop, refl, sym, ap, ◌∙◌, append_assoc, arith}
use Rattle.std.specs.Option.{IfSome}
use Rattle.std.specs.Result.{IfOk}
use Rattle.std.specs.List.{flat_map}
use Rattle.std.proofs.lemmas.Bool.{and_parts, le-leb, le-ltb, leb-true, lt-ltb, ltb-false, ltb-true, cond-true}
use Rattle.std.proofs.lemmas.List.{drop_at, length-append, length-take, take-append-drop, take_at}
use Rattle.std.proofs.lemmas.List.Elements.{All-drop, All-head, All-tail, All-take}
use Rattle.common.specs.Results.{◌>>=◌}
use Rattle.zmo_object.specs.declared.field_fault.FieldFault.{FieldFault}
use Rattle.zmo_object.specs.declared.field_fault.FieldFault.TheVariants as fault
use Rattle.zmo_object.specs.Fields.Texts.{with_length, word_bytes}
use Rattle.zmo_object.specs.Fields.Field.{Field, IsBytes, byte_field, bytes_field, code_field, counted_at, field_if_some, judged, tested_field, many, number_at, word_field}

-- The bytes are those of the value x.0 with x.1 after them, x.1 are bytes, and the value is good.
pub record Takes {A : Type 0} (text : A → List ℕ) (Good : A → Type 0) (bytes : List ℕ) (x : A × List ℕ) : Type 0 where
  pub spelled : bytes ≡ text x.0 ++ x.1
  pub rest : IsBytes x.1
  pub good : Good x.0

-- if reading succeeds, P holds of what was read
pub record Reads {A : Type 0} (P : A → Type 0) (r : Result A FieldFault) : Type 0 where
  pub value : IfOk r P

-- if the first read gives P, and the second gives Q after any P, then both together give Q

pub then_takes : {A B : Type 0} {P : A → Type 0} {Q : B → Type 0} (r : Result A FieldFault) (f : A → Result B FieldFault) → Reads P r → ((x : A) → P x → Reads Q (f x)) → Reads Q (r >>= f)
then_takes (Ok x) f p q = q x p.value
then_takes (Err e) f p q = record { value = tt }

pub then_is : {A B : Type 0} {y : Result B FieldFault} (x : A) (r : Result A FieldFault) (f : A → Result B FieldFault) → r ≡ Ok x → f x ≡ y → (r >>= f) ≡ y
then_is x r f e h = ap (λ q. q >>= f) e ∙ h

pub joins : (first second behind rest bytes : List ℕ) → bytes ≡ first ++ behind → behind ≡ second ++ rest → bytes ≡ (first ++ second) ++ rest
joins first second behind rest bytes e d = e ∙ ap (λ more. first ++ more) d ∙ sym (append_assoc first second rest)

-- Fields of bytes, words and counted bytes.

pub byte_takes : (bytes : List ℕ) → IsBytes bytes → Reads (Takes (λ b. b ∷ []) (λ b. b < 256) bytes) (byte_field bytes)
byte_takes [] fits = record { value = tt }
byte_takes (b ∷ rest) fits = record { value = record { spelled = refl; rest = All-tail (λ c. c < 256) b rest fits; good = All-head (λ c. c < 256) b rest fits } }

pub word_takes : (bytes : List ℕ) → IsBytes bytes → Reads (Takes word_bytes (λ n. n < 65536) bytes) (word_field bytes)
word_takes [] fits = record { value = tt }
word_takes (low ∷ []) fits = record { value = tt }
word_takes (low ∷ high ∷ rest) fits =
    let behind = All-tail (λ c. c < 256) low (high ∷ rest) fits in
    let a : low < 256 = All-head (λ c. c < 256) low (high ∷ rest) fits in
    let b : high < 256 = All-head (λ c. c < 256) high rest behind in
    let first : low ≡ (low + 256 * high) % 256 = omega arith in
    let second : high ≡ (low + 256 * high) / 256 = omega arith in
    record { value = record { spelled = cc; rest = All-tail (λ c. c < 256) high rest behind; good = omega arith } }

pub word_again : (n : ℕ) (rest : List ℕ) → word_field (word_bytes n ++ rest) ≡ Ok (n, rest)
word_again n rest = let same : n % 256 + 256 * (n / 256) ≡ n = omega arith in ap (λ k. Ok (k, rest)) same

pub kept_takes : {A : Type 0} {text : A → List ℕ} {Good : A → Type 0} (rule : A → Bool) (reads : List ℕ → Field A) (bytes : List ℕ) → Reads (Takes text Good bytes) (reads bytes)
    → Reads (Takes text (λ x. Good x × (rule x ≡ true)) bytes) (tested_field rule reads bytes)
kept_takes {A = A} {text = text} {Good = Good} rule reads bytes taken = then_takes (reads bytes) _ taken (λ x t. judged_takes x t (rule x.0) refl)
  where
    judged_takes : (x : A × List ℕ) → Takes text Good bytes x → (b : Bool) → rule x.0 ≡ b → Reads (Takes text (λ y. Good y × (rule y ≡ true)) bytes) (judged b bytes x)
    judged_takes x t true e = record { value = record { spelled = t.spelled; rest = t.rest; good = (t.good, e) } }
    judged_takes x t false e = record { value = tt }

pub kept_again : {A : Type 0} (rule : A → Bool) (reads : List ℕ → Field A) (bytes : List ℕ) (x : A × List ℕ) → reads bytes ≡ Ok x → rule x.0 ≡ true → tested_field rule reads bytes ≡ Ok x
kept_again rule reads bytes x e good = then_is x (reads bytes) _ e (cond-true (rule x.0) (Ok x) (Err (fault.BadField (length bytes))) good)

pub number_takes : (least limit : ℕ) (bytes : List ℕ) → IsBytes bytes → Reads (Takes word_bytes (λ n. (n < 65536) × ((leb least n && ltb n limit) ≡ true)) bytes) (number_at least limit bytes)
number_takes least limit bytes fits = kept_takes (λ n. leb least n && ltb n limit) word_field bytes (word_takes bytes fits)

pub is_least : (least limit n : ℕ) → (leb least n && ltb n limit) ≡ true → least ≤ n
is_least least limit n e = leb-true least n (and_parts (leb least n) (ltb n limit) e).0

pub is_below : (least limit n : ℕ) → (leb least n && ltb n limit) ≡ true → n < limit
is_below least limit n e = ltb-true n limit (and_parts (leb least n) (ltb n limit) e).1

pub number_again : (least limit n : ℕ) (rest : List ℕ) → least ≤ n → n < limit → number_at least limit (word_bytes n ++ rest) ≡ Ok (n, rest)
number_again least limit n rest le lt =
    kept_again (λ k. leb least k && ltb k limit) word_field (word_bytes n ++ rest) (n, rest) (word_again n rest) (rw (le-leb least n le, lt-ltb n limit lt) refl)

pub bytes_takes : (len : ℕ) (bytes : List ℕ) → IsBytes bytes → Reads (Takes (λ b. b) (λ b. (length b ≡ len) × IsBytes b) bytes) (bytes_field len bytes)
bytes_takes len bytes fits = by (ltb (length bytes) len) refl
  where
    by : (b : Bool) → ltb (length bytes) len ≡ b → Reads (Takes (λ b. b) (λ b. (length b ≡ len) × IsBytes b) bytes) (cond b (Err fault.Truncated) (Ok (take len bytes, drop len bytes)))
    by true e = record { value = tt }
    by false e =
        let le = ltb-false (length bytes) len e in
        record { value = record { spelled = sym (take-append-drop len bytes); rest = All-drop (λ c. c < 256) len bytes fits; good = (omega (arith, length-take len bytes), All-take (λ c. c < 256) len bytes fits) } }

pub bytes_again : (bytes rest : List ℕ) → bytes_field (length bytes) (bytes ++ rest) ≡ Ok (bytes, rest)
bytes_again bytes rest =
    let le : length bytes ≤ length (bytes ++ rest) = omega (arith, length-append bytes rest) in
    rw (le-ltb (length (bytes ++ rest)) (length bytes) le, take_at, drop_at) refl

pub counted_takes : (bytes : List ℕ) → IsBytes bytes → Reads (Takes with_length (λ b. (length b ≤ 255) × IsBytes b) bytes) (counted_at bytes)
counted_takes bytes fits =
    then_takes (byte_field bytes) _ (byte_takes bytes fits) (λ len first.
    after len first (bytes_field len.0 len.1) (bytes_takes len.0 len.1 first.rest))
  where
    after : (len : ℕ × List ℕ) → Takes (λ b. b ∷ []) (λ b. b < 256) bytes len → (r : Field (List ℕ)) → Reads (Takes (λ b. b) (λ b. (length b ≡ len.0) × IsBytes b) len.1) r → Reads (Takes with_length (λ b. (length b ≤ 255) × IsBytes b) bytes) r
    after len first (Err f) second = record { value = tt }
    after len first (Ok x) second = record {
      value = record {
        spelled = first.spelled ∙ ap (λ more. len.0 ∷ more) second.value.spelled ∙ ap (λ n. n ∷ x.0 ++ x.1) (sym second.value.good.0);
        rest = second.value.rest;
        good = (omega (arith, first.good, second.value.good.0), second.value.good.1);
      };
    }

pub counted_again : (bytes rest : List ℕ) → counted_at (with_length bytes ++ rest) ≡ Ok (bytes, rest)
counted_again bytes rest = bytes_again bytes rest

pub coded_takes : {A : Type 0} (value : ℕ → Option A) (code : A → ℕ) → ((c : ℕ) → IfSome (value c) (λ x. code x ≡ c)) → (bytes : List ℕ) → IsBytes bytes
    → Reads (Takes (λ x. code x ∷ []) (λ x. value (code x) ≡ Some x) bytes) (code_field value bytes)
coded_takes {A = A} value code table bytes fits = then_takes (byte_field bytes) _ (byte_takes bytes fits) (λ c first. by c first (value c.0) refl (table c.0))
  where
    by : (c : ℕ × List ℕ) → Takes (λ b. b ∷ []) (λ b. b < 256) bytes c → (found : Option A) → value c.0 ≡ found → IfSome found (λ x. code x ≡ c.0) → Reads (Takes (λ x. code x ∷ []) (λ x. value (code x) ≡ Some x) bytes) (field_if_some found bytes c.1)
    by c first None e same = record { value = tt }
    by c first (Some x) e same = record {
      value = record {
        spelled = first.spelled ∙ ap (λ n. n ∷ c.1) (sym same);
        rest = first.rest;
        good = ap value same ∙ e;
      };
    }

pub coded_again : {A : Type 0} (value : ℕ → Option A) (code : A → ℕ) (x : A) (rest : List ℕ) → value (code x) ≡ Some x → code_field value (code x ∷ rest) ≡ Ok (x, rest)
coded_again value code x rest e = ap (λ found. field_if_some found (code x ∷ rest) rest) e

-- Each field of the list is good in the state that the fields before it leave.
abbrev pub Chain : {A S : Type 0} → (S → A → Type 0) → (S → A → S) → S → List A → Type 0
Chain Good next s [] = Unit {0}
Chain Good next s (x ∷ xs) = Good s x × Chain Good next (next s x) xs

module _ {A S : Type 0} (reads : S → List ℕ → Field A) (next : S → A → S) (text : A → List ℕ) (Good : S → A → Type 0) where
  abbrev pub AllGood : S → ℕ → List A → Type 0
  AllGood s n xs = (length xs ≡ n) × Chain Good next s xs

  pub many_takes : ((s : S) (bytes : List ℕ) → IsBytes bytes → Reads (Takes text (Good s) bytes) (reads s bytes))
      → (s : S) (n : ℕ) (bytes : List ℕ) → IsBytes bytes → Reads (Takes (flat_map text) (AllGood s n) bytes) (many reads next s n bytes)
  unfolding many
  many_takes one s zero bytes fits = record { value = record { spelled = refl; rest = fits; good = (refl, tt) } }
  many_takes one s (suc n) bytes fits =
      then_takes (reads s bytes) _ (one s bytes fits) (λ x first.
      then_takes (many reads next (next s x.0) n x.1) _ (many_takes one (next s x.0) n x.1 first.rest) (λ more others. (record {
        value = record {
          spelled = joins (text x.0) (flat_map text more.0) x.1 more.1 bytes first.spelled others.spelled;
          rest = others.rest;
          good = (ap suc others.good.0, (first.good, others.good.1));
        };
      })))

  pub many_again : ((s : S) (x : A) (rest : List ℕ) → Good s x → reads s (text x ++ rest) ≡ Ok (x, rest))
      → (s : S) (xs : List A) (rest : List ℕ) → Chain Good next s xs → many reads next s (length xs) (flat_map text xs ++ rest) ≡ Ok (xs, rest)
  unfolding many
  many_again one s [] rest good = refl
  many_again one s (x ∷ xs) rest good =
      ap (many reads next s (suc (length xs))) (append_assoc (text x) (flat_map text xs) rest)
      ∙ then_is (x, flat_map text xs ++ rest) (reads s (text x ++ (flat_map text xs ++ rest))) _ (one s x (flat_map text xs ++ rest) good.0)
      (then_is (xs, rest) (many reads next (next s x) (length xs) (flat_map text xs ++ rest)) _ (many_again one (next s x) xs rest good.1) refl)
