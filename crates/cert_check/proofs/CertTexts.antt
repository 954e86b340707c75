-- A certificate has one value only.
use Rattle.std.proofs.Common.{◌≡◌, ℕ, ◌^◌, ◌<◌, List, [], ◌∷◌, ◌++◌, false, ◌==◌, Result, Ok, Err, refl, sym, subst, ◌∙◌, ap, map, arith, codes, decimal, rules}
use Rattle.std.specs.List.{AllByRecursion}
use Rattle.std.specs.Str.Parse.{AllDigits}
use Rattle.std.proofs.lemmas.Bool.{ne_eqb, false≢true, eq-eqb}
use Rattle.std.proofs.lemmas.Fmt.{decimal_injective, decimal_is_IsNumeral}
use Rattle.std.proofs.lemmas.List.Elements.{recursion_from_All}
use Rattle.std.proofs.lemmas.Str.Parse.{digit_from_value}
use Rattle.cert_check.specs.FileTypes.{Verdict, TextFault}
use Rattle.cert_check.specs.declared.cert.Verdict.TheVariants.{Best, Range, TooLarge}
use Rattle.cert_check.specs.declared.text_fault.TextFault.TheVariants.{BadLine, NoMemory}
use Rattle.cert_check.specs.Lines.{line_feed}
use Rattle.cert_check.specs.Texts.{forced_line, verdict_line, verdict_number, cert_header, IsCert, IsForcedLine, IsVerdictLine, AreCertLines, ReadsCert}
use Rattle.cert_check.specs.Private.Reading.{IsPlain}
use Rattle.cert_check.proofs.Breaks.{IsGrammar, one_break, framed_plain, same_lines}

pub digits_plain : (ds : List ℕ) → AllDigits 10 ds → IsPlain ds
digits_plain [] d = tt
digits_plain (c ∷ cs) d = let k = digit_from_value c d.0 in (ne_eqb c line_feed (λ e. absurd (omega arith)), digits_plain cs d.1)

pub decimal_plain : (n : ℕ) → n < 2 ^ 64 → IsPlain (decimal n)
decimal_plain n lt = let h = (decimal_is_IsNumeral n lt).0 in digits_plain (decimal n) (h.1)

verdict_plain : (v : Verdict) → verdict_number v < 2 ^ 32 → IsPlain (verdict_line v)
verdict_plain (Best n) lt = (refl, (refl, (refl, (refl, (refl, decimal_plain n (omega arith))))))
verdict_plain (Range n) lt = (refl, (refl, (refl, (refl, (refl, (refl, decimal_plain n (omega arith)))))))
verdict_plain (TooLarge n) lt = (refl, (refl, (refl, (refl, (refl, decimal_plain n (omega arith))))))

-- lists that begin with different bytes
pub unlike : (x y : ℕ) (xs ys : List ℕ) → (x == y) ≡ false → x ∷ xs ≡ y ∷ ys → ⊥
unlike x y xs ys differ e = let h : x ≡ y = cc in false≢true (sym differ ∙ eq-eqb x y h)

no_forced : (v : Verdict) (k : ℕ) → forced_line k ≡ verdict_line v → ⊥
no_forced (Best n) k e = unlike 0x4C 0x42 _ _ refl e
no_forced (Range n) k e = unlike 0x4C 0x52 _ _ refl e
no_forced (TooLarge n) k e = unlike 0x4C 0x53 _ _ refl e

pub cert_grammar : IsGrammar cert_header IsForcedLine IsVerdictLine (λ _. Unit {0})
cert_grammar = record {
  header_plain = search rules;
  middle_plain = λ line f. subst IsPlain (sym f.2) (refl, (refl, decimal_plain f.0 (omega (arith, f.1))));
  last_plain = λ line v. subst IsPlain (sym v.2) (verdict_plain v.0 v.1);
  apart = λ line f v. no_forced v.0 f.0 (sym f.2 ∙ v.2);
  fewer = λ _ _ _ _. tt;
  no_lines = tt;
  some_last = verdict_line (Best 0);
  is_last = (Best 0, omega arith, refl);
}

pub in_order : (order : List ℕ) → AllByRecursion (λ k. k < 2 ^ 32) order → AllByRecursion IsForcedLine (map forced_line order)
in_order [] p = tt
in_order (k ∷ order) p = ((k, p.0, refl), in_order order p.1)

pub cert_lines : (order : List ℕ) (v : Verdict) → IsCert order v → AreCertLines (cert_header ∷ map forced_line order ++ verdict_line v ∷ [])
cert_lines order v c = record {
  middle = map forced_line order;
  last = verdict_line v;
  each = in_order order (recursion_from_All (λ k. k < 2 ^ 32) order c.members);
  count = tt;
  ends = (v, c.number, refl);
  lines_are = refl;
}

pub same_rest : (word a b : List ℕ) → word ++ a ≡ word ++ b → a ≡ b
same_rest [] a b e = e
same_rest (x ∷ word) a b e = let tails : word ++ a ≡ word ++ b = cc in same_rest word a b tails

pub same_number : (word : List ℕ) (m n : ℕ) → m < 2 ^ 32 → n < 2 ^ 32 → word ++ decimal m ≡ word ++ decimal n → m ≡ n
same_number word m n a b e = decimal_injective m n (omega arith) (omega arith) (same_rest word (decimal m) (decimal n) e)

same_verdict : (v w : Verdict) → verdict_number v < 2 ^ 32 → verdict_number w < 2 ^ 32 → verdict_line v ≡ verdict_line w → v ≡ w
same_verdict (Best m) (Best n) a b e = ap Best (same_number (codes "BEST ") m n a b e)
same_verdict (Range m) (Range n) a b e = ap Range (same_number (codes "RANGE ") m n a b e)
same_verdict (TooLarge m) (TooLarge n) a b e = ap TooLarge (same_number (codes "SIZE ") m n a b e)
same_verdict (Best m) (Range n) a b e = absurd (unlike 0x42 0x52 _ _ refl e)
same_verdict (Best m) (TooLarge n) a b e = absurd (unlike 0x42 0x53 _ _ refl e)
same_verdict (Range m) (Best n) a b e = absurd (unlike 0x52 0x42 _ _ refl e)
same_verdict (Range m) (TooLarge n) a b e = absurd (unlike 0x52 0x53 _ _ refl e)
same_verdict (TooLarge m) (Best n) a b e = absurd (unlike 0x53 0x42 _ _ refl e)
same_verdict (TooLarge m) (Range n) a b e = absurd (unlike 0x53 0x52 _ _ refl e)

same_order : (order other : List ℕ) (v w : Verdict) → AllByRecursion (λ k. k < 2 ^ 32) order → AllByRecursion (λ k. k < 2 ^ 32) other → map forced_line order ++ verdict_line v ∷ [] ≡ map forced_line other ++ verdict_line w ∷ [] → (order ≡ other) × (verdict_line v ≡ verdict_line w)
same_order [] [] v w p q e = (refl, cc)
same_order [] (k ∷ other) v w p q e = let h : verdict_line v ≡ forced_line k = cc in absurd (no_forced v k (sym h))
same_order (k ∷ order) [] v w p q e = let h : forced_line k ≡ verdict_line w = cc in absurd (no_forced w k h)
same_order (k ∷ order) (j ∷ other) v w p q e =
    let heads : forced_line k ≡ forced_line j = cc in
    let tails : map forced_line order ++ verdict_line v ∷ [] ≡ map forced_line other ++ verdict_line w ∷ [] = cc in
    let same = same_number (codes "L ") k j p.0 q.0 heads in
    let rest = same_order order other v w p.1 q.1 tails in
    let orders : ◌≡◌ {A = List ℕ} (k ∷ order) (j ∷ other) = cc (same, rest.0) in
    (orders, rest.1)

same_pair : (x y : List ℕ × Verdict) → x.0 ≡ y.0 → x.1 ≡ y.1 → x ≡ y
same_pair x y a b = ap (λ o. (o, x.1)) a ∙ ap (λ v. (y.0, v)) b

pub one_answer : (text : List ℕ) (a b : Result (List ℕ × Verdict) TextFault) → ReadsCert text a → ReadsCert text b → a ≡ b
one_answer text (Ok x) (Ok y) a b =
    let lines = same_lines (cert_header ∷ map forced_line x.0 ++ verdict_line x.1 ∷ []) (cert_header ∷ map forced_line y.0 ++ verdict_line y.1 ∷ []) (framed_plain cert_grammar _ (cert_lines x.0 x.1 a.0)) (framed_plain cert_grammar _ (cert_lines y.0 y.1 b.0)) (sym a.1 ∙ b.1) in
    let tails : map forced_line x.0 ++ verdict_line x.1 ∷ [] ≡ map forced_line y.0 ++ verdict_line y.1 ∷ [] = cc (lines) in
    let both = same_order x.0 y.0 x.1 y.1 (recursion_from_All (λ k. k < 2 ^ 32) x.0 a.0.members) (recursion_from_All (λ k. k < 2 ^ 32) y.0 b.0.members) tails in
    ap Ok (same_pair x y both.0 (same_verdict x.1 y.1 a.0.number b.0.number both.1))
one_answer text (Ok x) (Err (BadLine n)) a b = absurd (b.none (cert_header ∷ map forced_line x.0 ++ verdict_line x.1 ∷ []) (cert_lines x.0 x.1 a.0) a.1)
one_answer text (Err (BadLine n)) (Ok y) a b = absurd (a.none (cert_header ∷ map forced_line y.0 ++ verdict_line y.1 ∷ []) (cert_lines y.0 y.1 b.0) b.1)
one_answer text (Err (BadLine m)) (Err (BadLine n)) a b = ap (λ k. Err (BadLine k)) (one_break cert_grammar text m n a b)
one_answer text (Err NoMemory) b p q = absurd p
one_answer text (Ok x) (Err NoMemory) p q = absurd q
one_answer text (Err (BadLine n)) (Err NoMemory) p q = absurd q
