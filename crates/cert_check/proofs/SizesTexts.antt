-- A sizes file has one value only.
use Rattle.std.proofs.Common.{◌≡◌, ℕ, suc, zero, ◌^◌, ◌<◌, ◌≤◌, List, [], ◌∷◌, ◌++◌, Result, Ok, Err, Some, refl, sym, subst, ◌∙◌, ap, length, map, arith, codes, decimal, rules, ◌⊎◌, inl, inr, slice_index}
use Rattle.std.specs.List.{AllByRecursion, slice_get}
use Rattle.std.specs.Str.Parse.{digits_value}
use Rattle.std.proofs.lemmas.Bool.{cases_lt}
use Rattle.std.proofs.lemmas.Fmt.{decimal_is_IsNumeral, decimal_digit, first_decimal}
use Rattle.std.proofs.lemmas.List.{length-map}
use Rattle.std.proofs.lemmas.Option.{slice_get_within, get_or_from_slice_get}
use Rattle.std.proofs.lemmas.List.Elements.{recursion_from_All, All-from_recursion}
use Rattle.cert_check.specs.FileTypes.{Statement, TextFault}
use Rattle.cert_check.specs.declared.shape.Statement.TheVariants.{Fixed, Jump, Short}
use Rattle.cert_check.specs.declared.text_fault.TextFault.TheVariants.{BadLine, NoMemory}
use Rattle.cert_check.specs.Choice.{IsShape, IsStatement}
use Rattle.cert_check.specs.Lines.{lines_text, BreaksAt}
use Rattle.cert_check.specs.Texts.{statement_line, sizes_header, end_line, sizes_lines, sizes_text, IsJumpLine, IsStatementLine, AreSizesLines, IsFarLine, IsFarAt, ReadsSizes}
use Rattle.cert_check.specs.Private.Reading.{IsPlain}
use Rattle.cert_check.proofs.Breaks.{IsGrammar, one_break, framed_plain, same_lines}
use Rattle.cert_check.proofs.CertTexts.{digits_plain, decimal_plain, unlike, same_rest, same_number}

statement_plain : (line : List ℕ) → IsStatementLine line → IsPlain line
statement_plain line (inl f) = subst IsPlain (sym f.3) (refl, (refl, decimal_plain f.0 (omega (arith, f.2))))
statement_plain line (inr j) = elim (j.1) [
  | inl jump ↦ subst IsPlain (sym jump.line_is) (refl, (refl, digits_plain jump.digits jump.is_number.numeral.1))
  | inr short ↦ subst IsPlain (sym short.line_is) (refl, (refl, digits_plain short.digits short.is_number.numeral.1))
]

no_end : (line : List ℕ) → IsStatementLine line → line ≡ end_line → ⊥
no_end line (inl f) e = unlike 0x46 0x45 _ _ refl (sym f.3 ∙ e)
no_end line (inr j) e = elim (j.1) [
  | inl jump ↦ unlike 0x4A 0x45 _ _ refl (sym jump.line_is ∙ e)
  | inr short ↦ unlike 0x53 0x45 _ _ refl (sym short.line_is ∙ e)
]

pub sizes_grammar : IsGrammar sizes_header IsStatementLine (λ line. line ≡ end_line) (λ count. count ≤ 20000)
sizes_grammar = record {
  header_plain = search rules;
  middle_plain = statement_plain;
  last_plain = λ line e. subst IsPlain (sym e) (refl, (refl, (refl, tt)));
  apart = no_end;
  fewer = λ few many le most. omega arith;
  no_lines = omega arith;
  some_last = end_line;
  is_last = refl;
}

one_zero : (t : ℕ) → t < 2 ^ 64 → slice_index (decimal t) 0 ≡ 0x30 → length (decimal t) ≡ 1
one_zero zero lt e = ap length (decimal_digit 0 (omega arith))
one_zero (suc t) lt e = let first = first_decimal (suc t) (omega arith) lt in absurd (omega arith)

jump_line : (word : List ℕ) (t : ℕ) → t < 2 ^ 64 → IsJumpLine word (word ++ decimal t) t
jump_line word t lt = record {
  digits = decimal t;
  is_number = record { numeral = (decimal_is_IsNumeral t lt).0; no_zero = λ zero. one_zero t lt zero };
  target_is = (decimal_is_IsNumeral t lt).1;
  line_is = refl;
}

in_line : (count : ℕ) (s : Statement) → count ≤ 20000 → IsStatement count s → IsStatementLine (statement_line s)
in_line count (Fixed n) few p = inl (n, p.0, p.1, refl)
in_line count (Jump t) few p = inr (t, inl (jump_line (codes "J ") t (omega arith)))
in_line count (Short t) few p = inr (t, inr (jump_line (codes "S ") t (omega arith)))

same_digits : (word : List ℕ) (t target : ℕ) → t < 2 ^ 64 → IsJumpLine word (word ++ decimal t) target → t ≡ target
same_digits word t target lt j = sym (decimal_is_IsNumeral t lt).1 ∙ ap (λ ds. digits_value 10 ds) (same_rest word (decimal t) j.digits j.line_is) ∙ j.target_is

pub not_far : (count : ℕ) (s : Statement) → count ≤ 20000 → IsStatement count s → IsFarLine count (statement_line s) → ⊥
not_far count (Fixed n) few p far = elim (far.2) [
  | inl jump ↦ unlike 0x46 0x4A _ _ refl jump.line_is
  | inr short ↦ unlike 0x46 0x53 _ _ refl short.line_is
]
not_far count (Jump t) few p far = elim (far.2) [
  | inl jump ↦ (let e = same_digits (codes "J ") t far.0 (omega arith) jump in let lt = far.1 in absurd (omega arith))
  | inr short ↦ unlike 0x4A 0x53 _ _ refl short.line_is
]
not_far count (Short t) few p far = elim (far.2) [
  | inl jump ↦ unlike 0x53 0x4A _ _ refl jump.line_is
  | inr short ↦ (let e = same_digits (codes "S ") t far.0 (omega arith) short in let lt = far.1 in absurd (omega arith))
]

in_lines : (count : ℕ) (shape : List Statement) → count ≤ 20000 → AllByRecursion (IsStatement count) shape → AllByRecursion IsStatementLine (map statement_line shape)
in_lines count [] few each = tt
in_lines count (s ∷ shape) few each = (in_line count s few each.0, in_lines count shape few each.1)

near_lines : (count : ℕ) (shape : List Statement) → count ≤ 20000 → AllByRecursion (IsStatement count) shape → AllByRecursion (λ line. ¬ IsFarLine count line) (map statement_line shape)
near_lines count [] few each = tt
near_lines count (s ∷ shape) few each = (not_far count s few each.0, near_lines count shape few each.1)

none_far : (count : ℕ) (shape : List Statement) → count ≤ 20000 → AllByRecursion (IsStatement count) shape → (i : ℕ) (line : List ℕ) → slice_get (map statement_line shape) i ≡ Some line → ¬ IsFarLine count line
none_far count shape few each i line stands far =
    let near = All-from_recursion (λ l. ¬ IsFarLine count l) (map statement_line shape) (near_lines count shape few each) in
    near i [] (slice_get_within (map statement_line shape) i line stands) (subst (IsFarLine count) (sym (get_or_from_slice_get (map statement_line shape) i line [] stands)) far)

pub shape_lines : (shape : List Statement) → IsShape shape → AreSizesLines (sizes_lines (map statement_line shape))
shape_lines shape s = record {
  middle = map statement_line shape;
  last = end_line;
  each = in_lines (length shape) shape s.few (recursion_from_All (IsStatement (length shape)) shape s.each);
  count = let few = s.few in omega (arith, length-map shape statement_line);
  ends = refl;
  lines_are = refl;
}

same_statement : (s t : Statement) (m n : ℕ) → m ≤ 20000 → n ≤ 20000 → IsStatement m s → IsStatement n t → statement_line s ≡ statement_line t → s ≡ t
same_statement (Fixed m) (Fixed n) k l a b p q e = let (_, u) = p in let (_, v) = q in ap Fixed (same_number (codes "F ") m n (omega arith) (omega arith) e)
same_statement (Jump m) (Jump n) k l a b p q e = ap Jump (same_number (codes "J ") m n (omega arith) (omega arith) e)
same_statement (Short m) (Short n) k l a b p q e = ap Short (same_number (codes "S ") m n (omega arith) (omega arith) e)
same_statement (Fixed m) (Jump n) k l a b p q e = absurd (unlike 0x46 0x4A _ _ refl e)
same_statement (Fixed m) (Short n) k l a b p q e = absurd (unlike 0x46 0x53 _ _ refl e)
same_statement (Jump m) (Fixed n) k l a b p q e = absurd (unlike 0x4A 0x46 _ _ refl e)
same_statement (Jump m) (Short n) k l a b p q e = absurd (unlike 0x4A 0x53 _ _ refl e)
same_statement (Short m) (Fixed n) k l a b p q e = absurd (unlike 0x53 0x46 _ _ refl e)
same_statement (Short m) (Jump n) k l a b p q e = absurd (unlike 0x53 0x4A _ _ refl e)

same_statements : (xs ys : List Statement) (m n : ℕ) → m ≤ 20000 → n ≤ 20000 → AllByRecursion (IsStatement m) xs → AllByRecursion (IsStatement n) ys → map statement_line xs ≡ map statement_line ys → xs ≡ ys
same_statements [] [] m n a b p q e = refl
same_statements [] (y ∷ ys) m n a b p q e = cc
same_statements (x ∷ xs) [] m n a b p q e = cc
same_statements (x ∷ xs) (y ∷ ys) m n a b p q e =
    let heads : statement_line x ≡ statement_line y = cc in
    let tails : map statement_line xs ≡ map statement_line ys = cc in
    cc (same_statement x y m n a b p.0 q.0 heads, same_statements xs ys m n a b p.1 q.1 tails)

no_front : (y : List ℕ) (ys : List (List ℕ)) (e : List ℕ) → [] ≡ ys ++ e ∷ [] → ⊥
no_front y [] e p = cc
no_front y (z ∷ ys) e p = cc

same_fronts : (xs ys : List (List ℕ)) (e : List ℕ) → xs ++ e ∷ [] ≡ ys ++ e ∷ [] → xs ≡ ys
same_fronts [] [] e p = refl
same_fronts [] (y ∷ ys) e p = let h : [] ≡ ys ++ e ∷ [] = cc in absurd (no_front y ys e h)
same_fronts (x ∷ xs) [] e p = let h : [] ≡ xs ++ e ∷ [] = cc in absurd (no_front x xs e h)
same_fronts (x ∷ xs) (y ∷ ys) e p =
    let tails : xs ++ e ∷ [] ≡ ys ++ e ∷ [] = cc in
    cc (same_fronts xs ys e tails)

-- two lists of statement lines with the same file are equal
same_middle : (xs ys : List (List ℕ)) → AreSizesLines (sizes_lines xs) → AreSizesLines (sizes_lines ys) → lines_text (sizes_lines xs) ≡ lines_text (sizes_lines ys) → xs ≡ ys
same_middle xs ys p q e =
    let lines = same_lines (sizes_lines xs) (sizes_lines ys) (framed_plain sizes_grammar (sizes_lines xs) p) (framed_plain sizes_grammar (sizes_lines ys) q) e in
    let tails : xs ++ end_line ∷ [] ≡ ys ++ end_line ∷ [] = cc (lines) in
    same_fronts xs ys end_line tails

-- a sizes file has one shape at most
pub same_shape : (xs ys : List Statement) → IsShape xs → IsShape ys → sizes_text xs ≡ sizes_text ys → xs ≡ ys
same_shape xs ys p q e =
    same_statements xs ys (length xs) (length ys) p.few q.few (recursion_from_All (IsStatement (length xs)) xs p.each) (recursion_from_All (IsStatement (length ys)) ys q.each)
    (same_middle (map statement_line xs) (map statement_line ys) (shape_lines xs p) (shape_lines ys q) e)

ok_or_far : (text : List ℕ) (shape : List Statement) (n : ℕ) → IsShape shape → text ≡ sizes_text shape → IsFarAt text n → ⊥
ok_or_far text shape n s e far =
    let same = same_middle far.statements (map statement_line shape) far.grammar (shape_lines shape s) (sym far.text_is ∙ e) in
    let count : length far.statements ≡ length shape = ap length same ∙ length-map shape statement_line in
    none_far (length shape) shape s.few (recursion_from_All (IsStatement (length shape)) shape s.each) far.index far.line (subst (λ ls. slice_get ls far.index ≡ Some far.line) same far.stands) (subst (λ k. IsFarLine k far.line) count far.far)

none_farther : (text : List ℕ) (m n : ℕ) (a : IsFarAt text m) (b : IsFarAt text n) → a.index < b.index → ⊥
none_farther text m n a b lt =
    let same = same_middle a.statements b.statements a.grammar b.grammar (sym a.text_is ∙ b.text_is) in
    b.first a.index a.line lt (subst (λ ls. slice_get ls a.index ≡ Some a.line) same a.stands) (subst (λ ls. IsFarLine (length ls) a.line) same a.far)

one_far : (text : List ℕ) (m n : ℕ) → IsFarAt text m → IsFarAt text n → m ≡ n
one_far text m n a b =
    elim (cases_lt a.index b.index) [
      | inl lt ↦ absurd (none_farther text m n a b lt)
      | inr ge ↦ elim (cases_lt b.index a.index) [
        | inl lt ↦ absurd (none_farther text n m b a lt)
        | inr le ↦ omega arith
      ]
    ]

one_bad_line : (text : List ℕ) (m n : ℕ) → BreaksAt AreSizesLines text m ⊎ IsFarAt text m → BreaksAt AreSizesLines text n ⊎ IsFarAt text n → m ≡ n
one_bad_line text m n (inl a) (inl b) = one_break sizes_grammar text m n a b
one_bad_line text m n (inl a) (inr b) = absurd (a.none (sizes_lines b.statements) b.grammar b.text_is)
one_bad_line text m n (inr a) (inl b) = absurd (b.none (sizes_lines a.statements) a.grammar a.text_is)
one_bad_line text m n (inr a) (inr b) = one_far text m n a b

no_bad_line : (text : List ℕ) (shape : List Statement) (n : ℕ) → IsShape shape → text ≡ sizes_text shape → BreaksAt AreSizesLines text n ⊎ IsFarAt text n → ⊥
no_bad_line text shape n s e (inl b) = b.none (sizes_lines (map statement_line shape)) (shape_lines shape s) e
no_bad_line text shape n s e (inr b) = ok_or_far text shape n s e b

pub one_answer : (text : List ℕ) (a b : Result (List Statement) TextFault) → ReadsSizes text a → ReadsSizes text b → a ≡ b
one_answer text (Ok x) (Ok y) a b = ap Ok (same_shape x y a.0 b.0 (sym a.1 ∙ b.1))
one_answer text (Ok x) (Err (BadLine n)) a b = absurd (no_bad_line text x n a.0 a.1 b)
one_answer text (Err (BadLine n)) (Ok y) a b = absurd (no_bad_line text y n b.0 b.1 a)
one_answer text (Err (BadLine m)) (Err (BadLine n)) a b = ap (λ k. Err (BadLine k)) (one_bad_line text m n a b)
one_answer text (Err NoMemory) b p q = absurd p
one_answer text (Ok x) (Err NoMemory) p q = absurd q
one_answer text (Err (BadLine n)) (Err NoMemory) p q = absurd q
