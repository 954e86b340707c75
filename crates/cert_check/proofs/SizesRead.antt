-- How a sizes file is read line by line.
use Rattle.std.proofs.Common.{◌≡◌, ◌≢◌, ℕ, suc, zero, ◌+◌, ◌^◌, ◌<◌, ◌≤◌, List, [], ◌∷◌, ◌++◌, Option, Some, None, refl, sym, subst, ◌∙◌, ap, length, map, take, arith, codes, decimal, All, inl, inr, MatchOption}
use Rattle.std.specs.List.{AllByRecursion, slice_get}
use Rattle.std.specs.Str.Parse.{AllDigits, digits_value}
use Rattle.std.proofs.lemmas.Fmt.{decimal-digits_value}
use Rattle.std.proofs.lemmas.Grind.{flat_map-append}
use Rattle.std.proofs.lemmas.List.{take_all, length_push}
use Rattle.std.proofs.lemmas.List.Elements.{recursion_from_All}
use Rattle.std.proofs.lemmas.Str.Parse.{numerals_by_value, tells_digits}
use Rattle.cert_check.specs.FileTypes.{Statement}
use Rattle.cert_check.specs.declared.shape.Statement.TheVariants.{Fixed, Jump, Short}
use Rattle.cert_check.specs.Choice.{IsShape, IsStatement}
use Rattle.cert_check.specs.Lines.{line_feed, lines_text, BreaksAt}
use Rattle.cert_check.specs.Texts.{statement_line, sizes_header, end_line, sizes_lines, sizes_text, IsJumpLine, IsStatementLine, AreSizesLines, IsFarLine, IsFarAt}
use Rattle.cert_check.specs.Private.Reading.{IsPlain, IsNumbered, IsTarget, IsRead, IsStatementRead, AreRead, ReadsSoFar, IsFirstFar}
use Rattle.cert_check.proofs.Breaks.{headless, misplaced, missing, trailing, push_line, append-nil}
use Rattle.cert_check.proofs.CertTexts.{same_number, unlike}
use Rattle.cert_check.proofs.SizesTexts.{sizes_grammar, not_far}

-- what is printed for a shape
pub printed : (shape : List Statement) (k : ℕ) (text new : List ℕ) → length shape ≤ k → text ≡ lines_text (sizes_header ∷ map statement_line (take k shape)) → new ≡ text ++ codes "END\n" → new ≡ sizes_text shape
printed shape k text new le e n =
    let whole : take k shape ≡ shape = take_all k shape le in
    let text_is : text ≡ lines_text (sizes_header ∷ map statement_line shape) = e ∙ ap (λ s. lines_text (sizes_header ∷ map statement_line s)) whole in
    n ∙ ap (λ t. t ++ codes "END\n") text_is ∙ sym (simp flat_map-append)

read_line : (line : List ℕ) (s : Statement) → IsRead line s → IsStatementLine line
read_line line (Fixed n) r = inl (n, r.0, r.1, r.2)
read_line line (Jump t) r = inr (r.0, inl r.1)
read_line line (Short t) r = inr (r.0, inr r.1)

read_lines : (lines : List (List ℕ)) (statements : List Statement) → AreRead lines statements → AllByRecursion IsStatementLine lines
read_lines [] statements r = tt
read_lines (line ∷ lines) [] r = absurd r
read_lines (line ∷ lines) (s ∷ statements) r = (read_line line s r.0, read_lines lines statements r.1)

length_read : (lines : List (List ℕ)) (statements : List Statement) → AreRead lines statements → length lines ≡ length statements
length_read [] [] r = refl
length_read [] (s ∷ statements) r = absurd r
length_read (line ∷ lines) [] r = absurd r
length_read (line ∷ lines) (s ∷ statements) r = let rest = length_read lines statements r.1 in omega arith

push_read : (lines : List (List ℕ)) (statements : List Statement) (line : List ℕ) (s : Statement) → AreRead lines statements → IsRead line s → AreRead (lines ++ line ∷ []) (statements ++ s ∷ [])
push_read [] [] line s r here = (here, tt)
push_read [] (t ∷ statements) line s r here = absurd r
push_read (l ∷ lines) [] line s r here = absurd r
push_read (l ∷ lines) (t ∷ statements) line s r here = (r.0, push_read lines statements line s r.1 here)

-- the lines read so far, one more line, and what ends them
pub so_far : (text rest : List ℕ) → text ≡ codes "Z80SIZES 1\n" ++ rest → ReadsSoFar text rest []
so_far text rest e = record { lines = []; text_is = e; read = tt; few = omega arith }

pub one_more : (text rest line after : List ℕ) (statements : List Statement) (s : Statement) → ReadsSoFar text rest statements → rest ≡ line ++ line_feed ∷ after → length statements ≢ 20000 → IsRead line s → ReadsSoFar text after (statements ++ s ∷ [])
one_more text rest line after statements s r e few here = record {
  lines = r.lines ++ line ∷ [];
  text_is = push_line text (sizes_header ∷ r.lines) rest line after r.text_is e;
  read = push_read r.lines statements line s r.read here;
  few = let most = r.few in omega (arith, length_push statements s);
}

no_bytes : (after : List ℕ) → length after ≡ 0 → after ≡ []
no_bytes [] e = refl
no_bytes (b ∷ after) e = absurd (omega arith)

pub ended : (text rest line after : List ℕ) (statements : List Statement) → ReadsSoFar text rest statements → rest ≡ line ++ line_feed ∷ after → line ≡ end_line → length after ≡ 0 → (lines : List (List ℕ)) × AreRead lines statements × (length statements ≤ 20000) × (text ≡ lines_text (sizes_lines lines))
ended text rest line after statements r e is_end none = (
  r.lines,
  r.read,
  r.few,
  push_line text (sizes_header ∷ r.lines) rest end_line [] r.text_is (e ∙ ap (λ l. l ++ line_feed ∷ after) is_end ∙ ap (λ l. end_line ++ line_feed ∷ l) (no_bytes after none)) ∙ append-nil (lines_text (sizes_lines r.lines)),
)

pub broken_header : (text : List ℕ) → ((rest : List ℕ) → text ≢ codes "Z80SIZES 1\n" ++ rest) → BreaksAt AreSizesLines text 1
broken_header text none = headless sizes_grammar text none

count_of : (lines : List (List ℕ)) (statements : List Statement) → AreRead lines statements → length statements ≤ 20000 → length lines ≤ 20000
count_of lines statements r few = omega (arith, length_read lines statements r)

pub broken_missing : (text rest : List ℕ) (statements : List Statement) (n : ℕ) → ReadsSoFar text rest statements → n ≡ length statements + 2 → IsPlain rest → BreaksAt AreSizesLines text n
broken_missing text rest statements n r number plain =
    missing sizes_grammar text n r.lines rest r.text_is (omega (arith, length_read r.lines statements r.read)) (read_lines r.lines statements r.read) (count_of r.lines statements r.read r.few) plain

pub broken_line : (text rest line after : List ℕ) (statements : List Statement) (n : ℕ) → ReadsSoFar text rest statements → n ≡ length statements + 2 → IsPlain line → rest ≡ line ++ line_feed ∷ after → (IsStatementLine line → length statements ≢ 20000 → ⊥) → line ≢ end_line → BreaksAt AreSizesLines text n
broken_line text rest line after statements n r number plain e wrong no_end =
    misplaced sizes_grammar text n r.lines rest line after r.text_is (omega (arith, length_read r.lines statements r.read)) (read_lines r.lines statements r.read) (count_of r.lines statements r.read r.few) plain e
    (λ is_line may. wrong is_line (λ full. (let same = length_read r.lines statements r.read in absurd (omega arith)))) no_end

pub broken_end : (text rest line after : List ℕ) (statements : List Statement) (n : ℕ) → ReadsSoFar text rest statements → n ≡ length statements + 3 → rest ≡ line ++ line_feed ∷ after → line ≡ end_line → 0 < length after → BreaksAt AreSizesLines text n
broken_end text rest line after statements n r number e is_end some =
    trailing sizes_grammar text n r.lines rest line after r.text_is (omega (arith, length_read r.lines statements r.read)) (read_lines r.lines statements r.read) (count_of r.lines statements r.read r.few) e is_end some

-- a line that is read as a statement that may be there is the line of that statement
same_line : (line : List ℕ) (word : List ℕ) (t count : ℕ) → count ≤ 20000 → IsTarget word line (Some t) → t ≤ count → line ≡ word ++ decimal t
same_line line word t count few (target, j, capped) le =
    let same : t ≡ target = elim capped [ inl e ↦ e | inr above ↦ (let e = above.0 in absurd (omega arith)) ] in
    let value : digits_value 10 j.digits ≡ t = j.target_is ∙ sym same in
    j.line_is ∙ ap (λ ds. word ++ ds) (sym (decimal-digits_value (numerals_by_value (AllDigits 10) tells_digits) j.digits j.is_number.numeral.1 j.is_number.numeral.0 j.is_number.no_zero (omega arith)) ∙ ap decimal value)

line_of : (line : List ℕ) (s : Statement) (count : ℕ) → count ≤ 20000 → IsRead line s → IsStatement count s → line ≡ statement_line s
line_of line (Fixed n) count few r p = r.2
line_of line (Jump t) count few r p = same_line line (codes "J ") t count few r p
line_of line (Short t) count few r p = same_line line (codes "S ") t count few r p

lines_of : (lines : List (List ℕ)) (statements : List Statement) (count : ℕ) → count ≤ 20000 → AreRead lines statements → AllByRecursion (IsStatement count) statements → lines ≡ map statement_line statements
lines_of [] [] count few r p = refl
lines_of [] (s ∷ statements) count few r p = absurd r
lines_of (line ∷ lines) [] count few r p = absurd r
lines_of (line ∷ lines) (s ∷ statements) count few r p = cc (line_of line s count few r.0 p.0, lines_of lines statements count few r.1 p.1)

-- if every target exists, the file is that of the statements
pub spelled : (text : List ℕ) (lines : List (List ℕ)) (statements : List Statement) → AreRead lines statements → length statements ≤ 20000 → text ≡ lines_text (sizes_lines lines) → All (IsStatement (length statements)) statements → IsShape statements × (text ≡ sizes_text statements)
spelled text lines statements r few e each = (
  record { few = few; each = each },
  e ∙ ap (λ ls. lines_text (sizes_lines ls)) (lines_of lines statements (length statements) few r (recursion_from_All (IsStatement (length statements)) statements each)),
)

far_target : (line : List ℕ) (word : List ℕ) (t count : ℕ) → count ≤ 20000 → IsTarget word line (Some t) → ¬ (t ≤ count) → (target : ℕ) × (count < target) × IsJumpLine word line target
far_target line word t count few (target, j, capped) above = (target, elim capped [ inl e ↦ omega arith | inr most ↦ (let le = most.1 in omega arith) ], j)

far_line : (line : List ℕ) (s : Statement) (count : ℕ) → count ≤ 20000 → IsRead line s → ¬ IsStatement count s → IsFarLine count line
far_line line (Fixed n) count few r none = absurd (none (r.0, r.1))
far_line line (Jump t) count few r none = let far = far_target line (codes "J ") t count few r none in (far.0, far.1, inl far.2)
far_line line (Short t) count few r none = let far = far_target line (codes "S ") t count few r none in (far.0, far.1, inr far.2)

line_at : (lines : List (List ℕ)) (statements : List Statement) → AreRead lines statements → (k : ℕ) (s : Statement) → slice_get statements k ≡ Some s → (line : List ℕ) × (slice_get lines k ≡ Some line) × IsRead line s
line_at [] [] r k s e = cc
line_at [] (t ∷ statements) r k s e = absurd r
line_at (line ∷ lines) [] r k s e = absurd r
line_at (line ∷ lines) (t ∷ statements) r zero s e = let same : t ≡ s = cc in (line, refl, subst (IsRead line) same r.0)
line_at (line ∷ lines) (t ∷ statements) r (suc k) s e = line_at lines statements r.1 k s e

statement_at : (lines : List (List ℕ)) (statements : List Statement) → AreRead lines statements → (k : ℕ) (line : List ℕ) → slice_get lines k ≡ Some line → (s : Statement) × (slice_get statements k ≡ Some s) × IsRead line s
statement_at [] [] r k line e = cc
statement_at [] (t ∷ statements) r k line e = absurd r
statement_at (l ∷ lines) [] r k line e = absurd r
statement_at (l ∷ lines) (t ∷ statements) r zero line e = let same : l ≡ line = cc in (t, refl, subst (λ x. IsRead x t) same r.0)
statement_at (l ∷ lines) (t ∷ statements) r (suc k) line e = statement_at lines statements r.1 k line e

-- if a target does not exist, its line is the first bad line of the file
pub far : (text : List ℕ) (lines : List (List ℕ)) (statements : List Statement) (k : ℕ) → AreRead lines statements → length statements ≤ 20000 → text ≡ lines_text (sizes_lines lines) → IsFirstFar statements (Some k) → IsFarAt text (k + 2)
far text lines statements k r few e (s, stands, none, below) =
    let here = line_at lines statements r k s stands in
    let same = length_read lines statements r in
    record {
      statements = lines;
      grammar = record { middle = lines; last = end_line; each = read_lines lines statements r; count = omega arith; ends = refl; lines_are = refl };
      text_is = e;
      index = k;
      number = refl;
      line = here.0;
      stands = here.1;
      far = subst (λ count. IsFarLine count here.0) (sym same) (far_line here.0 s (length statements) few here.2 none);
      first = λ i other lt stands_there is_far. (
          let there = statement_at lines statements r i other stands_there in
          let within = below i there.0 lt there.1 in
          not_far (length statements) there.0 few within (subst (IsFarLine (length statements)) (line_of other there.0 (length statements) few there.2 within) (subst (λ count. IsFarLine count other) same is_far)));
    }

not_fixed : (line : List ℕ) (n : ℕ) → n < 2 ^ 32 → line ≡ codes "F " ++ decimal n → (1 ≤ n → n ≤ 65535 → ⊥) → ¬ IsStatementLine line
not_fixed line n lt e none (inl f) =
    let low = f.1 in
    let high = f.2 in
    let same = same_number (codes "F ") n f.0 lt (omega arith) (sym e ∙ f.3) in
    none (omega arith) (omega arith)
not_fixed line n lt e none (inr j) = elim (j.1) [
  | inl jump ↦ unlike 0x46 0x4A _ _ refl (sym e ∙ jump.line_is)
  | inr short ↦ unlike 0x46 0x53 _ _ refl (sym e ∙ short.line_is)
]

-- what a line is read as
pub fixed_read : (line : List ℕ) (n : ℕ) (r : Option Statement) → n < 2 ^ 32 → line ≡ codes "F " ++ decimal n → MatchOption r (1 ≤ n → n ≤ 65535 → ⊥) (λ s. (1 ≤ n) × (n ≤ 65535) × (s ≡ Fixed n)) → IsStatementRead line r
fixed_read line n (Some s) lt e said = subst (IsRead line) (sym said.2) (said.0, said.1, e)
fixed_read line n None lt e said = not_fixed line n lt e said

pub none_read : (line : List ℕ) → IsNumbered (codes "F ") line None → IsTarget (codes "J ") line None → IsTarget (codes "S ") line None → ¬ IsStatementLine line
none_read line fixed jump short (inl f) = let high = f.2 in fixed f.0 (omega arith) f.3
none_read line fixed jump short (inr (target, inl j)) = jump target j
none_read line fixed jump short (inr (target, inr s)) = short target s
