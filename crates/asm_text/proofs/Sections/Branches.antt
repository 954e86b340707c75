-- The branches of an IF, one after the other.
use Rattle.std.proofs.Common.{◌≡◌, ◌<◌, ◌≤◌, ◌+◌, ◌∙◌, sym, ap, refl, ℕ, zero, suc, List, [], ◌∷◌, ◌++◌, Option, map, drop, arith, append_assoc, append-nil, sum, fold, length, length-drop}
use Rattle.asm_text.specs.Nesting.Blocks.{Lengths}
use Rattle.asm_line.specs.Replacing.Replaced.{ReplacementTable}
use Rattle.asm_text.specs.declared.span.Span.{Span}
use Rattle.asm_text.specs.Lines.{Numbered}
use Rattle.asm_text.specs.Sections.Blocks.{Section, Branches, section, sections_of, branches_of_lengths}
use Rattle.asm_text.specs.Sections.Sections.{behind_of, front_of, section_of}
use Rattle.asm_text.specs.Spans.{text_of}
use Rattle.asm_text.proofs.Sections.Texts.{behind_is, section_is}

-- the branches found so far, and after them those that are left, which have these lengths in `rest`
abbrev pub with_left : Section → List Section → List Numbered → List ℕ → Branches
with_left first others rest lengths = record { first = first; others = others ++ sections_of lengths rest; after = drop (sum (map (λ n. n + 1) lengths)) rest }

sum-from : (a : ℕ) (xs : List ℕ) → fold ◌+◌ a xs ≡ a + sum xs
sum-from a [] = omega arith
sum-from a (x ∷ xs) =
    let one = sum-from (a + x) xs in
    let two = sum-from (0 + x) xs in
    let both : (a + x) + sum xs ≡ a + sum (x ∷ xs) = omega (arith, two) in one ∙ both

sum-cons : (x : ℕ) (xs : List ℕ) → sum (x ∷ xs) ≡ x + sum xs
sum-cons x xs = let e : (0 + x) + sum xs ≡ x + sum xs = omega arith in sum-from (0 + x) xs ∙ e

drop-none : (n : ℕ) → drop {A = Numbered} n [] ≡ []
drop-none zero = refl
drop-none (suc n) = refl

line_drop : (a n : ℕ) (lines : List Numbered) → drop n (drop a lines) ≡ drop (a + n) lines
line_drop zero n lines = let e : n ≡ 0 + n = omega arith in ap (λ j. drop j lines) e
line_drop (suc a) n [] = drop-none n ∙ sym (drop-none (suc a + n))
line_drop (suc a) n (t ∷ ts) = let e : suc (a + n) ≡ suc a + n = omega arith in line_drop a n ts ∙ ap (λ j. drop j (t ∷ ts)) e

one_more : (first : Section) (others : List Section) (rest : List Numbered) (n : ℕ) (ns : List ℕ)
    → with_left first others rest (n ∷ ns) ≡ with_left first (others ++ section n rest ∷ []) (drop (n + 1) rest) ns
one_more first others rest n ns =
    let after = line_drop (n + 1) (sum (map (λ n. n + 1) ns)) rest in
    let all_lines = sum-cons (n + 1) (map (λ n. n + 1) ns) in
    let all = append_assoc others (section n rest ∷ []) (sections_of ns (drop (n + 1) rest)) in
    ap (λ j. record { first = first; others = others ++ sections_of (n ∷ ns) rest; after = drop j rest }) all_lines
    ∙ ap (λ x. record { first = first; others = x; after = drop ((n + 1) + sum (map (λ n. n + 1) ns)) rest }) (sym all)
    ∙ ap (λ x. record { first = first; others = (others ++ section n rest ∷ []) ++ sections_of ns (drop (n + 1) rest); after = x }) (sym after)

-- The branches before some line are found, and those that are left are in the span `rest` after that line.
pub record Reached (texts : List (List ℕ)) (names : Option ReplacementTable) (span : Span) (lengths : Lengths) (rest : Span) (left : List ℕ) (first : Section) (others : List Section) : Type 0 where
  pub all : branches_of_lengths (text_of texts names span) lengths ≡ with_left first others (text_of texts names rest) left
  pub fits : sum (map (λ n. n + 1) left) ≤ length (text_of texts names rest)

pub start : (texts : List (List ℕ)) (names : Option ReplacementTable) (span : Span) (lengths : Lengths) → lengths.0 + sum (map (λ n. n + 1) lengths.1) < length (text_of texts names span)
    → Reached texts names span lengths (behind_of span lengths.0) lengths.1 (section_of texts names (front_of span lengths.0)) []
start texts names span lengths h =
    let lines = text_of texts names span in
    let less : lengths.0 < length lines = omega (arith, h) in
    let behind = behind_is texts names span lengths.0 less in
    record {
      all = ap (λ x. with_left x [] (drop (lengths.0 + 1) lines) lengths.1) (sym (section_is texts names span lengths.0 less))
          ∙ ap (λ x. with_left (section_of texts names (front_of span lengths.0)) [] x lengths.1) (sym behind);
      fits = omega (arith, h, ap length behind, length-drop (lengths.0 + 1) lines);
    }

-- The next branch fits in the lines that are left.
pub left_fits : (left : List ℕ) (n : ℕ) (more : List ℕ) (len : ℕ) → left ≡ n ∷ more → sum (map (λ n. n + 1) left) ≤ len → n + 1 + sum (map (λ n. n + 1) more) ≤ len
left_fits left n more len is h = omega (arith, h, ap (λ ns. sum (map (λ n. n + 1) ns)) is, sum-cons (n + 1) (map (λ n. n + 1) more))

pub step : (texts : List (List ℕ)) (names : Option ReplacementTable) (span rest : Span) (lengths : Lengths) (left : List ℕ) (n : ℕ) (more : List ℕ) (first : Section) (others now : List Section)
    → Reached texts names span lengths rest left first others → left ≡ n ∷ more → now ≡ others ++ section_of texts names (front_of rest n) ∷ []
    → Reached texts names span lengths (behind_of rest n) more first now
step texts names span rest lengths left n more first others now reached is e =
    let lines = text_of texts names rest in
    let fits = left_fits left n more (length lines) is reached.fits in
    let less : n < length lines = omega (arith, fits) in
    let behind = behind_is texts names rest n less in
    record {
      all = reached.all ∙ ap (with_left first others lines) is ∙ one_more first others lines n more
          ∙ ap (λ x. with_left first (others ++ x ∷ []) (drop (n + 1) lines) more) (sym (section_is texts names rest n less))
          ∙ ap (λ x. with_left first (others ++ section_of texts names (front_of rest n) ∷ []) x more) (sym behind)
          ∙ ap (λ xs. with_left first xs (text_of texts names (behind_of rest n)) more) (sym e);
      fits = omega (arith, fits, ap length behind, length-drop (n + 1) lines);
    }

pub reached_all : (texts : List (List ℕ)) (names : Option ReplacementTable) (span rest : Span) (lengths : Lengths) (left : List ℕ) (first : Section) (others : List Section)
    → Reached texts names span lengths rest left first others → left ≡ [] → branches_of_lengths (text_of texts names span) lengths ≡ record { first = first; others = others; after = text_of texts names rest }
reached_all texts names span rest lengths left first others reached is =
    reached.all ∙ ap (with_left first others (text_of texts names rest)) is ∙ ap (λ xs. record { first = first; others = xs; after = text_of texts names rest }) (append-nil others)
