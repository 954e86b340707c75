-- Laying out lines one after the other.
use Rattle.std.proofs.Common.{◌≡◌, ◌<◌, ◌≤◌, ◌+◌, ◌∙◌, sym, ap, refl, subst, ℕ, zero, suc, Bool, cond, List, [], ◌∷◌, ◌++◌, Option, length, count_by, map, take, drop, get_or, arith}
use Rattle.std.specs.List.{All, cons_option, enumerate_from}
use Rattle.std.proofs.Math.ListN.{get_or-map}
use Rattle.std.proofs.lemmas.List.{length-map, map-append, take-append-drop, take_all, take_more}
use Rattle.std.proofs.lemmas.List.Elements.{filter_map-append}
use Rattle.std.proofs.lemmas.List.Sums.{sum_by-append}
use Rattle.asm_expr.specs.Types.{Statement}
use Rattle.asm_expr.specs.Names.{Table}
use Rattle.asm_names.specs.declared.kind.SourceLine.{SourceLine}
use Rattle.asm_names.specs.Lines.{Taken, has_statement, lines_of, placed, taken_of}
use Rattle.asm_names.proofs.TakenUp.{enumerate_more}
use Rattle.asm_module.specs.Layouts.Laid.{HasFew, laid, line_sized, statements}
use Rattle.asm_module.proofs.Layouts.Few.{few_statements}

-- how many statements come before a line
abbrev pub before : Bool → Table → List Taken → ℕ × Taken → ℕ
before grow t lines l = length (statements grow t (take l.0 lines))

-- The lines up to `at` are laid out.
pub record IsLaid (grow : Bool) (t : Table) (lines : List Taken) (at : ℕ) (next : List ℕ) (laid_so_far : List Statement) : Type 0 where
  pub next_is : next ≡ map (before grow t lines) (enumerate_from 0 (take at lines))
  pub statements_is : laid_so_far ≡ statements grow t (take at lines)

-- one more line
lines_more : (lines : List SourceLine) (at : ℕ) (l : SourceLine) → at < length lines → l ≡ get_or lines at l → take (at + 1) (lines_of lines) ≡ take at (lines_of lines) ++ taken_of l ∷ []
lines_more lines at l lt is =
    take_more (lines_of lines) at (taken_of l) (subst (λ n. at < n) (sym (length-map lines taken_of)) lt)
    ∙ ap (λ m. take at (lines_of lines) ++ m ∷ []) (get_or-map taken_of lines at l ∙ ap taken_of (sym is))

length_take_at : (lines : List Taken) (at : ℕ) → at < length lines → length (take at lines) ≡ at
length_take_at [] at lt = absurd (omega (arith, lt))
length_take_at (l ∷ ls) zero lt = refl
length_take_at (l ∷ ls) (suc at) lt = ap suc (length_take_at ls at (omega (arith, lt)))

pub more_laid : (grow : Bool) (t : Table) (lines : List SourceLine) (at : ℕ) (l : SourceLine) (next : List ℕ) (some : List Statement) (one : Option Statement) → at < length lines → l ≡ get_or lines at l
    → one ≡ line_sized grow t (taken_of l).line → IsLaid grow t (lines_of lines) at next some → IsLaid grow t (lines_of lines) (at + 1) (next ++ length some ∷ []) (some ++ cons_option one [])
more_laid grow t lines at l next some one lt is sized was =
    let more = lines_more lines at l lt is in
    let there : at < length (lines_of lines) = subst (λ n. at < n) (sym (length-map lines taken_of)) lt in
    record {
      next_is =
          ap (λ n. n ++ length some ∷ []) was.next_is
          ∙ ap (λ k. map (before grow t (lines_of lines)) (enumerate_from 0 (take at (lines_of lines))) ++ k ∷ []) (ap length was.statements_is ∙ ap (λ k. length (statements grow t (take k (lines_of lines)))) (sym (length_take_at (lines_of lines) at there) ∙ omega arith))
          ∙ sym (map-append (before grow t (lines_of lines)) (enumerate_from 0 (take at (lines_of lines))) ((0 + length (take at (lines_of lines)), taken_of l) ∷ []))
          ∙ ap (map (before grow t (lines_of lines))) (sym (enumerate_more 0 (take at (lines_of lines)) (taken_of l)) ∙ ap (enumerate_from 0) (sym more));
      statements_is =
          ap (λ ss. ss ++ cons_option one []) was.statements_is ∙ ap (λ o. statements grow t (take at (lines_of lines)) ++ cons_option o []) sized
          ∙ sym (filter_map-append (λ m. line_sized grow t m.line) (take at (lines_of lines)) (taken_of l ∷ [])) ∙ ap (statements grow t) (sym more);
    }

pub all_laid : (grow : Bool) (t : Table) (lines : List SourceLine) (at : ℕ) (next : List ℕ) (some : List Statement) → length lines ≤ at → IsLaid grow t (lines_of lines) at next some
    → record { next = next; statements = some } ≡ laid grow t (lines_of lines)
all_laid grow t lines at next some le was =
    let all : take at (lines_of lines) ≡ lines_of lines = take_all at (lines_of lines) (subst (λ n. n ≤ at) (sym (length-map lines taken_of)) le) in
    let next_is : next ≡ map (before grow t (lines_of lines)) (placed (lines_of lines)) = was.next_is ∙ ap (λ ls. map (before grow t (lines_of lines)) (enumerate_from 0 ls)) all in
    let statements_is : some ≡ statements grow t (lines_of lines) = was.statements_is ∙ ap (statements grow t) all in
    ap (λ n. record { next = n; statements = some }) next_is ∙ ap (λ ss. record { next = map (before grow t (lines_of lines)) (placed (lines_of lines)); statements = ss }) statements_is

-- the lines so far have 20,000 statements at most
pub few_so_far : (grow : Bool) (t : Table) (lines : List Taken) (at : ℕ) (next : List ℕ) (some : List Statement) → count_by (λ l. has_statement l.line) lines ≤ 20000 → IsLaid grow t lines at next some → length some ≤ 20000
few_so_far grow t lines at next some few was =
    let le : length (statements grow t (take at lines)) ≤ count_by (λ l. has_statement l.line) (take at lines) = few_statements grow t (take at lines) in
    let part : count_by (λ l. has_statement l.line) (take at lines) + count_by (λ l. has_statement l.line) (drop at lines) ≡ count_by (λ l. has_statement l.line) lines =
    sym (sum_by-append (λ l. cond (has_statement l.line) 1 0) (take at lines) (drop at lines)) ∙ ap (count_by (λ l. has_statement l.line)) (take-append-drop at lines) in
    let same : length some ≡ length (statements grow t (take at lines)) = ap length was.statements_is in
    omega (arith, few, le, part, same)

-- DB or DW in the line makes 1 to 65,535 bytes
pub few_there : (lines : List SourceLine) (at : ℕ) (l : SourceLine) → at < length lines → l ≡ get_or lines at l → All HasFew (lines_of lines) → HasFew (taken_of l)
few_there lines at l lt is all = subst HasFew (get_or-map taken_of lines at l ∙ ap taken_of (sym is)) (all at (taken_of l) (subst (λ n. at < n) (sym (length-map lines taken_of)) lt))
