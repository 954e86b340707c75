-- Lines after one another, and sources.
use Rattle.std.proofs.Common.{◌≡◌, ◌∙◌, ◌+◌, ◌-◌, ◌<◌, ◌≤◌, ℕ, suc, List, [], ◌∷◌, ◌++◌, length, get_or, map, filter, take, drop, refl, ap, arith, append_assoc, inl, inr}
use Rattle.std.specs.List.{enumerate_from, flat_map, zip}
use Rattle.std.proofs.lemmas.List.{drop_more}
use Rattle.std.proofs.Math.Path.{fun_ext}
use Rattle.asm_macro.specs.Texts.{source_lines}
use Rattle.zlink.specs.declared.source.Source.{Source}
use Rattle.program_map.specs.declared.listings.cells.Cell.{Cell}
use Rattle.program_map.specs.Listings.Printed.{listed_line}
use Rattle.program_map.specs.Listings.Listing.{ListedStatement, listed_source}
use Rattle.program_map.specs.Private.Runs.{HasLines, IsBehind, byte_of, cells_in, is_on, lines_with, source_with}
use Rattle.program_map.proofs.Listed.Parted.{line_is}

-- one more line
pub line_more : (source : ℕ) (cells own : List Cell) (n last : ℕ) (text : List ℕ) (texts left : List (List ℕ)) (out now : List ℕ) → left ≡ text ∷ texts → n < last
    → own ≡ filter (is_on source (n + 1)) cells → now ≡ out ++ listed_line text (map byte_of own)
    → now ++ lines_with source cells (n + 1 + 1) (take (last - (n + 1)) texts) ≡ out ++ lines_with source cells (n + 1) (take (last - n) left)
line_more source cells own n last text texts left out now parts below mine e =
    let more : last - n ≡ suc (last - (n + 1)) = omega arith in
    rw (e, mine, parts, more)
    (append_assoc out (listed_line text (map byte_of (filter (is_on source (n + 1)) cells))) (lines_with source cells (n + 1 + 1) (take (last - (n + 1)) texts)))

pub behind_more : (source n : ℕ) (behind rest cells : List Cell) → HasLines (IsBehind source (n + 1)) behind rest → HasLines (IsBehind source n) rest cells
    → HasLines (IsBehind source (n + 1)) behind cells
behind_more source n behind rest cells some more = record {
  ascends = some.ascends;
  lines = λ s l h. some.lines s l h ∙ more.lines s l (before s l h);
}
  where
    before : (s l : ℕ) → IsBehind source (n + 1) s l → IsBehind source n s l
    before s l (inl h) = inl h
    before s l (inr h) = inr (h.0, omega arith)

pub source_more : (n : ℕ) (behind rest cells : List Cell) → HasLines (λ s l. n + 1 ≤ s) behind rest → HasLines (λ s l. n ≤ s) rest cells → HasLines (λ s l. n + 1 ≤ s) behind cells
source_more n behind rest cells some more = record {
  ascends = some.ascends;
  lines = λ s l h. some.lines s l h ∙ more.lines s l (omega arith);
}

-- a source's lines with the cells that are left are its lines with the bytes of its statements
source_is : (number last : ℕ) (text : List ℕ) (rest : List Cell) (ps : List ListedStatement) → HasLines (λ s l. number ≤ s) rest (flat_map cells_in ps)
    → source_with number rest last text ≡ listed_source ps number last text
source_is number last text rest ps has =
    ap (λ f. flat_map f (enumerate_from 1 (take last (source_lines text))))
    (fun_ext (λ (l : ℕ × List ℕ). ap (listed_line l.1) (ap (map byte_of) (has.lines number l.0 (omega arith)) ∙ line_is number l.0 ps)))

pub zip_nil : {A B : Type 0} (xs : List A) → zip {K = A} {X = B} xs [] ≡ []
zip_nil [] = refl
zip_nil (x ∷ xs) = refl

-- one more source
pub sources_more : (ps : List ListedStatement) (n : ℕ) (last : List ℕ) (sources : List Source) (d : ℕ) (e : Source) (rest : List Cell) (out now : List ℕ)
    → n < length last → n < length sources → HasLines (λ s l. n ≤ s) rest (flat_map cells_in ps)
    → now ≡ out ++ source_with n rest (get_or last n d) (get_or sources n e).text.now
    → now ++ flat_map (λ s. listed_source ps s.0 s.1.0 s.1.1.text.now) (enumerate_from (n + 1) (zip (drop (n + 1) last) (drop (n + 1) sources)))
    ≡ out ++ flat_map (λ s. listed_source ps s.0 s.1.0 s.1.1.text.now) (enumerate_from n (zip (drop n last) (drop n sources)))
sources_more ps n last sources d e rest out now h k has is =
    let here = source_is n (get_or last n d) (get_or sources n e).text.now rest ps has in
    rw (drop_more last n d h, drop_more sources n e k, is, here)
    (append_assoc out (listed_source ps n (get_or last n d) (get_or sources n e).text.now)
    (flat_map (λ s. listed_source ps s.0 s.1.0 s.1.1.text.now) (enumerate_from (n + 1) (zip (drop (n + 1) last) (drop (n + 1) sources)))))
