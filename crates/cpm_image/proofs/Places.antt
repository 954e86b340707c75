-- The translate table, computed for each of its 26 records.
use Rattle.std.proofs.Common.{◌≡◌, ℕ, ◌+◌, ◌-◌, ◌*◌, ◌/◌, ◌%◌, ◌<◌, ◌==◌, Option, Some, refl, ap, sym, ◌∙◌, arith, map, get_or, slice_index, position}
use Rattle.std.specs.List.{range_with_len}
use Rattle.std.proofs.lemmas.List.FromFn.{get_or-map-range_with_len}
use Rattle.cpm_image.specs.Skew.{translate, sector, sector_of}
use Rattle.cpm_image.specs.Kind.{record_count}
use Rattle.cpm_image.specs.declared.kind.DiskKind.{DiskKind}
use Rattle.cpm_image.specs.declared.kind.DiskKind.TheVariants.{EightInch, Megabyte}

-- Two functions that agree over a list of the numbers below n agree at each of them.
agree_below : {X : Type 0} (f g : ℕ → X) (n : ℕ) → map f (range_with_len 0 n) ≡ map g (range_with_len 0 n) → (b : ℕ) → b < n → f b ≡ g b
agree_below f g n e b h =
    sym (get_or-map-range_with_len f 0 n b b (f 0) h (omega arith))
    ∙ ap (λ xs. get_or xs b (f 0)) e
    ∙ get_or-map-range_with_len g 0 n b b (f 0) h (omega arith)

-- the number of a record's sector on its track, from 0
abbrev place : ℕ → ℕ
place k = slice_index translate k - 1

pub steps_of_six : (k : ℕ) → k < 26 → 6 * k % 26 + k / 13 ≡ place k
steps_of_six = agree_below (λ k. 6 * k % 26 + k / 13) place 26 refl

-- each sector number is in the table once
stands_once : (k : ℕ) → k < 26 → position (λ t. t - 1 == place k) translate ≡ Some k
stands_once = agree_below (λ k. position (λ t. t - 1 == place k) translate) Some 26 refl

place_within : (k : ℕ) → k < 26 → place k < 26
place_within k h = let e = steps_of_six k h in omega arith

one_place : (j k : ℕ) → j < 26 → k < 26 → place j ≡ place k → j ≡ k
one_place j k hj hk e =
    let same : ◌≡◌ {A = Option ℕ} (Some j) (Some k) = sym (stands_once j hj) ∙ ap (λ p. position (λ t. t - 1 == p) translate) e ∙ stands_once k hk in
    cc

pub distinct : (m n : ℕ) → m < 1944 → n < 1944 → sector m ≡ sector n → m ≡ n
distinct m n hm hn e =
    let a = place_within (m % 26) (omega arith) in
    let b = place_within (n % 26) (omega arith) in
    let same : place (m % 26) ≡ place (n % 26) = omega arith in
    let places = one_place (m % 26) (n % 26) (omega arith) (omega arith) same in
    omega arith

pub distinct_of : (kind : DiskKind) (m n : ℕ) → m < record_count kind → n < record_count kind → sector_of kind m ≡ sector_of kind n → m ≡ n
distinct_of EightInch m n hm hn e = distinct m n hm hn e
distinct_of Megabyte m n hm hn e = e
