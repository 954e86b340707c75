-- The numbers of labels by address.
use Rattle.std.proofs.Common.{◌≡◌, ◌≢◌, ◌<◌, ◌+◌, ◌++◌, ◌∷◌, [], ℕ, zero, suc, Bool, true, false, List, length, take, drop, refl, sym, ap, ◌∙◌, arith, inl, inr, get_or-set_other, get_or-set_same}
use Rattle.std.specs.Prelude.{◌==◌, if◌then◌else◌, slice_index, slice_set, replicate}
use Rattle.std.proofs.lemmas.Bool.{cases_eq}
use Rattle.std.proofs.lemmas.Bool.Decides.{nat_tests}
use Rattle.std.proofs.Math.Seq.{take-append_seam}
use Rattle.std.proofs.lemmas.List.{get_or-replicate, length-replicate}
use Rattle.state_text.specs.Private.Numbers.{AreNumbers, AreNumbersIfAny, nearest_number, last_at, last_below}

-- at the start no address has a number
pub all_zero : (n : ℕ) (numbers : List ℕ) → numbers ≡ replicate n 0 → length numbers ≡ n
all_zero n numbers e = ap length e ∙ length-replicate n 0

pub zeroed : (n : ℕ) (numbers : List ℕ) → numbers ≡ replicate n 0 → (address : ℕ) → address < n → slice_index numbers address ≡ 0
zeroed n numbers e address below = ap (λ xs. slice_index xs address) e ∙ get_or-replicate n address 0 0 below

-- the number at an address after one was put
put_at : (numbers : List ℕ) (at value address : ℕ) → at < length numbers → slice_index (slice_set numbers at value) address ≡ (if at == address then value else slice_index numbers address)
put_at numbers at value address within = elim (cases_eq at address) [
  | inl e ↦
      let here : (at == address) ≡ true = grind (arith, nat_tests, e) in
      ap (λ k. slice_index (slice_set numbers at value) k) (sym e) ∙ get_or-set_same numbers at value 0 within ∙ sym (ap (λ (b : Bool). if b then value else slice_index numbers address) here)
  | inr other ↦
      let there : (at == address) ≡ false = grind (arith, nat_tests, other) in
      let apart : address ≢ at = omega (arith, other) in
      get_or-set_other numbers at address value 0 apart ∙ sym (ap (λ (b : Bool). if b then value else slice_index numbers address) there)
]

-- one more label is put
pub put_one : (labels behind : List (ℕ × List ℕ)) (label : ℕ × List ℕ) (numbers : List ℕ) (n address total : ℕ) → labels ≡ label ∷ behind → label.0 < length numbers
    → last_at (slice_index numbers address) n labels address ≡ total → last_at (slice_index (slice_set numbers label.0 (n + 1)) address) (n + 1) behind address ≡ total
put_one labels behind label numbers n address total is within before =
    ap (λ k. last_at k (n + 1) behind address) (put_at numbers label.0 (n + 1) address within) ∙ ap (λ ls. last_at (slice_index numbers address) n ls address) (sym is) ∙ before

-- equal numbers below an address have the same last one
last_same : (f g : ℕ → ℕ) (n : ℕ) → ((k : ℕ) → k < n → f k ≡ g k) → last_below f n ≡ last_below g n
last_same f g zero same = refl
last_same f g (suc n) same =
    ap (λ k. if k == 0 then last_below f n else k) (same n (omega arith))
    ∙ ap (λ k. if g n == 0 then k else g n) (last_same f g n (λ k below. same k (omega (arith, below))))

-- the filled numbers are those of the labels
pub numbered : (labels : List (ℕ × List ℕ)) (n : ℕ) (old new filled : List ℕ) → length old ≡ n → length new ≡ n → filled ≡ new → ((a : ℕ) → a < n → slice_index old a ≡ last_at 0 0 labels a)
    → ((a : ℕ) → a < length old → slice_index new a ≡ last_below (slice_index old) (suc a)) → (length filled ≡ n) × ((a : ℕ) → a < n → slice_index filled a ≡ nearest_number labels a)
numbered labels n old new filled before after is each fill = (
  ap length is ∙ after,
  λ a below.
      let inside : a < length old = omega (arith, below, before) in
      ap (λ xs. slice_index xs a) is ∙ fill a inside ∙ last_same (slice_index old) (last_at 0 0 labels) (suc a) (λ k under. each k (omega (arith, under, below))),
)

pub if_any : (labels : List (ℕ × List ℕ)) (numbers : List ℕ) → AreNumbers labels numbers → AreNumbersIfAny labels numbers
if_any [] numbers are = tt
if_any (label ∷ labels) numbers are = are

-- a list that was lent whole
pub whole : (n : ℕ) (xs ys : List ℕ) → length xs ≡ n → take n (xs ++ drop (length xs) ys) ≡ xs
whole n xs ys e = ap (λ k. take k (xs ++ drop (length xs) ys)) (sym e) ∙ take-append_seam xs (drop (length xs) ys)

pub empty : {X : Type 0} (xs : List X) → length xs ≡ 0 → xs ≡ []
empty [] e = refl
empty (x ∷ xs) e = absurd (omega (arith, e))
