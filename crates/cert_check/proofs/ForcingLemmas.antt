-- Every member of a forcing order is long in every settled choice, so what is shown after that order holds of all
-- choices.
use Rattle.std.proofs.Common.{◌≡◌, ℕ, zero, suc, ◌+◌, ◌<◌, ◌≤◌, Bool, true, false, List, length, Option, Some, None, arith, inl, inr, get_or, eqb, take, subst, add-one, ◌||◌, refl}
use Rattle.std.specs.List.{slice_get}
use Rattle.std.specs.Option.{option_map_or}
use Rattle.std.proofs.lemmas.List.{take_all}
use Rattle.std.proofs.lemmas.List.Folds.{list_any_more}
use Rattle.std.proofs.lemmas.Bool.{cases_lt, or_cases, eqb-true, true_from_ne_false}
use Rattle.cert_check.specs.FileTypes.{Statement, Verdict}
use Rattle.cert_check.specs.declared.shape.Statement.TheVariants.{Fixed, Jump, Short}
use Rattle.cert_check.specs.declared.cert.Verdict.TheVariants.{Best, Range, TooLarge}
use Rattle.cert_check.specs.Choice.{Choice, size_of, size_at, bytes_before, total, Reaches, IsSettled}
use Rattle.cert_check.specs.Forcing.{after, Misses, IsForcing}
use Rattle.cert_check.specs.Accepts.{IsVerdictOf, HoldsOfEveryChoice}

-- each jump that is long in the first choice is long in the second
abbrev pub Within : Choice → Choice → Type 0
Within c d = (k : ℕ) → c k ≡ true → d k ≡ true

size_of-le : (a b : Bool) → (a ≡ true → b ≡ true) → (s : Statement) → size_of a s ≤ size_of b s
size_of-le a b h (Fixed n) = omega arith
size_of-le true true h (Jump t) = omega arith
size_of-le true false h (Jump t) = absurd (cc (h refl))
size_of-le false true h (Jump t) = omega arith
size_of-le false false h (Jump t) = omega arith
size_of-le a b h (Short t) = omega arith

option-le : (a b : Bool) → (a ≡ true → b ≡ true) → (o : Option Statement) → option_map_or (size_of a) o 0 ≤ option_map_or (size_of b) o 0
option-le a b h None = omega arith
option-le a b h (Some s) = size_of-le a b h s

size_at-le : (c d : Choice) → Within c d → (shape : List Statement) (k : ℕ) → size_at c shape k ≤ size_at d shape k
size_at-le c d h shape k = option-le (c k) (d k) (h k) (slice_get shape k)

-- the bytes between a and b are no fewer in the longer choice
pub stretches : (c d : Choice) → Within c d → (shape : List Statement) (a b : ℕ) → a ≤ b → bytes_before c shape b + bytes_before d shape a ≤ bytes_before d shape b + bytes_before c shape a
unfolding bytes_before
stretches c d h shape a zero le = let e : a ≡ 0 = omega arith in rw e (omega arith)
stretches c d h shape a (suc b) le =
    let more = size_at-le c d h shape b in
    elim (cases_lt b a) as (λ _. bytes_before c shape (suc b) + bytes_before d shape a ≤ bytes_before d shape (suc b) + bytes_before c shape a) [
      | inl lt ↦ (let e : a ≡ suc b = omega arith in rw e (omega arith))
      | inr ge ↦ (let ih = stretches c d h shape a b ge in omega arith)
    ]

-- a later statement has no fewer bytes before it
pub bytes_before-le : (c : Choice) (shape : List Statement) (a b : ℕ) → a ≤ b → bytes_before c shape a ≤ bytes_before c shape b
unfolding bytes_before
bytes_before-le c shape a zero le = let e : a ≡ 0 = omega arith in rw e (omega arith)
bytes_before-le c shape a (suc b) le =
    elim (cases_lt b a) as (λ _. bytes_before c shape a ≤ bytes_before c shape (suc b)) [
      | inl lt ↦ (let e : a ≡ suc b = omega arith in rw e (omega arith))
      | inr ge ↦ (let ih = bytes_before-le c shape a b ge in omega arith)
    ]

-- a jump that reaches its target in the longer choice reaches it in the shorter one
pub reaches-within : (c d : Choice) → Within c d → (shape : List Statement) (k t : ℕ) → Reaches d shape k t → Reaches c shape k t
reaches-within c d h shape k t r =
    elim (cases_lt k t) [
      | inl lt ↦ (let wide : k ≤ t = omega arith in
          let more = stretches c d h shape k t wide in let up = bytes_before-le c shape k t wide in (omega arith, omega arith))
      | inr ge ↦ (let more = stretches c d h shape t k ge in let up = bytes_before-le c shape t k ge in (omega arith, omega arith))
    ]

-- the longer choice takes no fewer bytes
pub total-le : (c d : Choice) → Within c d → (shape : List Statement) → total c shape ≤ total d shape
unfolding bytes_before
total-le c d h shape = let more = stretches c d h shape 0 (length shape) (omega arith) in omega arith

-- a jump that has to be long because of jumps that are long in a settled choice is long in that choice
forced_one : (shape : List Statement) (earlier : List ℕ) (j : ℕ) → Misses (after earlier) shape j → (c : Choice) → IsSettled c shape → Within (after earlier) c → c j ≡ true
forced_one shape earlier j f c settled within =
    true_from_ne_false (c j) (λ short. f.misses (reaches-within (after earlier) c within shape j f.target (settled j f.target f.jump short)))

-- the choice with one more long jump
pub after-more : (order : List ℕ) (i k : ℕ) → i < length order → after (take (i + 1) order) k ≡ (after (take i order) k || eqb (get_or order i 0) k)
after-more order i k lt = list_any_more (λ j. eqb j k) order i 0 lt

forced_below : (shape : List Statement) (order : List ℕ) → IsForcing shape order → (c : Choice) → IsSettled c shape → (i : ℕ) → i ≤ length order → Within (after (take i order)) c
forced_below shape order forcing c settled zero le k long = absurd (cc long)
forced_below shape order forcing c settled (suc i) le k long =
    let ih = forced_below shape order forcing c settled i (omega arith) in
    let lt : i < length order = omega arith in
    let split = rw (← add-one i, after-more order i k lt) at long in
    elim (or_cases _ _ split) [
      | inl early ↦ ih k early
      | inr last ↦ subst (λ n. c n ≡ true) (eqb-true _ _ last) (forced_one shape (take i order) (get_or order i 0) (forcing i lt) c settled ih)
    ]

-- every member of a forcing order is long in every settled choice
pub forced : (shape : List Statement) (order : List ℕ) → IsForcing shape order → (c : Choice) → IsSettled c shape → Within (after order) c
forced shape order forcing c settled k long =
    forced_below shape order forcing c settled (length order) (omega arith) k (let all : take (length order) order ≡ order = take_all (length order) order (omega arith) in rw all long)

-- what is shown of the choice after a forcing order holds of every choice
pub shown_holds : (shape : List Statement) (order : List ℕ) (v : Verdict) → IsForcing shape order → IsVerdictOf (after order) shape v → HoldsOfEveryChoice shape v
shown_holds shape order (Best n) forcing (valid, bytes) = (
  after order,
  record {
    valid = valid;
    least = λ other v. total-le (after order) other (forced shape order forcing other v.settled) shape;
  },
  bytes,
)
shown_holds shape order (Range k) forcing out =
    λ other valid. out.misses (reaches-within (after order) other (forced shape order forcing other valid.settled) shape k out.target (valid.shorts k out.target out.jump))
shown_holds shape order (TooLarge n) forcing (bytes, above) =
    λ other valid. (
    let le = total-le (after order) other (forced shape order forcing other valid.settled) shape in
    let fits = valid.fits in
    absurd (omega arith)
    )
