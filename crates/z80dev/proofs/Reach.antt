-- Whether a number leads to another can be computed: a way may go over all numbers below some bound, and the bound grows by one
-- each time.
use Rattle.std.proofs.Common.{◌≡◌, ◌<◌, ◌≤◌, ◌↔◌, ◌⊎◌, ◌||◌, ◌&&◌, inl, inr, refl, sym, subst, ℕ, zero, suc, Bool, true, false, List, [], nat_eq, true≢false, Contains, arith}
use Rattle.std.proofs.lemmas.Bool.{and_parts, eqb-true}
use Rattle.std.proofs.lemmas.Cmp.{nat_eq_equiv}
use Rattle.std.proofs.lemmas.Map.Views.{Contains-from_any, list_any-from_Contains}
use Rattle.std.specs.List.{list_any}
use Rattle.asm_names.specs.Orders.Circles.{LeadsTo}
use Rattle.asm_names.specs.Orders.Circles.LeadsTo.{next, further}

leads_on : {named : ℕ → List ℕ} {a b c : ℕ} → LeadsTo named a b → LeadsTo named b c → LeadsTo named a c
leads_on (next names) more = further names more
leads_on (further names rest) more = further names (leads_on rest more)

-- a leads to b over numbers less than the bound
abbrev Passes : (ℕ → List ℕ) → ℕ → ℕ → ℕ → Type 0
Passes named zero a b = Contains (named a) b
Passes named (suc k) a b = Passes named k a b ⊎ (Passes named k a k × Passes named k k b)

leads : (named : ℕ → List ℕ) (k a b : ℕ) → Passes named k a b → LeadsTo named a b
leads named zero a b names = next names
leads named (suc k) a b (inl p) = leads named k a b p
leads named (suc k) a b (inr p) = leads_on (leads named k a k p.0) (leads named k k b p.1)

to_last : (named : ℕ → List ℕ) (k a : ℕ) → Passes named (suc k) a k → Passes named k a k
to_last named k a (inl p) = p
to_last named k a (inr p) = p.0

from_last : (named : ℕ → List ℕ) (k b : ℕ) → Passes named (suc k) k b → Passes named k k b
from_last named k b (inl p) = p
from_last named k b (inr p) = p.1

last_or_below : (m k : ℕ) → m < suc k → (m ≡ k) ⊎ (m < k)
last_or_below zero zero h = inl refl
last_or_below zero (suc k) h = inr (omega arith)
last_or_below (suc m) zero h = absurd (omega (arith, h))
last_or_below (suc m) (suc k) h = one_more m k (last_or_below m k (omega (arith, h))) where
  one_more : (m k : ℕ) → (m ≡ k) ⊎ (m < k) → (suc m ≡ suc k) ⊎ (suc m < suc k)
  one_more m k (inl same) = inl (omega (arith, same))
  one_more m k (inr less) = inr (omega (arith, less))

-- a way to m and a way from m, both over numbers less than the bound, make one way if m is less than it too
passes_by : (named : ℕ → List ℕ) (k : ℕ) → ((m a b : ℕ) → m < k → Passes named k a m → Passes named k m b → Passes named k a b)
    → (m a b : ℕ) → (m ≡ k) ⊎ (m < k) → Passes named (suc k) a m → Passes named (suc k) m b → Passes named (suc k) a b
passes_by named k on m a b (inl same) p q =
    inr (to_last named k a (subst (λ n. Passes named (suc k) a n) same p), from_last named k b (subst (λ n. Passes named (suc k) n b) same q))
passes_by named k on m a b (inr less) (inl p) (inl q) = inl (on m a b less p q)
passes_by named k on m a b (inr less) (inr p) (inl q) = inr (p.0, on m k b less p.1 q)
passes_by named k on m a b (inr less) (inl p) (inr q) = inr (on m a k less p q.0, q.1)
passes_by named k on m a b (inr less) (inr p) (inr q) = inr (p.0, q.1)

passes_on : (named : ℕ → List ℕ) (k m a b : ℕ) → m < k → Passes named k a m → Passes named k m b → Passes named k a b
passes_on named zero m a b h p q = absurd (omega (arith, h))
passes_on named (suc k) m a b h p q = passes_by named k (passes_on named k) m a b (last_or_below m k h) p q

at_once : (named : ℕ → List ℕ) (k a b : ℕ) → Contains (named a) b → Passes named k a b
at_once named zero a b names = names
at_once named (suc k) a b names = inl (at_once named k a b names)

names_some : {named : ℕ → List ℕ} {a b : ℕ} → LeadsTo named a b → (c : ℕ) × Contains (named a) c
names_some {b = b} (next names) = (b, names)
names_some (further {b = c} names rest) = (c, names)

contains_none : (c : ℕ) → Contains [] c → ⊥
contains_none c h = omega (arith, h.1)

below_or_not : (c n : ℕ) → (c < n) ⊎ (n ≤ c)
below_or_not c zero = inr (omega arith)
below_or_not zero (suc n) = inl (omega arith)
below_or_not (suc c) (suc n) = one_more (below_or_not c n) where
  one_more : (c < n) ⊎ (n ≤ c) → (suc c < suc n) ⊎ (suc n ≤ suc c)
  one_more (inl h) = inl (omega (arith, h))
  one_more (inr h) = inr (omega (arith, h))

over : (named : ℕ → List ℕ) (n : ℕ) → ((k : ℕ) → n ≤ k → named k ≡ []) → (a b c : ℕ) → Contains (named a) c → LeadsTo named c b → Passes named n c b → (c < n) ⊎ (n ≤ c) → Passes named n a b
over named n none a b c names rest p (inl below) = passes_on named n c a b below (at_once named n a c names) p
over named n none a b c names rest p (inr beyond) = let some = names_some rest in absurd (contains_none some.0 (subst (λ xs. Contains xs some.0) (none c beyond) some.1))

-- if no number from n on names anything, each way goes over numbers less than n
passes : (named : ℕ → List ℕ) (n : ℕ) → ((k : ℕ) → n ≤ k → named k ≡ []) → {a b : ℕ} → LeadsTo named a b → Passes named n a b
passes named n none {a} {b} (next names) = at_once named n a b names
passes named n none {a} {b} (further {b = c} names rest) = over named n none a b c names rest (passes named n none rest) (below_or_not c n)

-- the same as a computation
abbrev pub is_passed : (ℕ → List ℕ) → ℕ → ℕ → ℕ → Bool
is_passed named zero a b = list_any (nat_eq b) (named a)
is_passed named (suc k) a b = is_passed named k a b || (is_passed named k a k && is_passed named k k b)

or_cases : (x y : Bool) → (x || y) ≡ true → (x ≡ true) ⊎ (y ≡ true)
or_cases true y h = inl refl
or_cases false y h = inr h

or_left : (x y : Bool) → x ≡ true → (x || y) ≡ true
or_left true y h = refl
or_left false y h = absurd (true≢false (sym h))

or_right : (x y : Bool) → y ≡ true → (x || y) ≡ true
or_right true y h = refl
or_right false y h = h

and_both : (x y : Bool) → x ≡ true → y ≡ true → (x && y) ≡ true
and_both true y h k = k
and_both false y h k = absurd (true≢false (sym h))

told_by : (named : ℕ → List ℕ) (k : ℕ) → ((a b : ℕ) → is_passed named k a b ≡ true → Passes named k a b)
    → (a b : ℕ) → (is_passed named k a b ≡ true) ⊎ ((is_passed named k a k && is_passed named k k b) ≡ true) → Passes named (suc k) a b
told_by named k on a b (inl h) = inl (on a b h)
told_by named k on a b (inr h) = let both = and_parts _ _ h in inr (on a k both.0, on k b both.1)

told : (named : ℕ → List ℕ) (k a b : ℕ) → is_passed named k a b ≡ true → Passes named k a b
told named zero a b h = Contains-from_any eqb-true b (named a) h
told named (suc k) a b h = told_by named k (told named k) a b (or_cases _ _ h)

tells : (named : ℕ → List ℕ) (k a b : ℕ) → Passes named k a b → is_passed named k a b ≡ true
tells named zero a b p = list_any-from_Contains nat_eq_equiv b (named a) p
tells named (suc k) a b (inl p) = or_left _ _ (tells named k a b p)
tells named (suc k) a b (inr p) = or_right _ _ (and_both _ _ (tells named k a k p.0) (tells named k k b p.1))

pub is_led : (named : ℕ → List ℕ) (n : ℕ) → ((k : ℕ) → n ≤ k → named k ≡ []) → (a b : ℕ) → (is_passed named n a b ≡ true) ↔ LeadsTo named a b
is_led named n none a b = (λ h. leads named n a b (told named n a b h), λ l. tells named n a b (passes named n none l))
