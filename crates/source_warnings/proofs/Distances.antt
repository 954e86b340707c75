-- Statements within some bytes of an address, if no relaxable jump is.
use Rattle.std.proofs.Common.{◌≡◌, ◌≤◌, ◌<◌, ◌+◌, ◌-◌, ℕ, zero, suc, Bool, true, false, [], ◌∷◌, Some, None, if◌then◌else◌, nat_lt, take, refl, subst, ap, arith}
use Rattle.std.proofs.Math.Numerals.{suc-eq-add-one}
use Rattle.std.proofs.lemmas.Bool.Decides.{nat_tests}
use Rattle.source_warnings.specs.Jumps.Distances.{Sizes, jump_within}
use Rattle.source_warnings.specs.Jumps.Laws.{bytes_under}
use Rattle.source_warnings.specs.declared.jumps.part.Site.{Site}

is_false : {A : Type 0} (test : Bool) (x : A) → (if test then Some x else None) ≡ None → test ≡ false
is_false true x none = cc
is_false false x none = refl

-- a jump is within every number of bytes but 0
no_bytes : (bytes : ℕ) (site : Site) → (if nat_lt 0 bytes then Some site else None) ≡ None → bytes ≡ 0
no_bytes bytes site none = let no = is_false (nat_lt 0 bytes) site none in grind (arith, nat_tests, no)

jump_size : (long : Bool) → 2 ≤ (if long then 3 else 2)
jump_size true = omega arith
jump_size false = omega arith

pub begins : (sizes : Sizes) (bytes : ℕ) → jump_within bytes sizes ≡ None → (one other : Site → Bool) (n : ℕ) → bytes_under one (take n sizes) ≤ bytes → bytes_under one (take n sizes) ≡ bytes_under other (take n sizes)
begins sizes bytes none one other zero h = refl
begins [] bytes none one other (suc n) h = refl
begins ((site, Some size) ∷ rest) bytes none one other (suc n) h = ap (λ k. size + k) (begins rest (bytes - size) none one other n (omega (arith, h)))
begins ((site, None) ∷ rest) bytes none one other (suc n) h = let zero_bytes = no_bytes bytes site none in let two = jump_size (one site) in absurd (omega (arith, h, zero_bytes, two))

ends_by : (sizes : Sizes) (bytes : ℕ) → jump_within bytes sizes ≡ None → (one other : Site → Bool) (n : ℕ) → bytes_under one (take n sizes) < bytes → bytes_under one (take (suc n) sizes) ≡ bytes_under other (take (suc n) sizes)
ends_by [] bytes none one other n h = refl
ends_by ((site, Some size) ∷ rest) bytes none one other zero h = refl
ends_by ((site, Some size) ∷ rest) bytes none one other (suc n) h = ap (λ k. size + k) (ends_by rest (bytes - size) none one other n (omega (arith, h)))
ends_by ((site, None) ∷ rest) bytes none one other n h = let zero_bytes = no_bytes bytes site none in absurd (omega (arith, h, zero_bytes))

pub ends : (sizes : Sizes) (bytes : ℕ) → jump_within bytes sizes ≡ None → (one other : Site → Bool) (n : ℕ) → bytes_under one (take n sizes) < bytes → bytes_under one (take (n + 1) sizes) ≡ bytes_under other (take (n + 1) sizes)
ends sizes bytes none one other n h = subst (λ m. bytes_under one (take m sizes) ≡ bytes_under other (take m sizes)) (suc-eq-add-one n) (ends_by sizes bytes none one other n h)
