-- Blocks that end within the first lines, and those that do not.
use Rattle.std.proofs.Common.{◌≡◌, ◌<◌, ◌+◌, ◌∙◌, sym, ap, refl, ℕ, zero, suc, List, [], ◌∷◌, Option, Some, None, take, length, arith, true, false, if◌then◌else◌, nat_lt, subst, inl, inr, Bool}
use Rattle.std.specs.Option.{option_map}
use Rattle.std.proofs.lemmas.Bool.{cases_lt, le-ltb, lt-ltb}
use Rattle.std.proofs.Math.Seq.{take-length}
use Rattle.asm_text.specs.declared.matching.Role.{Role}
use Rattle.asm_text.specs.Nesting.Blocks.{Lengths, body_length, branch_lengths, divided, longer}
use Rattle.asm_text.specs.Private.Nesting.{if_length}

abbrev pub cut : ℕ → Option ℕ → Option ℕ
cut c None = None
cut c (Some n) = if nat_lt n c then Some n else None

abbrev pub cut_branches : ℕ → Option Lengths → Option Lengths
cut_branches c None = None
cut_branches c (Some l) = if nat_lt (if_length l) c then Some l else None

lt_suc : (n c : ℕ) → nat_lt n c ≡ nat_lt (suc n) (suc c)
lt_suc n c =
    elim (cases_lt n c) as (λ _. nat_lt n c ≡ nat_lt (suc n) (suc c)) [
      | inl lt ↦ lt-ltb n c lt ∙ sym (lt-ltb (suc n) (suc c) (omega (arith, lt)))
      | inr ge ↦ le-ltb n c ge ∙ sym (le-ltb (suc n) (suc c) (omega (arith, ge)))
    ]

mapped : {X Y : Type 0} (f : X → Y) (b : Bool) (x : X) → option_map f (if b then Some x else None) ≡ (if b then Some (f x) else None)
mapped f true x = refl
mapped f false x = refl

cut_zero : (o : Option ℕ) → None ≡ cut 0 o
cut_zero None = refl
cut_zero (Some n) = sym (ap (λ b. if b then Some n else None) (le-ltb n 0 (omega arith)))

cut_step : (c : ℕ) (o : Option ℕ) → option_map suc (cut c o) ≡ cut (suc c) (option_map suc o)
cut_step c None = refl
cut_step c (Some n) = mapped suc (nat_lt n c) n ∙ ap (λ b. if b then Some (suc n) else None) (lt_suc n c)

some_none : {X : Type 0} {x : X} → ◌≡◌ {A = Option X} (Some x) None → ⊥
some_none e = cc

pub body_cut : (c j : ℕ) (rs : List Role) → body_length j (take c rs) ≡ cut c (body_length j rs)
body_cut zero j [] = refl
body_cut zero j (r ∷ rs) = cut_zero (body_length j (r ∷ rs))
body_cut (suc c) j [] = refl
body_cut (suc c) j (Role.OpensBody ∷ rs) = ap (option_map suc) (body_cut c (suc j) rs) ∙ cut_step c (body_length (suc j) rs)
body_cut (suc c) zero (Role.EndBody ∷ rs) = sym (ap (λ b. if b then Some 0 else None) (lt-ltb 0 (suc c) (omega arith)))
body_cut (suc c) (suc j) (Role.EndBody ∷ rs) = ap (option_map suc) (body_cut c j rs) ∙ cut_step c (body_length j rs)
body_cut (suc c) j (Role.OpensIf ∷ rs) = ap (option_map suc) (body_cut c j rs) ∙ cut_step c (body_length j rs)
body_cut (suc c) j (Role.Else ∷ rs) = ap (option_map suc) (body_cut c j rs) ∙ cut_step c (body_length j rs)
body_cut (suc c) j (Role.EndIf ∷ rs) = ap (option_map suc) (body_cut c j rs) ∙ cut_step c (body_length j rs)
body_cut (suc c) j (Role.Other ∷ rs) = ap (option_map suc) (body_cut c j rs) ∙ cut_step c (body_length j rs)

none_cut : (l : Option Lengths) → None ≡ cut_branches 0 l
none_cut None = refl
none_cut (Some l) = sym (ap (λ b. if b then Some l else None) (le-ltb (if_length l) 0 (omega arith)))

longer_cut : (c : ℕ) (l : Option Lengths) → option_map longer (cut_branches c l) ≡ cut_branches (suc c) (option_map longer l)
longer_cut c None = refl
longer_cut c (Some l) =
    let e : suc (if_length l) ≡ if_length (longer l) = omega arith in
    mapped longer (nat_lt (if_length l) c) l ∙ ap (λ b. if b then Some (longer l) else None) (lt_suc (if_length l) c ∙ ap (λ n. nat_lt n (suc c)) e)

divided_cut : (c : ℕ) (l : Option Lengths) → option_map divided (cut_branches c l) ≡ cut_branches (suc c) (option_map divided l)
divided_cut c None = refl
divided_cut c (Some l) =
    let e : suc (if_length l) ≡ if_length (divided l) = omega arith in
    mapped divided (nat_lt (if_length l) c) l ∙ ap (λ b. if b then Some (divided l) else None) (lt_suc (if_length l) c ∙ ap (λ n. nat_lt n (suc c)) e)

pub branches_cut : (c b i : ℕ) (rs : List Role) → branch_lengths b i (take c rs) ≡ cut_branches c (branch_lengths b i rs)
branches_cut zero b i [] = refl
branches_cut zero b i (r ∷ rs) = none_cut (branch_lengths b i (r ∷ rs))
branches_cut (suc c) b i [] = refl
branches_cut (suc c) b i (Role.OpensBody ∷ rs) = ap (option_map longer) (branches_cut c (suc b) i rs) ∙ longer_cut c (branch_lengths (suc b) i rs)
branches_cut (suc c) zero i (Role.EndBody ∷ rs) = ap (option_map longer) (branches_cut c zero i rs) ∙ longer_cut c (branch_lengths zero i rs)
branches_cut (suc c) (suc b) i (Role.EndBody ∷ rs) = ap (option_map longer) (branches_cut c b i rs) ∙ longer_cut c (branch_lengths b i rs)
branches_cut (suc c) zero i (Role.OpensIf ∷ rs) = ap (option_map longer) (branches_cut c zero (suc i) rs) ∙ longer_cut c (branch_lengths zero (suc i) rs)
branches_cut (suc c) (suc b) i (Role.OpensIf ∷ rs) = ap (option_map longer) (branches_cut c (suc b) i rs) ∙ longer_cut c (branch_lengths (suc b) i rs)
branches_cut (suc c) zero zero (Role.Else ∷ rs) = ap (option_map divided) (branches_cut c zero zero rs) ∙ divided_cut c (branch_lengths 0 0 rs)
branches_cut (suc c) zero (suc i) (Role.Else ∷ rs) = ap (option_map longer) (branches_cut c zero (suc i) rs) ∙ longer_cut c (branch_lengths zero (suc i) rs)
branches_cut (suc c) (suc b) i (Role.Else ∷ rs) = ap (option_map longer) (branches_cut c (suc b) i rs) ∙ longer_cut c (branch_lengths (suc b) i rs)
branches_cut (suc c) zero zero (Role.EndIf ∷ rs) = let none : 0 + 0 < suc c = omega arith in sym (ap (λ b. if b then Some (0, []) else None) (lt-ltb (0 + 0) (suc c) none))
branches_cut (suc c) zero (suc i) (Role.EndIf ∷ rs) = ap (option_map longer) (branches_cut c zero i rs) ∙ longer_cut c (branch_lengths zero i rs)
branches_cut (suc c) (suc b) i (Role.EndIf ∷ rs) = ap (option_map longer) (branches_cut c (suc b) i rs) ∙ longer_cut c (branch_lengths (suc b) i rs)
branches_cut (suc c) b i (Role.Other ∷ rs) = ap (option_map longer) (branches_cut c b i rs) ∙ longer_cut c (branch_lengths b i rs)

-- The ENDIF of an IF that is closed is one of the lines.
pub within : (rs : List Role) (l : Lengths) → branch_lengths 0 0 rs ≡ Some l → if_length l < length rs
within rs l e =
    let all : ◌≡◌ {A = Option Lengths} (Some l) (cut_branches (length rs) (Some l)) = subst (λ x. x ≡ cut_branches (length rs) x) e (ap (branch_lengths 0 0) (sym (take-length rs)) ∙ branches_cut (length rs) 0 0 rs) in
    elim (cases_lt (if_length l) (length rs)) as (λ _. if_length l < length rs) [
      | inl lt ↦ lt
      | inr ge ↦ absurd (some_none (all ∙ ap (λ b. if b then Some l else None) (le-ltb (if_length l) (length rs) ge)))
    ]

pub body_within : (rs : List Role) (n : ℕ) → body_length 0 rs ≡ Some n → n < length rs
body_within rs n e =
    let all : ◌≡◌ {A = Option ℕ} (Some n) (cut (length rs) (Some n)) = subst (λ x. x ≡ cut (length rs) x) e (ap (body_length 0) (sym (take-length rs)) ∙ body_cut (length rs) 0 rs) in
    elim (cases_lt n (length rs)) as (λ _. n < length rs) [
      | inl lt ↦ lt
      | inr ge ↦ absurd (some_none (all ∙ ap (λ b. if b then Some n else None) (le-ltb n (length rs) ge)))
    ]
