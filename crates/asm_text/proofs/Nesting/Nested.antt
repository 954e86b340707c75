-- A body or IF within a block is passed over as a whole.
use Rattle.std.proofs.Common.{◌≡◌, ◌+◌, ◌∙◌, sym, ap, refl, ℕ, zero, suc, List, [], ◌∷◌, Option, Some, None, drop, arith}
use Rattle.std.specs.Option.{option_map}
use Rattle.asm_text.specs.declared.matching.Role.{Role}
use Rattle.asm_text.specs.Nesting.Blocks.{Lengths, body_length, branch_lengths, divided, longer}
use Rattle.asm_text.specs.Private.Nesting.{if_length}

-- a count of lines, with n lines more
abbrev pub further : ℕ → Option ℕ → Option ℕ
further n None = None
further n (Some m) = Some (n + m)

-- the first branch has n lines more
abbrev pub lengthened : ℕ → Option Lengths → Option Lengths
lengthened n None = None
lengthened n (Some l) = Some (n + l.0, l.1)

-- how many lines a body has after n lines, and the line that ends them, are passed over
abbrev pub body_behind : Option ℕ → List Role → Option ℕ
body_behind None roles = None
body_behind (Some n) roles = further (suc n) (body_length 0 (drop (suc n) roles))

-- the branches of an IF after n lines of the first, and the line that ends them, are passed over
abbrev pub branches_behind : ℕ → Option ℕ → List Role → Option Lengths
branches_behind ifs None roles = None
branches_behind ifs (Some n) roles = lengthened (suc n) (branch_lengths 0 ifs (drop (suc n) roles))

further_suc : (n : ℕ) (o : Option ℕ) → option_map suc (further n o) ≡ further (suc n) o
further_suc n None = refl
further_suc n (Some m) = let e : suc (n + m) ≡ suc n + m = omega arith in ap Some e

further_one : (o : Option ℕ) → option_map suc o ≡ further 1 o
further_one None = refl
further_one (Some m) = let e : suc m ≡ 1 + m = omega arith in ap Some e

lengthened_suc : (n : ℕ) (l : Option Lengths) → option_map longer (lengthened n l) ≡ lengthened (suc n) l
lengthened_suc n None = refl
lengthened_suc n (Some l) = let e : suc (n + l.0) ≡ suc n + l.0 = omega arith in ap (λ m. Some (m, l.1)) e

lengthened_one : (l : Option Lengths) → option_map longer l ≡ lengthened 1 l
lengthened_one None = refl
lengthened_one (Some l) = let e : suc l.0 ≡ 1 + l.0 = omega arith in ap (λ m. Some (m, l.1)) e

body_step : (role : Role) (o : Option ℕ) (rs : List Role) → option_map suc (body_behind o rs) ≡ body_behind (option_map suc o) (role ∷ rs)
body_step role None rs = refl
body_step role (Some n) rs = further_suc (suc n) (body_length 0 (drop (suc n) rs))

-- A body within another ends first.
pub body_over : (j : ℕ) (rs : List Role) → body_length (suc j) rs ≡ body_behind (body_length j rs) rs
body_over j [] = refl
body_over j (Role.OpensBody ∷ rs) = ap (option_map suc) (body_over (suc j) rs) ∙ body_step Role.OpensBody (body_length (suc j) rs) rs
body_over zero (Role.EndBody ∷ rs) = further_one (body_length 0 rs)
body_over (suc j) (Role.EndBody ∷ rs) = ap (option_map suc) (body_over j rs) ∙ body_step Role.EndBody (body_length j rs) rs
body_over j (Role.OpensIf ∷ rs) = ap (option_map suc) (body_over j rs) ∙ body_step Role.OpensIf (body_length j rs) rs
body_over j (Role.Else ∷ rs) = ap (option_map suc) (body_over j rs) ∙ body_step Role.Else (body_length j rs) rs
body_over j (Role.EndIf ∷ rs) = ap (option_map suc) (body_over j rs) ∙ body_step Role.EndIf (body_length j rs) rs
body_over j (Role.Other ∷ rs) = ap (option_map suc) (body_over j rs) ∙ body_step Role.Other (body_length j rs) rs

branches_step : (role : Role) (ifs : ℕ) (o : Option ℕ) (rs : List Role) → option_map longer (branches_behind ifs o rs) ≡ branches_behind ifs (option_map suc o) (role ∷ rs)
branches_step role ifs None rs = refl
branches_step role ifs (Some n) rs = lengthened_suc (suc n) (branch_lengths 0 ifs (drop (suc n) rs))

-- A body within a branch is passed over.
pub over_body : (j i : ℕ) (rs : List Role) → branch_lengths (suc j) i rs ≡ branches_behind i (body_length j rs) rs
over_body j i [] = refl
over_body j i (Role.OpensBody ∷ rs) = ap (option_map longer) (over_body (suc j) i rs) ∙ branches_step Role.OpensBody i (body_length (suc j) rs) rs
over_body zero i (Role.EndBody ∷ rs) = lengthened_one (branch_lengths 0 i rs)
over_body (suc j) i (Role.EndBody ∷ rs) = ap (option_map longer) (over_body j i rs) ∙ branches_step Role.EndBody i (body_length j rs) rs
over_body j i (Role.OpensIf ∷ rs) = ap (option_map longer) (over_body j i rs) ∙ branches_step Role.OpensIf i (body_length j rs) rs
over_body j i (Role.Else ∷ rs) = ap (option_map longer) (over_body j i rs) ∙ branches_step Role.Else i (body_length j rs) rs
over_body j i (Role.EndIf ∷ rs) = ap (option_map longer) (over_body j i rs) ∙ branches_step Role.EndIf i (body_length j rs) rs
over_body j i (Role.Other ∷ rs) = ap (option_map longer) (over_body j i rs) ∙ branches_step Role.Other i (body_length j rs) rs

pub if_longer : (l : Option Lengths) → option_map if_length (option_map longer l) ≡ option_map suc (option_map if_length l)
if_longer None = refl
if_longer (Some l) = let e : if_length (longer l) ≡ suc (if_length l) = omega arith in ap Some e

pub if_divided : (l : Option Lengths) → option_map if_length (option_map divided l) ≡ option_map suc (option_map if_length l)
if_divided None = refl
if_divided (Some l) = let e : if_length (divided l) ≡ suc (if_length l) = omega arith in ap Some e

if_step : (role : Role) (l x : Option Lengths) (rs : List Role) → x ≡ branches_behind 0 (option_map if_length l) rs
    → option_map longer x ≡ branches_behind 0 (option_map if_length (option_map longer l)) (role ∷ rs)
if_step role l x rs e =
    ap (option_map longer) e ∙ branches_step role 0 (option_map if_length l) rs ∙ ap (λ o. branches_behind 0 o (role ∷ rs)) (sym (if_longer l))

-- An IF within a branch is passed over.
pub over_if : (b i : ℕ) (rs : List Role) → branch_lengths b (suc i) rs ≡ branches_behind 0 (option_map if_length (branch_lengths b i rs)) rs
over_if b i [] = refl
over_if b i (Role.OpensBody ∷ rs) = if_step Role.OpensBody (branch_lengths (suc b) i rs) (branch_lengths (suc b) (suc i) rs) rs (over_if (suc b) i rs)
over_if zero i (Role.EndBody ∷ rs) = if_step Role.EndBody (branch_lengths zero i rs) (branch_lengths zero (suc i) rs) rs (over_if zero i rs)
over_if (suc b) i (Role.EndBody ∷ rs) = if_step Role.EndBody (branch_lengths b i rs) (branch_lengths b (suc i) rs) rs (over_if b i rs)
over_if zero i (Role.OpensIf ∷ rs) = if_step Role.OpensIf (branch_lengths zero (suc i) rs) (branch_lengths zero (suc (suc i)) rs) rs (over_if zero (suc i) rs)
over_if (suc b) i (Role.OpensIf ∷ rs) = if_step Role.OpensIf (branch_lengths (suc b) i rs) (branch_lengths (suc b) (suc i) rs) rs (over_if (suc b) i rs)
over_if zero zero (Role.Else ∷ rs) =
    ap (option_map longer) (over_if zero zero rs) ∙ branches_step Role.Else 0 (option_map if_length (branch_lengths 0 0 rs)) rs
    ∙ ap (λ o. branches_behind 0 o (Role.Else ∷ rs)) (sym (if_divided (branch_lengths 0 0 rs)))
over_if zero (suc i) (Role.Else ∷ rs) = if_step Role.Else (branch_lengths zero (suc i) rs) (branch_lengths zero (suc (suc i)) rs) rs (over_if zero (suc i) rs)
over_if (suc b) i (Role.Else ∷ rs) = if_step Role.Else (branch_lengths (suc b) i rs) (branch_lengths (suc b) (suc i) rs) rs (over_if (suc b) i rs)
over_if zero zero (Role.EndIf ∷ rs) = lengthened_one (branch_lengths 0 0 rs)
over_if zero (suc i) (Role.EndIf ∷ rs) = if_step Role.EndIf (branch_lengths zero i rs) (branch_lengths zero (suc i) rs) rs (over_if zero i rs)
over_if (suc b) i (Role.EndIf ∷ rs) = if_step Role.EndIf (branch_lengths (suc b) i rs) (branch_lengths (suc b) (suc i) rs) rs (over_if (suc b) i rs)
over_if b i (Role.Other ∷ rs) = if_step Role.Other (branch_lengths b i rs) (branch_lengths b (suc i) rs) rs (over_if b i rs)
