-- Looking up the end of a body and the branches of an IF.
use Rattle.std.proofs.Common.{◌≡◌, ◌<◌, ◌≤◌, ◌+◌, ◌-◌, ◌∙◌, sym, ap, refl, subst, ℕ, zero, suc, List, [], ◌∷◌, ◌++◌, Option, Some, None, drop, length, arith, if◌then◌else◌, length-drop, append_assoc, append-nil, map, sum, fold}
use Rattle.std.specs.Option.{option_map}
use Rattle.std.proofs.lemmas.Bool.{le-ltb, lt-ltb}
use Rattle.asm_text.specs.declared.matching.Role.{Role}
use Rattle.asm_text.specs.declared.ends.Ends.{Ends}
use Rattle.asm_text.specs.Nesting.Blocks.{Lengths, between, body_length, branch_lengths, divided, longer}
use Rattle.asm_text.specs.Private.Nesting.{ends_of, if_length, lines_of, reached}
use Rattle.asm_text.proofs.Nesting.Cut.{body_cut, body_within, branches_cut, cut, cut_branches, within}
use Rattle.asm_text.proofs.Nesting.Linked.{role_drop}

body_in : (len from to : ℕ) (o : Option ℕ) → reached len from o < to → reached len from o < len → Some (reached len from o - from) ≡ cut (to - from) o
body_in len from to None h k = absurd (omega (arith, k))
body_in len from to (Some n) h k =
    let less : n < to - from = omega (arith, h) in
    let same : from + n - from ≡ n = omega arith in
    ap Some same ∙ sym (ap (λ b. if b then Some n else None) (lt-ltb n (to - from) less))

body_out : (len from to : ℕ) (o : Option ℕ) → ((n : ℕ) → o ≡ Some n → to ≤ from + n) → None ≡ cut (to - from) o
body_out len from to None h = refl
body_out len from to (Some n) h =
    let past : to - from ≤ n = omega (arith, h n refl) in
    sym (ap (λ b. if b then Some n else None) (le-ltb n (to - from) past))

pub body_found : (rs : List Role) (from to : ℕ) (e : Ends) → e ≡ ends_of (length rs) from (drop from rs) → e.body < to → e.body < length rs → Some (e.body - from) ≡ body_length 0 (between from to rs)
body_found rs from to e is h k =
    let one = subst (λ (e : Ends). e.body < to) is h in
    let two = subst (λ (e : Ends). e.body < length rs) is k in
    ap (λ (e : Ends). Some (e.body - from)) is ∙ body_in (length rs) from to (body_length 0 (drop from rs)) one two ∙ sym (body_cut (to - from) 0 (drop from rs))

body_past : (rs : List Role) (from to : ℕ) (o : Option ℕ) → body_length 0 (drop from rs) ≡ o → (reached (length rs) from o < length rs → to ≤ reached (length rs) from o)
    → (n : ℕ) → o ≡ Some n → to ≤ from + n
body_past rs from to o is h n e =
    let less = body_within (drop from rs) n (is ∙ e) in
    let len = length-drop from rs in
    let at : from + n < length rs = omega (arith, less, len) in
    (subst (λ o. (reached (length rs) from o < length rs → to ≤ reached (length rs) from o)) e h) at

pub body_lost : (rs : List Role) (from to : ℕ) (e : Ends) → e ≡ ends_of (length rs) from (drop from rs) → (e.body < length rs → to ≤ e.body) → None ≡ body_length 0 (between from to rs)
body_lost rs from to e is h =
    body_out (length rs) from to (body_length 0 (drop from rs)) (body_past rs from to (body_length 0 (drop from rs)) refl (subst (λ (e : Ends). e.body < length rs → to ≤ e.body) is h))
    ∙ sym (body_cut (to - from) 0 (drop from rs))

-- The lines after the ELSE that ends the first branch begin the other branches.
abbrev pub Goes_on : Option Lengths → List Role → Type 0
Goes_on (Some (n, m ∷ more)) roles = branch_lengths 0 0 (drop (suc n) roles) ≡ Some (m, more)
Goes_on _ roles = Unit {0}

on_longer : (role : Role) (l : Option Lengths) (rs : List Role) → Goes_on l rs → Goes_on (option_map longer l) (role ∷ rs)
on_longer role None rs g = tt
on_longer role (Some (n, [])) rs g = tt
on_longer role (Some (n, m ∷ more)) rs g = g

on_divided : (l : Option Lengths) (rs : List Role) → branch_lengths 0 0 rs ≡ l → Goes_on (option_map divided l) (Role.Else ∷ rs)
on_divided None rs is = tt
on_divided (Some (n, ns)) rs is = is

pub goes_on : (b i : ℕ) (rs : List Role) → Goes_on (branch_lengths b i rs) rs
goes_on b i [] = tt
goes_on b i (Role.OpensBody ∷ rs) = on_longer Role.OpensBody (branch_lengths (suc b) i rs) rs (goes_on (suc b) i rs)
goes_on zero i (Role.EndBody ∷ rs) = on_longer Role.EndBody (branch_lengths 0 i rs) rs (goes_on 0 i rs)
goes_on (suc b) i (Role.EndBody ∷ rs) = on_longer Role.EndBody (branch_lengths b i rs) rs (goes_on b i rs)
goes_on zero i (Role.OpensIf ∷ rs) = on_longer Role.OpensIf (branch_lengths 0 (suc i) rs) rs (goes_on 0 (suc i) rs)
goes_on (suc b) i (Role.OpensIf ∷ rs) = on_longer Role.OpensIf (branch_lengths (suc b) i rs) rs (goes_on (suc b) i rs)
goes_on zero zero (Role.Else ∷ rs) = on_divided (branch_lengths 0 0 rs) rs refl
goes_on zero (suc i) (Role.Else ∷ rs) = on_longer Role.Else (branch_lengths 0 (suc i) rs) rs (goes_on 0 (suc i) rs)
goes_on (suc b) i (Role.Else ∷ rs) = on_longer Role.Else (branch_lengths (suc b) i rs) rs (goes_on (suc b) i rs)
goes_on zero zero (Role.EndIf ∷ rs) = tt
goes_on zero (suc i) (Role.EndIf ∷ rs) = on_longer Role.EndIf (branch_lengths 0 i rs) rs (goes_on 0 i rs)
goes_on (suc b) i (Role.EndIf ∷ rs) = on_longer Role.EndIf (branch_lengths (suc b) i rs) rs (goes_on (suc b) i rs)
goes_on b i (Role.Other ∷ rs) = on_longer Role.Other (branch_lengths b i rs) rs (goes_on b i rs)

-- The branches after the ELSE in line `at` have these lengths.
abbrev pub Follow : List Role → ℕ → List ℕ → Type 0
Follow rs at [] = Unit {0}
Follow rs at (m ∷ more) = branch_lengths 0 0 (drop (at + 1) rs) ≡ Some (m, more)

pub record Walking (rs : List Role) (at last : ℕ) (found all : List ℕ) : Type 0 where
  pub left : List ℕ
  pub all_of : found ++ left ≡ all
  pub ends : last ≡ at + lines_of left
  pub within : last < length rs
  pub follow : Follow rs at left

follows : (rs : List Role) (from n : ℕ) (ns : List ℕ) → branch_lengths 0 0 (drop from rs) ≡ Some (n, ns) → Follow rs (from + n) ns
follows rs from n [] is = tt
follows rs from n (m ∷ more) is =
    let e : from + suc n ≡ from + n + 1 = omega arith in
    ap (branch_lengths 0 0) (sym (role_drop from (suc n) rs ∙ ap (λ k. drop k rs) e)) ∙ subst (λ l. Goes_on l (drop from rs)) is (goes_on 0 0 (drop from rs))

-- the ends of the branches of an IF that an ENDIF closes
pub walk : (rs : List Role) (from last next : ℕ) (o : Option Lengths) → branch_lengths 0 0 (drop from rs) ≡ o → next ≡ reached (length rs) from (option_map (λ l. l.0) o) → last ≡ reached (length rs) from (option_map if_length o)
    → last < length rs → (l : Lengths) × (o ≡ Some l) × (next ≡ from + l.0) × (last ≡ from + if_length l) × Walking rs next last [] l.1
walk rs from last next None is n e h = absurd (omega (arith, e, h))
walk rs from last next (Some l) is n e h = (
  l,
  refl,
  n,
  e,
  record {
    left = l.1;
    all_of = refl;
    ends = omega (arith, n, e);
    within = h;
    follow = subst (λ k. Follow rs k l.1) (sym n) (follows rs from l.0 l.1 is);
  },
)

walk_more : (rs : List Role) (at last next : ℕ) (found all left : List ℕ) → found ++ left ≡ all → last ≡ at + lines_of left → last < length rs → Follow rs at left → at < last
    → next ≡ (ends_of (length rs) (at + 1) (drop (at + 1) rs)).next → (at < next) × (next ≤ last) × Walking rs next last (found ++ (next - at - 1) ∷ []) all
walk_more rs at last next found all [] is e h f less n = absurd (omega (arith, e, less))
walk_more rs at last next found all (m ∷ more) is e h f less n =
    let to : next ≡ at + 1 + m = n ∙ ap (λ l. reached (length rs) (at + 1) (option_map (λ l. l.0) l)) f in
    let len : next - at - 1 ≡ m = omega (arith, to) in (
      omega (arith, to),
      omega (arith, to, e),
      record {
        left = more;
        all_of = append_assoc found ((next - at - 1) ∷ []) more ∙ ap (λ k. found ++ k ∷ more) len ∙ is;
        ends = omega (arith, to, e);
        within = h;
        follow = subst (λ k. Follow rs k more) (sym to) (follows rs (at + 1) m more f);
      },
    )

pub step : (rs : List Role) (at last next : ℕ) (found all : List ℕ) → Walking rs at last found all → at < last
    → next ≡ (ends_of (length rs) (at + 1) (drop (at + 1) rs)).next → (at < next) × (next ≤ last) × Walking rs next last (found ++ (next - at - 1) ∷ []) all
step rs at last next found all w less n = walk_more rs at last next found all w.left w.all_of w.ends w.within w.follow less n

none_left : (at last : ℕ) (left : List ℕ) → last ≡ at + lines_of left → last ≤ at → left ≡ []
none_left at last [] e h = refl
none_left at last (m ∷ more) e h = absurd (omega (arith, e, h))

pub walked : (rs : List Role) (at last : ℕ) (found all : List ℕ) → Walking rs at last found all → last ≤ at → found ≡ all
walked rs at last found all w h = sym (append-nil found) ∙ ap (λ l. found ++ l) (sym (none_left at last w.left w.ends h)) ∙ w.all_of

pub branches_found : (rs : List Role) (from to : ℕ) (l : Lengths) → branch_lengths 0 0 (drop from rs) ≡ Some l → from + if_length l < to → Some l ≡ branch_lengths 0 0 (between from to rs)
branches_found rs from to l is h =
    let less : if_length l < to - from = omega (arith, h) in
    sym (branches_cut (to - from) 0 0 (drop from rs) ∙ ap (cut_branches (to - from)) is ∙ ap (λ b. if b then Some l else None) (lt-ltb (if_length l) (to - from) less))

branches_out : (from to : ℕ) (o : Option Lengths) → ((l : Lengths) → o ≡ Some l → to ≤ from + if_length l) → None ≡ cut_branches (to - from) o
branches_out from to None h = refl
branches_out from to (Some l) h =
    let past : to - from ≤ if_length l = omega (arith, h l refl) in
    sym (ap (λ b. if b then Some l else None) (le-ltb (if_length l) (to - from) past))

branches_past : (rs : List Role) (from to : ℕ) (o : Option Lengths) → branch_lengths 0 0 (drop from rs) ≡ o
    → (reached (length rs) from (option_map if_length o) < length rs → to ≤ reached (length rs) from (option_map if_length o)) → (l : Lengths) → o ≡ Some l → to ≤ from + if_length l
branches_past rs from to o is h l e =
    let less = within (drop from rs) l (is ∙ e) in
    let len = length-drop from rs in
    let at : from + if_length l < length rs = omega (arith, less, len) in
    (subst (λ o. (reached (length rs) from (option_map if_length o) < length rs → to ≤ reached (length rs) from (option_map if_length o))) e h) at

pub branches_lost : (rs : List Role) (from to : ℕ) (e : Ends) → e ≡ ends_of (length rs) from (drop from rs) → (e.last < length rs → to ≤ e.last) → None ≡ branch_lengths 0 0 (between from to rs)
branches_lost rs from to e is h =
    branches_out from to (branch_lengths 0 0 (drop from rs)) (branches_past rs from to (branch_lengths 0 0 (drop from rs)) refl (subst (λ (e : Ends). e.last < length rs → to ≤ e.last) is h))
    ∙ sym (branches_cut (to - from) 0 0 (drop from rs))

pub body_inside : (rs : List Role) (n : ℕ) → Some n ≡ body_length 0 rs → n < length rs
body_inside rs n e = body_within rs n (sym e)

sum-from : (a : ℕ) (xs : List ℕ) → fold ◌+◌ a xs ≡ a + sum xs
sum-from a [] = omega arith
sum-from a (x ∷ xs) =
    let one = sum-from (a + x) xs in
    let two = sum-from (0 + x) xs in
    let both : (a + x) + sum xs ≡ a + sum (x ∷ xs) = omega (arith, two) in one ∙ both

lines_sum : (ns : List ℕ) → sum (map (λ n. n + 1) ns) ≡ lines_of ns
lines_sum [] = refl
lines_sum (n ∷ ns) =
    let one = sum-from (0 + (n + 1)) (map (λ n. n + 1) ns) in
    let more = lines_sum ns in
    let both : 0 + (n + 1) + sum (map (λ n. n + 1) ns) ≡ lines_of (n ∷ ns) = omega (arith, more) in one ∙ both

pub branches_inside : (rs : List Role) (l : Lengths) → Some l ≡ branch_lengths 0 0 rs → l.0 + sum (map (λ n. n + 1) l.1) < length rs
branches_inside rs l e = omega (arith, within rs l (sym e), lines_sum l.1)
