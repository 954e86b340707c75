-- What the definitions say against the classical wrong ways to choose: leaving every jump long; starting with all long
-- and shortening what fits; and judging range or size with every jump long. Each would give an answer that is no growth
-- of the shape defined here.
use Rattle.std.proofs.Common.{◌≡◌, ◌≢◌, ℕ, zero, suc, Bool, true, false, List, [], ◌∷◌, Some, refl, sym, ap, subst, ◌∙◌, arith}
use Rattle.std.specs.List.{slice_get}
use Rattle.common.specs.declared.limits.TheConstants.{LONGEST_PROGRAM}
use Rattle.relax.specs.declared.shape.Statement.{Statement}
use Rattle.relax.specs.declared.shape.Statement.TheVariants.{Fixed, Jump, Short}
use Rattle.relax.specs.Choice.{Choice, bytes_before, chosen, total, IsJump, IsNear, IsShort, IsSettled, Reaches}
use Rattle.relax.specs.declared.growth.Growth.{Growth}
use Rattle.relax.specs.declared.growth.Verdict.TheVariants.{Range, TooLarge}
use Rattle.relax.specs.Growth.{Holds, IsGrowth}

abbrev all_short : Choice
all_short k = false

false_from_not : (b : Bool) → (b ≡ true → ⊥) → b ≡ false
false_from_not true no_way = absurd (no_way refl)
false_from_not false no_way = refl

-- a jump that is short in some settled choice is short in the answer
short_if_it_may_be : (shape : List Statement) (g : Growth) (k t : ℕ) → IsGrowth shape g → IsSettled all_short shape → IsJump shape k t → chosen g.long.items k ≡ false
short_if_it_may_be shape g k t is settled jump =
    false_from_not (chosen g.long.items k) (λ long. let both : true ≡ false = sym ((is.needed k t jump).0 long all_short settled) in absurd (cc both))

-- a jump over 127 bytes, which reaches its target
abbrev over_127 : List Statement
over_127 = Jump 2 ∷ Fixed 127 ∷ Fixed 1 ∷ []

over_127_settled : IsSettled all_short over_127
unfolding bytes_before
over_127_settled zero t jump short =
    let there : 2 ≡ t = cc jump in
    let near : IsNear 256 385 = (omega arith, omega arith) in
    subst (Reaches all_short over_127 0) there near
over_127_settled (suc zero) t jump short = absurd (cc jump)
over_127_settled (suc (suc zero)) t jump short = absurd (cc jump)
over_127_settled (suc (suc (suc k))) t jump short = absurd (cc jump)

-- so the answer does not leave it long
pub not_left_long : (g : Growth) → IsGrowth over_127 g → chosen g.long.items 0 ≡ false
not_left_long g is = short_if_it_may_be over_127 g 0 2 is over_127_settled refl

-- two jumps that reach their targets if both are short; if one is long, the other does not reach
abbrev both_or_none : List Statement
both_or_none = Jump 4 ∷ Fixed 124 ∷ Jump 0 ∷ Fixed 1 ∷ []

both_or_none_settled : IsSettled all_short both_or_none
unfolding bytes_before
both_or_none_settled zero t jump short =
    let there : 4 ≡ t = cc jump in
    let near : IsNear 256 385 = (omega arith, omega arith) in
    subst (Reaches all_short both_or_none 0) there near
both_or_none_settled (suc zero) t jump short = absurd (cc jump)
both_or_none_settled (suc (suc zero)) t jump short =
    let there : 0 ≡ t = cc jump in
    let near : IsNear 382 256 = (omega arith, omega arith) in
    subst (Reaches all_short both_or_none 2) there near
both_or_none_settled (suc (suc (suc zero))) t jump short = absurd (cc jump)
both_or_none_settled (suc (suc (suc (suc k)))) t jump short = absurd (cc jump)

-- so the answer leaves neither long, as a linker would that starts with both long and shortens what fits
pub not_shrunk_from_long : (g : Growth) → IsGrowth both_or_none g → (chosen g.long.items 0 ≡ false) × (chosen g.long.items 2 ≡ false)
not_shrunk_from_long g is = (short_if_it_may_be both_or_none g 0 4 is both_or_none_settled refl, short_if_it_may_be both_or_none g 2 0 is both_or_none_settled refl)

-- a jump that is always short, and that reaches its target only if the jump after it is short
abbrev just_in_range : List Statement
just_in_range = Short 3 ∷ Jump 2 ∷ Fixed 125 ∷ Fixed 1 ∷ []

just_in_range_settled : IsSettled all_short just_in_range
unfolding bytes_before
just_in_range_settled zero t jump short = absurd (cc jump)
just_in_range_settled (suc zero) t jump short =
    let there : 2 ≡ t = cc jump in
    let near : IsNear 258 260 = (omega arith, omega arith) in
    subst (Reaches all_short just_in_range 1) there near
just_in_range_settled (suc (suc zero)) t jump short = absurd (cc jump)
just_in_range_settled (suc (suc (suc zero))) t jump short = absurd (cc jump)
just_in_range_settled (suc (suc (suc (suc k)))) t jump short = absurd (cc jump)

just_in_range_reaches : (t : ℕ) → IsShort just_in_range 0 t → Reaches all_short just_in_range 0 t
unfolding bytes_before
just_in_range_reaches t short =
    let there : 3 ≡ t = cc short in
    let near : IsNear 256 385 = (omega arith, omega arith) in
    subst (Reaches all_short just_in_range 0) there near

-- so it is not out of range, as it would be if range were judged with every jump long
pub not_judged_all_long : (g : Growth) → IsGrowth just_in_range g → g.verdict ≢ Range 0
not_judged_all_long g is e =
    let out = subst (Holds (chosen g.long.items) just_in_range) e is.verdict in
    out.always all_short just_in_range_settled (just_in_range_reaches out.lowest.target out.lowest.jump)

-- a program that fits only if its jump is short
abbrev just_enough : List Statement
just_enough = Fixed 64510 ∷ Jump 1 ∷ []

just_enough_settled : IsSettled all_short just_enough
unfolding bytes_before
just_enough_settled zero t jump short = absurd (cc jump)
just_enough_settled (suc zero) t jump short =
    let there : 1 ≡ t = cc jump in
    let near : IsNear 64766 64766 = (omega arith, omega arith) in
    subst (Reaches all_short just_enough 1) there near
just_enough_settled (suc (suc k)) t jump short = absurd (cc jump)

just_enough_total : total all_short just_enough ≡ 64512
unfolding bytes_before
just_enough_total = refl

-- so it is not too large, as it would be if its size were judged with every jump long
pub not_measured_all_long : (g : Growth) (n : ℕ) → IsGrowth just_enough g → g.verdict ≢ TooLarge n
not_measured_all_long g n is e =
    let large = subst (Holds (chosen g.long.items) just_enough) e is.verdict in
    let least = large.least all_short just_enough_settled in
    omega (arith, large.above, least, just_enough_total)
