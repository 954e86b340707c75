-- What keys say of those that come after them.
use Rattle.std.proofs.Common.{◌≡◌, ◌==◌, ◌||◌, ◌&&◌, ◌-◌, ℕ, Bool, true, false, true≢false, List, [], ◌∷◌, ◌++◌, Some, length, refl, suc, slice_get, subst, sym, arith}
use Rattle.z80dev_run.specs.Desk.{has_left, leaves_by}
use Rattle.z80dev_run.specs.declared.desk.Keys.{Keys}
use Rattle.z80dev_run.specs.declared.desk.Keys.TheVariants.{Raw, Lines}

or_left : (a b : Bool) → (a || b) ≡ false → a ≡ false
or_left false b none = refl
or_left true b none = none

or_right : (a b : Bool) → (a || b) ≡ false → b ≡ false
or_right false b none = none
or_right true b none = absurd (true≢false none)

-- If nobody left by these, only the last of them counts for those that follow.
pub has_left-after : (was : Bool) (bytes more : List ℕ) (last : ℕ) → slice_get bytes (length bytes - 1) ≡ Some last → has_left was bytes ≡ false
    → has_left was (bytes ++ more) ≡ has_left (last == 0x1C) more
has_left-after was [] more last at stays = cc
has_left-after was (byte ∷ []) more last at stays =
    let front : was && (byte == 0x1C) ≡ false = or_left (was && (byte == 0x1C)) false stays in
    let same : byte ≡ last = cc in
    rw (front, same) refl
has_left-after was (byte ∷ next ∷ bytes) more last at stays =
    let front : was && (byte == 0x1C) ≡ false = or_left (was && (byte == 0x1C)) (has_left (byte == 0x1C) (next ∷ bytes)) stays in
    let place : suc (suc (length bytes)) - 1 ≡ suc (suc (length bytes) - 1) = omega arith in
    let at_rest = subst (λ k. slice_get (byte ∷ next ∷ bytes) k ≡ Some last) place at in
    rw front (has_left-after (byte == 0x1C) (next ∷ bytes) more last at_rest (or_right (was && (byte == 0x1C)) (has_left (byte == 0x1C) (next ∷ bytes)) stays))

-- the same, however keys come
pub leaves_by-after : (keys : Keys) (was : Bool) (bytes more : List ℕ) (last : ℕ) → slice_get bytes (length bytes - 1) ≡ Some last → has_left was bytes ≡ false
    → leaves_by keys (last == 0x1C) more ≡ leaves_by keys was (bytes ++ more)
leaves_by-after Raw was bytes more last at stays = sym (has_left-after was bytes more last at stays)
leaves_by-after Lines was bytes more last at stays = refl
