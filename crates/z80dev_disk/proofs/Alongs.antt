-- Work that is done along a list, element by element.
use Rattle.std.proofs.Common.{◌≡◌, ◌<◌, ◌≤◌, ◌+◌, ℕ, zero, suc, List, [], ◌∷◌, ◌++◌, Some, get_or, length, map, slice_get, take, refl, subst, sym, ◌∙◌, ap, arith}
use Rattle.std.proofs.lemmas.List.{take_all}
use Rattle.cpm_image.specs.declared.directory.fault.DiskFault.{DiskFault}
use Rattle.cpm_disk.specs.Image.{Image}
use Rattle.z80dev_disk.specs.Along.{Along, IsRefusedAlong}
use Rattle.z80dev_disk.specs.Private.{IsRefusedAt}
use Rattle.z80dev_disk.specs.declared.refusal.Refusal.{Refusal}
use Rattle.z80dev_disk.specs.declared.refusal.Refusal.TheVariants as refusal

-- the first n + 1 elements are the first n and then element n
taken_more : {X : Type 0} (xs : List X) (n : ℕ) (x : X) → slice_get xs n ≡ Some x → take (n + 1) xs ≡ take n xs ++ x ∷ []
taken_more [] n x at = absurd cc
taken_more (y ∷ ys) zero x at = let same : y ≡ x = cc in ap (λ z. z ∷ []) same
taken_more (y ∷ ys) (suc n) x at =
    let next : suc n + 1 ≡ suc (n + 1) = omega arith in
    ap (λ m. take m (y ∷ ys)) next ∙ ap (λ zs. y ∷ zs) (taken_more ys n x at)

-- element n of a list is there
pub got_at : {X : Type 0} (xs : List X) (n : ℕ) (d : X) → n < length xs → slice_get xs n ≡ Some (get_or xs n d)
got_at [] n d below = absurd (omega (arith, below))
got_at (y ∷ ys) zero d below = refl
got_at (y ∷ ys) (suc n) d below = got_at ys n d (omega (arith, below))

pub image_at : {X Y : Type 0} (f : X → Y) (xs : List X) (n : ℕ) (x : X) → n < length xs → x ≡ get_or xs n x → slice_get (map f xs) n ≡ Some (f x)
image_at f [] n x below is = absurd (omega (arith, below))
image_at f (y ∷ ys) zero x below is = ap (λ z. Some (f z)) (sym is)
image_at f (y ∷ ys) (suc n) x below is = image_at f ys n x (omega (arith, below)) is

-- one more element at the end of a list whose work is done
along_more : {X : Type 0} (Does : X → Image → Image → Type 0) (xs : List X) (x : X) (old mid new : Image) → Along Does xs old mid → Does x mid new → Along Does (xs ++ x ∷ []) old new
along_more Does [] x old mid new same does = (new, subst (λ image. Does x image new) same does, refl)
along_more Does (y ∷ ys) x old mid new (between, first, rest) does = (between, first, along_more Does ys x between mid new rest does)

-- the same for the first n elements of a list: the step of a loop
pub along_step : {X : Type 0} (Does : X → Image → Image → Type 0) (xs : List X) (n : ℕ) (x : X) (old mid new : Image) → slice_get xs n ≡ Some x → Along Does (take n xs) old mid → Does x mid new → Along Does (take (n + 1) xs) old new
along_step Does xs n x old mid new at so_far does = subst (λ ys. Along Does ys old new) (sym (taken_more xs n x at)) (along_more Does (take n xs) x old mid new so_far does)

pub along_all : {X : Type 0} (Does : X → Image → Image → Type 0) (xs : List X) (n : ℕ) (old new : Image) → length xs ≤ n → Along Does (take n xs) old new → Along Does xs old new
along_all Does xs n old new past so_far = subst (λ ys. Along Does ys old new) (take_all n xs past) so_far

-- Element n is refused after the work for those before it is done, so the list is refused.
pub stops_at : {X : Type 0} (Does : X → Image → Image → Type 0) (Stops : X → Image → DiskFault → Type 0) (named : X → Image → DiskFault → List ℕ) (xs : List X) (n : ℕ) (x : X) (old image : Image) (why : Refusal)
    → slice_get xs n ≡ Some x → Along Does (take n xs) old image → IsRefusedAt Stops named x image why → IsRefusedAlong Does Stops named xs old why
stops_at Does Stops named xs n x old image (refusal.Named why name) at before (stops, is) = (n, x, record { image = image; is_there = at; before = before; stops = stops }, is)
stops_at Does Stops named xs n x old image refusal.BadName at before is = absurd is
stops_at Does Stops named xs n x old image (refusal.BadFile name) at before is = absurd is
stops_at Does Stops named xs n x old image (refusal.Image why) at before is = absurd is
stops_at Does Stops named xs n x old image (refusal.Disk why) at before is = absurd is
stops_at Does Stops named xs n x old image refusal.NoMemory at before is = absurd is
