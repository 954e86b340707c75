-- Work on one image for each element of a list, one element after the other.
use Rattle.std.specs.Prelude.{◌≡◌, ℕ, List, [], ◌∷◌, Some, slice_get, take}
use Rattle.cpm_image.specs.declared.directory.fault.DiskFault.{DiskFault}
use Rattle.cpm_disk.specs.Image.{Image}
use Rattle.z80dev_disk.specs.declared.refusal.Refusal.{Refusal}
use Rattle.z80dev_disk.specs.declared.refusal.Refusal.TheVariants as refusal

-- `Does` holds of each element, from the image that the element before it left to the image that it leaves itself.
abbrev pub Along : {X : Type 0} → (X → Image → Image → Type 0) → List X → Image → Image → Type 0
Along Does [] old new = new ≡ old
Along Does (x ∷ xs) old new = (mid : Image) × Does x old mid × Along Does xs mid new

-- Element `n` is the first that is refused: the work of all elements before it is done, and its own is not.
pub record StopsAt {X : Type 0} (Does : X → Image → Image → Type 0) (Stops : X → Image → DiskFault → Type 0) (xs : List X) (old : Image) (n : ℕ) (x : X) (why : DiskFault) : Type 0 where
  pub image : Image
  pub is_there : slice_get xs n ≡ Some x
  pub before : Along Does (take n xs) old image
  pub stops : Stops x image why

-- The list is refused at one element, and the refusal has the name that `named` gives for this element.
abbrev pub IsRefusedAlong : {X : Type 0} → (X → Image → Image → Type 0) → (X → Image → DiskFault → Type 0) → (X → Image → DiskFault → List ℕ) → List X → Image → Refusal → Type 0
IsRefusedAlong {X = X} Does Stops named xs old (refusal.Named why name) = (n : ℕ) × (x : X) × (at : StopsAt Does Stops xs old n x why) × (name ≡ named x at.image why)
IsRefusedAlong Does Stops named xs old _ = ⊥
