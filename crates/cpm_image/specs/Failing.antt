-- An image with calls that fail.
use Rattle.std.specs.Prelude.{ℕ, zero, suc, Bool, true, false, List, Option, Some, None, slice_set, if◌then◌else◌}
use Rattle.cpm_image.specs.declared.failing.FailedWrite.{FailedWrite}
use Rattle.cpm_image.specs.declared.failing.FailedWrite.TheVariants.{Old, New}

-- The image; how many calls succeed before the next one that fails (None if no more fail); whether all calls after that fail too; what a
-- failed write leaves; and how many calls have failed.
pub record FailingImage : Type 0 where
  pub image : List (List ℕ)
  pub left : Option ℕ
  pub lasts : Bool
  pub leaves : FailedWrite
  pub faults : ℕ

-- whether the next call fails
abbrev pub is_due : Option ℕ → Bool
is_due (Some zero) = true
is_due (Some (suc n)) = false
is_due None = false

-- how many calls succeed after this one before the next one that fails
abbrev pub after_call : Bool → Option ℕ → Option ℕ
after_call lasts (Some zero) = if lasts then Some zero else None
after_call lasts (Some (suc n)) = Some n
after_call lasts None = None

-- what a failed write leaves
abbrev pub left_of : FailedWrite → List (List ℕ) → ℕ → List ℕ → List (List ℕ)
left_of Old image n bytes = image
left_of New image n bytes = slice_set image n bytes
