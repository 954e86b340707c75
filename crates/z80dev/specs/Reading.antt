-- The bytes of an input, and why it could not be read.
use Rattle.std.specs.Prelude.{◌≡◌, ℕ, ◌<◌, ◌≤◌, ◌⊎◌, Bool, true, false, List, length, Option, None, Some, IfSome}
use Rattle.common.specs.declared.limits.TheConstants.{LONGEST_TEXT}
use Rattle.zlink.specs.declared.fault.LinkFault.TheVariants as link
use Rattle.zlink.specs.declared.fault.BuildFault.TheVariants as build
use Rattle.z80dev.specs.declared.fault.Fault.{Fault}
use Rattle.z80dev.specs.declared.fault.Fault.TheVariants as fault
use Rattle.z80dev.specs.declared.text.TheConstants.{MOST_READS}

-- the input is not longer than a source may be
abbrev pub IsWithinLimit : List ℕ → Type 0
IsWithinLimit text = length text ≤ LONGEST_TEXT

-- Reading did not reach the end: the reader failed, or it was asked as often as allowed and some of the reads were
-- interrupted. So reading bytes in memory, which never fail and are never interrupted, always reaches the end.
abbrev pub IsCutShort : Bool → ℕ → ℕ → Type 0
IsCutShort failed reads interruptions = (failed ≡ true) ⊎ ((reads ≡ MOST_READS) × (0 < interruptions))

-- Why an input was not read: reading did not reach the end, or the input is too long, if it is known; or memory ran
-- out.
abbrev pub IsUnread : Option (List ℕ) → Bool → ℕ → ℕ → Fault → Type 0
IsUnread text failed reads interruptions fault.File = IsCutShort failed reads interruptions ⊎ IfSome text (λ t. LONGEST_TEXT < length t)
IsUnread text failed reads interruptions (fault.Build refusal) = (refusal ≡ build.Link link.NoMemory) × (failed ≡ false)

-- P holds of the bytes of an input: of all its bytes if they are known, otherwise of some list of bytes.
abbrev pub OfText : Option (List ℕ) → (List ℕ → Type 0) → Type 0
OfText (Some text) P = P text
OfText None P = (text : List ℕ) × P text
