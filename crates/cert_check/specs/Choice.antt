use Rattle.std.specs.Prelude.{◌≡◌, ℕ, zero, suc, ◌+◌, ◌≤◌, All, Bool, false, if◌then◌else◌, List, length, Some, slice_get}
use Rattle.std.specs.List.{slice_index_or}
use Rattle.std.specs.Option.{option_map_or}
use Rattle.cert_check.specs.declared.limits.TheConstants.{FIRST_PLACE, LONGEST_PROGRAM, MOST_BYTES, MOST_STATEMENTS}
use Rattle.cert_check.specs.FileTypes.{Statement}
use Rattle.cert_check.specs.declared.shape.Statement.TheVariants.{Fixed, Jump, Short}

-- The addresses of a program's statements, which depend on which of its jumps are long; and when a choice of long jumps
-- is right. The classical name of the problem is span-dependent instructions, or branch displacement: the form of a
-- jump depends on a distance, and distances depend on the forms of other jumps.
--
-- Statements are numbered from 0. A list of them is a shape: it keeps only what the sizes of a program depend on. The
-- Z80's short jump is JR, two bytes, and its long one JP, three bytes (Zilog UM0080, "Jump Group").

-- a statement that a program with `count` statements may have; a target may also be the end
abbrev pub IsStatement : ℕ → Statement → Type 0
IsStatement count (Fixed n) = (1 ≤ n) × (n ≤ MOST_BYTES)
IsStatement count (Jump t) = t ≤ count
IsStatement count (Short t) = t ≤ count

-- a program has no more statements than allowed, and its jumps go to its statements or its end
pub record IsShape (shape : List Statement) : Type 0 where
  pub few : length shape ≤ MOST_STATEMENTS
  pub each : All (IsStatement (length shape)) shape

-- statement k is a relaxable jump to t: it may be short or long
abbrev pub IsJump : List Statement → ℕ → ℕ → Type 0
IsJump shape k t = slice_get shape k ≡ Some (Jump t)

-- statement k is a relaxable jump
abbrev pub IsAnyJump : List Statement → ℕ → Type 0
IsAnyJump shape k = (t : ℕ) × IsJump shape k t

-- statement k is a jump to t that is always short
abbrev pub IsShort : List Statement → ℕ → ℕ → Type 0
IsShort shape k t = slice_get shape k ≡ Some (Short t)

-- whether each relaxable jump is long; what a choice says of other statements has no meaning
abbrev pub Choice : Type 0
Choice = ℕ → Bool

-- the choice that a list of flags gives; a jump without a flag is short
abbrev pub chosen : List Bool → Choice
chosen long k = slice_index_or long k false

-- how many bytes a statement takes, by whether it is long
abbrev pub size_of : Bool → Statement → ℕ
size_of long (Fixed n) = n
size_of long (Jump t) = if long then 3 else 2
size_of long (Short t) = 2

-- the bytes of statement k, 0 past the end
abbrev pub size_at : Choice → List Statement → ℕ → ℕ
size_at c shape k = option_map_or (size_of (c k)) (slice_get shape k) 0

-- the sum of the sizes before statement k
unfoldable pub bytes_before : Choice → List Statement → ℕ → ℕ
bytes_before c shape zero = 0
bytes_before c shape (suc k) = bytes_before c shape k + size_at c shape k

-- the address of statement k
abbrev pub place : Choice → List Statement → ℕ → ℕ
place c shape k = FIRST_PLACE + bytes_before c shape k

-- the bytes of all statements
abbrev pub total : Choice → List Statement → ℕ
total c shape = bytes_before c shape (length shape)

-- the target is -128 to 127 bytes from the end of a short jump at `from`: this is the displacement byte of JR, which
-- counts from the instruction after it (UM0080, "JR e": from -126 to +129 bytes of the op code)
abbrev pub IsNear : ℕ → ℕ → Type 0
IsNear from to = (from + 2 ≤ to + 128) × (to ≤ from + 2 + 127)

-- a short jump at k reaches t
abbrev pub Reaches : Choice → List Statement → ℕ → ℕ → Type 0
Reaches c shape k t = IsNear (place c shape k) (place c shape t)

-- if statement k is a relaxable jump, it would reach its target as a short one
abbrev pub Fits : Choice → List Statement → ℕ → Type 0
Fits c shape k = (t : ℕ) → IsJump shape k t → Reaches c shape k t

-- every relaxable jump that is short reaches its target
abbrev pub IsSettled : Choice → List Statement → Type 0
IsSettled c shape = (k t : ℕ) → IsJump shape k t → c k ≡ false → Reaches c shape k t

-- every jump that is always short reaches its target
abbrev pub ShortsReach : Choice → List Statement → Type 0
ShortsReach c shape = (k t : ℕ) → IsShort shape k t → Reaches c shape k t

-- a choice that fits: every short jump reaches its target, and the program has 64,512 bytes at most
pub record IsValid (c : Choice) (shape : List Statement) : Type 0 where
  pub settled : IsSettled c shape
  pub shorts : ShortsReach c shape
  pub fits : total c shape ≤ LONGEST_PROGRAM

-- a choice that fits, and no other that fits takes fewer bytes
pub record IsBest (c : Choice) (shape : List Statement) : Type 0 where
  pub valid : IsValid c shape
  pub least : (other : Choice) → IsValid other shape → total c shape ≤ total other shape
