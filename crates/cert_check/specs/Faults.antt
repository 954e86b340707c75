use Rattle.std.specs.Prelude.{◌≡◌, ℕ, ◌+◌, ◌-◌, ◌<◌, ◌≤◌, ◌⊎◌, true, false, List, [], ◌∷◌, ◌++◌, length, slice_index, take, map}
use Rattle.std.specs.List.{range_with_len}
use Rattle.cert_check.specs.declared.limits.TheConstants.{LONGEST_PROGRAM}
use Rattle.cert_check.specs.declared.shape.Statement.{Statement}
use Rattle.cert_check.specs.declared.cert.Verdict.{Verdict}
use Rattle.cert_check.specs.declared.cert.Verdict.TheVariants.{Best, Range, TooLarge}
use Rattle.cert_check.specs.Choice.{Choice, IsAnyJump, IsJump, IsShort, Fits, Reaches, total}
use Rattle.cert_check.specs.Forcing.{after}
use Rattle.cert_check.specs.Accepts.{IsOutOfRange}
use Rattle.cert_check.specs.Types.{CheckFault}
use Rattle.cert_check.specs.declared.fault.CheckFault.TheVariants.{BadSizes, BadCertificate, NotForced, NotAJump, Repeated, StillShort, WrongTotal, NotOutOfRange, NoMemory}

-- What may be wrong with a forcing order and its verdict: each error, and then which of them is reported.

-- The first line of a certificate is line 1, so line 2 names the first member of the order.

-- the member that a line names
abbrev pub member : List ℕ → ℕ → ℕ
member order line = slice_index order (line - 2)

-- the members that the lines before it name
abbrev pub members_before : List ℕ → ℕ → List ℕ
members_before order line = take (line - 2) order

-- statement k is a jump that is short, always or in this choice, and does not reach its target
pub record IsStillShort (c : Choice) (shape : List Statement) (k : ℕ) : Type 0 where
  pub target : ℕ
  pub jump : IsShort shape k target ⊎ (IsJump shape k target × (c k ≡ false))
  pub misses : ¬ Reaches c shape k target

-- the total is that of the verdict, and is at most 64,512 for BEST and more than that for SIZE
abbrev pub HasTotal : ℕ → Verdict → Type 0
HasTotal bytes (Best n) = (bytes ≡ n) × (bytes ≤ LONGEST_PROGRAM)
HasTotal bytes (Range k) = Unit {0}
HasTotal bytes (TooLarge n) = (bytes ≡ n) × (LONGEST_PROGRAM < bytes)

-- what has to be true for this error
abbrev pub HasCheckFault : List Statement → List ℕ → Verdict → CheckFault → Type 0
HasCheckFault shape order verdict (NotAJump line) = ¬ IsAnyJump shape (member order line)
HasCheckFault shape order verdict (Repeated line) = after (members_before order line) (member order line) ≡ true
HasCheckFault shape order verdict (NotForced line) = Fits (after (members_before order line)) shape (member order line)
HasCheckFault shape order verdict (StillShort k) = IsStillShort (after order) shape k
HasCheckFault shape order verdict WrongTotal = ¬ HasTotal (total (after order) shape) verdict
HasCheckFault shape order verdict (NotOutOfRange k) = ¬ IsOutOfRange (after order) shape k
HasCheckFault shape order verdict (BadSizes line) = ⊥
HasCheckFault shape order verdict (BadCertificate line) = ⊥
HasCheckFault shape order verdict NoMemory = ⊥

-- the errors that the lines of members may have, in order, from a line on
abbrev pub line_faults : ℕ → List ℕ → List CheckFault
line_faults line [] = []
line_faults line (k ∷ order) = NotAJump line ∷ Repeated line ∷ NotForced line ∷ line_faults (line + 1) order

-- the errors that the verdict may have, in order
abbrev pub verdict_faults : ℕ → Verdict → List CheckFault
verdict_faults count (Best n) = map StillShort (range_with_len 0 count) ++ WrongTotal ∷ []
verdict_faults count (Range k) = NotOutOfRange k ∷ []
verdict_faults count (TooLarge n) = WrongTotal ∷ []

-- all errors, in order
abbrev pub faults : List Statement → List ℕ → Verdict → List CheckFault
faults shape order verdict = line_faults 2 order ++ verdict_faults (length shape) verdict

-- the first of a list that is true
abbrev pub FirstOf : (CheckFault → Type 0) → List CheckFault → CheckFault → Type 0
FirstOf IsSo [] fault = ⊥
FirstOf IsSo (f ∷ fs) fault = (IsSo f × (fault ≡ f)) ⊎ (¬ IsSo f × FirstOf IsSo fs fault)
