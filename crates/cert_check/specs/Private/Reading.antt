use Rattle.std.specs.Prelude.{◌≡◌, ◌≢◌, ℕ, ◌-◌, ◌^◌, ◌<◌, ◌≤◌, ◌⊎◌, ◌==◌, Bool, false, if◌then◌else◌, List, [], ◌∷◌, ◌++◌, length, slice_index, slice_get, All, codes, decimal, Option, Some, None, Result, Ok, Err, Vec}
use Rattle.std.specs.Global.{Global}
use Rattle.std.specs.List.{AllByRecursion, list_all}
use Rattle.std.specs.Char.{is_ascii_digit}
use Rattle.cert_check.specs.declared.limits.TheConstants.{MOST_BYTES, MOST_STATEMENTS}
use Rattle.cert_check.specs.FileTypes.{Statement, TextFault}
use Rattle.cert_check.specs.declared.shape.Statement.TheVariants.{Fixed, Jump, Short}
use Rattle.cert_check.specs.declared.cert.CertLine.{CertLine}
use Rattle.cert_check.specs.declared.cert.CertLine.TheVariants.{Forced, Last}
use Rattle.cert_check.specs.declared.text_fault.TextFault.TheVariants.{BadLine, NoMemory}
use Rattle.cert_check.specs.Choice.{IsStatement}
use Rattle.cert_check.specs.Lines.{line_feed, lines_text, BreaksAt}
use Rattle.cert_check.specs.Texts.{statement_line, forced_line, verdict_line, verdict_number, sizes_header, sizes_lines, IsForcedLine, IsVerdictLine, IsJumpLine, IsStatementLine, AreSizesLines}

-- What is read line by line.

-- it contains no line feed
abbrev pub IsPlain : List ℕ → Type 0
IsPlain line = AllByRecursion (λ b. (b == line_feed) ≡ false) line

-- whether these are the digits of a number
abbrev pub is_number : List ℕ → Bool
is_number digits =
    if length digits == 0 then false
    else if slice_index digits 0 == 0x30 then length digits == 1
    else list_all is_ascii_digit digits

-- what a line is read as if it is this word and a number below 4,294,967,296
abbrev pub IsNumbered : List ℕ → List ℕ → Option ℕ → Type 0
IsNumbered word line (Some n) = (n < 2 ^ 32) × (line ≡ word ++ decimal n)
IsNumbered word line None = (n : ℕ) → n < 2 ^ 32 → line ≢ word ++ decimal n

-- what a line of a certificate after the header is read as
abbrev pub IsCertLine : List ℕ → Option CertLine → Type 0
IsCertLine line (Some (Forced k)) = (k < 2 ^ 32) × (line ≡ forced_line k)
IsCertLine line (Some (Last verdict)) = (verdict_number verdict < 2 ^ 32) × (line ≡ verdict_line verdict)
IsCertLine line None = ¬ IsForcedLine line × ¬ IsVerdictLine line

-- a target is read as its number, or as 4,294,967,295 if it is greater
abbrev pub IsCapped : ℕ → ℕ → Type 0
IsCapped target t = (t ≡ target) ⊎ ((t ≡ 2 ^ 32 - 1) × (2 ^ 32 - 1 ≤ target))

-- what a line is read as if it is a jump with this word
abbrev pub IsTarget : List ℕ → List ℕ → Option ℕ → Type 0
IsTarget word line (Some t) = (target : ℕ) × IsJumpLine word line target × IsCapped target t
IsTarget word line None = (target : ℕ) → ¬ IsJumpLine word line target

-- what a line is read as if it is a statement
abbrev pub IsRead : List ℕ → Statement → Type 0
IsRead line (Fixed n) = (1 ≤ n) × (n ≤ MOST_BYTES) × (line ≡ statement_line (Fixed n))
IsRead line (Jump t) = IsTarget (codes "J ") line (Some t)
IsRead line (Short t) = IsTarget (codes "S ") line (Some t)

abbrev pub IsStatementRead : List ℕ → Option Statement → Type 0
IsStatementRead line (Some s) = IsRead line s
IsStatementRead line None = ¬ IsStatementLine line

-- what lines are read as if they are statements
abbrev pub AreRead : List (List ℕ) → List Statement → Type 0
AreRead [] [] = Unit {0}
AreRead [] (_ ∷ _) = ⊥
AreRead (_ ∷ _) [] = ⊥
AreRead (line ∷ lines) (s ∷ statements) = IsRead line s × AreRead lines statements

-- a sizes file is read, without looking yet at whether its targets exist
abbrev pub AreLinesRead : List ℕ → Result (Vec Statement Global) TextFault → Type 0
AreLinesRead text (Ok found) = (lines : List (List ℕ)) × AreRead lines found.items × (length found.items ≤ MOST_STATEMENTS) × (text ≡ lines_text (sizes_lines lines))
AreLinesRead text (Err (BadLine n)) = BreaksAt AreSizesLines text n
AreLinesRead text (Err NoMemory) = Unit {0}

-- what has been read of a sizes file, line by line, and what is left
pub record ReadsSoFar (text rest : List ℕ) (statements : List Statement) : Type 0 where
  pub lines : List (List ℕ)
  pub text_is : text ≡ lines_text (sizes_header ∷ lines) ++ rest
  pub read : AreRead lines statements
  pub few : length statements ≤ MOST_STATEMENTS

-- the lowest statement whose target does not exist, or whose size is out of range
abbrev pub IsFirstFar : List Statement → Option ℕ → Type 0
IsFirstFar statements (Some k) =
    (s : Statement) × (slice_get statements k ≡ Some s) × ¬ IsStatement (length statements) s
    × ((j : ℕ) (other : Statement) → j < k → slice_get statements j ≡ Some other → IsStatement (length statements) other)
IsFirstFar statements None = All (IsStatement (length statements)) statements
