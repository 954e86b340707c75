use Rattle.std.specs.Prelude.{◌≡◌, ℕ, ◌+◌, ◌^◌, ◌<◌, ◌≤◌, ◌⊎◌, All, List, [], ◌∷◌, ◌++◌, length, map, codes, decimal, slice_index, slice_get, Some, Result, Ok, Err}
use Rattle.std.specs.Str.Parse.{IsNumeral, digits_value}
use Rattle.cert_check.specs.declared.limits.TheConstants.{MOST_BYTES, MOST_STATEMENTS}
use Rattle.cert_check.specs.FileTypes.{Statement, Verdict, Cert, TextFault}
use Rattle.cert_check.specs.declared.shape.Statement.TheVariants.{Fixed, Jump, Short}
use Rattle.cert_check.specs.declared.cert.Verdict.TheVariants.{Best, Range, TooLarge}
use Rattle.cert_check.specs.declared.text_fault.TextFault.TheVariants.{BadLine, NoMemory}
use Rattle.cert_check.specs.Choice.{IsShape}
use Rattle.cert_check.specs.Lines.{lines_text, AreFramed, BreaksAt}

-- The two files: each value has one file, and a file that has no value has a first bad line. Numbers are decimal,
-- without leading zeros.

-- the line of a statement
abbrev pub statement_line : Statement → List ℕ
statement_line (Fixed n) = codes "F " ++ decimal n
statement_line (Jump t) = codes "J " ++ decimal t
statement_line (Short t) = codes "S " ++ decimal t

abbrev pub sizes_header : List ℕ
sizes_header = codes "Z80SIZES 1"

abbrev pub end_line : List ℕ
end_line = codes "END"

-- the lines of a sizes file with these lines of statements
abbrev pub sizes_lines : List (List ℕ) → List (List ℕ)
sizes_lines statements = sizes_header ∷ statements ++ end_line ∷ []

-- the sizes file of a shape
abbrev pub sizes_text : List Statement → List ℕ
sizes_text shape = lines_text (sizes_lines (map statement_line shape))

-- the line of a member of a forcing order
abbrev pub forced_line : ℕ → List ℕ
forced_line k = codes "L " ++ decimal k

-- the line of a verdict
abbrev pub verdict_line : Verdict → List ℕ
verdict_line (Best n) = codes "BEST " ++ decimal n
verdict_line (Range k) = codes "RANGE " ++ decimal k
verdict_line (TooLarge n) = codes "SIZE " ++ decimal n

abbrev pub cert_header : List ℕ
cert_header = codes "Z80CERT 1"

-- the certificate with this order and this verdict
abbrev pub cert_text : List ℕ → Verdict → List ℕ
cert_text order verdict = lines_text (cert_header ∷ map forced_line order ++ verdict_line verdict ∷ [])

-- the number of a verdict
abbrev pub verdict_number : Verdict → ℕ
verdict_number (Best n) = n
verdict_number (Range k) = k
verdict_number (TooLarge n) = n

-- which orders and verdicts have a certificate: those with numbers below 4,294,967,296
pub record IsCert (order : List ℕ) (verdict : Verdict) : Type 0 where
  pub members : All (λ k. k < 2 ^ 32) order
  pub number : verdict_number verdict < 2 ^ 32

abbrev pub IsForcedLine : List ℕ → Type 0
IsForcedLine line = (k : ℕ) × (k < 2 ^ 32) × (line ≡ forced_line k)

abbrev pub IsVerdictLine : List ℕ → Type 0
IsVerdictLine line = (verdict : Verdict) × (verdict_number verdict < 2 ^ 32) × (line ≡ verdict_line verdict)

-- the grammar of a certificate
abbrev pub AreCertLines : List (List ℕ) → Type 0
AreCertLines = AreFramed cert_header IsForcedLine IsVerdictLine (λ _. Unit {0})

-- a certificate has this order and verdict, or this is its first bad line
abbrev pub ReadsCert : List ℕ → Result (List ℕ × Verdict) TextFault → Type 0
ReadsCert text (Ok cert) = IsCert cert.0 cert.1 × (text ≡ cert_text cert.0 cert.1)
ReadsCert text (Err (BadLine n)) = BreaksAt AreCertLines text n
ReadsCert text (Err NoMemory) = ⊥

-- what a reader answers: what the file has, or that memory ran out
abbrev pub OrNoMemory : {A : Type 0} → (Result A TextFault → Type 0) → Result A TextFault → Type 0
OrNoMemory Reads (Ok value) = Reads (Ok value)
OrNoMemory Reads (Err (BadLine n)) = Reads (Err (BadLine n))
OrNoMemory Reads (Err NoMemory) = Unit {0}

-- what was answered, as a list and a verdict
abbrev pub answered_certificate : Result Cert TextFault → Result (List ℕ × Verdict) TextFault
answered_certificate (Ok cert) = Ok (cert.order.items, cert.verdict)
answered_certificate (Err fault) = Err fault

-- the line of a statement of fixed size
abbrev pub IsFixedLine : List ℕ → Type 0
IsFixedLine line = (n : ℕ) × (1 ≤ n) × (n ≤ MOST_BYTES) × (line ≡ statement_line (Fixed n))

-- a decimal number of any size: digits; the first is not 0 unless it is the only one
pub record IsDecimalNumber (digits : List ℕ) : Type 0 where
  pub numeral : IsNumeral 10 digits
  pub no_zero : slice_index digits 0 ≡ 0x30 → length digits ≡ 1

-- the line of a jump with this word, to a target that may be any number
pub record IsJumpLine (word line : List ℕ) (target : ℕ) : Type 0 where
  pub digits : List ℕ
  pub is_number : IsDecimalNumber digits
  pub target_is : digits_value 10 digits ≡ target
  pub line_is : line ≡ word ++ digits

-- the line of a jump of either kind
abbrev pub IsAnyJumpLine : List ℕ → ℕ → Type 0
IsAnyJumpLine line target = IsJumpLine (codes "J ") line target ⊎ IsJumpLine (codes "S ") line target

abbrev pub IsStatementLine : List ℕ → Type 0
IsStatementLine line = IsFixedLine line ⊎ ((target : ℕ) × IsAnyJumpLine line target)

-- The grammar of a sizes file, in which a target may be any number. Whether a target exists depends on the count of
-- statements, so it is judged only if the whole file keeps this grammar.
abbrev pub AreSizesLines : List (List ℕ) → Type 0
AreSizesLines = AreFramed sizes_header IsStatementLine (λ line. line ≡ end_line) (λ count. count ≤ MOST_STATEMENTS)

-- the line of a jump to a target that is neither a statement nor the end
abbrev pub IsFarLine : ℕ → List ℕ → Type 0
IsFarLine count line = (target : ℕ) × (count < target) × IsAnyJumpLine line target

-- the file keeps that grammar, and line n is the first whose target does not exist
pub record IsFarAt (text : List ℕ) (n : ℕ) : Type 0 where
  pub statements : List (List ℕ)
  pub grammar : AreSizesLines (sizes_lines statements)
  pub text_is : text ≡ lines_text (sizes_lines statements)
  pub index : ℕ
  pub number : n ≡ index + 2
  pub line : List ℕ
  pub stands : slice_get statements index ≡ Some line
  pub far : IsFarLine (length statements) line
  pub first : (i : ℕ) (other : List ℕ) → i < index → slice_get statements i ≡ Some other → ¬ IsFarLine (length statements) other

-- a sizes file has this shape, or this is its first bad line
abbrev pub ReadsSizes : List ℕ → Result (List Statement) TextFault → Type 0
ReadsSizes text (Ok shape) = IsShape shape × (text ≡ sizes_text shape)
ReadsSizes text (Err (BadLine n)) = BreaksAt AreSizesLines text n ⊎ IsFarAt text n
ReadsSizes text (Err NoMemory) = ⊥
