-- A field is read from the front of bytes: the result is its value and the bytes after it.
use Rattle.std.specs.Prelude.{◌≡◌, ◌<◌, All, ℕ, ◌+◌, ◌*◌, Bool, ◌&&◌, if◌then◌else◌, nat_lt, nat_le, zero, suc, List, [], ◌∷◌, Option, Some, None, Result, Ok, Err, length, take, drop}
use Rattle.common.specs.Results.{◌>>=◌}
use Rattle.zmo_object.specs.declared.field_fault.FieldFault.{FieldFault}
use Rattle.zmo_object.specs.declared.field_fault.FieldFault.TheVariants as fault

abbrev pub IsBytes : List ℕ → Type 0
IsBytes bytes = All (λ b. b < 256) bytes

abbrev pub Field : Type 0 → Type 0
Field A = Result (A × List ℕ) FieldFault

-- The call's result, with its value converted by `view`, is exactly what the field reads as.
abbrev pub FieldReturns : {X Y : Type 0} → (X → Y) → Result X FieldFault → Result Y FieldFault → Type 0
FieldReturns view (Ok x) read = read ≡ Ok (view x)
FieldReturns view (Err f) read = read ≡ Err f

-- The call failed with the error that reading gives. If memory ran out, nothing is claimed.
abbrev pub FieldFails : {Y : Type 0} → FieldFault → Result Y FieldFault → Type 0
FieldFails fault.NoMemory read = Unit {0}
FieldFails fault.Truncated read = read ≡ Err fault.Truncated
FieldFails (fault.BadField left) read = read ≡ Err (fault.BadField left)

-- The call's result, with its value converted by `view`, is what the field reads as. If memory ran out, nothing is claimed.
abbrev pub FieldGives : {X Y : Type 0} → (X → Y) → Result X FieldFault → Result Y FieldFault → Type 0
FieldGives view (Ok x) read = read ≡ Ok (view x)
FieldGives view (Err f) read = FieldFails f read

abbrev pub byte_field : List ℕ → Field ℕ
byte_field [] = Err fault.Truncated
byte_field (b ∷ rest) = Ok (b, rest)

-- a number of two bytes, the low one first
abbrev pub word_field : List ℕ → Field ℕ
word_field (low ∷ high ∷ rest) = Ok (low + 256 * high, rest)
word_field _ = Err fault.Truncated

abbrev pub bytes_field : ℕ → List ℕ → Field (List ℕ)
bytes_field len bytes = if nat_lt (length bytes) len then Err fault.Truncated else Ok (take len bytes, drop len bytes)

-- one byte, the length, and then this many bytes
abbrev pub counted_at : List ℕ → Field (List ℕ)
counted_at bytes = do
  len ← byte_field bytes
  bytes_field len.0 len.1

-- A field is judged once all its bytes are there. If it breaks a rule, the error says how many bytes are left, counted from its first byte.
abbrev pub judged : {A : Type 0} → Bool → List ℕ → A → Result A FieldFault
judged good bytes x = if good then Ok x else Err (fault.BadField (length bytes))

-- a field whose value has to pass a test
abbrev pub tested_field : {A : Type 0} → (A → Bool) → (List ℕ → Field A) → List ℕ → Field A
tested_field rule reads bytes = do
  x ← reads bytes
  judged (rule x.0) bytes x

-- a word that is at least `least` and below `limit`
abbrev pub number_at : ℕ → ℕ → List ℕ → Field ℕ
number_at least limit = tested_field (λ n. nat_le least n && nat_lt n limit) word_field

-- the value of a field if it has one; otherwise an error at `bytes`, where the field begins
abbrev pub field_if_some : {A : Type 0} → Option A → List ℕ → List ℕ → Field A
field_if_some (Some x) bytes rest = Ok (x, rest)
field_if_some None bytes rest = Err (fault.BadField (length bytes))

-- a byte that is the code of something
abbrev pub code_field : {A : Type 0} → (ℕ → Option A) → List ℕ → Field A
code_field value bytes = do
  code ← byte_field bytes
  field_if_some (value code.0) bytes code.1

-- The given number of fields, one after the other. The state, which the fields before have made, says how to read the next one.
unfoldable pub many : {A S : Type 0} → (S → List ℕ → Field A) → (S → A → S) → S → ℕ → List ℕ → Field (List A)
many reads next s zero bytes = Ok ([], bytes)
many reads next s (suc n) bytes = do
  x ← reads s bytes
  more ← many reads next (next s x.0) n x.1
  Ok (x.0 ∷ more.0, more.1)

-- the given number of fields, one after the other, all read in the same way
abbrev pub each_field : {A : Type 0} → (List ℕ → Field A) → ℕ → List ℕ → Field (List A)
each_field reads = many (λ (none : ℕ). reads) (λ none _. none) 0
