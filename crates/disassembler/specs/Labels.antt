-- The labels file: a line `AAAA PATH NAME` for each label, as `z80dev build --list` writes it.
use Rattle.std.specs.Prelude.{ℕ, ◌+◌, ◌*◌, ◌%◌, ◌==◌, ◌&&◌, not, Bool, false, nat_lt, List, [], ◌∷◌, Option, Some, None, if◌then◌else◌, drop}
use Rattle.std.specs.List.{list_all, list_any, after_last}
use Rattle.std.specs.Char.{is_ascii_lowercase, is_digit}
use Rattle.asm_line.specs.Classes.{begins_name, continues_name}
use Rattle.asm_macro.specs.Texts.{source_lines}

abbrev pub is_space : ℕ → Bool
is_space byte = byte == 0x20

-- a hexadecimal digit in upper case
abbrev pub is_upper_digit : ℕ → Bool
is_upper_digit byte = is_digit byte 16 && not (is_ascii_lowercase byte)

abbrev pub is_whole_name : List ℕ → Bool
is_whole_name [] = false
is_whole_name (b ∷ more) = begins_name b && list_all continues_name more

-- PATH NAME: what comes after the last space is a name. The path may have spaces too.
abbrev pub is_path_and_name : List ℕ → Bool
is_path_and_name [] = false
is_path_and_name (first ∷ more) = list_any is_space more && is_whole_name (after_last is_space more)

-- AAAA PATH NAME
abbrev pub is_label_line : List ℕ → Bool
is_label_line (a ∷ b ∷ c ∷ d ∷ e ∷ rest) =
    is_upper_digit a && is_upper_digit b && is_upper_digit c && is_upper_digit d && is_space e && is_path_and_name rest
is_label_line line = false

-- the value of a hexadecimal digit in upper case
abbrev pub digit_value : ℕ → ℕ
digit_value byte = if nat_lt byte 0x3A then byte % 16 else (byte + 9) % 16

-- the address of a line AAAA PATH NAME
abbrev pub label_address : List ℕ → ℕ
label_address (a ∷ b ∷ c ∷ d ∷ rest) = 4096 * digit_value a + 256 * digit_value b + 16 * digit_value c + digit_value d
label_address line = 0

-- its name; AAAA, a space and the first byte of the path come before the last space
abbrev pub label_name : List ℕ → List ℕ
label_name line = after_last is_space (drop 6 line)

-- the number of the first of the lines that is not one of a label, if they are numbered from n on
abbrev pub first_bad_from : ℕ → List (List ℕ) → Option ℕ
first_bad_from n [] = None
first_bad_from n (line ∷ lines) = if is_label_line line then first_bad_from (n + 1) lines else Some n

-- The first line that is not one of a label, counted from 1. Lines are cut as those of a source are.
abbrev pub first_bad_line : List ℕ → Option ℕ
first_bad_line text = first_bad_from 1 (source_lines text)

abbrev pub first_bad_label : Option (List ℕ) → Option ℕ
first_bad_label None = None
first_bad_label (Some text) = first_bad_line text
