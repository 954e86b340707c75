-- Names of files as the words of a command give them: `NAME`, `NAME.` or `NAME.TYP`.
use Rattle.std.specs.Prelude.{ℕ, ◌+◌, ◌-◌, ◌==◌, Bool, ◌&&◌, ◌||◌, not, List, ◌++◌, Option, None, Some, codes, drop, if◌then◌else◌, length, map, nat_eq, nat_le, replicate, slice_index, take}
use Rattle.std.specs.Char.{is_ascii_graphic, is_ascii_lowercase, to_ascii_uppercase}
use Rattle.std.specs.List.{after_last, list_all, list_any, position_or_len}

-- whether a name may contain this byte: a printable character that is not a blank, a lower-case letter or one of these marks
abbrev pub is_name_byte : ℕ → Bool
is_name_byte b = is_ascii_graphic b && not (is_ascii_lowercase b) && not (list_any (λ mark. nat_eq mark b) (codes "<>.,;:=?*[]"))

-- whether these bytes can be the name or the type: at most `most` bytes, each allowed in a name
abbrev pub is_name_part : List ℕ → ℕ → Bool
is_name_part part most = nat_le (length part) most && list_all is_name_byte part

-- the position of the first point, or the length of the word if there is none
abbrev pub point_at : List ℕ → ℕ
point_at word = position_or_len (λ b. b == 0x2E) word

-- the part of a word before its first point, and the part after it
abbrev pub before_point : List ℕ → List ℕ
before_point word = take (point_at word) word

abbrev pub behind_point : List ℕ → List ℕ
behind_point word = drop (point_at word + 1) word

-- whether a word is a name: one to eight bytes, and at most three of the type
abbrev pub is_file_name : List ℕ → Bool
is_file_name word = not (length (before_point word) == 0) && is_name_part (before_point word) 8 && is_name_part (behind_point word) 3

-- a part padded with spaces to n bytes
abbrev pub padded : ℕ → List ℕ → List ℕ
padded n part = part ++ replicate (n - length part) 0x20

-- the eleven bytes of the name that a word gives, if it is one
abbrev pub file_name_of : List ℕ → Option (List ℕ)
file_name_of word = if is_file_name word then Some (padded 8 (before_point word) ++ padded 3 (behind_point word)) else None

-- ---- patterns

-- whether a pattern has a `?`, so that it may match several names
abbrev pub is_wild : List ℕ → Bool
is_wild name = list_any (λ b. b == 0x3F) name

-- whether a part of a pattern ends with a star, and the part without that star
abbrev pub has_star : List ℕ → Bool
has_star part = slice_index part (length part - 1) == 0x2A

abbrev pub before_star : List ℕ → List ℕ
before_star part = if has_star part then take (length part - 1) part else part

-- whether a pattern may contain this byte, apart from the star at the end of a part: one of a name, or `?`
abbrev pub is_pattern_byte : ℕ → Bool
is_pattern_byte b = is_name_byte b || (b == 0x3F)

-- whether these bytes can be a part of a pattern: without a star at the end, at most `most` bytes, each allowed in a pattern
abbrev pub is_pattern_part : List ℕ → ℕ → Bool
is_pattern_part part most = nat_le (length (before_star part)) most && list_all is_pattern_byte (before_star part)

abbrev pub is_pattern : List ℕ → Bool
is_pattern word = not (length (before_point word) == 0) && is_pattern_part (before_point word) 8 && is_pattern_part (behind_point word) 3

-- a part of a pattern padded to n bytes: with `?` if it ends with a star, otherwise with spaces
abbrev pub filled_pattern : ℕ → List ℕ → List ℕ
filled_pattern n part = before_star part ++ replicate (n - length (before_star part)) (if has_star part then 0x3F else 0x20)

-- the eleven bytes of the pattern that a word gives, if it is one
abbrev pub pattern_of : List ℕ → Option (List ℕ)
pattern_of word = if is_pattern word then Some (filled_pattern 8 (before_point word) ++ filled_pattern 3 (behind_point word)) else None

-- ---- names of files of the host

-- the part of a path after its last `/`
abbrev pub last_part : List ℕ → List ℕ
last_part path = after_last (λ b. b == 0x2F) path

-- the name that the last part of a path gives, in upper case
abbrev pub own_name : List ℕ → Option (List ℕ)
own_name path = file_name_of (map to_ascii_uppercase (last_part path))
