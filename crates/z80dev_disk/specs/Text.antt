-- Texts in the form of CP/M: lines end with CR LF, and the text ends with 1AH.
use Rattle.std.specs.Prelude.{ℕ, ◌==◌, Bool, false, ◌&&◌, not, List, [], ◌∷◌, ◌++◌, flat_map, if◌then◌else◌, take_while}

-- the bytes that CP/M has for one byte of a text: CR LF for LF, and any other byte itself
abbrev pub cpm_byte : ℕ → List ℕ
cpm_byte b = if b == 10 then 13 ∷ 10 ∷ [] else b ∷ []

abbrev pub cpm_text : List ℕ → List ℕ
cpm_text text = flat_map cpm_byte text ++ 0x1A ∷ []

-- whether bytes begin with LF
abbrev pub begins_with_line_feed : List ℕ → Bool
begins_with_line_feed [] = false
begins_with_line_feed (b ∷ rest) = b == 10

-- the bytes without each CR that is before an LF
unfoldable pub without_cr : List ℕ → List ℕ
without_cr [] = []
without_cr (b ∷ rest) = if (b == 13) && begins_with_line_feed rest then without_cr rest else b ∷ without_cr rest

-- The text of a file in the host's form: the bytes before the first 1AH, without the CR before each LF.
abbrev pub host_text : List ℕ → List ℕ
host_text bytes = without_cr (take_while (λ b. not (b == 0x1A)) bytes)
