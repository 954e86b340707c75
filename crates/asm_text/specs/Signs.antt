-- Signs: words, and a byte, without which a line has no role.
use Rattle.std.specs.Prelude.{ℕ, List, [], ◌∷◌, Bool, not, ◌==◌, ◌||◌, codes}
use Rattle.std.specs.List.{list_any, slice_split}
use Rattle.std.specs.Str.{str_eq_ignore_ascii_case}
use Rattle.asm_line.specs.Classes.{continues_name}
use Rattle.asm_text.specs.declared.signs.Sign.{Sign}

-- the words of a text: what is between the bytes that cannot continue a name; it may be empty
abbrev pub words : List ℕ → List (List ℕ)
words text = slice_split (λ b. not (continues_name b)) text

-- each block word but LOCAL, which neither opens nor closes a block
abbrev pub words_of_blocks : List (List ℕ)
words_of_blocks = codes "IF" ∷ codes "ENDIF" ∷ codes "ELSE" ∷ codes "MACRO" ∷ codes "REPT" ∷ codes "ENDM" ∷ []

-- whether a whole word is a sign of this kind, in upper or lower case
abbrev pub is_sign : Sign → List ℕ → Bool
is_sign Sign.Word word = list_any (str_eq_ignore_ascii_case word) words_of_blocks
is_sign Sign.Second word = str_eq_ignore_ascii_case word (codes "MACRO")

-- Whether a text has a sign. For Word that is a block word. For Second it is the word MACRO or a colon: a line whose first token
-- gives it no role has a role only if its second token is one of these.
abbrev pub has_sign : Sign → List ℕ → Bool
has_sign Sign.Word text = list_any (is_sign Sign.Word) (words text)
has_sign Sign.Second text = list_any (is_sign Sign.Second) (words text) || list_any (λ b. b == 0x3A) text
