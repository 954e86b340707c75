-- Tests of single tokens.
use Rattle.std.specs.Prelude.{ℕ, List, Bool, true, false, ◌&&◌}
use Rattle.std.specs.Str.{str_eq_ignore_ascii_case}
use Rattle.asm_line.specs.declared.token.Kind.{Kind}
use Rattle.asm_line.specs.declared.token.Mark.{Mark}
use Rattle.asm_line.specs.Tokens.{Lexeme}

abbrev pub is_name_kind : Kind → Bool
is_name_kind Kind.Name = true
is_name_kind _ = false

abbrev pub is_colon_kind : Kind → Bool
is_colon_kind (Kind.Mark Mark.Colon) = true
is_colon_kind _ = false

abbrev pub is_comma_kind : Kind → Bool
is_comma_kind (Kind.Mark Mark.Comma) = true
is_comma_kind _ = false

abbrev pub is_name : Lexeme → Bool
is_name token = is_name_kind token.kind

abbrev pub is_colon : Lexeme → Bool
is_colon token = is_colon_kind token.kind

abbrev pub is_comma : Lexeme → Bool
is_comma token = is_comma_kind token.kind

-- a token is this word, in upper or lower case
abbrev pub is_word : List ℕ → Lexeme → Bool
is_word word token = is_name token && str_eq_ignore_ascii_case token.text word
