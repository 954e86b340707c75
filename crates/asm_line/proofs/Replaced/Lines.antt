-- Lines in which no name is replaced, and tables that replace alike.
use Rattle.std.proofs.Common.{◌≡◌, ◌∙◌, sym, ap, refl, ℕ, Bool, true, false, List, [], ◌∷◌, ◌++◌, All, Option, None, if◌then◌else◌, append_assoc, drop, length}
use Rattle.std.specs.List.{prefix_len}
use Rattle.std.specs.Map.{lookup}
use Rattle.std.specs.Option.{unwrap_or}
use Rattle.std.specs.Str.{bytes_eq}
use Rattle.std.proofs.lemmas.List.{take-append-drop}
use Rattle.std.proofs.lemmas.List.Elements.{All-head, All-tail}
use Rattle.std.proofs.Math.Seq.{drop-append_seam}
use Rattle.common.specs.Words.{upper}
use Rattle.asm_line.specs.Classes.{is_blank}
use Rattle.asm_line.specs.Tokens.{Lexeme}
use Rattle.asm_line.specs.Lines.{BeginsToken, BeginsTokens}
use Rattle.asm_line.specs.Single.{is_name}
use Rattle.asm_line.specs.Replacing.Fronts.{IsLeft}
use Rattle.asm_line.specs.Replacing.Pieces.{gap, after_first_token}
use Rattle.asm_line.specs.Replacing.Replaced.{ReplacementTable, replaced_tokens, swapped}

kept_by : (named : Bool) (found : Option (List ℕ)) (text : List ℕ) → (named ≡ true → found ≡ None) → (if named then unwrap_or found text else text) ≡ text
kept_by true found text none = ap (λ f. unwrap_or f text) (none refl)
kept_by false found text none = refl

pub kept : (table : ReplacementTable) (token : Lexeme) → IsLeft table token → swapped table token ≡ token.text
kept table token none = kept_by (is_name token) (lookup (bytes_eq (upper token.text)) table) token.text none

pub after_token : (line : List ℕ) (token : Lexeme) (after : List ℕ) → BeginsToken line token after → after_first_token line token ≡ after
after_token line token after begins = ap (drop (length token.text)) begins.bytes_are ∙ drop-append_seam token.text after

pub whole : (table : ReplacementTable) (line : List ℕ) (tokens : List Lexeme) (rest : List ℕ) → BeginsTokens line tokens rest
    → All (IsLeft table) tokens → replaced_tokens table line tokens ≡ line
whole table line [] rest begins none = refl
whole table line (token ∷ tokens) rest begins none =
    ap (λ r. (gap line ++ swapped table token) ++ r) (ap (λ l. replaced_tokens table l tokens) (after_token line token begins.0 begins.1) ∙ whole table begins.0 tokens rest begins.2 (All-tail (IsLeft table) token tokens none))
    ∙ ap (λ t. (gap line ++ t) ++ begins.0) (kept table token (All-head (IsLeft table) token tokens none))
    ∙ append_assoc (gap line) token.text begins.0
    ∙ ap (λ b. gap line ++ b) (sym begins.1.bytes_are)
    ∙ take-append-drop (prefix_len is_blank line) line

pub alike : (t u : ReplacementTable) → ((name : List ℕ) → lookup (bytes_eq name) t ≡ lookup (bytes_eq name) u) → (line : List ℕ) (tokens : List Lexeme) → replaced_tokens t line tokens ≡ replaced_tokens u line tokens
alike t u same line [] = refl
alike t u same line (token ∷ tokens) =
    ap (λ x. (gap line ++ x) ++ replaced_tokens t (after_first_token line token) tokens) (ap (λ f. if is_name token then unwrap_or f token.text else token.text) (same (upper token.text)))
    ∙ ap (λ r. (gap line ++ swapped u token) ++ r) (alike t u same (after_first_token line token) tokens)
