-- Calls and their arguments.
use Rattle.std.proofs.Common.{◌≡◌, ◌∙◌, ◌++◌, ◌∷◌, [], ◌&&◌, ◌||◌, ℕ, suc, List, true, false, Option, Some, None, cond, length, take, ◌-◌, refl, ap}
use Rattle.std.specs.Bool.{◌==◌}
use Rattle.std.specs.Str.{bytes_eq}
use Rattle.std.proofs.Math.Path.{fun_ext}
use Rattle.std.proofs.lemmas.List.Elements.{filter_agree}
use Rattle.asm_line.specs.Tokens.{Lexeme}
use Rattle.asm_line.specs.Commas.{open_behind}
use Rattle.asm_line.specs.Single.{is_comma}
use Rattle.asm_line.specs.Replacing.Arguments.{arguments, arguments_from, text_with_token}
use Rattle.asm_line.specs.Replacing.Pieces.{after_first_token, behind_all, gap}
use Rattle.asm_text.specs.Calls.{arguments_in}
use Rattle.asm_text.specs.Lines.{Numbered, form_of}
use Rattle.source_warnings.specs.Calls.{calls_after, expansion_warnings, line_numbered, word_says}
use Rattle.source_warnings.specs.Macros.{called_macro, is_later, line_defines, line_defines_again}
use Rattle.source_warnings.specs.Noted.{Noted}
use Rattle.source_warnings.specs.Private.Known.{Agrees}

-- how many arguments there are depends on the tokens alone
from-length : (tokens : List Lexeme) (depth : ℕ) (one other line others : List ℕ) → length (arguments_from depth one line tokens) ≡ length (arguments_from depth other others tokens)
from-length [] depth one other line others = refl
from-length (t ∷ ts) depth one other line others =
    elim ((depth == 0) && is_comma t) as (λ b. length (cond b (one ∷ arguments_from 0 [] (after_first_token line t) ts) (arguments_from (open_behind depth t.kind) (text_with_token one (gap line) t.text) (after_first_token line t) ts))
    ≡ length (cond b (other ∷ arguments_from 0 [] (after_first_token others t) ts) (arguments_from (open_behind depth t.kind) (text_with_token other (gap others) t.text) (after_first_token others t) ts))) [
      | true ↦ ap suc (from-length ts 0 [] [] (after_first_token line t) (after_first_token others t))
      | false ↦ from-length ts (open_behind depth t.kind) (text_with_token one (gap line) t.text) (text_with_token other (gap others) t.text) (after_first_token line t) (after_first_token others t)
    ]

arguments-length : (one other : List ℕ) (tokens : List Lexeme) → length (arguments one tokens) ≡ length (arguments other tokens)
arguments-length one other [] = refl
arguments-length one other (t ∷ ts) = from-length (t ∷ ts) 0 [] [] one other

pub in-length : (text : List ℕ) (tokens rest : List Lexeme) → length (arguments text rest) ≡ length (arguments_in text tokens rest)
in-length text tokens rest = arguments-length text (behind_all text (take (length tokens - length rest) tokens)) rest

-- the warnings about calls depend only on what is noted
word-agrees : (lines : List (List ℕ)) (m l mm ll : Noted) → Agrees m mm → Agrees l ll → (n : Numbered) (name : Option (List ℕ)) → word_says lines m l n name ≡ word_says lines mm ll n name
word-agrees lines m l mm ll same_m same_l n None = refl
word-agrees lines m l mm ll same_m same_l n (Some name) = rw (same_m name, same_l name) refl

line-agrees : (lines : List (List ℕ)) (m l mm ll : Noted) → Agrees m mm → Agrees l ll → (last : ℕ) (n : Numbered) → expansion_warnings lines m l last n ≡ expansion_warnings lines mm ll last n
line-agrees lines m l mm ll same_m same_l last n =
    let text : List ℕ = line_numbered lines n.number in
    ap (λ w. cond ((n.number == last) || bytes_eq n.text text) [] w) (word-agrees lines m l mm ll same_m same_l (record { number = n.number; text = text }) (called_macro (form_of text).head))

pub calls-agree : (lines : List (List ℕ)) (m l mm ll : Noted) → Agrees m mm → Agrees l ll → (last : ℕ) (ns : List Numbered) → calls_after lines m l last ns ≡ calls_after lines mm ll last ns
calls-agree lines m l mm ll same_m same_l last [] = refl
calls-agree lines m l mm ll same_m same_l last (n ∷ ns) =
    ap (λ w. w ++ calls_after lines m l n.number ns) (line-agrees lines m l mm ll same_m same_l last n)
    ∙ ap (λ w. expansion_warnings lines mm ll last n ++ w) (calls-agree lines m l mm ll same_m same_l n.number ns)

pub again-agrees : (m mm : Noted) → Agrees m mm → line_defines_again m ≡ line_defines_again mm
again-agrees m mm same = fun_ext (λ l. filter_agree (is_later m) (is_later mm) (λ d. rw (same d.0) refl) (line_defines l))
