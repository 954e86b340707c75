-- A line without a sign of words has no block word.
use Rattle.std.proofs.Common.{◌≡◌, ◌∙◌, sym, ap, refl, ℕ, Bool, true, false, ◌&&◌, List, [], ◌∷◌, Option, Some, None, Result, Ok, Err, inl, inr, codes, if◌then◌else◌}
use Rattle.std.specs.Str.{str_eq_ignore_ascii_case}
use Rattle.std.proofs.lemmas.Bool.{cases_Bool, cond-false, cond-true, false≢true, or_parts}
use Rattle.asm_text.specs.declared.matching.Role.{Role}
use Rattle.asm_line.specs.declared.fault.ScanFault.{ScanFault}
use Rattle.asm_line.specs.declared.token.Kind.{Kind}
use Rattle.asm_line.specs.Tokens.{IsToken, Lexeme}
use Rattle.asm_line.specs.Lines.{BeginsTokens, Scans}
use Rattle.asm_line.specs.Scanned.{scanned}
use Rattle.asm_line.proofs.Cuts.{scans}
use Rattle.asm_line.specs.declared.forms.BlockWord.{BlockWord}
use Rattle.asm_line.specs.Forms.{Form, block_named, form, head_of_block, headed, labelled, worded}
use Rattle.asm_line.specs.Single.{is_colon, is_name, is_name_kind, is_word}
use Rattle.asm_text.specs.Roles.{role_of_head}
use Rattle.asm_text.specs.Lines.{form_by, form_of, tokens_in}
use Rattle.asm_text.specs.declared.signs.Sign.{Sign}
use Rattle.asm_text.specs.Signs.{has_sign, is_sign}
use Rattle.asm_text.proofs.Passed.{behind_token, from_token, name_none}
use Rattle.asm_text.proofs.Words.{found, read}

pub is_name_token : (k : Kind) (text after : List ℕ) → is_name_kind k ≡ true → IsToken k text after → IsToken Kind.Name text after
is_name_token Kind.Name text after named t = t
is_name_token Kind.OtherAf text after named t = absurd (false≢true named)
is_name_token (Kind.Number n) text after named t = absurd (false≢true named)
is_name_token Kind.Quoted text after named t = absurd (false≢true named)
is_name_token (Kind.Mark m) text after named t = absurd (false≢true named)

-- If the token is a name, it is no sign.
abbrev pub NoSign : Sign → Lexeme → Type 0
NoSign s token = is_name token ≡ true → is_sign s token.text ≡ false

abbrev pub HaveNone : Sign → List Lexeme → Type 0
HaveNone s [] = Unit {0}
HaveNone s (token ∷ tokens) = NoSign s token × HaveNone s tokens

pub none_in : (s : Sign) (line rest : List ℕ) (tokens : List Lexeme) → BeginsTokens line tokens rest → found s [] line ≡ false → HaveNone s tokens
none_in s line rest [] begins none = tt
none_in s line rest (token ∷ tokens) begins none =
    let after = begins.0 in
    let is = begins.1.token_is in
    let here = from_token s line token after begins.1 none in (
      λ named. name_none s token.text after (is_name_token token.kind token.text after named is) here,
      none_in s after rest tokens begins.2 (behind_token s token.kind token.text after is here),
    )

pub and_false : (a b : Bool) → b ≡ false → (a && b) ≡ false
and_false true b isnt = isnt
and_false false b isnt = refl

-- a name that is no sign is none of the block words
words_none : (name : List ℕ) → is_sign Sign.Word name ≡ false
    → (str_eq_ignore_ascii_case name (codes "IF") ≡ false) × (str_eq_ignore_ascii_case name (codes "ENDIF") ≡ false) × (str_eq_ignore_ascii_case name (codes "ELSE") ≡ false) × (str_eq_ignore_ascii_case name (codes "MACRO") ≡ false) × (str_eq_ignore_ascii_case name (codes "REPT") ≡ false) × (str_eq_ignore_ascii_case name (codes "ENDM") ≡ false)
words_none name none =
    let a = or_parts (str_eq_ignore_ascii_case name (codes "IF")) _ none in
    let b = or_parts (str_eq_ignore_ascii_case name (codes "ENDIF")) _ a.1 in
    let c = or_parts (str_eq_ignore_ascii_case name (codes "ELSE")) _ b.1 in
    let d = or_parts (str_eq_ignore_ascii_case name (codes "MACRO")) _ c.1 in
    let e = or_parts (str_eq_ignore_ascii_case name (codes "REPT")) _ d.1 in
    let f = or_parts (str_eq_ignore_ascii_case name (codes "ENDM")) false e.1 in
    (a.0, b.0, c.0, d.0, e.0, f.0)

no_macro_word : (s : Sign) (text : List ℕ) → is_sign s text ≡ false → str_eq_ignore_ascii_case text (codes "MACRO") ≡ false
no_macro_word Sign.Word text none = (words_none text none).3
no_macro_word Sign.Second text none = none

-- a name that is no sign of this kind is not MACRO
pub no_macro : (s : Sign) (name word : Lexeme) → NoSign s word → (is_name name && is_word (codes "MACRO") word) ≡ false
no_macro s name word none = and_false (is_name name) (is_word (codes "MACRO") word) (unnamed (is_name word) (str_eq_ignore_ascii_case word.text (codes "MACRO")) (λ named. no_macro_word s word.text (none named))) where
  unnamed : (b same : Bool) → (b ≡ true → same ≡ false) → (b && same) ≡ false
  unnamed true same isnt = isnt refl
  unnamed false same isnt = refl

abbrev pub role : Form → Role
role f = role_of_head f.head

-- A line with this form has no role.
abbrev pub IsOther : Form → Type 0
IsOther f = role f ≡ Role.Other

-- one test after the other fails, so the choice is the last
unless : (b : Bool) (x y : Option BlockWord) (name : List ℕ) → b ≡ false → role_of_head (head_of_block name y) ≡ Role.Other → role_of_head (head_of_block name (if b then x else y)) ≡ Role.Other
unless b x y name isnt other = ap (λ c. role_of_head (head_of_block name c)) (cond-false b x y isnt) ∙ other

no_block : (name : List ℕ) → is_sign Sign.Word name ≡ false → role_of_head (head_of_block name (block_named name)) ≡ Role.Other
no_block name none =
    let no = words_none name none in
    unless (same (codes "MACRO")) _ _ name no.3
    (elim (cases_Bool (same (codes "LOCAL"))) [
      | inl local ↦ ap (λ c. role_of_head (head_of_block name c)) (cond-true (same (codes "LOCAL")) _ _ local)
      | inr other ↦ unless (same (codes "LOCAL")) _ _ name other
          (unless (same (codes "REPT")) _ _ name no.4 (unless (same (codes "IF")) _ _ name no.0 (unless (same (codes "ELSE")) _ _ name no.2 (unless (same (codes "ENDIF")) _ _ name no.1 (unless (same (codes "ENDM")) _ _ name no.5 refl)))))
    ])
  where
    same : List ℕ → Bool
    same = str_eq_ignore_ascii_case name

worded_other : (label : Option (List ℕ)) (word : Lexeme) (rest : List Lexeme) → NoSign Sign.Word word → IsOther (worded label word rest)
worded_other label word rest none =
    elim (cases_Bool (is_name word)) [
      | inl named ↦ ap role (cond-true (is_name word) _ _ named) ∙ no_block word.text (none named)
      | inr not_named ↦ ap role (cond-false (is_name word) _ _ not_named)
    ]

headed_other : (label : Option (List ℕ)) (tokens : List Lexeme) → HaveNone Sign.Word tokens → IsOther (headed label tokens)
headed_other label [] none = refl
headed_other label (word ∷ []) none = worded_other label word [] none.0
headed_other label (name ∷ word ∷ rest) none =
    ap role (cond-false (is_name name && is_word (codes "MACRO") word) _ _ (no_macro Sign.Word name word none.1.0))
    ∙ worded_other label name (word ∷ rest) none.0

labelled_other : (name : List ℕ) (tokens : List Lexeme) → HaveNone Sign.Word tokens → IsOther (labelled name tokens)
labelled_other name [] none = refl
labelled_other name (word ∷ rest) none =
    elim (cases_Bool (is_word (codes "EQU") word)) [
      | inl equ ↦ ap role (cond-true (is_word (codes "EQU") word) _ _ equ)
      | inr other ↦ ap role (cond-false (is_word (codes "EQU") word) _ _ other) ∙ headed_other (Some name) (word ∷ rest) none
    ]

form_other : (tokens : List Lexeme) → HaveNone Sign.Word tokens → IsOther (form tokens)
form_other [] none = refl
form_other (word ∷ []) none = headed_other None (word ∷ []) none
form_other (name ∷ second ∷ rest) none =
    elim (cases_Bool (is_name name && is_word (codes "EQU") second)) [
      | inl equ ↦ ap role (cond-true (is_name name && is_word (codes "EQU") second) _ _ equ)
      | inr no_equ ↦ ap role (cond-false (is_name name && is_word (codes "EQU") second) _ _ no_equ) ∙ elim (cases_Bool (is_name name && is_colon second)) [
        | inl label ↦ ap role (cond-true (is_name name && is_colon second) _ _ label) ∙ labelled_other name.text rest none.1.1
        | inr no_label ↦ ap role (cond-false (is_name name && is_colon second) _ _ no_label) ∙ headed_other None (name ∷ second ∷ rest) none
      ]
    ]

scanned_other : (line : List ℕ) (answer : Result (List Lexeme) ScanFault) → Scans line answer → found Sign.Word [] line ≡ false → IsOther (form_by (tokens_in answer))
scanned_other line (Err fault) cut none = refl
scanned_other line (Ok tokens) cut none = form_other tokens (none_in Sign.Word line cut.1.rest tokens cut.1.begins none)

pub no_words : (line : List ℕ) → has_sign Sign.Word line ≡ false → role_of_head (form_of line).head ≡ Role.Other
no_words line none = scanned_other line (scanned line) (scans line) (sym (read Sign.Word line) ∙ none)
