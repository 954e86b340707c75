-- Lines whose first token gives them no role, and lines that keep their role when all replacements are plain.
use Rattle.std.proofs.Common.{◌≡◌, ◌⊎◌, inl, inr, ◌∙◌, ◌&&◌, sym, ap, refl, subst, ℕ, true, false, Bool, List, [], ◌∷◌, ◌++◌, Some, None, Result, Ok, Err, codes, get_or, take}
use Rattle.std.specs.List.{Contains, filter, list_any}
use Rattle.std.proofs.lemmas.Bool.{cases_Bool, cond-false, cond-true, false≢true, or_parts}
use Rattle.asm_line.specs.declared.fault.ScanFault.{ScanFault}
use Rattle.asm_line.specs.declared.token.Kind.{Kind}
use Rattle.asm_line.specs.declared.token.Mark.{Mark}
use Rattle.asm_line.specs.Lines.{BeginsTokens, Scans}
use Rattle.asm_line.specs.Scanned.{scanned}
use Rattle.asm_line.specs.Tokens.{IsToken, Lexeme}
use Rattle.asm_line.proofs.Cuts.{scans}
use Rattle.asm_line.specs.Forms.{form}
use Rattle.asm_line.specs.Single.{is_colon, is_colon_kind, is_name, is_word}
use Rattle.asm_text.specs.declared.matching.Role.{Role}
use Rattle.asm_line.specs.Replacing.Fronts.{AreLeft, Begins, goes_on}
use Rattle.asm_line.specs.Replacing.Replaced.{ReplacementTable, replaced_tokens}
use Rattle.asm_text.specs.declared.signs.Sign.{Sign}
use Rattle.asm_text.specs.declared.varying.Varying.{Varying}
use Rattle.asm_text.specs.Calls.{replaced_by, replaced_line}
use Rattle.asm_text.specs.Kept.{HasOnly, Suffice, places_where}
use Rattle.asm_text.specs.Lines.{form_by, form_of, heard, tokens_in}
use Rattle.asm_text.specs.Plain.{ArePlain}
use Rattle.asm_text.specs.Private.Varying.{first_of_line_varies, is_held, is_of_blocks, may_vary_plain, with_next}
use Rattle.asm_text.specs.Roles.{role_of_head}
use Rattle.asm_text.specs.Signs.{has_sign}
use Rattle.asm_text.specs.Stands.{Stands, role_in}
use Rattle.asm_text.proofs.Passed.{behind_token, from_token}
use Rattle.asm_text.proofs.Words.{found, found_out, read}
use Rattle.asm_text.proofs.Put_plain.{left_out, line_apart, stays_plain}
use Rattle.asm_text.proofs.Signless.{IsOther, and_false, no_macro, no_words, none_in, role}
use Rattle.asm_text.proofs.Unvaried.{Keeps, last_left, same_worded}

is_other : (r : Role) → is_of_blocks r ≡ false → r ≡ Role.Other
is_other Role.Other e = refl
is_other _ e = absurd (false≢true (sym e))

no_colon : (k : Kind) (text after : List ℕ) → IsToken k text after → found Sign.Second [] (text ++ after) ≡ false → is_colon_kind k ≡ false
no_colon (Kind.Mark Mark.Colon) text after is none = absurd (false≢true (sym none ∙ ap (λ t. found Sign.Second [] (t ++ after)) is ∙ found_out Sign.Second [] 0x3A after refl))
no_colon _ text after is none = refl

-- Without a colon and MACRO, the first token decides the role of a line.
form_first : (line : List ℕ) (a : Lexeme) (others : List Lexeme) (rest : List ℕ) → BeginsTokens line (a ∷ others) rest → has_sign Sign.Second line ≡ false → IsOther (form (a ∷ [])) → IsOther (form (a ∷ others))
form_first line a [] rest begins none other = other
form_first line a (b ∷ more) rest begins none other =
    let alone = sym (read Sign.Second line) ∙ none in
    let have = none_in Sign.Second line rest (a ∷ b ∷ more) begins alone in
    let behind_first = behind_token Sign.Second a.kind a.text begins.0 begins.1.token_is (from_token Sign.Second line a begins.0 begins.1 alone) in
    let colon = no_colon b.kind b.text begins.2.0 begins.2.1.token_is (from_token Sign.Second begins.0 b begins.2.0 begins.2.1 behind_first) in
    elim (cases_Bool (is_name a && is_word (codes "EQU") b)) [
      | inl equ ↦ ap role (cond-true (is_name a && is_word (codes "EQU") b) _ _ equ)
      | inr no_equ ↦
          ap role (cond-false (is_name a && is_word (codes "EQU") b) _ _ no_equ)
          ∙ ap role (cond-false (is_name a && is_colon b) _ _ (and_false (is_name a) (is_colon b) colon))
          ∙ ap role (cond-false (is_name a && is_word (codes "MACRO") b) _ _ (no_macro Sign.Second a b have.1.0))
          ∙ ap role_of_head (same_worded None a (b ∷ more) [])
          ∙ other
    ]

read_first : (line : List ℕ) (a : Lexeme) (answer : Result (List Lexeme) ScanFault) → Scans line answer → Begins (a ∷ []) answer → has_sign Sign.Second line ≡ false → IsOther (form (a ∷ [])) → IsOther (form_by (tokens_in answer))
read_first line a (Err fault) cut begins none other = refl
read_first line a (Ok tokens) cut begins none other =
    ap (λ ts. role (form ts)) begins.1 ∙ form_first line a begins.0 cut.1.rest (subst (λ ts. BeginsTokens line ts cut.1.rest) begins.1 cut.1.begins) none other

module _ (keeps : Keeps) (t table : ReplacementTable) (only : HasOnly t table) where
  first_stays : ArePlain Sign.Second t → (line : List ℕ) → has_sign Sign.Second line ≡ false → (r : Result (List Lexeme) ScanFault) → scanned line ≡ r → first_of_line_varies table (tokens_in r) ≡ false
      → role (form_of (replaced_by t line (tokens_in r))) ≡ role (form_by (tokens_in r))
  first_stays plain line none (Err fault) is e = ap (λ h. role (form_by h)) (ap tokens_in is)
  first_stays plain line none (Ok []) is e = ap (λ h. role (form_by h)) (ap tokens_in is)
  first_stays plain line none (Ok (a ∷ more)) is e =
      let two = or_parts (is_of_blocks (role (form (a ∷ [])))) (list_any (is_held table) (take (with_next (goes_on a.kind) 1) (a ∷ more))) e in
      let other = is_other (role (form (a ∷ []))) two.0 in
      let scan = subst (Scans line) is (scans line) in
      let shown = replaced_tokens t line (a ∷ more) in
      let left : AreLeft t (a ∷ []) more = last_left t table only a more (goes_on a.kind) refl two.1 in
      read_first shown a (scanned shown) (scans shown) (keeps t line (a ∷ []) more scan.1 left) (line_apart Sign.Second t plain line (Ok (a ∷ more)) scan none) other
      ∙ sym (form_first line a more scan.1.rest scan.1.begins none other)

  -- A line that cannot vary has the role that it has as written, if all replacements are plain.
  stays_where : (s : Sign) → ArePlain s t → (line : List ℕ) → may_vary_plain s table line ≡ false → role_in (Some t) line ≡ role_in None line
  stays_where Sign.Word plain line none = no_words (replaced_line t line) (stays_plain Sign.Word t plain line none) ∙ sym (no_words line none)
  stays_where Sign.Second plain line e =
      let two = or_parts (has_sign Sign.Second line) (first_of_line_varies table (heard line)) e in
      first_stays plain line two.0 (scanned line) refl two.1

  -- If all replacements are plain, the filtered places suffice where all places do.
  fewer : (s : Sign) → ArePlain s t → (texts : List (List ℕ)) (from to : ℕ) (places some : List ℕ) → some ≡ filter (λ k. may_vary_plain s table (get_or texts k [])) places → Suffice texts from to places t → Suffice texts from to some t
  fewer s plain texts from to places some is all = λ k after before within. by k (all k after before within) where
    by : (k : ℕ) → Contains places k ⊎ Stands texts (Some t) k → Contains some k ⊎ Stands texts (Some t) k
    by k (inr stands) = inr stands
    by k (inl there) = elim (left_out (λ j. may_vary_plain s table (get_or texts j [])) places k there) [
      | inl kept ↦ inl (subst (λ ps. Contains ps k) (sym is) kept)
      | inr none ↦ inr (stays_where s plain (get_or texts k []) none)
    ]

  pub all_where : (texts : List (List ℕ)) (v : Varying) → Suffice texts v.at v.end v.places.items t
      → v.with_word.items ≡ filter (λ k. may_vary_plain Sign.Word table (get_or texts k [])) v.places.items
      → v.with_second.items ≡ filter (λ k. may_vary_plain Sign.Second table (get_or texts k [])) v.places.items
      → v.with_both.items ≡ filter (λ k. may_vary_plain Sign.Second table (get_or texts k [])) v.with_word.items
      → (word second : Bool) → (word ≡ true → ArePlain Sign.Word t) → (second ≡ true → ArePlain Sign.Second t) → Suffice texts v.at v.end (places_where word second v) t
  all_where texts v all w s b false false p q = all
  all_where texts v all w s b true false p q = fewer Sign.Word (p refl) texts v.at v.end v.places.items v.with_word.items w all
  all_where texts v all w s b false true p q = fewer Sign.Second (q refl) texts v.at v.end v.places.items v.with_second.items s all
  all_where texts v all w s b true true p q =
      fewer Sign.Second (q refl) texts v.at v.end v.with_word.items v.with_both.items b (fewer Sign.Word (p refl) texts v.at v.end v.places.items v.with_word.items w all)
