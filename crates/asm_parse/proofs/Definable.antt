-- Names that a program can define.
use Rattle.std.proofs.Common.{◌≡◌, ◌==◌, ◌&&◌, ◌↔◌, ℕ, Bool, true, false, not, List, [], ◌∷◌, refl, sym, ◌∙◌}
use Rattle.std.specs.List.{list_all}
use Rattle.std.specs.Char.{to_ascii_uppercase}
use Rattle.std.proofs.lemmas.Bool.{and_parts, eqb-true, eq-eqb}
use Rattle.std.proofs.lemmas.List.Sums.{AllPass-from_list_all, list_all-from_AllPass}
use Rattle.asm_line.specs.Classes.{begins_name, continues_name}
use Rattle.asm_line.specs.Tokens.{IsName}
use Rattle.common.specs.Words.{upper, is_reserved}
use Rattle.asm_parse.specs.Names.{IsDefinable}
use Rattle.asm_parse.specs.Private.Named.{is_one_name, is_upper}

name_told : (text : List ℕ) → is_one_name text ≡ true → IsName text
name_told [] e = absurd cc
name_told (b ∷ more) e = let parts = and_parts (begins_name b) (list_all continues_name more) e in (parts.0, AllPass-from_list_all continues_name more parts.1)

name_tests : (text : List ℕ) → IsName text → is_one_name text ≡ true
name_tests [] n = absurd n
name_tests (b ∷ more) n = rw (n.0, list_all-from_AllPass continues_name more n.1) refl

upper_told : (text : List ℕ) → is_upper text ≡ true → upper text ≡ text
upper_told [] e = refl
upper_told (b ∷ more) e =
    let parts = and_parts (to_ascii_uppercase b == b) (is_upper more) e in
    let first : to_ascii_uppercase b ≡ b = eqb-true _ b parts.0 in
    let others : upper more ≡ more = upper_told more parts.1 in
    cc

upper_tests : (text : List ℕ) → upper text ≡ text → is_upper text ≡ true
upper_tests [] e = refl
upper_tests (b ∷ more) e =
    let whole : ◌≡◌ {A = List ℕ} (to_ascii_uppercase b ∷ upper more) (b ∷ more) = e in
    let first : to_ascii_uppercase b ≡ b = cc in
    let others : upper more ≡ more = cc in
    rw (eq-eqb _ b first, upper_tests more others) refl

not_told : (b : Bool) → not b ≡ true → b ≡ false
not_told true e = absurd cc
not_told false e = refl

pub definable : (text : List ℕ) (b : Bool) → b ≡ (is_one_name text && is_upper text && not (is_reserved text)) → (b ≡ true) ↔ IsDefinable text
definable text b is = (
  λ told.
      let both = and_parts (is_one_name text && is_upper text) (not (is_reserved text)) (sym is ∙ told) in
      let parts = and_parts (is_one_name text) (is_upper text) both.0 in
      record { name = name_told text parts.0; upper_case = upper_told text parts.1; free = not_told (is_reserved text) both.1 },
  λ d. is ∙ rw (name_tests text d.name, upper_tests text d.upper_case, d.free) refl,
)
