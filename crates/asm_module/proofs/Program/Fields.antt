-- Which fields of an instruction the expressions of a parsed line fill.
use Rattle.std.proofs.Common.{◌≡◌, ◌⊎◌, inl, inr, ℕ, Bool, true, false, List, [], ◌∷◌, ◌++◌, Option, Some, None, if◌then◌else◌, map, option_to_list, refl, sym, ap, subst, ◌∙◌, Ok}
use Rattle.asm_line.specs.Tokens.{Lexeme}
use Rattle.asm_line.specs.Forms.{form}
use Rattle.z80_instr.specs.declared.Instr.{Instr}
use Rattle.z80_instr.specs.Codes.{in_range}
use Rattle.z80_form.specs.declared.field.Field.{Field}
use Rattle.z80_form.specs.Numbers.{with_zeros, displacement_fields, fields, has_displacement, number_field, number_fields}
use Rattle.asm_spell.specs.Line as line
use Rattle.asm_spell.specs.Numbered.{FillFields, IsNumbered}
use Rattle.asm_spell.specs.Spelling.{spelled}
use Rattle.asm_module.specs.Program.Spelled.{IsSpelled}

-- The displacement and the number in either order, one of them, or nothing.
abbrev pub AreFields : Instr → List Field → Type 0
AreFields instr [] = Unit {0}
AreFields instr (f ∷ []) = (f ≡ Field.Displacement) ⊎ (number_field instr ≡ Some f)
AreFields instr (f ∷ g ∷ []) = ((f ≡ Field.Displacement) × (number_field instr ≡ Some g)) ⊎ ((g ≡ Field.Displacement) × (number_field instr ≡ Some f))
AreFields instr (f ∷ g ∷ h ∷ fs) = ⊥

-- What is known of the numbers of a parsed instruction before they are filled.
abbrev pub IsReady : line.Body → Type 0
IsReady (line.Code instr numbers) = AreFields instr (map (λ n. n.0) numbers) × (in_range instr ≡ true)
IsReady _ = Unit {0}

front : (instr : Instr) (b : Bool) (o : Option Field) → number_field instr ≡ o → AreFields instr ((if b then Field.Displacement ∷ [] else []) ++ option_to_list o)
front instr true None is = inl refl
front instr true (Some f) is = inl (refl, is)
front instr false None is = tt
front instr false (Some f) is = inr is

back : (instr : Instr) (b : Bool) (o : Option Field) → number_field instr ≡ o → AreFields instr (option_to_list o ++ (if b then Field.Displacement ∷ [] else []))
back instr true None is = inl refl
back instr true (Some f) is = inr (refl, is)
back instr false None is = tt
back instr false (Some f) is = inr is

-- The laws about parsed instructions that are used here.
pub record Spellings : Type 0 where
  pub row : (instr : Instr) → (fields instr ≡ displacement_fields instr ++ number_fields instr) ⊎ (fields instr ≡ number_fields instr ++ displacement_fields instr)
  pub zeros : (instr : Instr) → in_range (with_zeros instr) ≡ true
  pub numbered : (tokens : List Lexeme) (label : Option (List ℕ)) (instr : Instr) (numbers : List (Field × line.ExpressionItems)) → spelled tokens ≡ Ok (line.Statement label (Some (line.Code instr numbers)))
      → IsNumbered (form tokens).rest instr numbers
  pub filled : (tokens : List Lexeme) (label : Option (List ℕ)) (instr : Instr) (numbers : List (Field × line.ExpressionItems)) → spelled tokens ≡ Ok (line.Statement label (Some (line.Code instr numbers)))
      → FillFields instr numbers

are_fields : Spellings → (instr : Instr) (numbers : List (Field × line.ExpressionItems)) → FillFields instr numbers → AreFields instr (map (λ n. n.0) numbers)
are_fields s instr numbers (inr alone) = subst (AreFields instr) (sym alone) (front instr false (number_field instr) refl)
are_fields s instr numbers (inl all) = by_row (s.row instr)
  where
    by_row : (fields instr ≡ displacement_fields instr ++ number_fields instr) ⊎ (fields instr ≡ number_fields instr ++ displacement_fields instr) → AreFields instr (map (λ n. n.0) numbers)
    by_row (inl first) = subst (AreFields instr) (sym (all ∙ first)) (front instr (has_displacement instr) (number_field instr) refl)
    by_row (inr last) = subst (AreFields instr) (sym (all ∙ last)) (back instr (has_displacement instr) (number_field instr) refl)

pub ready : Spellings → (b : line.Body) → IsSpelled b → IsReady b
ready s (line.Code instr numbers) is =
    let zeros = (s.numbered is.tokens is.label instr numbers is.is).zeros in
    (are_fields s instr numbers (s.filled is.tokens is.label instr numbers is.is), ap in_range (sym zeros) ∙ s.zeros instr)
ready s b is = tt
