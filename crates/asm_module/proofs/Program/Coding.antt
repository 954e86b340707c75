-- Instructions whose numbers have values.
use Rattle.std.proofs.Common.{◌≡◌, inl, inr, ◌<◌, ℕ, Bool, true, ◌&&◌, List, [], ◌∷◌, ◌++◌, Some, Ok, All, length, map, refl, sym, ap, subst, ◌∙◌, append-nil}
use Rattle.std.specs.List.{flat_map, list_all}
use Rattle.asm_expr.specs.Distances.{Step}
use Rattle.asm_expr.specs.Below.{value}
use Rattle.asm_expr.specs.Names.{Table}
use Rattle.asm_expr.proofs.Below.{and_parts}
use Rattle.z80_instr.specs.declared.Instr.{Instr}
use Rattle.z80_instr.specs.Codes.{in_range}
use Rattle.z80_instr.specs.Table.{canonical}
use Rattle.z80_form.specs.declared.field.Field.{Field}
use Rattle.z80_form.specs.declared.form.Form.{Form}
use Rattle.z80_form.specs.Numbers.{allows, number_field, with_number, with_numbers}
use Rattle.asm_spell.specs.Faults.{each}
use Rattle.asm_spell.specs.Line as line
use Rattle.asm_stmt.specs.declared.cell.Filling.{Filling}
use Rattle.asm_stmt.specs.Cells.{is_filled, number_or_0}
use Rattle.asm_stmt.specs.Fields as field
use Rattle.asm_stmt.specs.Made.{Fillings, code_hole, fillings, number_filled}
use Rattle.asm_module.specs.Program.Linked.{filled}
use Rattle.asm_module.specs.Program.Pieces.{valued}
use Rattle.asm_module.proofs.Program.Fields.{AreFields}
use Rattle.asm_module.specs.Program.Statement.{filling}
use Rattle.asm_stmt.proofs.Making.{bind_ok, blank_of}
use Rattle.asm_module.proofs.Program.Fillings.{Fills, IsFit, fills, worth_at}
use Rattle.asm_module.proofs.Program.Numbers as number
use Rattle.asm_module.proofs.Program.Numbers.{IsField, number_range, swapped}
use Rattle.asm_module.proofs.Program.Rows.{Rows}

abbrev pub Spelled : Type 0
Spelled = List (Field × line.ExpressionItems)

-- the instruction with the values that its expressions have at these addresses
abbrev pub at_of : (ℕ → ℕ) → Table → Spelled → Instr → Instr
at_of places t numbers instr = with_numbers (valued places (map (λ n. (n.0, filling t n.0 n.1)) numbers)) instr

-- Once its fix-ups are filled, the instruction has the values of its expressions, and they are in range.
pub record Reads (t : Table) (instr : Instr) (numbers : Spelled) (ns : Fillings) : Type 0 where
  pub filled : (places : ℕ → ℕ) → Step t.statements places
      → filled places (canonical (blank_of ns instr)) (flat_map (code_hole (length (canonical instr))) ns) ≡ canonical (at_of places t numbers instr)
  pub range : (places : ℕ → ℕ) → Step t.statements places → All (λ b. b < 256) (canonical (at_of places t numbers instr)) → in_range (at_of places t numbers instr) ≡ true

-- an instruction without numbers
read_none : (t : Table) (instr : Instr) → in_range instr ≡ true → Reads t instr [] []
read_none t instr ok = record { filled = λ places step. refl; range = λ places step all. ok }

-- an instruction with one number
read_one : Rows → (t : Table) (instr : Instr) (f : Field) (e : line.ExpressionItems) (x : Filling) → in_range instr ≡ true → IsField instr f → field.field_filling t f e ≡ Ok x → is_filled x ≡ true
    → Reads t instr ((f, e) ∷ []) ((f, x) ∷ [])
read_one rows t instr f e x ok is was told = record {
  filled = λ places step. (
      let fill = fills t places step f e x was told in
      ap (λ hs. filled places (canonical (with_number f (number_or_0 x) instr)) hs) (append-nil (code_hole (length (canonical instr)) (f, x)))
      ∙ number.number_filled rows places instr f x (length (canonical instr)) refl is fill.fit
      ∙ ap (λ v. canonical (with_number f v instr)) fill.worth
      );
  range = λ places step all. (
      let fill = fills t places step f e x was told in
      ap (λ v. in_range (with_number f v instr)) (sym fill.worth)
      ∙ number_range rows places instr f x is fill.fit ok (subst (λ v. All (λ b. b < 256) (canonical (with_number f v instr))) (sym fill.worth) all)
      );
}

-- a displacement is a known number
displaced : (x : Filling) → IsFit Field.Displacement x → (n : ℕ) × (x ≡ Filling.Number n) × (allows Field.Displacement n ≡ true)
displaced (Filling.Number n) fit = (n, refl, fit)
displaced (Filling.Varying items) fit = absurd fit
displaced Filling.Unknown fit = absurd fit

pub kept_field : Rows → (instr : Instr) (n : ℕ) (f : Field) → number_field instr ≡ Some f → IsField (with_number Field.Displacement n instr) f
kept_field rows instr n f is = inr (rows.field Field.Displacement n instr Form.Number ∙ is)

-- a displacement, and then a number
displacement_first : Rows → (t : Table) (instr : Instr) (g : Field) (d e : line.ExpressionItems) (x y : Filling) → in_range instr ≡ true → number_field instr ≡ Some g
    → field.field_filling t Field.Displacement d ≡ Ok x → is_filled x ≡ true → field.field_filling t g e ≡ Ok y → is_filled y ≡ true
    → Reads t instr ((Field.Displacement, d) ∷ (g, e) ∷ []) ((Field.Displacement, x) ∷ (g, y) ∷ [])
displacement_first rows t instr g d e x y ok is was told next told_too = record {
  filled = λ places step. (
      let fill = fills t places step Field.Displacement d x was told in
      let more = fills t places step g e y next told_too in
      by_number places x y fill more (displaced x fill.fit)
      );
  range = λ places step all. (
      let fill = fills t places step Field.Displacement d x was told in
      let more = fills t places step g e y next told_too in
      in_type places fill more (displaced x fill.fit) all
      );
}
  where
    by_number : (places : ℕ → ℕ) (x y : Filling) → Fills places Field.Displacement x (filling t Field.Displacement d) → Fills places g y (filling t g e)
        → (n : ℕ) × (x ≡ Filling.Number n) × (allows Field.Displacement n ≡ true)
        → filled places (canonical (blank_of ((Field.Displacement, x) ∷ (g, y) ∷ []) instr)) (flat_map (code_hole (length (canonical instr))) ((Field.Displacement, x) ∷ (g, y) ∷ []))
        ≡ canonical (at_of places t ((Field.Displacement, d) ∷ (g, e) ∷ []) instr)
    by_number places x y fill more n =
        let now = with_number Field.Displacement n.0 instr in
        let same : n.0 ≡ value places (filling t Field.Displacement d) = sym (ap (worth_at places) n.1) ∙ fill.worth in
        ap (λ z. filled places (canonical (blank_of ((Field.Displacement, z) ∷ (g, y) ∷ []) instr)) (flat_map (code_hole (length (canonical instr))) ((Field.Displacement, z) ∷ (g, y) ∷ []))) n.1
        ∙ ap (λ hs. filled places (canonical (with_number g (number_or_0 y) now)) hs) (append-nil (code_hole (length (canonical instr)) (g, y)))
        ∙ number.number_filled rows places now g y (length (canonical instr)) (sym (rows.size Field.Displacement n.0 instr)) (kept_field rows instr n.0 g is) more.fit
        ∙ ap (λ v. canonical (with_number g v now)) more.worth
        ∙ ap (λ m. canonical (with_number g (value places (filling t g e)) (with_number Field.Displacement m instr))) same

    in_type : (places : ℕ → ℕ) → Fills places Field.Displacement x (filling t Field.Displacement d) → Fills places g y (filling t g e)
        → (n : ℕ) × (x ≡ Filling.Number n) × (allows Field.Displacement n ≡ true)
        → All (λ b. b < 256) (canonical (at_of places t ((Field.Displacement, d) ∷ (g, e) ∷ []) instr)) → in_range (at_of places t ((Field.Displacement, d) ∷ (g, e) ∷ []) instr) ≡ true
    in_type places fill more n all =
        let now = with_number Field.Displacement n.0 instr in
        let same : n.0 ≡ value places (filling t Field.Displacement d) = sym (ap (worth_at places) n.1) ∙ fill.worth in
        let to : with_number g (worth_at places y) now ≡ at_of places t ((Field.Displacement, d) ∷ (g, e) ∷ []) instr =
        ap (λ v. with_number g v now) more.worth ∙ ap (λ m. with_number g (value places (filling t g e)) (with_number Field.Displacement m instr)) same in
        ap in_range (sym to)
        ∙ number_range rows places now g y (kept_field rows instr n.0 g is) more.fit (rows.range Field.Displacement n.0 instr n.2 ok) (subst (λ i. All (λ b. b < 256) (canonical i)) (sym to) all)

-- a number, and then a displacement
displacement_last : Rows → (t : Table) (instr : Instr) (g : Field) (d e : line.ExpressionItems) (x y : Filling) → in_range instr ≡ true → number_field instr ≡ Some g
    → field.field_filling t Field.Displacement d ≡ Ok x → is_filled x ≡ true → field.field_filling t g e ≡ Ok y → is_filled y ≡ true
    → Reads t instr ((g, e) ∷ (Field.Displacement, d) ∷ []) ((g, y) ∷ (Field.Displacement, x) ∷ [])
displacement_last rows t instr g d e x y ok is was told next told_too =
    let before = displacement_first rows t instr g d e x y ok is was told next told_too in
    let other : g ≡ Field.Displacement → ⊥ = λ same. rows.number instr (is ∙ ap (λ f. Some f) same) in
    let to = λ (places : ℕ → ℕ). swapped (value places (filling t Field.Displacement d)) g (value places (filling t g e)) instr other in
    record {
      filled = λ places step. (
          let n = displaced x (fills t places step Field.Displacement d x was told).fit in
          ap (λ z. filled places (canonical (blank_of ((g, y) ∷ (Field.Displacement, z) ∷ []) instr)) (flat_map (code_hole (length (canonical instr))) ((g, y) ∷ (Field.Displacement, z) ∷ []))) n.1
          ∙ ap (λ i. filled places (canonical i) (code_hole (length (canonical instr)) (g, y) ++ [])) (swapped n.0 g (number_or_0 y) instr other)
          ∙ ap (λ z. filled places (canonical (blank_of ((Field.Displacement, z) ∷ (g, y) ∷ []) instr)) (flat_map (code_hole (length (canonical instr))) ((Field.Displacement, z) ∷ (g, y) ∷ []))) (sym n.1)
          ∙ before.filled places step
          ∙ ap canonical (sym (to places))
          );
      range = λ places step all. (ap in_range (to places) ∙ before.range places step (subst (λ i. All (λ b. b < 256) (canonical i)) (to places) all));
    }

-- Each number is filled, from left to right.
one_filling : (t : Table) (n : Field × line.ExpressionItems) (y : Field × Filling) → number_filled t n ≡ Ok y → (x : Filling) × (field.field_filling t n.0 n.1 ≡ Ok x) × ((n.0, x) ≡ y)
one_filling t n y is = let b = bind_ok (field.field_filling t n.0 n.1) _ y is in (b.0, b.1, cc)

abbrev pub are_told : Fillings → Bool
are_told ns = list_all (λ n. is_filled n.1) ns

-- The numbers that an instruction may have, all filled and known: none; one; or a displacement and a number, in either order.
pub data Shape (t : Table) (instr : Instr) : Spelled → Fillings → Type 0 where
  none : Shape t instr [] []
  one : (f : Field) (e : line.ExpressionItems) (x : Filling) → IsField instr f → field.field_filling t f e ≡ Ok x → is_filled x ≡ true → Shape t instr ((f, e) ∷ []) ((f, x) ∷ [])
  first : (g : Field) (d e : line.ExpressionItems) (x y : Filling) → number_field instr ≡ Some g → field.field_filling t Field.Displacement d ≡ Ok x → is_filled x ≡ true
      → field.field_filling t g e ≡ Ok y → is_filled y ≡ true → Shape t instr ((Field.Displacement, d) ∷ (g, e) ∷ []) ((Field.Displacement, x) ∷ (g, y) ∷ [])
  last : (g : Field) (d e : line.ExpressionItems) (x y : Filling) → number_field instr ≡ Some g → field.field_filling t Field.Displacement d ≡ Ok x → is_filled x ≡ true
      → field.field_filling t g e ≡ Ok y → is_filled y ≡ true → Shape t instr ((g, e) ∷ (Field.Displacement, d) ∷ []) ((g, y) ∷ (Field.Displacement, x) ∷ [])

pub shape : (t : Table) (instr : Instr) (numbers : Spelled) (ns : Fillings) → AreFields instr (map (λ n. n.0) numbers) → fillings t numbers ≡ Ok ns → are_told ns ≡ true → Shape t instr numbers ns
shape t instr [] ns fields is told = let same : [] ≡ ns = cc in subst (Shape t instr []) same none
shape t instr (n ∷ []) ns fields is told =
    let a = bind_ok (number_filled t n) _ ns is in
    let same : a.0 ∷ [] ≡ ns = cc in
    let x = one_filling t n a.0 a.1 in
    let all : (n.0, x.0) ∷ [] ≡ ns = ap (λ y. y ∷ []) x.2 ∙ same in
    subst (Shape t instr (n ∷ [])) all (one n.0 n.1 x.0 fields x.1 (and_parts (is_filled x.0) true (ap are_told all ∙ told)).0)
shape t instr (n ∷ m ∷ []) ns fields is told =
    let a = bind_ok (number_filled t n) _ ns is in
    let b = bind_ok (each (number_filled t) (m ∷ [])) _ ns a.2 in
    let c = bind_ok (number_filled t m) _ b.0 b.1 in
    let end : c.0 ∷ [] ≡ b.0 = cc in
    let same : a.0 ∷ b.0 ≡ ns = cc in
    let x = one_filling t n a.0 a.1 in
    let y = one_filling t m c.0 c.1 in
    let all : (n.0, x.0) ∷ (m.0, y.0) ∷ [] ≡ ns = ap (λ z. z ∷ (m.0, y.0) ∷ []) x.2 ∙ ap (λ z. a.0 ∷ z ∷ []) y.2 ∙ ap (λ zs. a.0 ∷ zs) end ∙ same in
    let one_told = and_parts (is_filled x.0) (is_filled y.0 && true) (ap are_told all ∙ told) in
    let other_told = and_parts (is_filled y.0) true one_told.1 in
    subst (Shape t instr (n ∷ m ∷ [])) all (two n.0 m.0 n.1 m.1 x.0 y.0 fields x.1 one_told.0 y.1 other_told.0)
  where
    two : (f g : Field) (d e : line.ExpressionItems) (x y : Filling) → AreFields instr (f ∷ g ∷ []) → field.field_filling t f d ≡ Ok x → is_filled x ≡ true → field.field_filling t g e ≡ Ok y → is_filled y ≡ true
        → Shape t instr ((f, d) ∷ (g, e) ∷ []) ((f, x) ∷ (g, y) ∷ [])
    two f g d e x y (inl (at, is)) was told next told_too =
        subst (λ h. Shape t instr ((h, d) ∷ (g, e) ∷ []) ((h, x) ∷ (g, y) ∷ [])) (sym at) (first g d e x y is (ap (λ h. field.field_filling t h d) (sym at) ∙ was) told next told_too)
    two f g d e x y (inr (at, is)) was told next told_too =
        subst (λ h. Shape t instr ((f, d) ∷ (h, e) ∷ []) ((f, x) ∷ (h, y) ∷ [])) (sym at) (last f e d y x is (ap (λ h. field.field_filling t h e) (sym at) ∙ next) told_too was told)
shape t instr (n ∷ m ∷ o ∷ more) ns fields is told = absurd fields

pub reads : Rows → (t : Table) (instr : Instr) (numbers : Spelled) (ns : Fillings) → in_range instr ≡ true → Shape t instr numbers ns → Reads t instr numbers ns
reads rows t instr _ _ ok none = read_none t instr ok
reads rows t instr _ _ ok (one f e x is was told) = read_one rows t instr f e x ok is was told
reads rows t instr _ _ ok (first g d e x y is was told next told_too) = displacement_first rows t instr g d e x y ok is was told next told_too
reads rows t instr _ _ ok (last g d e x y is was told next told_too) = displacement_last rows t instr g d e x y ok is was told next told_too
