-- What fills a field has the value of its operand.
use Rattle.std.proofs.Common.{◌≡◌, ℕ, ◌+◌, ◌-◌, ◌%◌, Bool, true, false, List, Option, Some, None, Result, Ok, Err, if◌then◌else◌, refl, sym, ap, subst, ◌∙◌, arith}
use Rattle.std.specs.List.{list_all}
use Rattle.std.proofs.lemmas.Bool.{false≢true}
use Rattle.common.specs.Results.{◌>>=◌}
use Rattle.asm_parse.specs.declared.fault.ExprFault.{ExprFault}
use Rattle.asm_parse.specs.declared.item.Item.{Item}
use Rattle.asm_parse.specs.declared.operator.Binary.{Binary}
use Rattle.asm_parse.specs.Expression.{Expression, Leaf, Prefix, Infix, postfix}
use Rattle.asm_parse.specs.Source.{Operand, Number, Name, Here}
use Rattle.asm_expr.specs.declared.answer.Settled.{Settled}
use Rattle.asm_expr.specs.Below.{Atom, binary, value, source_tree, tree}
use Rattle.asm_expr.specs.declared.here.Offset.{Offset}
use Rattle.asm_expr.specs.declared.unknown.Unknown.{Unknown}
use Rattle.asm_expr.specs.Types.{Worth}
use Rattle.asm_expr.specs.Distances.{Step}
use Rattle.asm_expr.specs.Names.{Table}
use Rattle.asm_expr.specs.Offsets.{offset_after_here, offset}
use Rattle.asm_expr.specs.Settling.{fault, is_constant_item, replaced, settled, worth}
use Rattle.z80_form.specs.declared.field.Field.{Field}
use Rattle.z80_form.specs.Numbers.{allows}
use Rattle.asm_spell.specs.declared.fault.StmtFault.{StmtFault}
use Rattle.asm_spell.specs.Line as line
use Rattle.asm_stmt.specs.declared.cell.Filling.{Filling}
use Rattle.asm_stmt.specs.Cells.{is_filled}
use Rattle.asm_stmt.specs.Fields.{byte, byte_by, distance_or, field_filling, fixed, fixed_by, from_end, is_number_unknown, number, settled_in, word_filling, word_filling_by}
use Rattle.zmo_object.specs.Holes.{ends_in_byte}
use Rattle.asm_stmt.proofs.Making.{as_stmt_ok, bind_ok, chosen_ok}
use Rattle.asm_module.specs.Program.Statement.{end_of, filling, replaced_expression, with_meant}
use Rattle.asm_module.proofs.Program.Values.{fixed_value, number_value, settled_value}

-- the value of a filling at these addresses
abbrev pub worth_at : (ℕ → ℕ) → Filling → ℕ
worth_at places (Filling.Number n) = n
worth_at places (Filling.Varying items) = value places (tree items)
worth_at places Filling.Unknown = 0

-- What fills the field is in the field's range. Nothing is required of a byte, which is cut to its low 8 bits, or of a word, which has all
-- 16.
abbrev pub IsFit : Field → Filling → Type 0
IsFit Field.Byte f = Unit {0}
IsFit Field.Word f = Unit {0}
IsFit field (Filling.Number n) = allows field n ≡ true
IsFit field _ = ⊥

-- If it is known, what fills a field has the value of the expression, and fits.
pub record Fills (places : ℕ → ℕ) (field : Field) (f : Filling) (x : Expression Atom) : Type 0 where
  pub worth : worth_at places f ≡ value places x
  pub fit : IsFit field f

abbrev answer : Filling → Result Filling StmtFault
answer f = Ok f

not_told : (f : Filling) → answer Filling.Unknown ≡ Ok f → is_filled f ≡ true → ⊥
not_told f is told = let same : Filling.Unknown ≡ f = cc in false≢true (ap is_filled same ∙ told)

-- The items that a filling comes from, for each kind of field.
abbrev From : (ℕ → ℕ) → Settled → Filling → Type 0
From places s f = (items : List (Item Atom)) × (s ≡ Settled.Known items) × (worth_at places f ≡ value places (tree items))

byte_from : (places : ℕ → ℕ) (s : Settled) (f : Filling) → byte s ≡ Ok f → is_filled f ≡ true → From places s f
byte_from places (Settled.Known items) f is told = (items, refl, by_number (number items) refl is)
  where
    by_number : (o : Option ℕ) → number items ≡ o → byte_by o items ≡ Ok f → worth_at places f ≡ value places (tree items)
    by_number (Some n) was is = let c = chosen_ok (allows Field.Byte n) (Filling.Number n) f StmtFault.ByteRange is in ap (worth_at places) (sym c.1) ∙ sym (number_value places items n was)
    by_number None was is = let c = chosen_ok (ends_in_byte items) (Filling.Varying items) f StmtFault.NeedsLowOrHigh is in ap (worth_at places) (sym c.1)
byte_from places (Settled.Unknown Unknown.Varies) f is told = cc
byte_from places (Settled.Unknown Unknown.Anything) f is told = absurd (not_told f is told)
byte_from places (Settled.Unknown Unknown.Number) f is told = absurd (not_told f is told)
byte_from places (Settled.Unknown Unknown.VariesInByte) f is told = absurd (not_told f is told)

word_from : (places : ℕ → ℕ) (s : Settled) (f : Filling) → answer (word_filling s) ≡ Ok f → is_filled f ≡ true → From places s f
word_from places (Settled.Known items) f is told = (items, refl, by_number (number items) refl is)
  where
    by_number : (o : Option ℕ) → number items ≡ o → answer (word_filling_by o items) ≡ Ok f → worth_at places f ≡ value places (tree items)
    by_number (Some n) was is = let same : Filling.Number n ≡ f = cc in ap (worth_at places) (sym same) ∙ sym (number_value places items n was)
    by_number None was is = let same : Filling.Varying items ≡ f = cc in ap (worth_at places) (sym same)
word_from places (Settled.Unknown what) f is told = absurd (not_told f is told)

pub fixed_from : (field : Field) (s : Settled) (f : Filling) → fixed field s ≡ Ok f → is_filled f ≡ true
    → (items : List (Item Atom)) × (n : ℕ) × (s ≡ Settled.Known items) × (number items ≡ Some n) × (f ≡ Filling.Number n) × (allows field n ≡ true)
fixed_from field (Settled.Known items) f is told = by_number (number items) refl is
  where
    by_number : (o : Option ℕ) → number items ≡ o → fixed_by field o ≡ Ok f
        → (xs : List (Item Atom)) × (n : ℕ) × (Settled.Known items ≡ Settled.Known xs) × (number xs ≡ Some n) × (f ≡ Filling.Number n) × (allows field n ≡ true)
    by_number (Some n) was is = let c = chosen_ok (allows field n) (Filling.Number n) f StmtFault.ByteRange is in (items, n, refl, was, sym c.1, c.0)
    by_number None was is = cc
fixed_from field (Settled.Unknown what) f is told = by_test (is_number_unknown what) is
  where
    by_test : (b : Bool) → (if b then Ok Filling.Unknown else Err StmtFault.NeedsNumber) ≡ Ok f
        → (xs : List (Item Atom)) × (n : ℕ) × (Settled.Unknown what ≡ Settled.Known xs) × (number xs ≡ Some n) × (f ≡ Filling.Number n) × (allows field n ≡ true)
    by_test b is = absurd (not_told f (ap (λ x. Ok x) (chosen_ok b Filling.Unknown f StmtFault.NeedsNumber is).1) told)

-- The distances of JR and DJNZ.
constant_ok : (b : Bool) (op : Binary) (w : Worth) (n : ℕ) → (if b then offset_after_here op w else Offset.NotConstant) ≡ Offset.Number n → (k : ℕ) × (w ≡ Worth.Number k) × (binary op 0 k ≡ n)
constant_ok true op (Worth.Number k) n is = (k, refl, cc)
constant_ok true op Worth.Unknown n is = cc
constant_ok true op Worth.Varies n is = cc
constant_ok false op w n is = cc

from_here : (h k : ℕ) → (((h % 65536 + k) % 65536) + (65536 - (h % 65536 + 2) % 65536)) % 65536 ≡ ((0 + k) % 65536 + 65534) % 65536
from_here h k = omega arith

at_here : (h : ℕ) → ((h % 65536) + (65536 - (h % 65536 + 2) % 65536)) % 65536 ≡ (0 + 65534) % 65536
at_here h = omega arith

offset_value : (t : Table) (places : ℕ → ℕ) → Step t.statements places → (e : Expression Operand) (n : ℕ) → offset t e ≡ Offset.Number n
    → value places (Infix Binary.Subtract (with_meant t e) (end_of t)) ≡ from_end n
offset_value t places step (Leaf Here) n is = let zero : 0 ≡ n = cc in at_here (places t.here) ∙ ap from_end zero
offset_value t places step (Leaf (Number m)) n is = cc
offset_value t places step (Leaf (Name name)) n is = cc
offset_value t places step (Prefix op a) n is = cc
offset_value t places step (Infix Binary.Add (Leaf Here) a) n is =
    let c = constant_ok (list_all (is_constant_item t) (postfix a)) Binary.Add (worth t (replaced t a)) n is in
    ap (λ v. (((places t.here % 65536 + v) % 65536) + (65536 - (places t.here % 65536 + 2) % 65536)) % 65536) (fixed_value t a c.0 c.1 places step)
    ∙ from_here (places t.here) c.0 ∙ ap from_end c.2
offset_value t places step (Infix Binary.Subtract (Leaf Here) a) n is =
    let c = constant_ok (list_all (is_constant_item t) (postfix a)) Binary.Subtract (worth t (replaced t a)) n is in
    ap (λ v. (((places t.here % 65536 + (65536 - v)) % 65536) + (65536 - (places t.here % 65536 + 2) % 65536)) % 65536) (fixed_value t a c.0 c.1 places step)
    ∙ from_here (places t.here) (65536 - c.0) ∙ ap from_end c.2
offset_value t places step (Infix op a b) n is = cc

pub distance_from : (why : Option ExprFault) (o : Offset) (f : Filling) → distance_or why o ≡ Ok f → is_filled f ≡ true
    → (n : ℕ) × (o ≡ Offset.Number n) × (f ≡ Filling.Number (from_end n)) × (allows Field.Distance (from_end n) ≡ true)
distance_from why Offset.Other f is told = cc
distance_from (Some why) (Offset.Number n) f is told = cc
distance_from (Some why) Offset.Unknown f is told = cc
distance_from (Some why) Offset.NotConstant f is told = cc
distance_from None (Offset.Number n) f is told =
    let c = chosen_ok (allows Field.Distance (from_end n)) (Filling.Number (from_end n)) f StmtFault.ByteRange is in
    (n, refl, sym c.1, c.0)
distance_from None Offset.Unknown f is told = absurd (not_told f is told)
distance_from None Offset.NotConstant f is told = cc

-- Each kind of field.
from_settled : (t : Table) (places : ℕ → ℕ) → Step t.statements places → (e : line.ExpressionItems) (s : Settled) (items : List (Item Atom)) → settled_in t e ≡ Ok s → s ≡ Settled.Known items
    → value places (tree items) ≡ value places (replaced_expression t e)
from_settled t places step e s items is known = settled_value t (source_tree e) items (as_stmt_ok (settled t (source_tree e)) s is ∙ ap (λ x. Ok x) known) places step

fixed_fills : (t : Table) (places : ℕ → ℕ) → Step t.statements places → (field : Field) (e : line.ExpressionItems) (f : Filling) → (settled_in t e >>= fixed field) ≡ Ok f → is_filled f ≡ true
    → (n : ℕ) × (f ≡ Filling.Number n) × (allows field n ≡ true) × (worth_at places f ≡ value places (replaced_expression t e))
fixed_fills t places step field e f is told =
    let b = bind_ok (settled_in t e) (fixed field) f is in
    let w = fixed_from field b.0 f b.2 told in
    (w.1, w.4, w.5, ap (worth_at places) w.4 ∙ sym (number_value places w.0 w.1 w.3) ∙ from_settled t places step e b.0 w.0 b.1 w.2)

pub fills : (t : Table) (places : ℕ → ℕ) → Step t.statements places → (field : Field) (e : line.ExpressionItems) (f : Filling) → field_filling t field e ≡ Ok f → is_filled f ≡ true → Fills places field f (filling t field e)
fills t places step Field.Byte e f is told =
    let b = bind_ok (settled_in t e) byte f is in
    let w = byte_from places b.0 f b.2 told in
    record { worth = w.2 ∙ from_settled t places step e b.0 w.0 b.1 w.1; fit = tt }
fills t places step Field.Word e f is told =
    let b = bind_ok (settled_in t e) (λ s. Ok (word_filling s)) f is in
    let w = word_from places b.0 f b.2 told in
    record { worth = w.2 ∙ from_settled t places step e b.0 w.0 b.1 w.1; fit = tt }
fills t places step Field.Displacement e f is told =
    let w = fixed_fills t places step Field.Displacement e f is told in
    record { worth = w.3; fit = subst (IsFit Field.Displacement) (sym w.1) w.2 }
fills t places step Field.Bit e f is told =
    let w = fixed_fills t places step Field.Bit e f is told in
    record { worth = w.3; fit = subst (IsFit Field.Bit) (sym w.1) w.2 }
fills t places step Field.Mode e f is told =
    let w = fixed_fills t places step Field.Mode e f is told in
    record { worth = w.3; fit = subst (IsFit Field.Mode) (sym w.1) w.2 }
fills t places step Field.Restart e f is told =
    let w = fixed_fills t places step Field.Restart e f is told in
    record { worth = w.3; fit = subst (IsFit Field.Restart) (sym w.1) w.2 }
fills t places step Field.Distance e f is told =
    let w = distance_from (fault t (source_tree e)) (offset t (source_tree e)) f is told in
    record {
      worth = ap (worth_at places) w.2 ∙ sym (offset_value t places step (source_tree e) w.0 w.1);
      fit = subst (IsFit Field.Distance) (sym w.2) w.3;
    }
