-- The numbers of an instruction, given which fields its operands fill.
use Rattle.std.proofs.Common.{◌≡◌, ◌≢◌, ◌⊎◌, ◌↔◌, inl, inr, true, List, [], ◌∷◌, Option, Some, None, All, refl, ap, sym, ◌∙◌, map}
use Rattle.std.specs.Option.{is_some}
use Rattle.std.specs.List.{filter_map, cons_option}
use Rattle.std.proofs.lemmas.List.Elements.{All-head, All-tail}
use Rattle.asm_line.specs.Tokens.{Lexeme}
use Rattle.z80_instr.specs.declared.Instr.{Instr}
use Rattle.z80_form.specs.declared.mnemonic.Mnemonic.{Mnemonic}
use Rattle.z80_form.specs.declared.form.Form.{Form}
use Rattle.z80_form.specs.declared.field.Field.{Field}
use Rattle.z80_form.specs.Numbers as form
use Rattle.z80_form.specs.Numbers.{with_zeros, field_of, fields, fields_of, has_expression, number_field, number_fields}
use Rattle.z80_form.specs.Spelling.{Spells, instruction_of}
use Rattle.asm_spell.specs.Line.{ExpressionItems}
use Rattle.asm_spell.specs.Operands.{WrittenOperand}
use Rattle.asm_spell.specs.Numbered.{FillFields, IsNumbered}
use Rattle.asm_spell.specs.Spelling.{field_expression, numbers}
use Rattle.asm_spell.proofs.Walk.{Fits, IsFound}

-- An operand fills a field exactly if it has an expression.

some_field : (field : Option Field) → (true ≡ true → field ≢ None) → is_some field ≡ true
some_field None never = absurd (never refl refl)
some_field (Some field) never = refl

fills : (instr : Instr) (f : Form) → (has_expression f ≡ true → field_of instr f ≢ None) → is_some (field_of instr f) ≡ has_expression f
fills instr (Form.Displaced x) has = refl
fills instr Form.AtNumber has = some_field (number_field instr) has
fills instr Form.Number has = some_field (number_field instr) has
fills instr _ has = refl

field_put : (field : Option Field) (e : Option ExpressionItems) (more : List (Field × ExpressionItems)) → is_some field ≡ is_some e
    → map (λ n. n.0) (cons_option (field_expression field e) more) ≡ cons_option field (map (λ n. n.0) more)
field_put None None more same = refl
field_put None (Some e) more same = absurd cc
field_put (Some field) None more same = absurd cc
field_put (Some field) (Some e) more same = refl

expression_put : (field : Option Field) (e : Option ExpressionItems) (more : List (Field × ExpressionItems)) → is_some field ≡ is_some e
    → map (λ n. n.1) (cons_option (field_expression field e) more) ≡ cons_option e (map (λ n. n.1) more)
expression_put None None more same = refl
expression_put None (Some e) more same = absurd cc
expression_put (Some field) None more same = absurd cc
expression_put (Some field) (Some e) more same = refl

abbrev Filled : Instr → Form → Type 0
Filled instr f = has_expression f ≡ true → field_of instr f ≢ None

abbrev forms : List WrittenOperand → List Form
forms read = map (λ w. w.form) read

fields_put : (instr : Instr) (read : List WrittenOperand) → All Fits read → form.HasFields instr (forms read) → map (λ n. n.0) (numbers instr read) ≡ fields_of instr (forms read)
fields_put instr [] fit has = refl
fields_put instr (w ∷ read) fit has =
    field_put (field_of instr w.form) w.expression (numbers instr read) (fills instr w.form (All-head (Filled instr) w.form (forms read) has) ∙ sym (All-head Fits w read fit))
    ∙ ap (cons_option (field_of instr w.form)) (fields_put instr read (All-tail Fits w read fit) (All-tail (Filled instr) w.form (forms read) has))

expressions_put : (instr : Instr) (read : List WrittenOperand) → All Fits read → form.HasFields instr (forms read) → map (λ n. n.1) (numbers instr read) ≡ filter_map (λ w. w.expression) read
expressions_put instr [] fit has = refl
expressions_put instr (w ∷ read) fit has =
    expression_put (field_of instr w.form) w.expression (numbers instr read) (fills instr w.form (All-head (Filled instr) w.form (forms read) has) ∙ sym (All-head Fits w read fit))
    ∙ ap (cons_option w.expression) (expressions_put instr read (All-tail Fits w read fit) (All-tail (Filled instr) w.form (forms read) has))

-- What z80_form proves about the numbers of an instruction.

pub is_numbered : ((m : Mnemonic) (operands : List Form) (instr : Instr) → (instruction_of m operands ≡ Some instr) ↔ (Spells m operands instr × (with_zeros instr ≡ instr)))
    → ((m : Mnemonic) (operands : List Form) (instr : Instr) → instruction_of m operands ≡ Some instr → form.HasFields instr operands)
    → (ts : List Lexeme) (instr : Instr) (ns : List (Field × ExpressionItems)) → IsFound ts instr ns → IsNumbered ts instr ns
is_numbered spelled filled ts instr ns f =
    let all = (spelled f.mnemonic (forms f.operands) instr).0 f.found in
    let has = filled f.mnemonic (forms f.operands) instr f.found in
    record {
      mnemonic = f.mnemonic;
      operands = f.operands;
      read = f.read;
      spelled = all.0;
      zeros = all.1;
      fields_are = ap (λ xs. map (λ n. n.0) xs) f.numbers_are ∙ fields_put instr f.operands f.fit has;
      expressions_are = ap (λ xs. map (λ n. n.1) xs) f.numbers_are ∙ expressions_put instr f.operands f.fit has;
    }

pub has_fields : ((m : Mnemonic) (operands : List Form) (instr : Instr) → Spells m operands instr → (fields_of instr operands ≡ fields instr) ⊎ (fields_of instr operands ≡ number_fields instr))
    → (ts : List Lexeme) (instr : Instr) (ns : List (Field × ExpressionItems)) → IsNumbered ts instr ns → FillFields instr ns
has_fields either ts instr ns n = elim (either n.mnemonic (forms n.operands) instr n.spelled) [ inl e ↦ inl (n.fields_are ∙ e) | inr e ↦ inr (n.fields_are ∙ e) ]
