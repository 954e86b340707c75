-- Numbers are put into an instruction one after the other.
use Rattle.std.proofs.Common.{◌≡◌, ℕ, ◌-◌, ◌&&◌, List, [], ◌∷◌, ◌++◌, length, map, refl, sym, ap, ◌∙◌, append-nil}
use Rattle.std.specs.List.{flat_map, list_all}
use Rattle.std.proofs.lemmas.List.Concat.{flat_map-append}
use Rattle.std.proofs.lemmas.List.Folds.{list_all-append}
use Rattle.std.proofs.lemmas.List.{map-append}
use Rattle.z80_instr.specs.declared.Instr.{Instr}
use Rattle.z80_instr.specs.Table.{canonical}
use Rattle.z80_form.specs.declared.field.Field.{Field}
use Rattle.z80_form.specs.Numbers.{with_number, with_numbers}
use Rattle.asm_stmt.specs.declared.cell.Filling.{Filling}
use Rattle.asm_stmt.specs.declared.code.Coded.{Coded}
use Rattle.asm_stmt.specs.Cells.{hole, is_filled, number_or_0}
use Rattle.zmo_object.specs.Holes.{width_size}
use Rattle.asm_stmt.specs.Made.{Fillings, code_hole, field_width}
use Rattle.asm_stmt.specs.Private.Laying.{Codes}
use Rattle.asm_stmt.proofs.Laying.{and_true}

with_last : (ns : List (Field × ℕ)) (n : Field × ℕ) (instr : Instr) → with_numbers (ns ++ n ∷ []) instr ≡ with_number n.0 n.1 (with_numbers ns instr)
with_last [] n instr = refl
with_last (m ∷ ns) n instr = with_last ns n (with_number m.0 m.1 instr)

-- One more number is put into the instruction.
pub one_more : (instr : Instr) (numbers : Fillings) (field : Field) (filling : Filling) (old new : Coded) → Codes instr numbers old → new.size ≡ old.size
    → new.instr ≡ with_number field (number_or_0 filling) old.instr → new.holes.items ≡ old.holes.items ++ hole (old.size - width_size (field_width field)) (field_width field) filling
    → new.told ≡ (old.told && is_filled filling) → Codes instr (numbers ++ (field, filling) ∷ []) new
one_more instr numbers field filling old new c size put holed told = record {
  size = size ∙ c.size;
  filled = put ∙ ap (with_number field (number_or_0 filling)) c.filled ∙ sym (with_last (map (λ n. (n.0, number_or_0 n.1)) numbers) (field, number_or_0 filling) instr)
      ∙ ap (λ ns. with_numbers ns instr) (sym (map-append (λ n. (n.0, number_or_0 n.1)) numbers ((field, filling) ∷ [])));
  holes = holed ∙ ap (λ hs. hs ++ hole (old.size - width_size (field_width field)) (field_width field) filling) c.holes
      ∙ ap (λ n. flat_map (code_hole (length (canonical instr))) numbers ++ hole (n - width_size (field_width field)) (field_width field) filling) c.size
      ∙ sym (flat_map-append (code_hole (length (canonical instr))) numbers ((field, filling) ∷ []) ∙ ap (λ hs. flat_map (code_hole (length (canonical instr))) numbers ++ hs) (append-nil (code_hole (length (canonical instr)) (field, filling))));
  told = told ∙ ap (λ b. b && is_filled filling) c.told ∙ sym (list_all-append (λ n. is_filled n.1) numbers ((field, filling) ∷ []) ∙ ap (λ b. list_all (λ n. is_filled n.1) numbers && b) (and_true (is_filled filling)));
}
