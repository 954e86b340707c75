-- What a statement makes depends only on what its names stand for, on `$` and on the statements of the module.
use Rattle.std.proofs.Common.{◌≡◌, ℕ, ◌==◌, ◌&&◌, List, [], ◌∷◌, Option, Some, None, Result, Ok, Err, if◌then◌else◌, refl, sym, ap, ◌∙◌}
use Rattle.std.specs.List.{list_all}
use Rattle.std.proofs.Math.Path.{fun_ext}
use Rattle.common.specs.Results.{◌>>=◌}
use Rattle.asm_parse.specs.declared.fault.ExprFault.{ExprFault}
use Rattle.asm_parse.specs.declared.item.Item.{Item}
use Rattle.asm_parse.specs.Expression.{Expression, postfix}
use Rattle.asm_parse.specs.Source.{Operand, Name}
use Rattle.asm_expr.specs.declared.answer.Settled.{Settled}
use Rattle.asm_expr.specs.Names.{Table, found}
use Rattle.asm_expr.specs.Offsets.{offset}
use Rattle.asm_expr.specs.Origins.{AgreeOn}
use Rattle.asm_expr.specs.Below.{source_tree}
use Rattle.asm_expr.specs.Settling.{fault, is_constant_item, settled, unless_fault}
use Rattle.asm_spell.specs.declared.fault.StmtFault.{StmtFault}
use Rattle.asm_spell.specs.Faults.{each}
use Rattle.asm_spell.specs.Line as line
use Rattle.asm_spell.specs.Line.{Body, Value}
use Rattle.z80_form.specs.declared.field.Field.{Field}
use Rattle.z80_instr.specs.declared.Instr.{Instr}
use Rattle.z80_instr.specs.declared.ShortCond.{ShortCond}
use Rattle.zmo_object.specs.declared.module.hole.Width.{Width}
use Rattle.asm_stmt.specs.declared.cell.Cell.{Cell}
use Rattle.asm_stmt.specs.declared.cell.Filling.{Filling}
use Rattle.asm_stmt.specs.Fields.{as_stmt, byte, distance_or, field_filling, fixed, settled_in, word_filling}
use Rattle.asm_stmt.specs.Made.{Nothing, items_made, cells, code, coded, is_origin, jump_by, long_jump, made, number_in, ref_of, short_by, space_of_size, space_fill, space_size, value_cells}

-- Names stand for the same in both tables, and `$` and the statements are the same.
pub record AreSame (t u : Table) : Type 0 where
  pub names : (name : List ℕ) → found t name ≡ found u name
  pub here : t.here ≡ u.here
  pub statements : t.statements ≡ u.statements

-- the law of `asm_expr` that two tables give the same answer for an expression if they agree on its names
abbrev pub AlikeBy : {A : Type 0} → (Table → Expression Operand → A) → Type 0
AlikeBy answer = (t u : Table) (e : Expression Operand) → AgreeOn (postfix e) t u → answer t e ≡ answer u e

abbrev faulty : Result Settled ExprFault → Option ExprFault
faulty (Ok s) = None
faulty (Err why) = Some why

faulty_is : (f : Option ExprFault) (s : Settled) → faulty (unless_fault f s) ≡ f
faulty_is None s = refl
faulty_is (Some why) s = refl

module _ (settled_by : AlikeBy settled) (constant_by : AlikeBy (λ t e. list_all (is_constant_item t) (postfix e))) (offset_by : AlikeBy offset) (t u : Table) (same : AreSame t u) where
  agree : (e : Expression Operand) → AgreeOn (postfix e) t u
  agree e = record { here = same.here; statements = same.statements; names = λ name among. same.names name }

  same_settled : (e : Expression Operand) → settled t e ≡ settled u e
  same_settled e = settled_by t u e (agree e)

  same_in : (e : line.ExpressionItems) → settled_in t e ≡ settled_in u e
  same_in e = ap as_stmt (same_settled (source_tree e))

  same_fault : (e : Expression Operand) → fault t e ≡ fault u e
  same_fault e = sym (faulty_is (fault t e) _) ∙ ap faulty (same_settled e) ∙ faulty_is (fault u e) _

  same_offset : (e : Expression Operand) → offset t e ≡ offset u e
  same_offset e = offset_by t u e (agree e)

  -- What fills a field.

  same_filled : (field : Field) (e : line.ExpressionItems) → field_filling t field e ≡ field_filling u field e
  same_filled Field.Distance e = ap (λ f. distance_or f (offset t (source_tree e))) (same_fault (source_tree e)) ∙ ap (distance_or (fault u (source_tree e))) (same_offset (source_tree e))
  same_filled Field.Byte e = ap (λ r. r >>= byte) (same_in e)
  same_filled Field.Word e = ap (λ r. r >>= λ s. Ok (word_filling s)) (same_in e)
  same_filled field e = ap (λ r. r >>= fixed field) (same_in e)

  same_cells : (width : Width) (field : Field) (e : line.ExpressionItems) → cells t width field e ≡ cells u width field e
  same_cells width field e = ap (λ r. r >>= λ f. Ok ((record { width = width; filling = f }) ∷ [])) (same_filled field e)

  same_value : (v : Value) → value_cells t v ≡ value_cells u v
  same_value (line.Text text) = refl
  same_value (line.Byte e) = same_cells Width.Byte Field.Byte e

  same_code : (instr : Instr) (numbers : List (Field × line.ExpressionItems)) → code t instr numbers ≡ code u instr numbers
  same_code instr numbers = ap (λ (f : Field × line.ExpressionItems → Result (Field × Filling) StmtFault). each f numbers >>= λ read. Ok (coded instr read)) (fun_ext (λ n. ap (λ r. r >>= λ f. Ok (n.0, f)) (same_filled n.0 n.1)))

  same_jump : (condition : Option ShortCond) (target : List ℕ) (o : Option ℕ) → jump_by o t condition target ≡ jump_by o u condition target
  same_jump condition target (Some r) = refl
  same_jump condition target None = same_code (long_jump condition 0) ((Field.Word, Item.Leaf (Name target) ∷ []) ∷ [])

  same_size : (e : line.ExpressionItems) → space_size t e ≡ space_size u e
  same_size e =
      ap (λ b. settled_in t e >>= λ s. if b then Ok s else Err StmtFault.SizeNamesLabel) (constant_by t u (source_tree e) (agree (source_tree e)))
      ∙ ap (λ r. r >>= λ s. if list_all (is_constant_item u) (postfix (source_tree e)) then Ok s else Err StmtFault.SizeNamesLabel) (same_in e)

  same_fill : (fill : Option line.ExpressionItems) → space_fill t fill ≡ space_fill u fill
  same_fill None = refl
  same_fill (Some e) = ap (λ r. r >>= fixed Field.Byte) (same_in e)

  pub same_made : (b : Body) → made t b ≡ made u b
  same_made (line.Code instr numbers) = same_code instr numbers
  same_made (line.Jump condition target) = ap (λ m. jump_by (ref_of m) t condition target) (same.names target) ∙ same_jump condition target (ref_of (found u target))
  same_made (line.Short branch target) = ap (λ m. short_by (ref_of m) branch) (same.names target)
  same_made (line.Bytes values) = ap (λ (f : Value → Result (List Cell) StmtFault). items_made (each f values)) (fun_ext same_value)
  same_made (line.Words fields) = ap (λ (f : line.ExpressionItems → Result (List Cell) StmtFault). items_made (each f fields)) (fun_ext (same_cells Width.Word Field.Word))
  same_made (line.Space size fill) =
      ap (λ r. r >>= λ s. space_fill t fill >>= λ f. Ok (space_of_size (number_in s) f)) (same_size size)
      ∙ ap (λ r. space_size u size >>= λ s. r >>= λ f. Ok (space_of_size (number_in s) f)) (same_fill fill)
  same_made (line.Origin e) =
      ap (λ r. r >>= λ s. if (t.here == 0) && is_origin s then Ok Nothing else Err StmtFault.BadOrg) (same_in e)
      ∙ ap (λ here. settled_in u e >>= λ s. if (here == 0) && is_origin s then Ok Nothing else Err StmtFault.BadOrg) same.here
  same_made (line.Public list) = refl
  same_made (line.External list) = refl
  same_made (line.End entry) = refl
  same_made line.Z80 = refl
