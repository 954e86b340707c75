-- Statements with other numbers for their refs have the same bytes and sizes.
use Rattle.std.proofs.Common.{◌≡◌, ℕ, ◌+◌, ◌%◌, ◌/◌, Bool, List, [], ◌∷◌, ◌++◌, Option, Some, None, map, refl, sym, ap, subst, ◌∙◌}
use Rattle.std.specs.List.{flat_map, sum_by}
use Rattle.std.proofs.lemmas.List.Concat.{flat_map-cons}
use Rattle.asm_parse.specs.Expression.{Expression, Leaf, Prefix, Infix}
use Rattle.asm_expr.specs.Below.{Atom, unary, binary, value}
use Rattle.asm_expr.specs.Types.{Statement as Size}
use Rattle.asm_expr.proofs.Sizes.{sum_by-cons}
use Rattle.z80_form.specs.declared.field.Field.{Field}
use Rattle.z80_form.specs.Numbers.{with_numbers}
use Rattle.z80_instr.specs.Codes.{Codes}
use Rattle.relax.specs.declared.shape.Statement.{Statement as Sized}
use Rattle.relax.specs.declared.shape.Statement.TheVariants as sized
use Rattle.asm_module.specs.Below.{size_in_module}
use Rattle.asm_module.specs.Program.Linked.{IsSizedLike, target_in}
use Rattle.asm_module.specs.Program.Pieces as pieces
use Rattle.asm_module.specs.Program.Pieces.{IsPiece, datum_bytes, valued, width}
use Rattle.asm_module.specs.Program.Statement as statement
use Rattle.asm_module.specs.Program.Statement.{Datum, Statement, target_of}
use Rattle.zmo_object.specs.Modules as object
use Rattle.zlink.specs.File.Objects.{sized_by}
use Rattle.zlink.specs.Renumbered.{datum_in, refs_renumbered, statement_in}
use Rattle.zlink.specs.Reads.{sized_as}

module _ (places : ℕ → ℕ) (to : ℕ → ℕ) where
  value-renumbered : (e : Expression Atom) → value places (refs_renumbered to e) ≡ value (λ r. places (to r)) e
  value-renumbered (Leaf (Atom.Number n)) = refl
  value-renumbered (Leaf (Atom.Ref r)) = refl
  value-renumbered (Prefix op a) = ap (unary op) (value-renumbered a)
  value-renumbered (Infix op a b) = ap (λ x. binary op x (value places (refs_renumbered to b))) (value-renumbered a) ∙ ap (binary op (value (λ r. places (to r)) a)) (value-renumbered b)

  valued-renumbered : (numbers : List (Field × Expression Atom)) → valued places (map (λ n. (n.0, refs_renumbered to n.1)) numbers) ≡ valued (λ r. places (to r)) numbers
  valued-renumbered [] = refl
  valued-renumbered (n ∷ ns) =
      ap (λ x. (n.0, x) ∷ valued places (map (λ n. (n.0, refs_renumbered to n.1)) ns)) (value-renumbered n.1) ∙ ap (λ rest. (n.0, value (λ r. places (to r)) n.1) ∷ rest) (valued-renumbered ns)

  datum-renumbered : (d : Datum) → datum_bytes places (datum_in to d) ≡ datum_bytes (λ r. places (to r)) d
  datum-renumbered (statement.Byte e) = ap (λ n. n % 256 ∷ []) (value-renumbered e)
  datum-renumbered (statement.Word e) = ap (λ n. n % 256 ∷ n / 256 ∷ []) (value-renumbered e)

  data-renumbered : (items : List Datum) → flat_map (datum_bytes places) (map (datum_in to) items) ≡ flat_map (datum_bytes (λ r. places (to r))) items
  data-renumbered [] = refl
  data-renumbered (d ∷ ds) =
      flat_map-cons (datum_bytes places) (datum_in to d) (map (datum_in to) ds)
      ∙ (ap (λ bs. bs ++ flat_map (datum_bytes places) (map (datum_in to) ds)) (datum-renumbered d)
      ∙ (ap (λ rest. datum_bytes (λ r. places (to r)) d ++ rest) (data-renumbered ds) ∙ sym (flat_map-cons (datum_bytes (λ r. places (to r))) d ds)))

  -- If each ref gets another number whose address is the same, the bytes of a statement stay the same.
  pub piece-renumbered : (at : ℕ) (long : Bool) (s : Statement) (bytes : List ℕ) → IsPiece at long (λ r. places (to r)) s bytes → IsPiece at long places (statement_in to s) bytes
  piece-renumbered at long (statement.Code instr numbers) bytes is = subst (λ ns. Codes (with_numbers ns instr) bytes) (sym (valued-renumbered numbers)) is
  piece-renumbered at long (statement.Data items) bytes is = is ∙ sym (data-renumbered items)
  piece-renumbered at long (statement.Space n fill) bytes is = is
  piece-renumbered at long (statement.Jump condition target) bytes is = is
  piece-renumbered at long (statement.Short branch target) bytes is = is

-- The size and the jump target of a statement, from its size and its ref.
abbrev sized_to : (ℕ → ℕ) → Size → Option ℕ → Sized
sized_to to (Size.Sized n) None = sized.Fixed n
sized_to to (Size.Sized n) (Some target) = sized.Short (to target)
sized_to to Size.Relaxable (Some target) = sized.Jump (to target)
sized_to to other target = sized.Fixed 0

of_object : (to : ℕ → ℕ) (o : object.ModuleStatement) → sized_by to o ≡ sized_to to (size_in_module o) (target_in o)
of_object to (object.Bytes bytes holes) = refl
of_object to (object.Jump marked condition target) = refl
of_object to (object.Short branch target) = refl
of_object to (object.Space size fill) = refl

widths : (to : ℕ → ℕ) (items : List Datum) → sum_by width (map (datum_in to) items) ≡ sum_by width items
widths to [] = refl
widths to (statement.Byte e ∷ items) = sum_by-cons width (statement.Byte (refs_renumbered to e)) (map (datum_in to) items) ∙ (ap (λ n. 1 + n) (widths to items) ∙ sym (sum_by-cons width (statement.Byte e) items))
widths to (statement.Word e ∷ items) = sum_by-cons width (statement.Word (refs_renumbered to e)) (map (datum_in to) items) ∙ (ap (λ n. 2 + n) (widths to items) ∙ sym (sum_by-cons width (statement.Word e) items))

of_statement : (to : ℕ → ℕ) (s : Statement) → sized_as (statement_in to s) ≡ sized_to to (pieces.statement_size s) (target_of s)
of_statement to (statement.Code instr numbers) = refl
of_statement to (statement.Data items) = ap (λ n. sized.Fixed n) (widths to items)
of_statement to (statement.Space size fill) = refl
of_statement to (statement.Jump condition target) = refl
of_statement to (statement.Short branch target) = refl

-- A statement of a module and the statement of the source have the same size and target.
pub like_sized : (to : ℕ → ℕ) (o : object.ModuleStatement) (s : Statement) → IsSizedLike o s → sized_by to o ≡ sized_as (statement_in to s)
like_sized to o s like = of_object to o ∙ (ap (λ n. sized_to to n (target_in o)) like.size ∙ (ap (sized_to to (pieces.statement_size s)) like.target ∙ sym (of_statement to s)))
