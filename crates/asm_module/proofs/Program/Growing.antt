-- The bytes of a module's statement are those of the statement that its line describes, also with --grow.
use Rattle.std.proofs.Common.{◌≡◌, ◌<◌, ℕ, Bool, true, false, List, [], ◌∷◌, Option, Some, None, Ok, All, length, refl, ap, subst}
use Rattle.asm_parse.specs.declared.item.Item.{Item}
use Rattle.asm_parse.specs.Source.{Name}
use Rattle.asm_expr.specs.Distances.{Step}
use Rattle.asm_expr.specs.Names.{Table, found}
use Rattle.z80_instr.specs.declared.Branch.{Branch}
use Rattle.z80_instr.specs.declared.ShortCond.{ShortCond}
use Rattle.z80_form.specs.declared.field.Field.{Field}
use Rattle.asm_spell.specs.Line as line
use Rattle.asm_stmt.specs.Made as made
use Rattle.asm_stmt.specs.Made.{Nothing, Piece, Some_piece, long_jump, ref_of}
use Rattle.asm_stmt.proofs.Making.{code_made, data_made, is_space, origin_nothing, space_made}
use Rattle.asm_module.specs.Module.Statements.{statement_by}
use Rattle.zmo_object.specs.Modules as object
use Rattle.asm_module.specs.Program.Linked.{IsSizedLike, IsLinkedPiece}
use Rattle.asm_module.specs.Program.Pieces.{IsPiece, statement_size, takes}
use Rattle.asm_module.specs.Program.Statement as statement
use Rattle.asm_module.specs.Program.Statement.{Statement, stated}
use Rattle.asm_module.proofs.Program.Fields.{IsReady}
use Rattle.asm_module.proofs.Program.Holding.{Holds, holds, jump_size, nothing, short_size}
use Rattle.asm_module.proofs.Program.Rows.{Rows}

-- Bytes of the module's statement are bytes of the program's statement, and as many as it takes.
pub record HoldsBy (t : Table) (o : object.ModuleStatement) (s : Statement) : Type 0 where
  pub like : IsSizedLike o s
  pub pieces : (places : ℕ → ℕ) → Step t.statements places → (at : ℕ) (long : Bool) (bs : List ℕ) → All (λ b. b < 256) bs → IsLinkedPiece at long places o bs
      → IsPiece at long places s bs × (length bs ≡ takes long (statement_size s))

-- Without --grow, a piece is the same statement in the module and in the program.
as_it_is : (t : Table) (p : Piece) (s : Statement) → Holds t p s → HoldsBy t (statement_by false p) s
as_it_is t (made.Bytes blank holes) s h = record { like = record { size = h.size; target = h.target }; pieces = h.pieces }
as_it_is t (made.Jump condition target) s h = record { like = record { size = h.size; target = h.target }; pieces = h.pieces }
as_it_is t (made.Short branch target) s h = record { like = record { size = h.size; target = h.target }; pieces = h.pieces }
as_it_is t (made.Space n fill) s h = record { like = record { size = h.size; target = h.target }; pieces = h.pieces }

-- With --grow too, if the piece is not a short jump.
abbrev IsPlain : Piece → Type 0
IsPlain (made.Bytes blank holes) = Unit {0}
IsPlain (made.Jump condition target) = Unit {0}
IsPlain (made.Short branch target) = ⊥
IsPlain (made.Space n fill) = Unit {0}

plain : (t : Table) (p : Piece) (s : Statement) → IsPlain p → Holds t p s → HoldsBy t (statement_by true p) s
plain t (made.Bytes blank holes) s is h = record { like = record { size = h.size; target = h.target }; pieces = h.pieces }
plain t (made.Jump condition target) s is h = record { like = record { size = h.size; target = h.target }; pieces = h.pieces }
plain t (made.Short branch target) s is h = absurd is
plain t (made.Space n fill) s is h = record { like = record { size = h.size; target = h.target }; pieces = h.pieces }

jump_plain : (t : Table) (condition : Option ShortCond) (target : List ℕ) (p : Piece) (o : Option ℕ) → made.jump_by o t condition target ≡ Ok (Some_piece p) → IsPlain p
jump_plain t condition target p (Some r) is = (let same : made.Jump condition r ≡ p = cc in subst IsPlain same tt)
jump_plain t condition target p None is = subst IsPlain (code_made t (long_jump condition 0) ((Field.Word, Item.Leaf (Name target) ∷ []) ∷ []) p is).piece tt

abbrev Answer : Bool → Table → line.Body → Piece → Type 0
Answer grow t b p = (s : Statement) × (stated grow t b ≡ Some s) × HoldsBy t (statement_by grow p) s

grown : Rows → (t : Table) (b : line.Body) (p : Piece) → IsReady b → made.made t b ≡ Ok (Some_piece p) → Answer true t b p
grown rows t (line.Short (Branch.Relative condition) target) p ready is = by_ref (ref_of (found t target)) refl is
  where
    by_ref : (o : Option ℕ) → ref_of (found t target) ≡ o → made.short_by o (Branch.Relative condition) ≡ Ok (Some_piece p) → Answer true t (line.Short (Branch.Relative condition) target) p
    by_ref (Some r) was is =
        let same : made.Short (Branch.Relative condition) r ≡ p = cc in (
          statement.Jump condition r,
          ap (λ o. statement.short_statement true o (Branch.Relative condition)) was,
          subst (λ q. HoldsBy t (statement_by true q) (statement.Jump condition r)) same
              (record { like = record { size = refl; target = refl }; pieces = λ places step at long bs small linked. (linked, jump_size at (places r) long condition bs linked) }),
        )
    by_ref None was is = cc
grown rows t (line.Short Branch.CountDown target) p ready is = by_ref (ref_of (found t target)) refl is
  where
    by_ref : (o : Option ℕ) → ref_of (found t target) ≡ o → made.short_by o Branch.CountDown ≡ Ok (Some_piece p) → Answer true t (line.Short Branch.CountDown target) p
    by_ref (Some r) was is =
        let same : made.Short Branch.CountDown r ≡ p = cc in (
          statement.Short Branch.CountDown r,
          ap (λ o. statement.short_statement true o Branch.CountDown) was,
          subst (λ q. HoldsBy t (statement_by true q) (statement.Short Branch.CountDown r)) same
              (record { like = record { size = refl; target = refl }; pieces = λ places step at long bs small linked. (linked, short_size Branch.CountDown linked.0 bs linked.2) }),
        )
    by_ref None was is = cc
grown rows t (line.Code instr numbers) p ready is =
    let a = holds rows t (line.Code instr numbers) p ready is in
    (a.0, a.1, plain t p a.0 (subst IsPlain (code_made t instr numbers p is).piece tt) a.2)
grown rows t (line.Jump condition target) p ready is =
    let a = holds rows t (line.Jump condition target) p ready is in
    (a.0, a.1, plain t p a.0 (jump_plain t condition target p (ref_of (found t target)) is) a.2)
grown rows t (line.Bytes values) p ready is =
    let a = holds rows t (line.Bytes values) p ready is in
    (a.0, a.1, plain t p a.0 (subst IsPlain (data_made (made.value_cells t) values p is).piece tt) a.2)
grown rows t (line.Words fields) p ready is =
    let a = holds rows t (line.Words fields) p ready is in
    (a.0, a.1, plain t p a.0 (subst IsPlain (data_made (made.word_cells t) fields p is).piece tt) a.2)
grown rows t (line.Space size fill) p ready is =
    let a = holds rows t (line.Space size fill) p ready is in
    let space = space_made t size fill (Some_piece p) is in
    (a.0, a.1, plain t p a.0 (subst IsPlain (is_space _ space.filling p space.is).piece tt) a.2)
grown rows t (line.Origin e) p ready is = let bad = origin_nothing t e (Some_piece p) is in cc
grown rows t (line.Public list) p ready is = cc
grown rows t (line.External list) p ready is = cc
grown rows t (line.End entry) p ready is = cc
grown rows t line.Z80 p ready is = cc

pub holds_by : Rows → (grow : Bool) (t : Table) (b : line.Body) (p : Piece) → IsReady b → made.made t b ≡ Ok (Some_piece p) → Answer grow t b p
holds_by rows false t b p ready is = let a = holds rows t b p ready is in (a.0, a.1, as_it_is t p a.0 a.2)
holds_by rows true t b p ready is = grown rows t b p ready is

-- A line that makes nothing describes no statement.
pub nothing_by : (grow : Bool) (t : Table) (b : line.Body) → made.made t b ≡ Ok Nothing → stated grow t b ≡ None
nothing_by false t b is = nothing t b is
nothing_by true t (line.Short branch target) is = absurd (none_short (ref_of (found t target)) is)
  where
    none_short : (o : Option ℕ) → made.short_by o branch ≡ Ok Nothing → ⊥
    none_short (Some r) is = cc
    none_short None is = cc
nothing_by true t (line.Code instr numbers) is = nothing t (line.Code instr numbers) is
nothing_by true t (line.Jump condition target) is = nothing t (line.Jump condition target) is
nothing_by true t (line.Bytes values) is = nothing t (line.Bytes values) is
nothing_by true t (line.Words fields) is = nothing t (line.Words fields) is
nothing_by true t (line.Space size fill) is = nothing t (line.Space size fill) is
nothing_by true t (line.Public list) is = refl
nothing_by true t (line.External list) is = refl
nothing_by true t (line.Origin e) is = refl
nothing_by true t (line.End entry) is = refl
nothing_by true t line.Z80 is = refl
