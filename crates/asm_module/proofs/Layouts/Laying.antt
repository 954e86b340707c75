-- If no line has an error and each name has a value, the statements that lines make have the sizes that were laid out.
use Rattle.std.proofs.Common.{◌≡◌, ◌∙◌, sym, ap, refl, subst, ℕ, ◌+◌, Bool, true, false, cond, List, [], ◌∷◌, Option, Some, None, Ok, map}
use Rattle.std.specs.List.{cons_option}
use Rattle.std.specs.Option.{option_map}
use Rattle.z80_instr.specs.declared.Branch.{Branch}
use Rattle.z80_instr.specs.declared.ShortCond.{ShortCond}
use Rattle.z80_form.specs.declared.field.Field.{Field}
use Rattle.asm_parse.specs.declared.item.Item.{Item}
use Rattle.asm_parse.specs.Source.{Name}
use Rattle.asm_expr.specs.Types.{Statement}
use Rattle.asm_expr.specs.Names.{Table, found}
use Rattle.asm_spell.specs.Line as line
use Rattle.asm_spell.specs.Line.{Body, Line}
use Rattle.asm_names.specs.Lines.{Taken}
use Rattle.asm_names.specs.Names.{Names, kind_of_name}
use Rattle.asm_names.specs.Layout.{Layout}
use Rattle.asm_stmt.specs.Made as made
use Rattle.asm_stmt.specs.Made.{Made, Piece, jump_by, long_jump, ref_of, short_by, value_cells, word_cells}
use Rattle.asm_stmt.specs.Sized.{IsLike, piece_sized, sized}
use Rattle.asm_stmt.proofs.Making.{code_made, data_made, is_space, origin_nothing, space_made}
use Rattle.std.specs.Prelude.{is_some}
use Rattle.std.proofs.Math.Path.{fun_ext}
use Rattle.asm_module.proofs.Layouts.Few.{grows_alike}
use Rattle.asm_module.specs.Layouts.Laid.{line_sized, may_grow, statements}
use Rattle.zmo_object.specs.Modules as object
use Rattle.asm_module.specs.Module.Stated.{table_at_line, first_statement_fault, statement_fault, numbered_statements}
use Rattle.asm_module.specs.Module.Statements.{line_statement, of_made, statement_by}
use Rattle.asm_module.proofs.Modules.In_order.{fault_from, numbered_from}
use Rattle.asm_module.proofs.Modules.Missing_names.{all_known}
use Rattle.asm_module.specs.Layouts.Sizes.{size_in_module, sizes}
use Rattle.asm_module.proofs.Layouts.Sizing.{NumbersSettle}
use Rattle.asm_module.proofs.Layouts.Sound.{sound_body, sound_both}
use Rattle.asm_module.proofs.Layouts.Values.{NamesHaveValues, ValuesSettle, made_known}

-- A piece that is not a short jump has its own size in the layout.
abbrev IsPlain : Piece → Type 0
IsPlain (made.Bytes blank holes) = Unit {0}
IsPlain (made.Jump condition target) = Unit {0}
IsPlain (made.Short branch target) = ⊥
IsPlain (made.Space n fill) = Unit {0}

plain : (p : Piece) → IsPlain p → piece_sized p ≡ size_in_module (statement_by true p)
plain (made.Bytes blank holes) is = refl
plain (made.Jump condition target) is = refl
plain (made.Short branch target) is = absurd is
plain (made.Space n fill) is = refl

kept : (p : Piece) → piece_sized p ≡ size_in_module (statement_by false p)
kept (made.Bytes blank holes) = refl
kept (made.Jump condition target) = refl
kept (made.Short branch target) = refl
kept (made.Space n fill) = refl

jump_plain : (t : Table) (condition : Option ShortCond) (target : List ℕ) (p : Piece) (o : Option ℕ) → jump_by o t condition target ≡ Ok (made.Some_piece p) → IsPlain p
jump_plain t condition target p (Some r) is = (let same : made.Jump condition r ≡ p = cc in subst IsPlain same tt)
jump_plain t condition target p None is = subst IsPlain (code_made t (long_jump condition 0) ((Field.Word, Item.Leaf (Name target) ∷ []) ∷ []) p is).piece tt

short_piece : (o : Option ℕ) (branch : Branch) (p : Piece) → short_by o branch ≡ Ok (made.Some_piece p) → (r : ℕ) × (made.Short branch r ≡ p)
short_piece (Some r) branch p is = (r, (let same : made.Short branch r ≡ p = cc in same))
short_piece None branch p is = absurd cc

short_there : (o : Option ℕ) (branch : Branch) (p : Piece) → short_by o branch ≡ Ok (made.Some_piece p) → is_some o ≡ true
short_there (Some r) branch p is = refl
short_there None branch p is = absurd cc

-- The size of a statement in the layout is that of the statement in the module: with --grow a JR to a name is relaxable in both.
piece_laid : (grow : Bool) (t : Table) (body : Body) (p : Piece) → made.made t body ≡ Ok (made.Some_piece p) → may_grow grow t body (piece_sized p) ≡ size_in_module (statement_by grow p)
piece_laid false t body p is = kept p
piece_laid true t (line.Short (Branch.Relative condition) target) p is =
    let s = short_piece (ref_of (found t target)) (Branch.Relative condition) p is in
    ap (λ b. cond b Statement.Relaxable (piece_sized p)) (short_there (ref_of (found t target)) (Branch.Relative condition) p is) ∙ ap (λ q. size_in_module (statement_by true q)) s.1
piece_laid true t (line.Short Branch.CountDown target) p is =
    let s = short_piece (ref_of (found t target)) Branch.CountDown p is in
    ap piece_sized (sym s.1) ∙ ap (λ q. size_in_module (statement_by true q)) s.1
piece_laid true t (line.Code instr numbers) p is = plain p (subst IsPlain (code_made t instr numbers p is).piece tt)
piece_laid true t (line.Jump condition target) p is = plain p (jump_plain t condition target p (ref_of (found t target)) is)
piece_laid true t (line.Bytes values) p is = plain p (subst IsPlain (data_made (value_cells t) values p is).piece tt)
piece_laid true t (line.Words fields) p is = plain p (subst IsPlain (data_made (word_cells t) fields p is).piece tt)
piece_laid true t (line.Space e fill) p is =
    let space = space_made t e fill (made.Some_piece p) is in
    plain p (subst IsPlain (is_space _ space.filling p space.is).piece tt)
piece_laid true t (line.Origin e) p is = (let nothing = origin_nothing t e (made.Some_piece p) is in absurd cc)
piece_laid true t (line.Public list) p is = absurd cc
piece_laid true t (line.External list) p is = absurd cc
piece_laid true t (line.End entry) p is = absurd cc
piece_laid true t line.Z80 p is = absurd cc

-- The laws of `asm_stmt` that are used here.
pub record Laws : Type 0 where
  pub piece : (t : Table) (b : Body) (p : Piece) → made.made t b ≡ Ok (made.Some_piece p) → sized t b ≡ Some (piece_sized p)
  pub nothing : (t : Table) (b : Body) → made.made t b ≡ Ok made.Nothing → sized t b ≡ None
  pub like : (t u : Table) (b : Body) → IsLike t u → sized t b ≡ sized u b

consed : (number : ℕ) (o : Option object.ModuleStatement) (mine : Option Statement) (rest : List Statement) (more : List (ℕ × object.ModuleStatement)) → mine ≡ option_map size_in_module o
    → rest ≡ sizes (map (λ n. n.1) more) → cons_option mine rest ≡ sizes (map (λ n. n.1) (cons_option (option_map (λ s. (number, s)) o) more))
consed number None mine rest more one all = ap (λ m. cons_option m rest) one ∙ all
consed number (Some s) mine rest more one all = ap (λ m. cons_option m rest) one ∙ ap (λ xs. size_in_module s ∷ xs) all

module _ (laws : Laws) (settle : NumbersSettle) (grow : Bool) (names : Names) (t u : Table) (layout : Layout) (like : IsLike t u) (there : (name : List ℕ) → found t name ≡ None → kind_of_name names name ≡ None)
    (settles : (at : ℕ) → ValuesSettle (table_at_line layout t at)) (values : NamesHaveValues t) where
  body_laid : (v : Table) (body : Body) → (made.made v body ≡ Ok made.Unknown → ⊥) → (m : Made) → made.made v body ≡ Ok m → option_map (may_grow grow v body) (sized v body) ≡ option_map size_in_module (of_made grow (made.made v body))
  body_laid v body known made.Nothing is = ap (option_map (may_grow grow v body)) (laws.nothing v body is) ∙ sym (ap (λ r. option_map size_in_module (of_made grow r)) is)
  body_laid v body known (made.Some_piece p) is =
      ap (option_map (may_grow grow v body)) (laws.piece v body p is) ∙ ap (λ s. Some s) (piece_laid grow v body p is) ∙ sym (ap (λ r. option_map size_in_module (of_made grow r)) is)
  body_laid v body known made.Unknown is = absurd (known is)

  line_laid : (at : ℕ) (l : Line) → statement_fault names (table_at_line layout t at) l ≡ None → line_sized grow u l ≡ option_map size_in_module (line_statement grow (table_at_line layout t at) l)
  line_laid at (line.Equ name e) none = refl
  line_laid at (line.Statement label None) none = refl
  line_laid at (line.Statement label (Some body)) none =
      let v : Table = table_at_line layout t at in
      let sound = sound_body names v body none in
      let known = made_known settle v (settles at) values body (all_known names v there body sound.named) in
      ap (option_map (may_grow grow u body)) (sym (laws.like v u body like)) ∙ ap (λ f. option_map f (sized v body)) (fun_ext (λ s. sym (grows_alike grow v u like body s))) ∙ body_laid v body known sound.what sound.makes

  all_laid : (at : ℕ) (lines : List Taken) → fault_from names t layout at lines ≡ None → statements grow u lines ≡ sizes (map (λ n. n.1) (numbered_from grow t layout at lines))
  all_laid at [] none = refl
  all_laid at (l ∷ ls) none =
      let parts = sound_both (λ why. (l.number, why)) (statement_fault names (table_at_line layout t at) l.line) _ none in
      consed l.number (line_statement grow (table_at_line layout t at) l.line) (line_sized grow u l.line) (statements grow u ls) (numbered_from grow t layout (at + 1) ls) (line_laid at l.line parts.0) (all_laid (at + 1) ls parts.1)

  pub lines_laid : (lines : List Taken) → first_statement_fault names t layout lines ≡ None → statements grow u lines ≡ sizes (map (λ n. n.1) (numbered_statements grow t layout lines))
  lines_laid lines none = all_laid 0 lines none
