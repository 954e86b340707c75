-- The statements of the module are those that the lines describe.
use Rattle.std.proofs.Common.{◌≡◌, ◌<◌, ◌+◌, sym, subst, ℕ, Bool, List, [], ◌∷◌, Option, Some, None, Ok, All, length, map}
use Rattle.std.specs.List.{AllZip, cons_option, enumerate_from, filter_map}
use Rattle.std.specs.Option.{option_map}
use Rattle.std.proofs.lemmas.List.Elements.{All-head, All-tail}
use Rattle.asm_expr.specs.Distances.{Step}
use Rattle.asm_expr.specs.Names.{Table, found}
use Rattle.asm_names.specs.Layout.{Layout}
use Rattle.asm_names.specs.Lines.{Taken}
use Rattle.asm_names.specs.Names.{Names, kind_of_name}
use Rattle.asm_stmt.specs.Made.{Made, Nothing, Piece, Some_piece, Unknown, made}
use Rattle.asm_module.specs.Program.Linked.{IsSizedLike, IsLinkedPiece}
use Rattle.asm_module.specs.Program.Pieces.{IsPiece, statement_size, takes}
use Rattle.asm_module.specs.Program.Spelled.{IsSpelled}
use Rattle.asm_module.specs.Program.Statement.{Statement, stated}
use Rattle.asm_spell.specs.Line as line
use Rattle.asm_spell.specs.Line.{Body, Line}
use Rattle.asm_module.specs.Layouts.Sizes.{sizes}
use Rattle.asm_module.proofs.Layouts.Sizing.{NumbersSettle}
use Rattle.asm_module.proofs.Layouts.Sound.{sound_body, sound_both}
use Rattle.asm_module.proofs.Layouts.Values.{NamesHaveValues, ValuesSettle, made_known}
use Rattle.asm_module.specs.Module.Stated.{table_at_line, statement_fault}
use Rattle.asm_module.specs.Module.Statements.{line_statement, of_made, statement_by}
use Rattle.asm_module.proofs.Modules.In_order.{fault_from, numbered_from}
use Rattle.asm_module.proofs.Modules.Missing_names.{all_known}
use Rattle.zmo_object.specs.Modules as object
use Rattle.asm_module.specs.Rules.Fitting.{IsReadLine}
use Rattle.asm_module.specs.Program.Lines.{AreAt, IsLinkedAs, line_states, program_of_lines}

-- The laws of pieces that are used here.
pub record PlaceLaws : Type 0 where
  pub piece : (grow : Bool) (t : Table) (b : Body) (p : Piece) → IsSpelled b → made t b ≡ Ok (Some_piece p) → (s : Statement) × (stated grow t b ≡ Some s) × IsSizedLike (statement_by grow p) s
      × ((places : ℕ → ℕ) → Step t.statements places → (at : ℕ) (long : Bool) (bytes : List ℕ) → All (λ b. b < 256) bytes → IsLinkedPiece at long places (statement_by grow p) bytes → IsPiece at long places s bytes × (length bytes ≡ takes long (statement_size s)))
  pub nothing : (grow : Bool) (t : Table) (b : Body) → made t b ≡ Ok Nothing → stated grow t b ≡ None

-- both are there and R holds of them, or neither is there
abbrev Both : {A B : Type 0} → (A → B → Type 0) → Option A → Option B → Type 0
Both R None None = Unit {0}
Both R (Some x) (Some y) = R x y
Both R _ _ = ⊥

-- one more statement on both sides
one_more : {A B : Type 0} (R : A → B → Type 0) (number : ℕ) (o : Option A) (mine : Option B) (more : List (ℕ × A)) (rest : List B) → Both R o mine → AllZip R (map (λ n. n.1) more) rest
    → AllZip R (map (λ n. n.1) (cons_option (option_map (λ s. (number, s)) o) more)) (cons_option mine rest)
one_more R number None None more rest one all = all
one_more R number (Some x) (Some y) more rest one all = (one, all)
one_more R number None (Some y) more rest one all = absurd one
one_more R number (Some x) None more rest one all = absurd one

abbrev program_from : Bool → Table → Layout → ℕ → List Taken → List Statement
program_from grow t layout at lines = filter_map (λ l. line_states grow (table_at_line layout t l.0) l.1.line) (enumerate_from at lines)

module _ (laws : PlaceLaws) (settle : NumbersSettle) (grow : Bool) (names : Names) (t : Table) (layout : Layout) (there : (name : List ℕ) → found t name ≡ None → kind_of_name names name ≡ None)
    (settles : (at : ℕ) → ValuesSettle (table_at_line layout t at)) (values : NamesHaveValues t) where
  -- What holds of the statement of each piece and the one that its line describes holds of all statements.
  module _ (R : object.ModuleStatement → Statement → Type 0)
      (each : (at : ℕ) (b : Body) (p : Piece) → IsSpelled b → made (table_at_line layout t at) b ≡ Ok (Some_piece p) → (s : Statement) × (stated grow (table_at_line layout t at) b ≡ Some s) × R (statement_by grow p) s) where
    body_so : (at : ℕ) (body : Body) → IsSpelled body → (made (table_at_line layout t at) body ≡ Ok Unknown → ⊥) → (m : Made) → made (table_at_line layout t at) body ≡ Ok m
        → Both R (of_made grow (made (table_at_line layout t at) body)) (stated grow (table_at_line layout t at) body)
    body_so at body spelled known Nothing is =
        subst (λ o. Both R (of_made grow (made (table_at_line layout t at) body)) o) (sym (laws.nothing grow (table_at_line layout t at) body is))
        (subst (λ r. Both R (of_made grow r) None) (sym is) tt)
    body_so at body spelled known (Some_piece p) is =
        let a = each at body p spelled is in
        subst (λ o. Both R (of_made grow (made (table_at_line layout t at) body)) o) (sym a.1)
        (subst (λ r. Both R (of_made grow r) (Some a.0)) (sym is) a.2)
    body_so at body spelled known Unknown is = absurd (known is)

    line_so : (at : ℕ) (l : Line) → IsReadLine l → statement_fault names (table_at_line layout t at) l ≡ None → Both R (line_statement grow (table_at_line layout t at) l) (line_states grow (table_at_line layout t at) l)
    line_so at (line.Equ name e) read none = tt
    line_so at (line.Statement label None) read none = tt
    line_so at (line.Statement label (Some body)) read none =
        let v : Table = table_at_line layout t at in
        let sound = sound_body names v body none in
        body_so at body read.0 (made_known settle v (settles at) values body (all_known names v there body sound.named)) sound.what sound.makes

    all_so : (at : ℕ) (lines : List Taken) → All (λ l. IsReadLine l.line) lines → fault_from names t layout at lines ≡ None
        → AllZip R (map (λ n. n.1) (numbered_from grow t layout at lines)) (program_from grow t layout at lines)
    all_so at [] read none = tt
    all_so at (l ∷ ls) read none =
        let parts = sound_both (λ why. (l.number, why)) (statement_fault names (table_at_line layout t at) l.line) _ none in
        one_more R l.number (line_statement grow (table_at_line layout t at) l.line) (line_states grow (table_at_line layout t at) l.line) (numbered_from grow t layout (at + 1) ls) (program_from grow t layout (at + 1) ls)
        (line_so at l.line (All-head (λ m. IsReadLine m.line) l ls read) parts.0) (all_so (at + 1) ls (All-tail (λ m. IsReadLine m.line) l ls read) parts.1)

    lines_so : (lines : List Taken) → All (λ l. IsReadLine l.line) lines → fault_from names t layout 0 lines ≡ None
        → AllZip R (map (λ n. n.1) (numbered_from grow t layout 0 lines)) (program_of_lines grow t layout lines)
    lines_so lines read none = all_so 0 lines read none

  pub lines_at : (lines : List Taken) → t.statements ≡ sizes (map (λ n. n.1) (numbered_from grow t layout 0 lines)) → All (λ l. IsReadLine l.line) lines → fault_from names t layout 0 lines ≡ None
      → AreAt (map (λ n. n.1) (numbered_from grow t layout 0 lines)) (program_of_lines grow t layout lines)
  lines_at lines sizes_are read none = record {
    like = lines_so IsSizedLike (λ at b p spelled is. let a = laws.piece grow (table_at_line layout t at) b p spelled is in (a.0, a.1, a.2)) lines read none;
    pieces = λ places step. lines_so (IsLinkedAs places)
        (λ at b p spelled is. let a = laws.piece grow (table_at_line layout t at) b p spelled is in (a.0, a.1, a.3 places (subst (λ ss. Step ss places) (sym sizes_are) step)))
        lines read none;
  }
