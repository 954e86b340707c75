-- What a statement makes, step by step.
use Rattle.std.proofs.Common.{◌≡◌, ℕ, zero, suc, ◌%◌, ◌==◌, ◌&&◌, Bool, true, false, List, [], ◌∷◌, ◌++◌, Option, Some, None, Result, Ok, Err, if◌then◌else◌, length, map, refl, ap, subst, ◌∙◌}
use Rattle.std.specs.List.{flat_map, list_all}
use Rattle.common.specs.Results.{◌>>=◌}
use Rattle.asm_parse.specs.declared.fault.ExprFault.{ExprFault}
use Rattle.asm_parse.specs.declared.item.Item.{Item}
use Rattle.asm_parse.specs.Expression.{postfix}
use Rattle.asm_parse.specs.Source.{Name}
use Rattle.asm_expr.specs.declared.answer.Settled.{Settled}
use Rattle.asm_expr.specs.Below.{Atom}
use Rattle.asm_expr.specs.declared.unknown.Unknown.{Unknown}
use Rattle.asm_expr.specs.Names.{Table}
use Rattle.asm_expr.specs.Below.{source_tree}
use Rattle.asm_expr.specs.Settling.{is_constant_item, settled, settled_as, unless_fault}
use Rattle.z80_instr.specs.declared.Branch.{Branch}
use Rattle.z80_instr.specs.declared.Instr.{Instr}
use Rattle.z80_instr.specs.declared.ShortCond.{ShortCond}
use Rattle.z80_instr.specs.Table.{canonical}
use Rattle.z80_form.specs.declared.field.Field.{Field}
use Rattle.z80_form.specs.Numbers.{with_number, with_numbers}
use Rattle.asm_spell.specs.declared.fault.StmtFault.{StmtFault}
use Rattle.asm_spell.specs.Faults.{each}
use Rattle.asm_spell.specs.Line as line
use Rattle.asm_stmt.specs.declared.cell.Cell.{Cell}
use Rattle.asm_stmt.specs.declared.cell.Filling.{Filling}
use Rattle.asm_stmt.specs.Cells.{all_filled, bytes, holes, is_filled, number_or_0}
use Rattle.asm_stmt.specs.Fields.{as_stmt, number, settled_in}
use Rattle.asm_stmt.specs.Made as made
use Rattle.asm_stmt.specs.Made.{Fillings, Made, Nothing, Piece, Some_piece, items_made, code_hole, coded, fillings, is_origin, cells_made, long_jump, number_in, space_of_size, space_fill, space_size}

-- If two steps succeed, the first one did and the second one did with its result.
pub bind_ok : {A B : Type 0} (r : Result A StmtFault) (g : A → Result B StmtFault) (y : B) → (r >>= g) ≡ Ok y → (x : A) × (r ≡ Ok x) × (g x ≡ Ok y)
bind_ok (Ok x) g y is = (x, refl, is)
bind_ok (Err why) g y is = cc

pub as_stmt_ok : (r : Result Settled ExprFault) (s : Settled) → as_stmt r ≡ Ok s → r ≡ Ok s
as_stmt_ok (Ok x) s is = cc
as_stmt_ok (Err why) s is = cc

pub chosen_ok : {A : Type 0} (b : Bool) (x y : A) (why : StmtFault) → (if b then Ok x else Err why) ≡ Ok y → (b ≡ true) × (x ≡ y)
chosen_ok true x y why is = (refl, cc)
chosen_ok false x y why is = cc

-- If an expression has a value, there are items for it.
pub answered_items : (f : Option ExprFault) (o : Option (List (Item Atom))) (what : Unknown) (items : List (Item Atom)) → unless_fault f (settled_as o what) ≡ Ok (Settled.Known items) → o ≡ Some items
answered_items (Some why) o what items is = cc
answered_items None None what items is = cc
answered_items None (Some xs) what items is = cc

pub number_in_ok : (s : Settled) (n : ℕ) → number_in s ≡ Some n → (items : List (Item Atom)) × (s ≡ Settled.Known items) × (number items ≡ Some n)
number_in_ok (Settled.Known items) n is = (items, refl, is)
number_in_ok (Settled.Unknown what) n is = cc

-- If fields make a piece, each of their values is known, and the piece is their bytes.
pub laid_piece : (b : Bool) (x p : Piece) → (if b then Some_piece x else made.Unknown) ≡ Some_piece p → (b ≡ true) × (x ≡ p)
laid_piece true x p is = (refl, cc)
laid_piece false x p is = cc

abbrev pub flat : List (List Cell) → List Cell
flat cells = flat_map (λ some. some) cells

-- If P holds of no fields, and still holds after the fields of one more item are put in front, then P holds of the fields of all items.
pub each_holds : {A : Type 0} (P : List Cell → List A → Type 0) (read : A → Result (List Cell) StmtFault) → P [] []
    → ((x : A) (cs rest : List Cell) (xs : List A) → read x ≡ Ok cs → P rest xs → P (cs ++ rest) (x ∷ xs)) → (xs : List A) (all : List (List Cell)) → each read xs ≡ Ok all → P (flat all) xs
each_holds P read none more [] all is = let same : [] ≡ all = cc in subst (λ cs. P (flat cs) []) same none
each_holds P read none more (x ∷ xs) all is =
    let first = bind_ok (read x) _ all is in
    let rest = bind_ok (each read xs) _ all first.2 in
    let same : first.0 ∷ rest.0 ≡ all = cc in
    subst (λ cs. P (flat cs) (x ∷ xs)) same (more x first.0 (flat rest.0) xs first.1 (each_holds P read none more xs rest.0 rest.1))

-- The piece that DB or DW makes is the bytes of its fields, and each value is known.
pub record IsData {A : Type 0} (read : A → Result (List Cell) StmtFault) (xs : List A) (p : Piece) : Type 0 where
  pub cells : List (List Cell)
  pub is : each read xs ≡ Ok cells
  pub told : all_filled (flat cells) ≡ true
  pub piece : made.Bytes (bytes (flat cells)) (holes 0 (flat cells)) ≡ p

pub data_made : {A : Type 0} (read : A → Result (List Cell) StmtFault) (xs : List A) (p : Piece) → items_made (each read xs) ≡ Ok (Some_piece p) → IsData read xs p
data_made read xs p is =
    let all = bind_ok (each read xs) _ (Some_piece p) is in
    let whole : cells_made (flat all.0) ≡ Some_piece p = cc in
    let piece = laid_piece (all_filled (flat all.0)) (made.Bytes (bytes (flat all.0)) (holes 0 (flat all.0))) p whole in
    record { cells = all.0; is = all.1; told = piece.0; piece = piece.1 }

-- An instruction whose numbers are all known makes a piece.
abbrev pub blank_of : Fillings → Instr → Instr
blank_of ns instr = with_numbers (map (λ n. (n.0, number_or_0 n.1)) ns) instr

pub record IsCode (t : Table) (instr : Instr) (numbers : List (Field × line.ExpressionItems)) (p : Piece) : Type 0 where
  pub read : Fillings
  pub is : fillings t numbers ≡ Ok read
  pub told : list_all (λ n. is_filled n.1) read ≡ true
  pub piece : made.Bytes (canonical (blank_of read instr)) (flat_map (code_hole (length (canonical instr))) read) ≡ p

pub code_made : (t : Table) (instr : Instr) (numbers : List (Field × line.ExpressionItems)) (p : Piece) → made.code t instr numbers ≡ Ok (Some_piece p) → IsCode t instr numbers p
code_made t instr numbers p is =
    let all = bind_ok (fillings t numbers) (λ read. Ok (coded instr read)) (Some_piece p) is in
    let whole : coded instr all.0 ≡ Some_piece p = cc in
    let piece = laid_piece (list_all (λ n. is_filled n.1) all.0) (made.Bytes (canonical (blank_of all.0 instr)) (flat_map (code_hole (length (canonical instr))) all.0)) p whole in
    record { read = all.0; is = all.1; told = piece.0; piece = piece.1 }

-- Putting in a number does not change how many bytes an instruction has.
pub size_kept : ((field : Field) (value : ℕ) (instr : Instr) → length (canonical (with_number field value instr)) ≡ length (canonical instr)) → (ns : List (Field × ℕ)) (instr : Instr)
    → length (canonical (with_numbers ns instr)) ≡ length (canonical instr)
size_kept kept [] instr = refl
size_kept kept (n ∷ ns) instr = size_kept kept ns (with_number n.0 n.1 instr) ∙ kept n.0 n.1 instr

-- A DS makes a piece if its size is known and not 0, and its fill byte is known.
pub record IsSpace (o : Option ℕ) (f : Filling) (p : Piece) : Type 0 where
  pub last : ℕ
  pub byte : ℕ
  pub size : o ≡ Some (suc last)
  pub fill : f ≡ Filling.Number byte
  pub piece : made.Space (suc last) (byte % 256) ≡ p

pub is_space : (o : Option ℕ) (f : Filling) (p : Piece) → space_of_size o f ≡ Some_piece p → IsSpace o f p
is_space None f p is = cc
is_space (Some zero) f p is = cc
is_space (Some (suc n)) (Filling.Number k) p is = record { last = n; byte = k; size = refl; fill = refl; piece = cc }
is_space (Some (suc n)) (Filling.Varying items) p is = cc
is_space (Some (suc n)) Filling.Unknown p is = cc

-- the values of the size and of the fill of a DS
pub record IsSpaceMade (t : Table) (e : line.ExpressionItems) (with : Option line.ExpressionItems) (m : Made) : Type 0 where
  pub settled : Settled
  pub filling : Filling
  pub size : space_size t e ≡ Ok settled
  pub fill : space_fill t with ≡ Ok filling
  pub is : space_of_size (number_in settled) filling ≡ m

pub space_made : (t : Table) (size : line.ExpressionItems) (fill : Option line.ExpressionItems) (m : Made) → made.space_made t size fill ≡ Ok m → IsSpaceMade t size fill m
space_made t size fill m is =
    let first = bind_ok (space_size t size) _ m is in
    let second = bind_ok (space_fill t fill) (λ f. Ok (space_of_size (number_in first.0) f)) m first.2 in
    record { settled = first.0; filling = second.0; size = first.1; fill = second.1; is = cc }

pub space_settled : (t : Table) (e : line.ExpressionItems) (s : Settled) → space_size t e ≡ Ok s → (settled t (source_tree e) ≡ Ok s) × (list_all (is_constant_item t) (postfix (source_tree e)) ≡ true)
space_settled t e s is =
    let first = bind_ok (settled_in t e) _ s is in
    let chosen = chosen_ok (list_all (is_constant_item t) (postfix (source_tree e))) first.0 s StmtFault.SizeNamesLabel first.2 in
    (as_stmt_ok (settled t (source_tree e)) s (first.1 ∙ ap (λ x. Ok x) chosen.1), chosen.0)

-- An ORG makes no piece.
pub origin_nothing : (t : Table) (e : line.ExpressionItems) (m : Made) → made.origin t e ≡ Ok m → Nothing ≡ m
origin_nothing t e m is =
    let first = bind_ok (settled_in t e) _ m is in
    (chosen_ok ((t.here == 0) && is_origin first.0) Nothing m StmtFault.BadOrg first.2).1

-- Only DS 0 and directives make nothing.
no_nothing : (b : Bool) (x : Piece) → (if b then Some_piece x else made.Unknown) ≡ Nothing → ⊥
no_nothing true x is = cc
no_nothing false x is = cc

pub laid_something : {A : Type 0} (read : A → Result (List Cell) StmtFault) (xs : List A) → made.items_made (each read xs) ≡ Ok Nothing → ⊥
laid_something read xs is =
    let all = bind_ok (each read xs) _ Nothing is in
    let whole : cells_made (flat all.0) ≡ Nothing = cc in
    no_nothing (all_filled (flat all.0)) (made.Bytes (bytes (flat all.0)) (holes 0 (flat all.0))) whole

pub code_something : (t : Table) (instr : Instr) (numbers : List (Field × line.ExpressionItems)) → made.code t instr numbers ≡ Ok Nothing → ⊥
code_something t instr numbers is =
    let all = bind_ok (fillings t numbers) (λ read. Ok (coded instr read)) Nothing is in
    let whole : coded instr all.0 ≡ Nothing = cc in
    no_nothing (list_all (λ n. is_filled n.1) all.0) (made.Bytes (canonical (blank_of all.0 instr)) (flat_map (code_hole (length (canonical instr))) all.0)) whole

pub jump_something : (t : Table) (condition : Option ShortCond) (target : List ℕ) (o : Option ℕ) → made.jump_by o t condition target ≡ Ok Nothing → ⊥
jump_something t condition target (Some r) is = cc
jump_something t condition target None is = code_something t (long_jump condition 0) ((Field.Word, Item.Leaf (Name target) ∷ []) ∷ []) is

pub short_something : (o : Option ℕ) (branch : Branch) → made.short_by o branch ≡ Ok Nothing → ⊥
short_something (Some r) branch is = cc
short_something None branch is = cc

pub no_space : (o : Option ℕ) (f : Filling) → space_of_size o f ≡ Nothing → o ≡ Some 0
no_space None f is = cc
no_space (Some zero) f is = refl
no_space (Some (suc n)) (Filling.Number k) is = cc
no_space (Some (suc n)) (Filling.Varying items) is = cc
no_space (Some (suc n)) Filling.Unknown is = cc
