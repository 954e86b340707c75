-- The size of a statement is that of its piece, and depends only on the kinds of its names.
use Rattle.std.proofs.Common.{◌≡◌, ◌≤◌, ℕ, ◌+◌, ◌*◌, List, [], ◌∷◌, Option, Some, None, Result, Ok, length, map, refl, sym, ap, subst, ◌∙◌, arith, length-append}
use Rattle.std.specs.List.{sum_by}
use Rattle.std.proofs.lemmas.List.Concat.{flat_map-append}
use Rattle.asm_parse.specs.declared.item.Item.{Item}
use Rattle.asm_parse.specs.Source.{Name}
use Rattle.asm_expr.specs.Types.{Statement}
use Rattle.asm_expr.specs.Names.{Table, found}
use Rattle.std.proofs.lemmas.List.Sums.{sum_by-cons}
use Rattle.z80_instr.specs.declared.Instr.{Instr}
use Rattle.z80_instr.specs.declared.ShortCond.{ShortCond}
use Rattle.z80_instr.specs.Table.{canonical}
use Rattle.z80_form.specs.declared.field.Field.{Field}
use Rattle.z80_form.specs.Numbers.{with_number}
use Rattle.asm_spell.specs.declared.fault.StmtFault.{StmtFault}
use Rattle.asm_spell.specs.Faults.{each}
use Rattle.asm_spell.specs.Line as line
use Rattle.asm_stmt.specs.declared.cell.Cell.{Cell}
use Rattle.zmo_object.specs.declared.module.hole.Width.{Width}
use Rattle.asm_stmt.specs.Cells.{bytes, cell_bytes, number_or_0}
use Rattle.asm_stmt.specs.Fields as field
use Rattle.asm_stmt.specs.Made as made
use Rattle.asm_stmt.specs.Made.{Nothing, Piece, Some_piece, cells, long_jump, number_in, ref_of, space_size, text_cell, value_cells, word_cells}
use Rattle.asm_spell.specs.Few.{IsCount, IsFew, value_size}
use Rattle.asm_stmt.specs.Sized.{IsLike, jump_sized, Kind, kind, piece_sized, Place, size_in, space_sized, TakesFew}
use Rattle.asm_stmt.specs.Sized as size
use Rattle.asm_stmt.proofs.Making.{bind_ok, code_made, code_something, data_made, each_holds, flat, is_space, jump_something, laid_something, no_space, origin_nothing, short_something, size_kept, space_made}

-- The law of `z80_form` that putting in a number does not change how many bytes an instruction has.
abbrev pub AreKept : Type 0
AreKept = (field : Field) (value : ℕ) (instr : Instr) → length (canonical (with_number field value instr)) ≡ length (canonical instr)

code_size : AreKept → (t : Table) (instr : Instr) (numbers : List (Field × line.ExpressionItems)) (p : Piece) → made.code t instr numbers ≡ Ok (Some_piece p)
    → Statement.Sized (length (canonical instr)) ≡ piece_sized p
code_size kept t instr numbers p is =
    let c = code_made t instr numbers p is in
    ap (λ n. Statement.Sized n) (sym (size_kept kept (map (λ n. (n.0, number_or_0 n.1)) c.read) instr)) ∙ ap piece_sized c.piece

jump_bytes : (condition : Option ShortCond) → length (canonical (long_jump condition 0)) ≡ 3
jump_bytes None = refl
jump_bytes (Some condition) = refl

jump_size : AreKept → (t : Table) (condition : Option ShortCond) (target : List ℕ) (p : Piece) (o : Option ℕ) → made.jump_by o t condition target ≡ Ok (Some_piece p) → jump_sized o ≡ piece_sized p
jump_size kept t condition target p (Some r) is = let same : made.Jump condition r ≡ p = cc in ap piece_sized same
jump_size kept t condition target p None is =
    ap (λ n. Statement.Sized n) (sym (jump_bytes condition)) ∙ code_size kept t (long_jump condition 0) ((Field.Word, Item.Leaf (Name target) ∷ []) ∷ []) p is

-- DB and DW take as many bytes as their items together.
sum_of : {A : Type 0} (size : A → ℕ) (read : A → Result (List Cell) StmtFault) → ((x : A) (cs : List Cell) → read x ≡ Ok cs → length (bytes cs) ≡ size x)
    → (xs : List A) (all : List (List Cell)) → each read xs ≡ Ok all → length (bytes (flat all)) ≡ sum_by size xs
sum_of size read one xs all is =
    each_holds (λ cs ys. length (bytes cs) ≡ sum_by size ys) read refl
    (λ x cs rest ys was so. ap length (flat_map-append cell_bytes cs rest) ∙ length-append (bytes cs) (bytes rest) ∙ ap (λ n. n + length (bytes rest)) (one x cs was) ∙ ap (λ n. size x + n) so ∙ sym (sum_by-cons size x ys)) xs all is

text_size : (text : List ℕ) → length (bytes (map text_cell text)) ≡ length text
text_size [] = refl
text_size (b ∷ text) = omega (arith, text_size text)

value_sized : (t : Table) (v : line.Value) (cs : List Cell) → value_cells t v ≡ Ok cs → length (bytes cs) ≡ value_size v
value_sized t (line.Text text) cs is = let same : map text_cell text ≡ cs = cc in ap (λ xs. length (bytes xs)) (sym same) ∙ text_size text
value_sized t (line.Byte e) cs is =
    let b = bind_ok (field.field_filling t Field.Byte e) _ cs is in
    let same : (record { width = Width.Byte; filling = b.0 }) ∷ [] ≡ cs = cc in
    ap (λ xs. length (bytes xs)) (sym same)

word_sized : (t : Table) (e : line.ExpressionItems) (cs : List Cell) → word_cells t e ≡ Ok cs → length (bytes cs) ≡ 2
word_sized t e cs is =
    let b = bind_ok (field.field_filling t Field.Word e) _ cs is in
    let same : (record { width = Width.Word; filling = b.0 }) ∷ [] ≡ cs = cc in
    ap (λ xs. length (bytes xs)) (sym same)

data_size : {A : Type 0} (size : A → ℕ) (read : A → Result (List Cell) StmtFault) → ((x : A) (cs : List Cell) → read x ≡ Ok cs → length (bytes cs) ≡ size x)
    → (xs : List A) (p : Piece) → made.items_made (each read xs) ≡ Ok (Some_piece p) → Statement.Sized (sum_by size xs) ≡ piece_sized p
data_size size read one xs p is =
    let d = data_made read xs p is in
    ap (λ n. Statement.Sized n) (sym (sum_of size read one xs d.cells d.is)) ∙ ap piece_sized d.piece

twice : {A : Type 0} (xs : List A) → 2 * length xs ≡ sum_by (λ (_ : A). 2) xs
twice [] = refl
twice (x ∷ xs) = omega (arith, twice xs, sum_by-cons (λ _. 2) x xs)

-- The size of a DS.
space_piece : (t : Table) (e : line.ExpressionItems) (fill : Option line.ExpressionItems) (p : Piece) → made.space_made t e fill ≡ Ok (Some_piece p) → space_sized (size_in (space_size t e)) ≡ Some (piece_sized p)
space_piece t e fill p is =
    let m = space_made t e fill (Some_piece p) is in
    let s = is_space (number_in m.settled) m.filling p m.is in
    ap (λ r. space_sized (size_in r)) m.size ∙ ap space_sized s.size ∙ ap (λ q. Some (piece_sized q)) s.piece

space_nothing : (t : Table) (e : line.ExpressionItems) (fill : Option line.ExpressionItems) → made.space_made t e fill ≡ Ok Nothing → space_sized (size_in (space_size t e)) ≡ None
space_nothing t e fill is =
    let m = space_made t e fill Nothing is in
    ap (λ r. space_sized (size_in r)) m.size ∙ ap space_sized (no_space (number_in m.settled) m.filling m.is)

-- The size of a statement of any kind.
pub piece : AreKept → (t : Table) (b : line.Body) (p : Piece) → made.made t b ≡ Ok (Some_piece p) → size.sized t b ≡ Some (piece_sized p)
piece kept t (line.Code instr numbers) p is = ap (λ s. Some s) (code_size kept t instr numbers p is)
piece kept t (line.Jump condition target) p is = ap (λ s. Some s) (jump_size kept t condition target p (ref_of (found t target)) is)
piece kept t (line.Short branch target) p is = by_ref (ref_of (found t target)) is
  where
    by_ref : (o : Option ℕ) → made.short_by o branch ≡ Ok (Some_piece p) → Some (Statement.Sized 2) ≡ Some (piece_sized p)
    by_ref (Some r) is = let same : made.Short branch r ≡ p = cc in ap (λ q. Some (piece_sized q)) same
    by_ref None is = cc
piece kept t (line.Bytes values) p is = ap (λ s. Some s) (data_size value_size (value_cells t) (value_sized t) values p is)
piece kept t (line.Words fields) p is = ap (λ n. Some (Statement.Sized n)) (twice fields) ∙ ap (λ s. Some s) (data_size (λ _. 2) (word_cells t) (word_sized t) fields p is)
piece kept t (line.Space e fill) p is = space_piece t e fill p is
piece kept t (line.Origin e) p is = let bad = origin_nothing t e (Some_piece p) is in cc
piece kept t b p is = cc

pub nothing : (t : Table) (b : line.Body) → made.made t b ≡ Ok Nothing → size.sized t b ≡ None
nothing t (line.Code instr numbers) is = absurd (code_something t instr numbers is)
nothing t (line.Jump condition target) is = absurd (jump_something t condition target (ref_of (found t target)) is)
nothing t (line.Short branch target) is = absurd (short_something (ref_of (found t target)) branch is)
nothing t (line.Bytes values) is = absurd (laid_something (value_cells t) values is)
nothing t (line.Words fields) is = absurd (laid_something (word_cells t) fields is)
nothing t (line.Space e fill) is = space_nothing t e fill is
nothing t b is = refl

-- The laws about the lengths of instructions: 1 to 4 bytes.
pub record Lengths : Type 0 where
  pub least : (instr : Instr) → 1 ≤ length (canonical instr)
  pub most : (instr : Instr) → length (canonical instr) ≤ 4

of_size : (n : ℕ) (p : Piece) → IsCount n → Some (Statement.Sized n) ≡ Some (piece_sized p) → TakesFew p
of_size n (made.Bytes blank holes) count is = let same : n ≡ length blank = cc in subst IsCount same count
of_size n (made.Space k fill) count is = let same : n ≡ k = cc in subst (λ m. 1 ≤ m) same count.0
of_size n (made.Jump condition target) count is = tt
of_size n (made.Short branch target) count is = tt

code_count : Lengths → (instr : Instr) → IsCount (length (canonical instr))
code_count lengths instr = (lengths.least instr, omega (arith, lengths.most instr))

pub few : AreKept → Lengths → (t : Table) (b : line.Body) (p : Piece) → IsFew b → made.made t b ≡ Ok (Some_piece p) → TakesFew p
few kept lengths t (line.Code instr numbers) p count is = of_size (length (canonical instr)) p (code_count lengths instr) (piece kept t (line.Code instr numbers) p is)
few kept lengths t (line.Jump condition target) p count is = by_ref (ref_of (found t target)) (piece kept t (line.Jump condition target) p is)
  where
    by_ref : (o : Option ℕ) → Some (jump_sized o) ≡ Some (piece_sized p) → TakesFew p
    by_ref None so = of_size 3 p (omega arith, omega arith) so
    by_ref (Some r) so = relaxed p so
      where
        relaxed : (q : Piece) → Some Statement.Relaxable ≡ Some (piece_sized q) → TakesFew q
        relaxed (made.Bytes blank holes) so = cc
        relaxed (made.Space k fill) so = cc
        relaxed (made.Jump condition target) so = tt
        relaxed (made.Short branch target) so = tt
few kept lengths t (line.Short branch target) p count is = of_size 2 p (omega arith, omega arith) (piece kept t (line.Short branch target) p is)
few kept lengths t (line.Bytes values) p count is = of_size (sum_by value_size values) p count (piece kept t (line.Bytes values) p is)
few kept lengths t (line.Words fields) p count is = of_size (2 * length fields) p count (piece kept t (line.Words fields) p is)
few kept lengths t (line.Space e fill) p count is =
    let m = space_made t e fill (Some_piece p) is in
    let s = is_space (number_in m.settled) m.filling p m.is in
    subst TakesFew s.piece (omega arith)
few kept lengths t (line.Origin e) p count is = let bad = origin_nothing t e (Some_piece p) is in cc
few kept lengths t b p count is = cc
