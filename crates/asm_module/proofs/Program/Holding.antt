-- What a line makes is a piece of what it describes.
use Rattle.std.proofs.Common.{◌≡◌, inl, inr, ◌<◌, ℕ, suc, ◌%◌, Bool, true, false, List, [], ◌∷◌, Option, Some, None, Ok, ℤ, All, if◌then◌else◌, length, map, refl, sym, ap, subst, ◌∙◌, arith}
use Rattle.std.specs.Bool.{MatchBool}
use Rattle.std.specs.List.{flat_map, sum_by}
use Rattle.std.proofs.lemmas.List.{length-replicate}
use Rattle.std.proofs.lemmas.List.Concat.{flat_map_single}
use Rattle.asm_parse.specs.declared.item.Item.{Item}
use Rattle.asm_parse.specs.Source.{Name}
use Rattle.asm_expr.specs.declared.answer.Settled.{Settled}
use Rattle.asm_expr.specs.Types.{Statement as Size}
use Rattle.asm_expr.specs.Distances.{Step}
use Rattle.asm_expr.specs.Names.{Table, found}
use Rattle.asm_expr.specs.Below.{source_tree}
use Rattle.asm_expr.specs.Settling.{settled}
use Rattle.asm_expr.proofs.Sizes.{sum_by-cons}
use Rattle.z80_instr.specs.declared.Instr.{Instr}
use Rattle.z80_instr.specs.declared.ShortCond.{ShortCond}
use Rattle.z80_instr.specs.Codes.{Codes, in_range}
use Rattle.z80_instr.specs.Table.{canonical}
use Rattle.z80_form.specs.declared.field.Field.{Field}
use Rattle.z80_form.specs.Numbers.{number_field}
use Rattle.z80_instr.specs.declared.Branch.{Branch}
use Rattle.asm_spell.specs.Line as line
use Rattle.asm_stmt.specs.declared.cell.Filling.{Filling}
use Rattle.asm_stmt.specs.Cells.{is_filled, number_or_0}
use Rattle.asm_stmt.specs.Fields as field
use Rattle.asm_stmt.specs.Fields.{number, settled_in}
use Rattle.asm_stmt.specs.Made as made
use Rattle.asm_stmt.specs.Made.{Fillings, Made, Nothing, Piece, Some_piece, code_hole, coded, fillings, is_origin, cells_made, long_jump, number_in, ref_of, space_of_size, space_fill, space_size}
use Rattle.asm_stmt.specs.Sized.{piece_sized}
use Rattle.asm_stmt.proofs.Making.{as_stmt_ok, bind_ok, code_made, code_something, is_space, jump_something, laid_something, no_space, number_in_ok, origin_nothing, short_something, size_kept, space_made, space_settled}
use Rattle.asm_module.specs.Program.Linked.{filled}
use Rattle.asm_module.specs.Program.Pieces.{IsPiece, IsShortJump, datum_bytes, short_jump, statement_size, takes, valued, width}
use Rattle.asm_module.proofs.Program.Fields.{AreFields, IsReady}
use Rattle.asm_module.specs.Program.Statement as statement
use Rattle.asm_module.specs.Program.Statement.{Datum, Statement, byte_items, fill_byte, filling, fixed_number, spaced, stated, target_of, word_item}
use Rattle.asm_module.proofs.Program.Coding.{at_of, reads, shape}
use Rattle.asm_module.proofs.Program.Data.{Lays, bytes_lay, words_lay}
use Rattle.asm_module.proofs.Program.Fillings.{fixed_from}
use Rattle.asm_module.proofs.Program.Holes.{cells_filled}
use Rattle.asm_module.proofs.Program.Rows.{Rows}
use Rattle.asm_module.proofs.Program.Values.{settled_worth}

-- The bytes are those of the piece once it is linked.
abbrev pub IsLinkedPiece : ℕ → Bool → (ℕ → ℕ) → Piece → List ℕ → Type 0
IsLinkedPiece at long places (made.Bytes blank holes) bs = bs ≡ filled places blank holes
IsLinkedPiece at long places (made.Space n fill) bs = IsPiece at long places (statement.Space n fill) bs
IsLinkedPiece at long places (made.Jump condition target) bs = IsPiece at long places (statement.Jump condition target) bs
IsLinkedPiece at long places (made.Short branch target) bs = IsPiece at long places (statement.Short branch target) bs

-- the ref to which a jump goes
abbrev pub target_by : Piece → Option ℕ
target_by (made.Jump condition target) = Some target
target_by (made.Short branch target) = Some target
target_by p = None

pub record Holds (t : Table) (p : Piece) (s : Statement) : Type 0 where
  pub size : piece_sized p ≡ statement_size s
  pub target : target_by p ≡ target_of s
  pub pieces : (places : ℕ → ℕ) → Step t.statements places → (at : ℕ) (long : Bool) (bs : List ℕ) → All (λ b. b < 256) bs → IsLinkedPiece at long places p bs
      → IsPiece at long places s bs × (length bs ≡ takes long (statement_size s))

-- Instructions.
code_holds : Rows → (t : Table) (instr : Instr) (numbers : List (Field × line.ExpressionItems)) (p : Piece) → AreFields instr (map (λ n. n.0) numbers) → in_range instr ≡ true
    → made.code t instr numbers ≡ Ok (Some_piece p) → Holds t p (statement.Code instr (map (λ n. (n.0, filling t n.0 n.1)) numbers))
code_holds rows t instr numbers p fields ok is =
    let c = code_made t instr numbers p is in
    let read = reads rows t instr numbers c.read ok (shape t instr numbers c.read fields c.is c.told) in
    record {
      size = ap piece_sized (sym c.piece) ∙ ap (λ n. Size.Sized n) (size_kept rows.size (map (λ n. (n.0, number_or_0 n.1)) c.read) instr);
      target = ap target_by (sym c.piece);
      pieces = λ places step at long bs small linked. (
          let same : bs ≡ canonical (at_of places t numbers instr) = subst (λ q. IsLinkedPiece at long places q bs) (sym c.piece) linked ∙ read.filled places step in
          (record { numbers = read.range places step (subst (All (λ b. b < 256)) same small); spelled = inl same }, ap length same ∙ size_kept rows.size (valued places (map (λ n. (n.0, filling t n.0 n.1)) numbers)) instr)
          );
    }

-- DB and DW.
data_size : (places : ℕ → ℕ) (items : List Datum) → length (flat_map (datum_bytes places) items) ≡ sum_by width items
data_size places [] = refl
data_size places (statement.Byte e ∷ items) = omega (arith, data_size places items, sum_by-cons width (statement.Byte e) items)
data_size places (statement.Word e ∷ items) = omega (arith, data_size places items, sum_by-cons width (statement.Word e) items)

data_holds : (t : Table) (p : Piece) (items : List Datum) → Lays p items t → Holds t p (statement.Data items)
data_holds t p items l = record {
  size = ap piece_sized (sym l.piece) ∙ ap (λ n. Size.Sized n) l.size;
  target = ap target_by (sym l.piece);
  pieces = λ places step at long bs small linked. (
      let same : bs ≡ flat_map (datum_bytes places) items = subst (λ q. IsLinkedPiece at long places q bs) (sym l.piece) linked ∙ cells_filled places [] l.fields ∙ l.places places step in
      (same, ap length same ∙ data_size places items)
      );
}

-- Jumps.
long_size : (condition : Option ShortCond) (n : ℕ) (bs : List ℕ) → Codes (long_jump condition n) bs → length bs ≡ 3
long_size None n bs codes = elim codes.spelled as (λ _. length bs ≡ 3) [ inl is ↦ ap length is | inr bad ↦ cc ]
long_size (Some condition) n bs codes = elim codes.spelled as (λ _. length bs ≡ 3) [ inl is ↦ ap length is | inr bad ↦ cc ]

pub short_size : (branch : Branch) (e : ℤ) (bs : List ℕ) → Codes (short_jump branch e) bs → length bs ≡ 2
short_size (Branch.Relative None) e bs codes = elim codes.spelled as (λ _. length bs ≡ 2) [ inl is ↦ ap length is | inr bad ↦ cc ]
short_size (Branch.Relative (Some condition)) e bs codes = elim codes.spelled as (λ _. length bs ≡ 2) [ inl is ↦ ap length is | inr bad ↦ cc ]
short_size Branch.CountDown e bs codes = elim codes.spelled as (λ _. length bs ≡ 2) [ inl is ↦ ap length is | inr bad ↦ cc ]

pub jump_size : (at to : ℕ) (long : Bool) (condition : Option ShortCond) (bs : List ℕ) → MatchBool long (Codes (long_jump condition to) bs) (IsShortJump at to (Branch.Relative condition) bs) → length bs ≡ (if long then 3 else 2)
jump_size at to true condition bs codes = long_size condition to bs codes
jump_size at to false condition bs leads = short_size (Branch.Relative condition) leads.0 bs leads.2

pub jump_fields : (condition : Option ShortCond) → number_field (long_jump condition 0) ≡ Some Field.Word
jump_fields None = refl
jump_fields (Some condition) = refl

jump_range : (condition : Option ShortCond) → in_range (long_jump condition 0) ≡ true
jump_range None = refl
jump_range (Some condition) = refl

jump_holds : Rows → (t : Table) (condition : Option ShortCond) (target : List ℕ) (p : Piece) (o : Option ℕ) → made.jump_by o t condition target ≡ Ok (Some_piece p) → Holds t p (statement.jump_statement o t condition target)
jump_holds rows t condition target p (Some r) is =
    let same : made.Jump condition r ≡ p = cc in
    subst (λ q. Holds t q (statement.Jump condition r)) same
    (record { size = refl; target = refl; pieces = λ places step at long bs small linked. (linked, jump_size at (places r) long condition bs linked) })
jump_holds rows t condition target p None is =
    code_holds rows t (long_jump condition 0) ((Field.Word, Item.Leaf (Name target) ∷ []) ∷ []) p (inr (jump_fields condition)) (jump_range condition) is

-- DS.
-- the size of a DS
size_fixed : (t : Table) (e : line.ExpressionItems) (s : Settled) (n : ℕ) → space_size t e ≡ Ok s → number_in s ≡ Some n → fixed_number t e ≡ n
size_fixed t e s n is one =
    let known = number_in_ok s n one in
    ap statement.known_number (settled_worth t (source_tree e) known.0 n ((space_settled t e s is).0 ∙ ap (λ x. Ok x) known.1) known.2)

-- the fill byte of a DS
fill_fixed : (t : Table) (fill : Option line.ExpressionItems) (f : Filling) (k : ℕ) → space_fill t fill ≡ Ok f → f ≡ Filling.Number k → fill_byte t fill ≡ k % 256
fill_fixed t None f k is one = let same : 0 ≡ k = cc in ap (λ n. n % 256) same
fill_fixed t (Some e) f k is one =
    let first = bind_ok (settled_in t e) (field.fixed Field.Byte) f is in
    let from = fixed_from Field.Byte first.0 f first.2 (ap is_filled one) in
    let same : from.1 ≡ k = cc in
    ap (λ n. n % 256) (ap statement.known_number (settled_worth t (source_tree e) from.0 from.1 (as_stmt_ok (settled t (source_tree e)) first.0 first.1 ∙ ap (λ x. Ok x) from.2) from.3) ∙ same)

space_piece : (t : Table) (n b : ℕ) (p : Piece) → made.Space n b ≡ p → Holds t p (statement.Space n b)
space_piece t n b p same =
    subst (λ q. Holds t q (statement.Space n b)) same (record { size = refl; target = refl; pieces = λ places step at long bs small linked. (linked, ap length linked ∙ length-replicate n b) })

space_holds : (t : Table) (size : line.ExpressionItems) (fill : Option line.ExpressionItems) (p : Piece) → made.space_made t size fill ≡ Ok (Some_piece p)
    → (s : Statement) × (stated false t (line.Space size fill) ≡ Some s) × Holds t p s
space_holds t size fill p is =
    let m = space_made t size fill (Some_piece p) is in
    let space = is_space (number_in m.settled) m.filling p m.is in
    let n = suc space.last in
    let b = space.byte % 256 in (
      statement.Space n b,
      ap (λ k. spaced k (fill_byte t fill)) (size_fixed t size m.settled n m.size space.size) ∙ ap (spaced n) (fill_fixed t fill m.filling space.byte m.fill space.fill),
      space_piece t n b p space.piece,
    )

-- Statements of any kind.
abbrev Answer : Table → line.Body → Piece → Type 0
Answer t b p = (s : Statement) × (stated false t b ≡ Some s) × Holds t p s

pub holds : Rows → (t : Table) (b : line.Body) (p : Piece) → IsReady b → made.made t b ≡ Ok (Some_piece p) → Answer t b p
holds rows t (line.Code instr numbers) p ready is = (statement.Code instr (map (λ n. (n.0, filling t n.0 n.1)) numbers), refl, code_holds rows t instr numbers p ready.0 ready.1 is)
holds rows t (line.Jump condition target) p ready is = (statement.jump_statement (ref_of (found t target)) t condition target, refl, jump_holds rows t condition target p (ref_of (found t target)) is)
holds rows t (line.Short branch target) p ready is = by_ref (ref_of (found t target)) refl is
  where
    by_ref : (o : Option ℕ) → ref_of (found t target) ≡ o → made.short_by o branch ≡ Ok (Some_piece p) → Answer t (line.Short branch target) p
    by_ref (Some r) was is =
        let same : made.Short branch r ≡ p = cc in (
          statement.Short branch r,
          ap (λ o. statement.short_statement false o branch) was,
          subst (λ q. Holds t q (statement.Short branch r)) same (record { size = refl; target = refl; pieces = λ places step at long bs small linked. (linked, short_size branch linked.0 bs linked.2) }),
        )
    by_ref None was is = cc
holds rows t (line.Bytes values) p ready is = (statement.Data (flat_map (byte_items t) values), refl, data_holds t p (flat_map (byte_items t) values) (bytes_lay t values p is))
holds rows t (line.Words fields) p ready is =
    (statement.Data (map (word_item t) fields), refl, subst (λ items. Holds t p (statement.Data items)) (flat_map_single (word_item t) fields) (data_holds t p _ (words_lay t fields p is)))
holds rows t (line.Space size fill) p ready is = space_holds t size fill p is
holds rows t (line.Origin e) p ready is = let bad = origin_nothing t e (Some_piece p) is in cc
holds rows t b p ready is = cc

-- A line that makes nothing describes no statement.
space_nothing : (t : Table) (size : line.ExpressionItems) (fill : Option line.ExpressionItems) → made.space_made t size fill ≡ Ok Nothing → stated false t (line.Space size fill) ≡ None
space_nothing t size fill is =
    let m = space_made t size fill Nothing is in
    ap (λ k. spaced k (fill_byte t fill)) (size_fixed t size m.settled 0 m.size (no_space (number_in m.settled) m.filling m.is))

pub nothing : (t : Table) (b : line.Body) → made.made t b ≡ Ok Nothing → stated false t b ≡ None
nothing t (line.Code instr numbers) is = absurd (code_something t instr numbers is)
nothing t (line.Jump condition target) is = absurd (jump_something t condition target (ref_of (found t target)) is)
nothing t (line.Short branch target) is = absurd (short_something (ref_of (found t target)) branch is)
nothing t (line.Bytes values) is = absurd (laid_something (made.value_cells t) values is)
nothing t (line.Words fields) is = absurd (laid_something (made.word_cells t) fields is)
nothing t (line.Space size fill) is = space_nothing t size fill is
nothing t b is = refl
