-- A piece keeps the rules of an object file.
use Rattle.std.proofs.Common.{◌≡◌, inr, ◌≤◌, ◌<◌, ℕ, zero, suc, ◌+◌, ◌-◌, Bool, true, List, [], ◌∷◌, ◌++◌, Option, Some, None, Result, Ok, All, nat_lt, slice_index, length, map, refl, sym, ap, subst, ◌∙◌, arith, append_assoc, append-nil, length-append}
use Rattle.std.specs.List.{flat_map}
use Rattle.std.proofs.lemmas.Bool.{lt-ltb, ltb-true}
use Rattle.std.proofs.lemmas.List.{get_or-append-add}
use Rattle.std.proofs.lemmas.List.Elements.{All-append, All-cons, All-nil, All-weaker}
use Rattle.asm_parse.specs.declared.item.Item.{Item}
use Rattle.asm_parse.specs.Expression.{Expression}
use Rattle.asm_parse.specs.Source.{Name, Operand}
use Rattle.asm_expr.specs.declared.answer.Settled.{Settled}
use Rattle.asm_expr.specs.Below.{Atom, IsExpr, refs, source_tree}
use Rattle.asm_expr.specs.declared.meaning.Meaning.{Meaning}
use Rattle.asm_expr.specs.declared.unknown.Unknown.{Unknown}
use Rattle.asm_expr.specs.Names.{AreCounted, Table, found}
use Rattle.asm_expr.specs.Offsets.{offset}
use Rattle.asm_expr.specs.Origins.{AllBring, AreRefs, Brings}
use Rattle.asm_expr.specs.Settling.{IsWorthOf, fault, settled}
use Rattle.z80_instr.specs.declared.Branch.{Branch}
use Rattle.z80_instr.specs.declared.Instr.{Instr}
use Rattle.z80_instr.specs.declared.ShortCond.{ShortCond}
use Rattle.z80_instr.specs.Table.{canonical}
use Rattle.z80_form.specs.declared.field.Field.{Field}
use Rattle.z80_form.specs.Numbers.{but_last, number_field, with_number}
use Rattle.asm_spell.specs.declared.fault.StmtFault.{StmtFault}
use Rattle.asm_spell.specs.Faults.{each}
use Rattle.asm_spell.specs.Line as line
use Rattle.zmo_object.specs.declared.module.hole.Hole.{Hole}
use Rattle.zmo_object.specs.declared.module.hole.Width.{Width}
use Rattle.zmo_object.specs.Holes.{FitsWidth, IsHole, LieWithin, ends_in_byte, width_size}
use Rattle.asm_stmt.specs.declared.cell.Cell.{Cell}
use Rattle.asm_stmt.specs.declared.cell.Filling.{Filling}
use Rattle.asm_stmt.specs.Cells.{bytes, cell_bytes, hole, holes, is_filled, number_or_0, written}
use Rattle.asm_stmt.specs.Fields as piece_field
use Rattle.asm_stmt.specs.Fields.{byte, byte_by, fixed, number, settled_in, word_filling, word_filling_by}
use Rattle.asm_stmt.specs.Made as made
use Rattle.asm_stmt.specs.Made.{Fillings, Piece, Some_piece, code_hole, long_jump, number_in, ref_of, text_cell, value_cells, field_width, word_cells}
use Rattle.asm_stmt.proofs.Making.{as_stmt_ok, bind_ok, blank_of, chosen_ok, code_made, data_made, each_holds, flat, is_space, origin_nothing, space_made}
use Rattle.asm_module.specs.Rules.Piece.{KeepsPieceRules}
use Rattle.asm_module.proofs.Program.Coding.{Shape, Spelled, first, kept_field, last, none, one, shape}
use Rattle.asm_module.proofs.Program.Fields.{AreFields, IsReady}
use Rattle.asm_module.proofs.Program.Fillings.{distance_from, fixed_from}
use Rattle.asm_module.proofs.Program.Holding.{jump_fields}
use Rattle.asm_module.proofs.Program.Holes.{length-written}
use Rattle.asm_module.proofs.Program.Numbers.{IsField, byte_field, swapped, word_field}
use Rattle.asm_module.proofs.Program.Rows.{Rows}

-- The laws of expressions that are used here.
pub record Laws : Type 0 where
  pub worth : (t : Table) → AreCounted t → (e : Expression Operand) (s : Settled) → settled t e ≡ Ok s → IsWorthOf t e s
  pub refs : (p : ℕ → Bool) (t : Table) → AllBring (λ r. p r ≡ true) t → (e : Expression Operand) (s : Settled) → settled t e ≡ Ok s → AreRefs (λ r. p r ≡ true) s

-- A ref is below some count, as a test.
abbrev IsBelow : ℕ → ℕ → Type 0
IsBelow n r = nat_lt r n ≡ true

tested_refs : (n : ℕ) (s : Settled) → AreRefs (λ r. r < n) s → AreRefs (IsBelow n) s
tested_refs n (Settled.Known items) all = All-weaker (λ r. r < n) (IsBelow n) (λ r. lt-ltb r n) (refs items) all
tested_refs n (Settled.Unknown what) all = tt

tested_meaning : (n : ℕ) (m : Meaning) → Brings (λ r. r < n) m → Brings (IsBelow n) m
tested_meaning n (Meaning.Label r) low = lt-ltb r n low
tested_meaning n (Meaning.External r) low = lt-ltb r n low
tested_meaning n (Meaning.Equ equated) all = tested_refs n equated.settled all
tested_meaning n (Meaning.Constant k) all = tt
tested_meaning n Meaning.UnknownConstant all = tt
tested_meaning n Meaning.Faulty all = tt

tested : (n : ℕ) (t : Table) → AllBring (λ r. r < n) t → AllBring (IsBelow n) t
tested n t all = record { here = lt-ltb t.here n all.here; names = λ name what is. tested_meaning n what (all.names name what is) }

-- An expression in a field that depends on addresses is one that an object file may hold: it fits the width of the field, and its refs are
-- below n.
abbrev IsGood : ℕ → Width → Filling → Type 0
IsGood n w (Filling.Varying items) = IsExpr items × FitsWidth w items × All (λ r. r < n) (refs items)
IsGood n w _ = Unit {0}

-- In an instruction only a byte and a word may depend on addresses.
abbrev IsFixed : Filling → Type 0
IsFixed (Filling.Varying items) = ⊥
IsFixed _ = Unit {0}

abbrev Fits : ℕ → Field → Filling → Type 0
Fits n Field.Byte f = IsGood n Width.Byte f
Fits n Field.Word f = IsGood n Width.Word f
Fits n Field.Displacement f = IsFixed f
Fits n Field.Distance f = IsFixed f
Fits n Field.Bit f = IsFixed f
Fits n Field.Mode f = IsFixed f
Fits n Field.Restart f = IsFixed f

-- The items are an expression, and all refs in it are below n.
abbrev AreGood : ℕ → List (Item Atom) → Type 0
AreGood n items = IsExpr items × All (λ r. r < n) (refs items)

-- A table whose names bring only refs below n.
record Below (n : ℕ) (t : Table) : Type 0 where
  laws : Laws
  counted : AreCounted t
  brings : AllBring (λ r. r < n) t

items_good : (n : ℕ) (t : Table) → Below n t → (e : line.ExpressionItems) (items : List (Item Atom)) → settled_in t e ≡ Ok (Settled.Known items) → AreGood n items
items_good n t b e items is =
    let so = as_stmt_ok (settled t (source_tree e)) (Settled.Known items) is in
    let worth = b.laws.worth t b.counted (source_tree e) (Settled.Known items) so in
    (worth.expr, All-weaker (IsBelow n) (λ r. r < n) (λ r. ltb-true r n) (refs items) (b.laws.refs (λ r. nat_lt r n) t (tested n t b.brings) (source_tree e) (Settled.Known items) so))

abbrev Know : ℕ → Settled → Type 0
Know n s = (items : List (Item Atom)) → s ≡ Settled.Known items → AreGood n items

byte_good : (n : ℕ) (s : Settled) (f : Filling) → Know n s → byte s ≡ Ok f → IsGood n Width.Byte f
byte_good n (Settled.Known items) f know is = by_number (number items) is
  where
    by_number : (o : Option ℕ) → byte_by o items ≡ Ok f → IsGood n Width.Byte f
    by_number (Some k) is = subst (IsGood n Width.Byte) (chosen_ok _ (Filling.Number k) f StmtFault.ByteRange is).1 tt
    by_number None is =
        let c = chosen_ok (ends_in_byte items) (Filling.Varying items) f StmtFault.NeedsLowOrHigh is in
        let fine = know items refl in
        subst (IsGood n Width.Byte) c.1 (fine.0, c.0, fine.1)
byte_good n (Settled.Unknown Unknown.Varies) f know is = cc
byte_good n (Settled.Unknown Unknown.Anything) f know is = let same : Filling.Unknown ≡ f = cc in subst (IsGood n Width.Byte) same tt
byte_good n (Settled.Unknown Unknown.Number) f know is = let same : Filling.Unknown ≡ f = cc in subst (IsGood n Width.Byte) same tt
byte_good n (Settled.Unknown Unknown.VariesInByte) f know is = let same : Filling.Unknown ≡ f = cc in subst (IsGood n Width.Byte) same tt

word_good : (n : ℕ) (s : Settled) (f : Filling) → Know n s → word_filling s ≡ f → IsGood n Width.Word f
word_good n (Settled.Known items) f know is = by_number (number items) is
  where
    by_number : (o : Option ℕ) → word_filling_by o items ≡ f → IsGood n Width.Word f
    by_number (Some k) is = subst (IsGood n Width.Word) is tt
    by_number None is = let fine = know items refl in subst (IsGood n Width.Word) is (fine.0, tt, fine.1)
word_good n (Settled.Unknown what) f know is = subst (IsGood n Width.Word) is tt

number_fixed : (f : Filling) → (is_filled f ≡ true → (k : ℕ) × (f ≡ Filling.Number k)) → IsFixed f
number_fixed (Filling.Number k) number = tt
number_fixed Filling.Unknown number = tt
number_fixed (Filling.Varying items) number = let bad = (number refl).1 in cc

settled_fixed : (field : Field) (s : Settled) (f : Filling) → fixed field s ≡ Ok f → IsFixed f
settled_fixed field s f is = number_fixed f (λ told. let w = fixed_from field s f is told in (w.1, w.4))

good : (n : ℕ) (t : Table) → Below n t → (field : Field) (e : line.ExpressionItems) (f : Filling) → piece_field.field_filling t field e ≡ Ok f → Fits n field f
good n t b Field.Byte e f is =
    let s = bind_ok (settled_in t e) byte f is in
    byte_good n s.0 f (λ items same. items_good n t b e items (s.1 ∙ ap (λ x. Ok x) same)) s.2
good n t b Field.Word e f is =
    let s = bind_ok (settled_in t e) (λ s. Ok (word_filling s)) f is in
    let same : word_filling s.0 ≡ f = cc in
    word_good n s.0 f (λ items same. items_good n t b e items (s.1 ∙ ap (λ x. Ok x) same)) same
good n t b Field.Distance e f is = number_fixed f (λ told. let w = distance_from (fault t (source_tree e)) (offset t (source_tree e)) f is told in (piece_field.from_end w.0, w.2))
good n t b Field.Displacement e f is = let s = bind_ok (settled_in t e) (fixed Field.Displacement) f is in settled_fixed Field.Displacement s.0 f s.2
good n t b Field.Bit e f is = let s = bind_ok (settled_in t e) (fixed Field.Bit) f is in settled_fixed Field.Bit s.0 f s.2
good n t b Field.Mode e f is = let s = bind_ok (settled_in t e) (fixed Field.Mode) f is in settled_fixed Field.Mode s.0 f s.2
good n t b Field.Restart e f is = let s = bind_ok (settled_in t e) (fixed Field.Restart) f is in settled_fixed Field.Restart s.0 f s.2

-- Fields that are put one after the other.
abbrev AllGood : ℕ → List Cell → Type 0
AllGood n [] = Unit {0}
AllGood n (c ∷ cs) = IsGood n c.width c.filling × AllGood n cs

good-append : (n : ℕ) (xs ys : List Cell) → AllGood n xs → AllGood n ys → AllGood n (xs ++ ys)
good-append n [] ys p q = q
good-append n (x ∷ xs) ys p q = (p.0, good-append n xs ys p.1 q)

length-bytes : (c : Cell) (cs : List Cell) → length (bytes (c ∷ cs)) ≡ width_size c.width + length (bytes cs)
length-bytes c cs = length-append (cell_bytes c) (bytes cs) ∙ ap (λ n. n + length (bytes cs)) (length-written c.width (number_or_0 c.filling))

lie_one : (w : Width) (f : Filling) (rest : List Hole) (from at count : ℕ) → from ≤ at → at + width_size w ≤ count
    → ((start : ℕ) → start ≤ at + width_size w → LieWithin start count rest) → LieWithin from count (hole at w f ++ rest)
lie_one w (Filling.Varying items) rest from at count low high next = (low, high, next (at + width_size w) (omega arith))
lie_one w (Filling.Number k) rest from at count low high next = next from (omega arith)
lie_one w Filling.Unknown rest from at count low high next = next from (omega arith)

lie : (cs : List Cell) (from at count : ℕ) → from ≤ at → at + length (bytes cs) ≤ count → LieWithin from count (holes at cs)
lie [] from at count low high = tt
lie (c ∷ cs) from at count low high =
    let all = length-bytes c cs in
    lie_one c.width c.filling (holes (at + width_size c.width) cs) from at count low (omega (arith, all))
    (λ start early. lie cs start (at + width_size c.width) count early (omega (arith, all)))

zeros : (w : Width) (behind : List ℕ) (k : ℕ) → k < width_size w → slice_index (written w 0 ++ behind) k ≡ 0
zeros Width.Byte behind zero low = refl
zeros Width.Byte behind (suc k) low = omega (arith, low)
zeros Width.Word behind zero low = refl
zeros Width.Word behind (suc zero) low = refl
zeros Width.Word behind (suc (suc k)) low = omega (arith, low)

hole_good : (n : ℕ) (front behind : List ℕ) (w : Width) (f : Filling) → IsGood n w f → All (IsHole n (front ++ (written w (number_or_0 f) ++ behind))) (hole (length front) w f)
hole_good n front behind w (Filling.Number k) fine = All-nil (IsHole n (front ++ (written w k ++ behind)))
hole_good n front behind w Filling.Unknown fine = All-nil (IsHole n (front ++ (written w 0 ++ behind)))
hole_good n front behind w (Filling.Varying items) fine = All-cons (IsHole n (front ++ (written w 0 ++ behind))) (record { offset = length front; width = w; value = items }) [] is (All-nil (IsHole n (front ++ (written w 0 ++ behind))))
  where
    is : IsHole n (front ++ (written w 0 ++ behind)) (record { offset = length front; width = w; value = items })
    is = record {
      expr = fine.0;
      width = fine.1;
      refs = fine.2;
      blank = λ k low. (get_or-append-add front (written w 0 ++ behind) k 0 ∙ zeros w behind k low);
    }

holes_good : (n : ℕ) (front : List ℕ) (cs : List Cell) → AllGood n cs → All (IsHole n (front ++ bytes cs)) (holes (length front) cs)
holes_good n front [] fine = All-nil (IsHole n (front ++ []))
holes_good n front (c ∷ cs) fine =
    let now = cell_bytes c in
    let far : length (front ++ now) ≡ length front + width_size c.width = omega (arith, length-append front now, length-written c.width (number_or_0 c.filling)) in
    All-append (IsHole n (front ++ bytes (c ∷ cs))) (hole (length front) c.width c.filling) (holes (length front + width_size c.width) cs)
    (hole_good n front (bytes cs) c.width c.filling fine.0)
    (subst (λ at. All (IsHole n (front ++ bytes (c ∷ cs))) (holes at cs)) far
    (subst (λ bs. All (IsHole n bs) (holes (length (front ++ now)) cs)) (append_assoc front now (bytes cs)) (holes_good n (front ++ now) cs fine.1)))

abbrev Keep : ℕ → List ℕ → List Hole → Type 0
Keep n bs hs = LieWithin 0 (length bs) hs × All (IsHole n bs) hs

cells_keep : (n : ℕ) (front : List ℕ) (cs : List Cell) → AllGood n cs → Keep n (front ++ bytes cs) (holes (length front) cs)
cells_keep n front cs fine = (lie cs 0 (length front) (length (front ++ bytes cs)) (omega arith) (omega (arith, length-append front (bytes cs))), holes_good n front cs fine)

-- DB and DW.
text_good : (n : ℕ) (text : List ℕ) → AllGood n (map text_cell text)
text_good n [] = tt
text_good n (b ∷ text) = (tt, text_good n text)

value_good : (n : ℕ) (t : Table) → Below n t → (v : line.Value) (cs : List Cell) → value_cells t v ≡ Ok cs → AllGood n cs
value_good n t b (line.Text text) cs is = let same : map text_cell text ≡ cs = cc in subst (AllGood n) same (text_good n text)
value_good n t b (line.Byte e) cs is =
    let f = bind_ok (piece_field.field_filling t Field.Byte e) _ cs is in
    let same : (record { width = Width.Byte; filling = f.0 }) ∷ [] ≡ cs = cc in
    subst (AllGood n) same (good n t b Field.Byte e f.0 f.1, tt)

word_cells_good : (n : ℕ) (t : Table) → Below n t → (e : line.ExpressionItems) (cs : List Cell) → word_cells t e ≡ Ok cs → AllGood n cs
word_cells_good n t b e cs is =
    let f = bind_ok (piece_field.field_filling t Field.Word e) _ cs is in
    let same : (record { width = Width.Word; filling = f.0 }) ∷ [] ≡ cs = cc in
    subst (AllGood n) same (good n t b Field.Word e f.0 f.1, tt)

data_keeps : {A : Type 0} (n : ℕ) (read : A → Result (List Cell) StmtFault) → ((x : A) (cs : List Cell) → read x ≡ Ok cs → AllGood n cs) → (xs : List A) (p : Piece)
    → made.items_made (each read xs) ≡ Ok (Some_piece p) → KeepsPieceRules n p
data_keeps n read each_one xs p is =
    let d = data_made read xs p is in
    let all = each_holds (λ cs ys. AllGood n cs) read tt (λ x cs rest ys was so. good-append n cs rest (each_one x cs was) so) xs d.cells d.is in
    subst (KeepsPieceRules n) d.piece (cells_keep n [] (flat d.cells) all)

-- Instructions.
abbrev code_keeps : ℕ → Instr → Fillings → Type 0
code_keeps n instr ns = Keep n (canonical (blank_of ns instr)) (flat_map (code_hole (length (canonical instr))) ns)

nothing_varies : (n : ℕ) (bs : List ℕ) → Keep n bs []
nothing_varies n bs = (tt, All-nil (IsHole n bs))

last_keeps : (n : ℕ) (front : List ℕ) (w : Width) (items : List (Item Atom)) (size : ℕ) → size - width_size w ≡ length front → IsGood n w (Filling.Varying items)
    → Keep n (front ++ written w 0) (hole (size - width_size w) w (Filling.Varying items))
last_keeps n front w items size same fine =
    subst (λ bs. Keep n (front ++ bs) (hole (size - width_size w) w (Filling.Varying items))) (append-nil (written w 0))
    (subst (λ at. Keep n (front ++ (written w 0 ++ [])) (hole at w (Filling.Varying items))) (sym same)
    (subst (λ hs. Keep n (front ++ (written w 0 ++ [])) hs) (append-nil (hole (length front) w (Filling.Varying items)))
    (cells_keep n front ((record { width = w; filling = Filling.Varying items }) ∷ []) (fine, tt))))

number_keeps : Rows → (n : ℕ) (instr : Instr) (f : Field) (x : Filling) (size : ℕ) → size ≡ length (canonical instr) → IsField instr f → Fits n f x
    → Keep n (canonical (with_number f (number_or_0 x) instr)) (code_hole size (f, x))
number_keeps rows n instr f (Filling.Number k) size same is fit = nothing_varies n (canonical (with_number f k instr))
number_keeps rows n instr f Filling.Unknown size same is fit = nothing_varies n (canonical (with_number f 0 instr))
number_keeps rows n instr Field.Byte (Filling.Varying items) size same is fit =
    let row = rows.byte instr 0 (byte_field instr is) in
    let front = but_last 1 (canonical instr) in
    let far : size - 1 ≡ length front = omega (arith, same, rows.size Field.Byte 0 instr, ap length row, length-append front (0 ∷ [])) in
    subst (λ bs. Keep n bs (code_hole size (Field.Byte, Filling.Varying items))) (sym row) (last_keeps n front Width.Byte items size far fit)
number_keeps rows n instr Field.Word (Filling.Varying items) size same is fit =
    let row = rows.word instr 0 (word_field instr is) in
    let front = but_last 2 (canonical instr) in
    let far : size - 2 ≡ length front = omega (arith, same, rows.size Field.Word 0 instr, ap length row, length-append front (written Width.Word 0)) in
    subst (λ bs. Keep n bs (code_hole size (Field.Word, Filling.Varying items))) (sym row) (last_keeps n front Width.Word items size far fit)
number_keeps rows n instr Field.Displacement (Filling.Varying items) size same is fit = absurd fit
number_keeps rows n instr Field.Distance (Filling.Varying items) size same is fit = absurd fit
number_keeps rows n instr Field.Bit (Filling.Varying items) size same is fit = absurd fit
number_keeps rows n instr Field.Mode (Filling.Varying items) size same is fit = absurd fit
number_keeps rows n instr Field.Restart (Filling.Varying items) size same is fit = absurd fit

-- A displacement is a known number.
displaced : (x : Filling) → IsFixed x → is_filled x ≡ true → (k : ℕ) × (x ≡ Filling.Number k)
displaced (Filling.Number k) is told = (k, refl)
displaced (Filling.Varying items) is told = absurd is
displaced Filling.Unknown is told = cc

first_keeps : Rows → (n : ℕ) (instr : Instr) (g : Field) (x y : Filling) → number_field instr ≡ Some g → (k : ℕ) × (x ≡ Filling.Number k) → Fits n g y
    → code_keeps n instr ((Field.Displacement, x) ∷ (g, y) ∷ [])
first_keeps rows n instr g x y is k fit =
    let now = with_number Field.Displacement k.0 instr in
    let size = length (canonical instr) in
    subst (λ z. code_keeps n instr ((Field.Displacement, z) ∷ (g, y) ∷ [])) (sym k.1)
    (subst (λ hs. Keep n (canonical (with_number g (number_or_0 y) now)) hs) (sym (append-nil (code_hole size (g, y))))
    (number_keeps rows n now g y size (sym (rows.size Field.Displacement k.0 instr)) (kept_field rows instr k.0 g is) fit))

last_displaced : Rows → (n : ℕ) (instr : Instr) (g : Field) (x y : Filling) → number_field instr ≡ Some g → (k : ℕ) × (x ≡ Filling.Number k) → Fits n g y
    → code_keeps n instr ((g, y) ∷ (Field.Displacement, x) ∷ [])
last_displaced rows n instr g x y is k fit =
    let other : g ≡ Field.Displacement → ⊥ = λ same. rows.number instr (is ∙ ap (λ f. Some f) same) in
    let size = length (canonical instr) in
    let before = first_keeps rows n instr g (Filling.Number k.0) y is (k.0, refl) fit in
    subst (λ z. code_keeps n instr ((g, y) ∷ (Field.Displacement, z) ∷ [])) (sym k.1)
    (subst (λ i. Keep n (canonical i) (code_hole size (g, y) ++ [])) (sym (swapped k.0 g (number_or_0 y) instr other)) before)

shape_keeps : Rows → (n : ℕ) (t : Table) → Below n t → (instr : Instr) (numbers : Spelled) (ns : Fillings) → Shape t instr numbers ns → code_keeps n instr ns
shape_keeps rows n t b instr _ _ none = nothing_varies n (canonical instr)
shape_keeps rows n t b instr _ _ (one f e x is was told) =
    let size = length (canonical instr) in
    subst (λ hs. Keep n (canonical (with_number f (number_or_0 x) instr)) hs) (sym (append-nil (code_hole size (f, x)))) (number_keeps rows n instr f x size refl is (good n t b f e x was))
shape_keeps rows n t b instr _ _ (first g d e x y is was told next told_too) =
    first_keeps rows n instr g x y is (displaced x (good n t b Field.Displacement d x was) told) (good n t b g e y next)
shape_keeps rows n t b instr _ _ (last g d e x y is was told next told_too) =
    last_displaced rows n instr g x y is (displaced x (good n t b Field.Displacement d x was) told) (good n t b g e y next)

code_rules : Rows → (n : ℕ) (t : Table) → Below n t → (instr : Instr) (numbers : Spelled) (p : Piece) → AreFields instr (map (λ m. m.0) numbers) → made.code t instr numbers ≡ Ok (Some_piece p) → KeepsPieceRules n p
code_rules rows n t b instr numbers p fields is =
    let c = code_made t instr numbers p is in
    subst (KeepsPieceRules n) c.piece (shape_keeps rows n t b instr numbers c.read (shape t instr numbers c.read fields c.is c.told))

-- Jumps.
ref_below : (n : ℕ) (t : Table) → Below n t → (name : List ℕ) (o : Option Meaning) → found t name ≡ o → (r : ℕ) → ref_of o ≡ Some r → r < n
ref_below n t b name None is r so = cc
ref_below n t b name (Some (Meaning.Label s)) is r so = let same : s ≡ r = cc in subst (λ k. k < n) same (b.brings.names name (Meaning.Label s) is)
ref_below n t b name (Some (Meaning.External s)) is r so = let same : s ≡ r = cc in subst (λ k. k < n) same (b.brings.names name (Meaning.External s) is)
ref_below n t b name (Some (Meaning.Constant s)) is r so = cc
ref_below n t b name (Some Meaning.UnknownConstant) is r so = cc
ref_below n t b name (Some (Meaning.Equ equated)) is r so = cc
ref_below n t b name (Some Meaning.Faulty) is r so = cc

jump_rules : Rows → (n : ℕ) (t : Table) → Below n t → (condition : Option ShortCond) (target : List ℕ) (p : Piece) (o : Option ℕ) → ref_of (found t target) ≡ o
    → made.jump_by o t condition target ≡ Ok (Some_piece p) → KeepsPieceRules n p
jump_rules rows n t b condition target p (Some r) was is =
    let same : made.Jump condition r ≡ p = cc in
    subst (KeepsPieceRules n) same (ref_below n t b target (found t target) refl r was)
jump_rules rows n t b condition target p None was is =
    code_rules rows n t b (long_jump condition 0) ((Field.Word, Item.Leaf (Name target) ∷ []) ∷ []) p (inr (jump_fields condition)) is

short_rules : (n : ℕ) (t : Table) → Below n t → (branch : Branch) (target : List ℕ) (p : Piece) (o : Option ℕ) → ref_of (found t target) ≡ o → made.short_by o branch ≡ Ok (Some_piece p) → KeepsPieceRules n p
short_rules n t b branch target p (Some r) was is =
    let same : made.Short branch r ≡ p = cc in
    subst (KeepsPieceRules n) same (ref_below n t b target (found t target) refl r was)
short_rules n t b branch target p None was is = cc

space_rules : (n : ℕ) (t : Table) (size : line.ExpressionItems) (fill : Option line.ExpressionItems) (p : Piece) → made.space_made t size fill ≡ Ok (Some_piece p) → KeepsPieceRules n p
space_rules n t size fill p is =
    let m = space_made t size fill (Some_piece p) is in
    let s = is_space (number_in m.settled) m.filling p m.is in
    subst (KeepsPieceRules n) s.piece (omega arith)

-- Statements of any kind.
rules : Rows → (n : ℕ) (t : Table) → Below n t → (b : line.Body) (p : Piece) → IsReady b → made.made t b ≡ Ok (Some_piece p) → KeepsPieceRules n p
rules rows n t below (line.Code instr numbers) p ready is = code_rules rows n t below instr numbers p ready.0 is
rules rows n t below (line.Jump condition target) p ready is = jump_rules rows n t below condition target p (ref_of (found t target)) refl is
rules rows n t below (line.Short branch target) p ready is = short_rules n t below branch target p (ref_of (found t target)) refl is
rules rows n t below (line.Bytes values) p ready is = data_keeps n (value_cells t) (value_good n t below) values p is
rules rows n t below (line.Words fields) p ready is = data_keeps n (word_cells t) (word_cells_good n t below) fields p is
rules rows n t below (line.Space size fill) p ready is = space_rules n t size fill p is
rules rows n t below (line.Origin e) p ready is = let bad = origin_nothing t e (Some_piece p) is in cc
rules rows n t below b p ready is = cc

pub keeps : Rows → Laws → (n : ℕ) (t : Table) → AreCounted t → AllBring (λ r. r < n) t → (b : line.Body) (p : Piece) → IsReady b → made.made t b ≡ Ok (Some_piece p) → KeepsPieceRules n p
keeps rows laws n t counted brings b p ready is = rules rows n t (record { laws = laws; counted = counted; brings = brings }) b p ready is
