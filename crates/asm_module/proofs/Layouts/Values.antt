-- If each name has a value, everything that statements make is known.
use Rattle.std.proofs.Common.{◌≡◌, ◌∙◌, ◌&&◌, sym, ap, refl, ℕ, zero, suc, Bool, true, false, cond, All, List, [], ◌∷◌, Option, Some, None, Result, Ok, map, slice_index_or, ◌<◌, arith}
use Rattle.std.specs.Prelude.{is_some}
use Rattle.std.specs.List.{list_all}
use Rattle.std.specs.Option.{IfSome}
use Rattle.std.proofs.lemmas.List.Elements.{All-head, All-tail, All-weaker}
use Rattle.std.proofs.lemmas.List.Folds.{list_all-append}
use Rattle.z80_instr.specs.declared.Branch.{Branch}
use Rattle.z80_instr.specs.declared.Instr.{Instr}
use Rattle.z80_instr.specs.declared.ShortCond.{ShortCond}
use Rattle.z80_form.specs.declared.field.Field.{Field}
use Rattle.z80_form.specs.Numbers.{allows}
use Rattle.zmo_object.specs.declared.module.hole.Width.{Width}
use Rattle.zmo_object.specs.Holes.{ends_in_byte}
use Rattle.common.specs.Results.{◌>>=◌}
use Rattle.asm_parse.specs.declared.fault.ExprFault.{ExprFault}
use Rattle.asm_parse.specs.declared.item.Item.{Item}
use Rattle.asm_parse.specs.declared.operator.Binary.{Binary}
use Rattle.asm_parse.specs.Expression as expression
use Rattle.asm_parse.specs.Expression.{Infix, Leaf, Prefix, postfix}
use Rattle.asm_parse.specs.Source.{Operand, Number, Name, Here}
use Rattle.asm_expr.specs.declared.answer.Settled.{Settled}
use Rattle.asm_expr.specs.declared.here.Offset.{Offset}
use Rattle.asm_expr.specs.declared.meaning.Meaning.{Meaning}
use Rattle.asm_expr.specs.Names.{Table, found}
use Rattle.asm_expr.specs.Offsets.{offset_after_here, offset}
use Rattle.asm_expr.specs.Origins.{is_number_item, is_number_name, is_value, is_valued_item, is_valued_name}
use Rattle.asm_expr.specs.Below.{source_tree}
use Rattle.asm_expr.specs.Settling.{fault, is_constant_item, is_constant_name, is_known, replaced, settled, worth}
use Rattle.asm_expr.proofs.Anywhere.{number, of_infix}
use Rattle.asm_spell.specs.declared.fault.StmtFault.{StmtFault}
use Rattle.asm_spell.specs.Faults.{each}
use Rattle.asm_spell.specs.Line as line
use Rattle.asm_spell.specs.Line.{Body, ExpressionItems, Value}
use Rattle.asm_stmt.specs.declared.cell.Cell.{Cell}
use Rattle.asm_stmt.specs.declared.cell.Filling.{Filling}
use Rattle.asm_stmt.specs.Cells.{all_filled, bytes, holes, is_filled}
use Rattle.asm_stmt.specs.Fields as field
use Rattle.asm_stmt.specs.Fields.{byte, byte_by, distance_or, field_filling, fixed, fixed_by, from_end, settled_in, word_filling, word_filling_by}
use Rattle.asm_stmt.specs.Made as made
use Rattle.asm_stmt.specs.Made.{AreDefined, Fillings, IsDefined, Made, Piece, Unknown, ValueDefined, items_made, code, coded, fillings, jump_by, cells_made, long_jump, number_filled, number_in, ref_of, short_by, space_of_size, space_fill, text_cell, value_cells, word_cells}
use Rattle.asm_stmt.proofs.Making.{as_stmt_ok, bind_ok, chosen_ok, each_holds, flat, origin_nothing, space_made}
use Rattle.asm_module.proofs.Layouts.Sizing.{ConstantsAreNumbers, NumbersSettle, both_pass, source_passes, space_number}

-- If each name has a value, so has each expression.
abbrev pub ValuesSettle : Table → Type 0
ValuesSettle t = (e : expression.Expression Operand) → list_all (is_valued_item t) (postfix e) ≡ true → (s : Settled) → settled t e ≡ Ok s → is_value s ≡ true

abbrev pub NamesHaveValues : Table → Type 0
NamesHaveValues t = (name : List ℕ) (what : Meaning) → found t name ≡ Some what → is_valued_name (Some what) ≡ true

-- a name that has a value and is constant is a number
number_name : (m : Option Meaning) → is_valued_name m ≡ true → is_constant_name m ≡ true → is_number_name m ≡ true
number_name None valued constant = absurd cc
number_name (Some (Meaning.Label s)) valued constant = absurd cc
number_name (Some (Meaning.External r)) valued constant = absurd cc
number_name (Some (Meaning.Constant n)) valued constant = refl
number_name (Some Meaning.UnknownConstant) valued constant = absurd cc
number_name (Some (Meaning.Equ equated)) valued constant = absurd cc
number_name (Some Meaning.Faulty) valued constant = absurd cc

number_item : (t : Table) (i : Item Operand) → is_valued_item t i ≡ true → is_constant_item t i ≡ true → is_number_item t i ≡ true
number_item t (Item.Leaf (Number n)) valued constant = refl
number_item t (Item.Leaf Here) valued constant = absurd cc
number_item t (Item.Leaf (Name name)) valued constant = number_name (found t name) valued constant
number_item t (Item.Unary op) valued constant = refl
number_item t (Item.Binary op) valued constant = refl

-- Fields.
byte_told : (s : Settled) (f : Filling) → is_value s ≡ true → byte s ≡ Ok f → is_filled f ≡ true
byte_told (Settled.Unknown what) f value is = absurd cc
byte_told (Settled.Known items) f value is = by (field.number items) is
  where
    by : (o : Option ℕ) → byte_by o items ≡ Ok f → is_filled f ≡ true
    by (Some n) is = ap is_filled (sym (chosen_ok (allows Field.Byte n) (Filling.Number n) f StmtFault.ByteRange is).1)
    by None is = ap is_filled (sym (chosen_ok (ends_in_byte items) (Filling.Varying items) f StmtFault.NeedsLowOrHigh is).1)

word_told : (s : Settled) → is_value s ≡ true → is_filled (word_filling s) ≡ true
word_told (Settled.Unknown what) value = absurd cc
word_told (Settled.Known items) value = by (field.number items)
  where
    by : (o : Option ℕ) → is_filled (word_filling_by o items) ≡ true
    by (Some n) = refl
    by None = refl

fixed_number : (kind : Field) (s : Settled) (f : Filling) → is_value s ≡ true → fixed kind s ≡ Ok f → (n : ℕ) × (Filling.Number n ≡ f)
fixed_number kind (Settled.Unknown what) f value is = absurd cc
fixed_number kind (Settled.Known items) f value is = by (field.number items) is
  where
    by : (o : Option ℕ) → fixed_by kind o ≡ Ok f → (n : ℕ) × (Filling.Number n ≡ f)
    by (Some n) is = (n, (chosen_ok (allows kind n) (Filling.Number n) f StmtFault.ByteRange is).1)
    by None is = absurd cc

fixed_told : (kind : Field) (s : Settled) (f : Filling) → is_value s ≡ true → fixed kind s ≡ Ok f → is_filled f ≡ true
fixed_told kind s f value is = ap is_filled (sym (fixed_number kind s f value is).1)

distance_told : (o : Offset) (f : Option ExprFault) (x : Filling) → (o ≡ Offset.Unknown → ⊥) → distance_or f o ≡ Ok x → is_filled x ≡ true
distance_told Offset.Other f x known is = absurd cc
distance_told (Offset.Number n) (Some why) x known is = absurd cc
distance_told (Offset.Number n) None x known is = ap is_filled (sym (chosen_ok (allows Field.Distance (from_end n)) (Filling.Number (from_end n)) x StmtFault.ByteRange is).1)
distance_told Offset.Unknown f x known is = absurd (known refl)
distance_told Offset.NotConstant (Some why) x known is = absurd cc
distance_told Offset.NotConstant None x known is = absurd cc

module _ (t : Table) where
  -- what is added to or subtracted from `$` is a number if it is constant
  behind_known : (op : Binary) (b : expression.Expression Operand) → list_all (is_valued_item t) (postfix b) ≡ true
      → (constant : Bool) → list_all (is_constant_item t) (postfix b) ≡ constant → cond constant (offset_after_here op (worth t (replaced t b))) Offset.NotConstant ≡ Offset.Unknown → ⊥
  behind_known op b valued false varies is = cc
  behind_known op b valued true constant is =
      let n = number t b (both_pass (is_valued_item t) (is_constant_item t) (is_number_item t) (number_item t) (postfix b) valued constant) in
      let told : Offset.Number _ ≡ Offset.Unknown = sym (ap (offset_after_here op) n.1) ∙ is in
      cc

  offset_known : (e : expression.Expression Operand) → list_all (is_valued_item t) (postfix e) ≡ true → offset t e ≡ Offset.Unknown → ⊥
  offset_known (Leaf Here) valued is = cc
  offset_known (Leaf (Number n)) valued is = cc
  offset_known (Leaf (Name name)) valued is = cc
  offset_known (Prefix op a) valued is = cc
  offset_known (Infix Binary.Add (Leaf Here) b) valued is =
      behind_known Binary.Add b (of_infix (is_valued_item t) Binary.Add (Leaf Here) b valued).1 (list_all (is_constant_item t) (postfix b)) refl is
  offset_known (Infix Binary.Subtract (Leaf Here) b) valued is =
      behind_known Binary.Subtract b (of_infix (is_valued_item t) Binary.Subtract (Leaf Here) b valued).1 (list_all (is_constant_item t) (postfix b)) refl is
  offset_known (Infix op a b) valued is = cc

module _ (settle : NumbersSettle) (t : Table) (settles : ValuesSettle t) (values : NamesHaveValues t) where
  valued_item : (i : Item Operand) → is_known t i ≡ true → is_valued_item t i ≡ true
  valued_item (Item.Leaf (Number n)) known = refl
  valued_item (Item.Leaf Here) known = refl
  valued_item (Item.Leaf (Name name)) known = by (found t name) refl known
    where
      by : (m : Option Meaning) → found t name ≡ m → is_some m ≡ true → is_valued_name m ≡ true
      by None is known = absurd cc
      by (Some what) is known = values name what is
  valued_item (Item.Unary op) known = refl
  valued_item (Item.Binary op) known = refl

  valued : (e : ExpressionItems) → IsDefined t e → list_all (is_valued_item t) (postfix (source_tree e)) ≡ true
  valued e known = source_passes (is_valued_item t) refl e (All-weaker (λ i. is_known t i ≡ true) (λ i. is_valued_item t i ≡ true) valued_item e known)

  value_in : (e : ExpressionItems) → IsDefined t e → (s : Settled) → settled_in t e ≡ Ok s → is_value s ≡ true
  value_in e known s is = settles (source_tree e) (valued e known) s (as_stmt_ok (settled t (source_tree e)) s is)

  numbers : ConstantsAreNumbers t
  numbers name what is constant = number_name (Some what) (values name what is) constant

  fixed_in : (kind : Field) (e : ExpressionItems) (f : Filling) → IsDefined t e → (settled_in t e >>= fixed kind) ≡ Ok f → (n : ℕ) × (Filling.Number n ≡ f)
  fixed_in kind e f known is =
      let s = bind_ok (settled_in t e) (fixed kind) f is in
      fixed_number kind s.0 f (value_in e known s.0 s.1) s.2

  filled_told : (kind : Field) (e : ExpressionItems) (f : Filling) → IsDefined t e → field_filling t kind e ≡ Ok f → is_filled f ≡ true
  filled_told Field.Distance e f known is = distance_told (offset t (source_tree e)) (fault t (source_tree e)) f (offset_known t (source_tree e) (valued e known)) is
  filled_told Field.Byte e f known is =
      let s = bind_ok (settled_in t e) byte f is in
      byte_told s.0 f (value_in e known s.0 s.1) s.2
  filled_told Field.Word e f known is =
      let s = bind_ok (settled_in t e) (λ s. Ok (word_filling s)) f is in
      let same : word_filling s.0 ≡ f = (let r = s.2 in cc) in
      ap is_filled (sym same) ∙ word_told s.0 (value_in e known s.0 s.1)
  filled_told Field.Displacement e f known is = ap is_filled (sym (fixed_in Field.Displacement e f known is).1)
  filled_told Field.Bit e f known is = ap is_filled (sym (fixed_in Field.Bit e f known is).1)
  filled_told Field.Mode e f known is = ap is_filled (sym (fixed_in Field.Mode e f known is).1)
  filled_told Field.Restart e f known is = ap is_filled (sym (fixed_in Field.Restart e f known is).1)

  -- DB and DW.
  cells_told : (width : Width) (kind : Field) (e : ExpressionItems) (cs : List Cell) → IsDefined t e → made.cells t width kind e ≡ Ok cs → all_filled cs ≡ true
  cells_told width kind e cs known is =
      let f = bind_ok (field_filling t kind e) (λ f. Ok ((record { width = width; filling = f }) ∷ [])) cs is in
      let same : (record { width = width; filling = f.0 }) ∷ [] ≡ cs = (let r = f.2 in cc) in
      ap all_filled (sym same) ∙ ap (λ b. b && true) (filled_told kind e f.0 known f.1)

  text_told : (text : List ℕ) → all_filled (map text_cell text) ≡ true
  text_told [] = refl
  text_told (b ∷ text) = text_told text

  value_told : (v : Value) (cs : List Cell) → ValueDefined t v → value_cells t v ≡ Ok cs → all_filled cs ≡ true
  value_told (line.Text text) cs known is = (let same : map text_cell text ≡ cs = cc in ap all_filled (sym same) ∙ text_told text)
  value_told (line.Byte e) cs known is = cells_told Width.Byte Field.Byte e cs known is

  each_told : {A : Type 0} (P : A → Type 0) (read : A → Result (List Cell) StmtFault) → ((x : A) (cs : List Cell) → P x → read x ≡ Ok cs → all_filled cs ≡ true)
      → (xs : List A) (all : List (List Cell)) → All P xs → each read xs ≡ Ok all → all_filled (flat all) ≡ true
  each_told P read one xs all known is =
      each_holds (λ cs ys. All P ys → all_filled cs ≡ true) read (λ _. refl)
      (λ x cs rest ys was so known. list_all-append (λ c. is_filled c.filling) cs rest ∙ ap (λ b. b && all_filled rest) (one x cs (All-head P x ys known) was) ∙ so (All-tail P x ys known)) xs all is known

  laid_told : (b : Bool) (p : Piece) → b ≡ true → cond b (made.Some_piece p) Unknown ≡ Unknown → ⊥
  laid_told true p told is = cc
  laid_told false p told is = cc

  data_known : {A : Type 0} (P : A → Type 0) (read : A → Result (List Cell) StmtFault) → ((x : A) (cs : List Cell) → P x → read x ≡ Ok cs → all_filled cs ≡ true)
      → (xs : List A) → All P xs → items_made (each read xs) ≡ Ok Unknown → ⊥
  data_known P read one xs known is =
      let all = bind_ok (each read xs) _ Unknown is in
      let whole : cells_made (flat all.0) ≡ Unknown = (let r = all.2 in cc) in
      laid_told (all_filled (flat all.0)) (made.Bytes (bytes (flat all.0)) (holes 0 (flat all.0))) (each_told P read one xs all.0 known all.1) whole

  -- Instructions.
  code_known : (instr : Instr) (ns : List (Field × ExpressionItems)) → All (λ n. IsDefined t n.1) ns → code t instr ns ≡ Ok Unknown → ⊥
  code_known instr ns known is =
      let read = bind_ok (fillings t ns) (λ read. Ok (coded instr read)) Unknown is in
      let whole : coded instr read.0 ≡ Unknown = (let r = read.2 in cc) in
      laid_told (list_all (λ n. is_filled n.1) read.0) _ (fillings_told ns known read.0 read.1) whole
    where
      fillings_told : (ms : List (Field × ExpressionItems)) → All (λ n. IsDefined t n.1) ms → (read : Fillings) → fillings t ms ≡ Ok read → list_all (λ n. is_filled n.1) read ≡ true
      fillings_told [] known read is = (let same : [] ≡ read = cc in ap (list_all (λ n. is_filled n.1)) (sym same))
      fillings_told (m ∷ ms) known read is =
          let first = bind_ok (number_filled t m) _ read is in
          let rest = bind_ok (each (number_filled t) ms) _ read first.2 in
          let f = bind_ok (field_filling t m.0 m.1) (λ f. Ok (m.0, f)) first.0 first.1 in
          let pair : (m.0, f.0) ≡ first.0 = (let r = f.2 in cc) in
          let same : first.0 ∷ rest.0 ≡ read = (let r = rest.2 in cc) in
          ap (list_all (λ n. is_filled n.1)) (sym same)
          ∙ ap (λ b. b && list_all (λ n. is_filled n.1) rest.0) (ap (λ (n : Field × Filling). is_filled n.1) (sym pair) ∙ filled_told m.0 m.1 f.0 (All-head (λ n. IsDefined t n.1) m ms known) f.1)
          ∙ fillings_told ms (All-tail (λ n. IsDefined t n.1) m ms known) rest.0 rest.1

  -- Jumps.
  jump_known : (condition : Option ShortCond) (target : List ℕ) → (o : Option ℕ) → (found t target ≡ None → ⊥) → jump_by o t condition target ≡ Ok Unknown → ⊥
  jump_known condition target (Some r) known is = cc
  jump_known condition target None known is =
      code_known (long_jump condition 0) ((Field.Word, Item.Leaf (Name target) ∷ []) ∷ []) (λ i d lt. one i d lt) is
    where
      there : (m : Option Meaning) → found t target ≡ m → is_some m ≡ true
      there None is = absurd (known is)
      there (Some what) is = refl

      of_one : IsDefined t (Item.Leaf (Name target) ∷ [])
      of_one = λ i d lt. by i d lt
        where
          by : (i : ℕ) (d : Item Operand) → i < 1 → is_known t (slice_index_or (Item.Leaf (Name target) ∷ []) i d) ≡ true
          by zero d lt = there (found t target) refl
          by (suc i) d lt = absurd (omega (arith, lt))

      one : (i : ℕ) (d : Field × ExpressionItems) → i < 1 → IsDefined t (slice_index_or ((Field.Word, Item.Leaf (Name target) ∷ []) ∷ []) i d).1
      one zero d lt = of_one
      one (suc i) d lt = absurd (omega (arith, lt))

  short_known : (o : Option ℕ) (branch : Branch) → short_by o branch ≡ Ok Unknown → ⊥
  short_known (Some r) branch is = cc
  short_known None branch is = cc

  -- DS.
  fill_number : (fill : Option ExpressionItems) → IfSome fill (IsDefined t) → (f : Filling) → space_fill t fill ≡ Ok f → (n : ℕ) × (Filling.Number n ≡ f)
  fill_number None known f is = (0, (let same : Filling.Number 0 ≡ f = cc in same))
  fill_number (Some e) known f is = fixed_in Field.Byte e f known is

  sized_known : (o : Option ℕ) (f : Filling) (n k : ℕ) → o ≡ Some n → Filling.Number k ≡ f → space_of_size o f ≡ Unknown → ⊥
  sized_known o f n k size fill is = by n (ap (λ x. space_of_size x f) (sym size) ∙ is)
    where
      filled_by : (m : ℕ) → space_of_size (Some (suc m)) f ≡ space_of_size (Some (suc m)) (Filling.Number k)
      filled_by m = ap (λ x. space_of_size (Some (suc m)) x) (sym fill)

      by : (m : ℕ) → space_of_size (Some m) f ≡ Unknown → ⊥
      by zero is = cc
      by (suc m) is = (let bad : space_of_size (Some (suc m)) (Filling.Number k) ≡ Unknown = sym (filled_by m) ∙ is in cc)

  pub made_known : (body : Body) → AreDefined t body → made.made t body ≡ Ok Unknown → ⊥
  made_known (line.Code instr ns) known is = code_known instr ns known is
  made_known (line.Jump condition target) known is = jump_known condition target (ref_of (found t target)) known is
  made_known (line.Short branch target) known is = short_known (ref_of (found t target)) branch is
  made_known (line.Bytes items) known is = data_known (ValueDefined t) (value_cells t) value_told items known is
  made_known (line.Words fields) known is = data_known (IsDefined t) (word_cells t) (λ e cs defined. cells_told Width.Word Field.Word e cs defined) fields known is
  made_known (line.Space size fill) known is =
      let space = space_made t size fill Unknown is in
      let n = space_number settle t numbers size known.0 space.settled space.size in
      let k = fill_number fill known.1 space.filling space.fill in
      sized_known (number_in space.settled) space.filling n.0 k.0 n.1 k.1 space.is
  made_known (line.Origin e) known is = (let nothing = origin_nothing t e Unknown is in cc)
  made_known (line.Public list) known is = cc
  made_known (line.External list) known is = cc
  made_known (line.End entry) known is = cc
  made_known line.Z80 known is = cc
