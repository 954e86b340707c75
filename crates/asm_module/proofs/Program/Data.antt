-- DB and DW: the fields of their items, from left to right.
use Rattle.std.proofs.Common.{◌≡◌, ℕ, ◌+◌, ◌%◌, true, List, [], ◌∷◌, ◌++◌, Result, Ok, length, map, refl, sym, ap, subst, ◌∙◌, arith, length-append}
use Rattle.std.specs.List.{flat_map, sum_by}
use Rattle.std.proofs.lemmas.List.Concat.{flat_map-append}
use Rattle.std.proofs.lemmas.List.Folds.{list_all-append}
use Rattle.std.proofs.lemmas.List.Sums.{sum_by-append}
use Rattle.asm_parse.specs.Expression.{Leaf}
use Rattle.asm_expr.specs.Below.{Atom}
use Rattle.asm_expr.specs.Distances.{Step}
use Rattle.asm_expr.specs.Names.{Table}
use Rattle.asm_expr.proofs.Below.{and_parts}
use Rattle.asm_expr.proofs.Sizes.{sum_by-cons}
use Rattle.z80_form.specs.declared.field.Field.{Field}
use Rattle.asm_spell.specs.declared.fault.StmtFault.{StmtFault}
use Rattle.asm_spell.specs.Faults.{each}
use Rattle.asm_spell.specs.Line as line
use Rattle.asm_stmt.specs.declared.cell.Cell.{Cell}
use Rattle.asm_stmt.specs.declared.cell.Filling.{Filling}
use Rattle.zmo_object.specs.declared.module.hole.Width.{Width}
use Rattle.asm_stmt.specs.Cells.{all_filled, bytes, cell_bytes, holes, is_filled}
use Rattle.asm_stmt.specs.Fields as field
use Rattle.asm_stmt.specs.Made as made
use Rattle.asm_stmt.specs.Made.{Made, Piece, Some_piece, items_made, cells, cells_made, text_cell, value_cells, word_cells}
use Rattle.asm_module.specs.Program.Pieces.{datum_bytes, width}
use Rattle.asm_module.specs.Program.Statement as statement
use Rattle.asm_module.specs.Program.Statement.{Datum, byte_items, word_item, replaced_expression}
use Rattle.asm_stmt.proofs.Making.{bind_ok, data_made, each_holds, flat}
use Rattle.asm_module.proofs.Program.Fillings.{fills}
use Rattle.asm_module.proofs.Program.Holes.{cell_at}

-- If P holds of no items, and of two lists together if it holds of each, and of the fields of each item, then it holds of all.
each_items : {A : Type 0} (P : List Cell → List Datum → Type 0) (read : A → Result (List Cell) StmtFault) (items : A → List Datum) → P [] []
    → ((a b : List Cell) (c d : List Datum) → P a c → P b d → P (a ++ b) (c ++ d)) → ((x : A) (cs : List Cell) → read x ≡ Ok cs → P cs (items x))
    → (xs : List A) (all : List (List Cell)) → each read xs ≡ Ok all → P (flat all) (flat_map items xs)
each_items P read items none more one =
    each_holds (λ cs xs. P cs (flat_map items xs)) read none (λ x cs rest xs is so. more cs rest (items x) (flat_map items xs) (one x cs is) so)

-- If all values are known, the fields have the bytes of the items at these addresses.
abbrev AtPlaces : (ℕ → ℕ) → List Cell → List Datum → Type 0
AtPlaces places cs ds = all_filled cs ≡ true → flat_map (cell_at places) cs ≡ flat_map (datum_bytes places) ds

more_places : (places : ℕ → ℕ) (a b : List Cell) (c d : List Datum) → AtPlaces places a c → AtPlaces places b d → AtPlaces places (a ++ b) (c ++ d)
more_places places a b c d p q told =
    let both = and_parts (all_filled a) (all_filled b) (sym (list_all-append (λ x. is_filled x.filling) a b) ∙ told) in
    flat_map-append (cell_at places) a b ∙ ap (λ xs. xs ++ flat_map (cell_at places) b) (p both.0) ∙ ap (λ xs. flat_map (datum_bytes places) c ++ xs) (q both.1)
    ∙ sym (flat_map-append (datum_bytes places) c d)

-- The fields have as many bytes as the items.
abbrev SameSize : List Cell → List Datum → Type 0
SameSize cs ds = length (bytes cs) ≡ sum_by width ds

more_size : (a b : List Cell) (c d : List Datum) → SameSize a c → SameSize b d → SameSize (a ++ b) (c ++ d)
more_size a b c d p q =
    ap length (flat_map-append cell_bytes a b) ∙ length-append (bytes a) (bytes b) ∙ ap (λ n. n + length (bytes b)) p ∙ ap (λ n. sum_by width c + n) q ∙ sym (sum_by-append width c d)

text_places : (places : ℕ → ℕ) (text : List ℕ) → flat_map (cell_at places) (map text_cell text) ≡ flat_map (datum_bytes places) (map (λ b. statement.Byte (Leaf (Atom.Number b))) text)
text_places places [] = refl
text_places places (b ∷ text) = ap (λ bs. b % 256 ∷ bs) (text_places places text)

text_size : (text : List ℕ) → SameSize (map text_cell text) (map (λ b. statement.Byte (Leaf (Atom.Number b))) text)
text_size [] = refl
text_size (b ∷ text) =
    let datum = λ (n : ℕ). statement.Byte (Leaf (Atom.Number n)) in
    let rest : length (bytes (map text_cell text)) ≡ sum_by width (map datum text) = text_size text in
    omega (arith, rest, sum_by-cons width (datum b) (map datum text))

-- the field of an expression
abbrev cell : Width → Filling → Cell
cell w f = record { width = w; filling = f }

byte_item : (t : Table) (e : line.ExpressionItems) (cs : List Cell) → cells t Width.Byte Field.Byte e ≡ Ok cs → (f : Filling) × (field.field_filling t Field.Byte e ≡ Ok f) × (cell Width.Byte f ∷ [] ≡ cs)
byte_item t e cs is = let b = bind_ok (field.field_filling t Field.Byte e) _ cs is in (b.0, b.1, cc)

word_item_of : (t : Table) (e : line.ExpressionItems) (cs : List Cell) → cells t Width.Word Field.Word e ≡ Ok cs → (f : Filling) × (field.field_filling t Field.Word e ≡ Ok f) × (cell Width.Word f ∷ [] ≡ cs)
word_item_of t e cs is = let b = bind_ok (field.field_filling t Field.Word e) _ cs is in (b.0, b.1, cc)

byte_places : (t : Table) (places : ℕ → ℕ) → Step t.statements places → (v : line.Value) (cs : List Cell) → value_cells t v ≡ Ok cs → AtPlaces places cs (byte_items t v)
byte_places t places step (line.Text text) cs is = let same : map text_cell text ≡ cs = cc in subst (λ xs. AtPlaces places xs (byte_items t (line.Text text))) same (λ _. text_places places text)
byte_places t places step (line.Byte e) cs is =
    let c = byte_item t e cs is in
    subst (λ xs. AtPlaces places xs (byte_items t (line.Byte e))) c.2
    (λ told. ap (λ n. n % 256 ∷ []) (fills t places step Field.Byte e c.0 c.1 (and_parts (is_filled c.0) true told).0).worth)

byte_size : (t : Table) (v : line.Value) (cs : List Cell) → value_cells t v ≡ Ok cs → SameSize cs (byte_items t v)
byte_size t (line.Text text) cs is = let same : map text_cell text ≡ cs = cc in subst (λ xs. SameSize xs (byte_items t (line.Text text))) same (text_size text)
byte_size t (line.Byte e) cs is = let c = byte_item t e cs is in subst (λ xs. SameSize xs (byte_items t (line.Byte e))) c.2 refl

word_places : (t : Table) (places : ℕ → ℕ) → Step t.statements places → (e : line.ExpressionItems) (cs : List Cell) → word_cells t e ≡ Ok cs → AtPlaces places cs (word_item t e ∷ [])
word_places t places step e cs is =
    let c = word_item_of t e cs is in
    subst (λ xs. AtPlaces places xs (word_item t e ∷ [])) c.2
    (λ told. ap (λ n. datum_bytes places (statement.Word (Leaf (Atom.Number n))) ++ []) (fills t places step Field.Word e c.0 c.1 (and_parts (is_filled c.0) true told).0).worth)

word_size : (t : Table) (e : line.ExpressionItems) (cs : List Cell) → word_cells t e ≡ Ok cs → SameSize cs (word_item t e ∷ [])
word_size t e cs is = let c = word_item_of t e cs is in subst (λ xs. SameSize xs (word_item t e ∷ [])) c.2 refl

pub record Lays (p : Piece) (items : List Datum) (t : Table) : Type 0 where
  pub fields : List Cell
  pub piece : made.Bytes (bytes fields) (holes 0 fields) ≡ p
  pub size : SameSize fields items
  pub places : (places : ℕ → ℕ) → Step t.statements places → flat_map (cell_at places) fields ≡ flat_map (datum_bytes places) items

lays : {A : Type 0} (t : Table) (read : A → Result (List Cell) StmtFault) (items : A → List Datum) → ((x : A) (cs : List Cell) → read x ≡ Ok cs → SameSize cs (items x))
    → ((places : ℕ → ℕ) → Step t.statements places → (x : A) (cs : List Cell) → read x ≡ Ok cs → AtPlaces places cs (items x))
    → (xs : List A) (p : Piece) → items_made (each read xs) ≡ Ok (Some_piece p) → Lays p (flat_map items xs) t
lays t read items sizes worth xs p is =
    let d = data_made read xs p is in
    record {
      fields = flat d.cells;
      piece = d.piece;
      size = each_items SameSize read items refl more_size sizes xs d.cells d.is;
      places = λ places step. each_items (AtPlaces places) read items (λ _. refl) (more_places places) (worth places step) xs d.cells d.is d.told;
    }

pub bytes_lay : (t : Table) (values : List line.Value) (p : Piece) → made.bytes_made t values ≡ Ok (Some_piece p) → Lays p (flat_map (byte_items t) values) t
bytes_lay t values p is = lays t (value_cells t) (byte_items t) (byte_size t) (λ places step. byte_places t places step) values p is

pub words_lay : (t : Table) (fields : List line.ExpressionItems) (p : Piece) → made.words_made t fields ≡ Ok (Some_piece p) → Lays p (flat_map (λ e. word_item t e ∷ []) fields) t
words_lay t fields p is = lays t (word_cells t) (λ e. word_item t e ∷ []) (word_size t) (λ places step. word_places t places step) fields p is
