-- Fields and numbers are put in, one after the other.
use Rattle.std.proofs.Common.{◌≡◌, ◌<◌, ℕ, suc, ◌+◌, ◌%◌, slice_index, Bool, true, false, ◌&&◌, List, [], ◌∷◌, ◌++◌, length, map, refl, sym, ap, ◌∙◌, arith, append_assoc, append-nil, length-append}
use Rattle.std.proofs.lemmas.List.Concat.{flat_map-append}
use Rattle.std.proofs.lemmas.List.Folds.{list_all-append}
use Rattle.asm_stmt.specs.declared.cell.Cell.{Cell}
use Rattle.zmo_object.specs.declared.module.hole.Width.{Width}
use Rattle.asm_stmt.specs.Cells.{all_filled, bytes, cell_bytes, hole, holes, is_filled, number_or_0, written}
use Rattle.zmo_object.specs.Holes.{width_size}
use Rattle.asm_stmt.specs.declared.data.Laid.{Laid}
use Rattle.asm_stmt.specs.Private.Laying.{Lays}
use Rattle.asm_stmt.specs.Made.{text_cell}

cell_length : (c : Cell) → length (cell_bytes c) ≡ width_size c.width
cell_length c = elim c.width as (λ w. length (written w (number_or_0 c.filling)) ≡ width_size w) [
  | Width.Byte ↦ refl
  | Width.Word ↦ refl
]

-- the fix-ups of two lists of fields, one list after the other
pub holes-append : (at : ℕ) (xs ys : List Cell) → holes at (xs ++ ys) ≡ holes at xs ++ holes (at + length (bytes xs)) ys
holes-append at [] ys = ap (λ n. holes n ys) (omega arith)
holes-append at (c ∷ cs) ys =
    let behind : (at + width_size c.width) + length (bytes cs) ≡ at + length (cell_bytes c ++ bytes cs) = omega (arith, cell_length c, length-append (cell_bytes c) (bytes cs)) in
    ap (λ hs. hole at c.width c.filling ++ hs) (holes-append (at + width_size c.width) cs ys ∙ ap (λ n. holes (at + width_size c.width) cs ++ holes n ys) behind)
    ∙ sym (append_assoc (hole at c.width c.filling) (holes (at + width_size c.width) cs) _)

pub bytes-append : (xs : List Cell) (c : Cell) → bytes (xs ++ c ∷ []) ≡ bytes xs ++ cell_bytes c
bytes-append xs c = flat_map-append cell_bytes xs (c ∷ []) ∙ ap (λ bs. bytes xs ++ bs) (append-nil (cell_bytes c))

pub hole-append : (xs : List Cell) (c : Cell) → holes 0 (xs ++ c ∷ []) ≡ holes 0 xs ++ hole (length (bytes xs)) c.width c.filling
hole-append xs c =
    let zero : 0 + length (bytes xs) ≡ length (bytes xs) = omega arith in
    holes-append 0 xs (c ∷ []) ∙ ap (λ n. holes 0 xs ++ holes n (c ∷ [])) zero ∙ ap (λ hs. holes 0 xs ++ hs) (append-nil (hole (length (bytes xs)) c.width c.filling))

pub and_true : (b : Bool) → (b && true) ≡ b
and_true true = refl
and_true false = refl

pub told-append : (xs : List Cell) (c : Cell) → all_filled (xs ++ c ∷ []) ≡ (all_filled xs && is_filled c.filling)
told-append xs c = list_all-append (λ d. is_filled d.filling) xs (c ∷ []) ∙ ap (λ b. all_filled xs && b) (and_true (is_filled c.filling))

-- One more field is put in.
pub one_more : (cells : List Cell) (c : Cell) (old new : Laid) → Lays cells old → new.bytes.items ≡ old.bytes.items ++ cell_bytes c
    → new.holes.items ≡ old.holes.items ++ hole (length old.bytes.items) c.width c.filling → new.told ≡ (old.told && is_filled c.filling) → Lays (cells ++ c ∷ []) new
one_more cells c old new l put holed told = record {
  bytes = put ∙ ap (λ bs. bs ++ cell_bytes c) l.bytes ∙ sym (bytes-append cells c);
  holes = holed ∙ ap (λ hs. hs ++ hole (length old.bytes.items) c.width c.filling) l.holes ∙ ap (λ bs. holes 0 cells ++ hole (length bs) c.width c.filling) l.bytes ∙ sym (hole-append cells c);
  told = told ∙ ap (λ b. b && is_filled c.filling) l.told ∙ sym (told-append cells c);
}

-- The bytes of a string.
text_bytes : (text : List ℕ) → ((k : ℕ) → slice_index text k < 256) → bytes (map text_cell text) ≡ text
text_bytes [] small = refl
text_bytes (b ∷ text) small =
    let first : b % 256 ≡ b = omega (arith, small 0) in
    ap (λ n. n ∷ bytes (map text_cell text)) first ∙ ap (λ bs. b ∷ bs) (text_bytes text (λ k. small (suc k)))

text_holes : (at : ℕ) (text : List ℕ) → holes at (map text_cell text) ≡ []
text_holes at [] = refl
text_holes at (b ∷ text) = text_holes (at + 1) text

text_told : (text : List ℕ) → all_filled (map text_cell text) ≡ true
text_told [] = refl
text_told (b ∷ text) = text_told text

pub text_more : (cells : List Cell) (text : List ℕ) (old new : Laid) → ((k : ℕ) → slice_index text k < 256) → Lays cells old → new.bytes.items ≡ old.bytes.items ++ text
    → new.holes ≡ old.holes → new.told ≡ old.told → Lays (cells ++ map text_cell text) new
text_more cells text old new small l put holed told = record {
  bytes = put ∙ ap (λ bs. bs ++ text) l.bytes ∙ ap (λ bs. bytes cells ++ bs) (sym (text_bytes text small)) ∙ sym (flat_map-append cell_bytes cells (map text_cell text));
  holes = ap (λ hs. hs.items) holed ∙ l.holes ∙ sym (holes-append 0 cells (map text_cell text) ∙ ap (λ hs. holes 0 cells ++ hs) (text_holes _ text) ∙ append-nil (holes 0 cells));
  told = told ∙ l.told ∙ sym (list_all-append (λ d. is_filled d.filling) cells (map text_cell text) ∙ ap (λ b. all_filled cells && b) (text_told text) ∙ and_true (all_filled cells));
}
