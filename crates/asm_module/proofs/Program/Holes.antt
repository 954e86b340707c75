-- The fix-ups of fields that are put one after the other.
use Rattle.std.proofs.Common.{◌≡◌, ℕ, ◌+◌, List, [], ◌∷◌, ◌++◌, length, take, drop, refl, sym, ap, ◌∙◌, arith, append_assoc, length-append}
use Rattle.std.specs.List.{flat_map}
use Rattle.std.proofs.Math.Seq.{take-append_seam, drop-append-add, drop-append_seam}
use Rattle.asm_expr.specs.Below.{value, tree}
use Rattle.asm_stmt.specs.declared.cell.Cell.{Cell}
use Rattle.asm_stmt.specs.declared.cell.Filling.{Filling}
use Rattle.zmo_object.specs.declared.module.hole.Hole.{Hole}
use Rattle.zmo_object.specs.declared.module.hole.Width.{Width}
use Rattle.asm_stmt.specs.Cells.{bytes, hole, holes, number_or_0, written}
use Rattle.zmo_object.specs.Holes.{width_size}
use Rattle.asm_module.specs.Program.Linked.{filled}
use Rattle.asm_module.proofs.Program.Fillings.{worth_at}

pub length-written : (w : Width) (n : ℕ) → length (written w n) ≡ width_size w
length-written Width.Byte n = refl
length-written Width.Word n = refl

pub spliced : (before old new behind : List ℕ) → length new ≡ length old
    → take (length before) (before ++ (old ++ behind)) ++ (new ++ drop (length before + length new) (before ++ (old ++ behind))) ≡ before ++ (new ++ behind)
spliced before old new behind same =
    ap (λ xs. xs ++ (new ++ drop (length before + length new) (before ++ (old ++ behind)))) (take-append_seam before (old ++ behind))
    ∙ ap (λ xs. before ++ (new ++ xs)) (drop-append-add before (old ++ behind) (length new) ∙ ap (λ n. drop n (old ++ behind)) same ∙ drop-append_seam old behind)

-- The fix-up of one field is filled, if the field has one.
pub one_filled : (places : ℕ → ℕ) (before : List ℕ) (w : Width) (f : Filling) (behind : List ℕ) (hs : List Hole)
    → filled places (before ++ (written w (number_or_0 f) ++ behind)) (hole (length before) w f ++ hs) ≡ filled places (before ++ (written w (worth_at places f) ++ behind)) hs
one_filled places before w (Filling.Number n) behind hs = refl
one_filled places before w (Filling.Varying items) behind hs =
    let v = value places (tree items) in
    ap (λ bs. filled places bs hs) (spliced before (written w 0) (written w v) behind (length-written w v ∙ sym (length-written w 0)))
one_filled places before w Filling.Unknown behind hs = refl

-- the bytes of a field at these addresses
abbrev pub cell_at : (ℕ → ℕ) → Cell → List ℕ
cell_at places c = written c.width (worth_at places c.filling)

pub cells_filled : (places : ℕ → ℕ) (before : List ℕ) (cells : List Cell) → filled places (before ++ bytes cells) (holes (length before) cells) ≡ before ++ flat_map (cell_at places) cells
cells_filled places before [] = refl
cells_filled places before (c ∷ cells) =
    let now = cell_at places c in
    let far : length before + width_size c.width ≡ length (before ++ now) = omega (arith, length-append before now, length-written c.width (worth_at places c.filling)) in
    one_filled places before c.width c.filling (bytes cells) (holes (length before + width_size c.width) cells)
    ∙ ap (λ bs. filled places bs (holes (length before + width_size c.width) cells)) (sym (append_assoc before now (bytes cells)))
    ∙ ap (λ n. filled places ((before ++ now) ++ bytes cells) (holes n cells)) far
    ∙ cells_filled places (before ++ now) cells
    ∙ append_assoc before now (flat_map (cell_at places) cells)
