-- Fix-ups that are filled one after the other.
use Rattle.std.proofs.Common.{◌≡◌, ℕ, zero, suc, ◌+◌, ◌<◌, ◌≤◌, List, [], ◌∷◌, ◌++◌, length, take, drop, get_or, refl, sym, ap, subst, ◌∙◌, arith, length-append, length-drop}
use Rattle.std.proofs.lemmas.List.{length-take, take_more}
use Rattle.asm_parse.specs.Values.Items.{value}
use Rattle.asm_parse.specs.Values.Postfix.{tree}
use Rattle.zmo_object.specs.declared.module.hole.Hole.{Hole}
use Rattle.asm_stmt.specs.Cells.{written}
use Rattle.zmo_object.specs.Holes.{LieWithin, width_size}
use Rattle.asm_module.specs.Program.Linked.{fill_one, filled}
use Rattle.asm_module.proofs.Program.Holes.{length-written}

ends-within : (from count : ℕ) (hs : List Hole) (k : ℕ) (d : Hole) → LieWithin from count hs → k < length hs → (get_or hs k d).offset + width_size (get_or hs k d).width ≤ count
ends-within from count [] k d within lt = absurd (omega arith)
ends-within from count (h ∷ hs) zero d within lt = within.1
ends-within from count (h ∷ hs) (suc k) d within lt = ends-within (h.offset + width_size h.width) count hs k d within.2 (omega arith)

-- each fix-up ends within the bytes
pub hole-within : (count : ℕ) (hs : List Hole) (k : ℕ) (h : Hole) → k < length hs → h ≡ get_or hs k h → LieWithin 0 count hs → h.offset + width_size h.width ≤ count
hole-within count hs k h lt is within = subst (λ x. x.offset + width_size x.width ≤ count) (sym is) (ends-within 0 count hs k h within lt)

filled-append : (places : ℕ → ℕ) (bytes : List ℕ) (hs : List Hole) (h : Hole) → filled places bytes (hs ++ h ∷ []) ≡ fill_one places (filled places bytes hs) h
filled-append places bytes [] h = refl
filled-append places bytes (x ∷ hs) h = filled-append places (fill_one places bytes x) hs h

-- one more fix-up is filled
pub filled-more : (places : ℕ → ℕ) (old now next : List ℕ) (hs : List Hole) (k : ℕ) (h : Hole) → k < length hs → h ≡ get_or hs k h → now ≡ filled places old (take k hs) → next ≡ fill_one places now h
    → next ≡ filled places old (take (k + 1) hs)
filled-more places old now next hs k h lt is before more =
    let last : take k hs ++ get_or hs k h ∷ [] ≡ take k hs ++ h ∷ [] = ap (λ x. take k hs ++ x ∷ []) (sym is) in
    more ∙ ap (λ bs. fill_one places bs h) before ∙ sym (filled-append places old (take k hs) h) ∙ ap (filled places old) (sym last) ∙ ap (filled places old) (sym (take_more hs k h lt))

-- filling a fix-up does not change how many bytes there are
pub length-fill_one : (places : ℕ → ℕ) (bytes : List ℕ) (h : Hole) → h.offset + width_size h.width ≤ length bytes → length (fill_one places bytes h) ≡ length bytes
length-fill_one places bytes h within =
    let new = written h.width (value places (tree h.value)) in
    omega (
      arith,
      length-written h.width (value places (tree h.value)),
      length-append (take h.offset bytes) (new ++ drop (h.offset + length new) bytes),
      length-append new (drop (h.offset + length new) bytes),
      length-take h.offset bytes,
      length-drop (h.offset + length new) bytes,
    )
