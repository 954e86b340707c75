-- The object file's items of cells that are being settled, cell by cell.
use Rattle.std.proofs.Common.{◌≡◌, ◌<◌, ◌+◌, ◌++◌, ◌∷◌, [], ℕ, List, Option, Some, None, length, drop, get_or, refl, sym, ap, ◌∙◌, append-nil}
use Rattle.std.proofs.lemmas.List.{append_assoc, at_drop_more}
use Rattle.std.proofs.lemmas.Grind.{flat_map-append}
use Rattle.std.specs.List.{flat_map}
use Rattle.asm_parse.specs.declared.values.kept.Piece.{Piece}
use Rattle.asm_parse.specs.Values.Kept.{items_in}
use Rattle.std.specs.Option.{option_map}
use Rattle.asm_expr.specs.Types.{Item, Atom}
use Rattle.asm_expr.specs.declared.part.Part.{Part}
use Rattle.asm_expr.specs.declared.parts.Cell.{Cell}
use Rattle.asm_parse.specs.Expression.{and_then}
use Rattle.asm_expr.specs.Settling.{item_known, items_known}
use Rattle.asm_expr.specs.Private.Cells.{opened}

same_others : {X : Type 0} (o : Option (List X)) → option_map (λ others. [] ++ others) o ≡ o
same_others None = refl
same_others (Some others) = refl

two_fronts : {X : Type 0} (front added : List X) (o : Option (List X)) → option_map (λ others. front ++ others) (option_map (λ others. added ++ others) o) ≡ option_map (λ others. (front ++ added) ++ others) o
two_fronts front added None = refl
two_fronts front added (Some others) = ap Some (sym (append_assoc front added others))

-- the object file's items of two lists, one after the other
known-append : (xs ys : List (Item Part)) → items_known (xs ++ ys) ≡ and_then (items_known xs) (λ added. option_map (λ others. added ++ others) (items_known ys))
known-append [] ys = sym (same_others (items_known ys))
known-append (x ∷ xs) ys =
    elim (item_known x) as (λ o. and_then o (λ item. option_map (λ others. item ∷ others) (items_known (xs ++ ys)))
    ≡ and_then (and_then o (λ item. option_map (λ others. item ∷ others) (items_known xs))) (λ added. option_map (λ others. added ++ others) (items_known ys))) [
      | None ↦ refl
      | Some y ↦ ap (option_map (λ others. y ∷ others)) (known-append xs ys)
          ∙ elim (items_known xs) as (λ o. option_map (λ others. y ∷ others) (and_then o (λ added. option_map (λ others. added ++ others) (items_known ys)))
          ≡ and_then (option_map (λ others. y ∷ others) o) (λ added. option_map (λ others. added ++ others) (items_known ys))) [
            | None ↦ refl
            | Some added ↦ two_fronts (y ∷ []) added (items_known ys)
          ]
    ]

none_front : (front : List (Item Atom)) (o : Option (List (Item Atom))) → option_map (λ added. front ++ added) o ≡ None → o ≡ None
none_front front None is = refl
none_front front (Some added) is = cc

some_front : (front new : List (Item Atom)) (o : Option (List (Item Atom))) → option_map (λ added. front ++ added) o ≡ Some new → (added : List (Item Atom)) × (o ≡ Some added) × (new ≡ front ++ added)
some_front front new None is = cc
some_front front new (Some added) is = let same : front ++ added ≡ new = cc in (added, refl, sym same)

-- The items of some cells are known and in a list; one more cell is read.
module _ (cells : List Cell) (at : ℕ) (c : Cell) (front : List (Item Atom)) (lt : at < length cells) (read : c ≡ get_or cells at c)
    (before : option_map (λ others. front ++ others) (items_known (flat_map opened (drop at cells))) ≡ items_known (flat_map opened cells)) where
  left_items : items_known (flat_map opened (drop at cells))
      ≡ and_then (items_known (opened c)) (λ added. option_map (λ others. added ++ others) (items_known (flat_map opened (drop (at + 1) cells))))
  left_items =
      at_drop_more (λ cs. items_known (flat_map opened cs)) cells at c lt ∙ ap (λ x. items_known (opened x ++ flat_map opened (drop (at + 1) cells))) (sym read)
      ∙ known-append (opened c) (flat_map opened (drop (at + 1) cells))

  -- Its items are known too,
  pub next_known : (added new : List (Item Atom)) → items_known (opened c) ≡ Some added → new ≡ front ++ added
      → option_map (λ others. new ++ others) (items_known (flat_map opened (drop (at + 1) cells))) ≡ items_known (flat_map opened cells)
  next_known added new is put =
      let rest = items_known (flat_map opened (drop (at + 1) cells)) in
      ap (λ xs. option_map (λ others. xs ++ others) rest) put ∙ sym (two_fronts front added rest)
      ∙ ap (option_map (λ others. front ++ others)) (sym (left_items ∙ ap (λ o. and_then o (λ added. option_map (λ others. added ++ others) rest)) is)) ∙ before

  -- or the items of all cells are not known.
  pub next_lost : items_known (opened c) ≡ None → None ≡ items_known (flat_map opened cells)
  next_lost is =
      let rest = items_known (flat_map opened (drop (at + 1) cells)) in
      ap (option_map (λ others. front ++ others)) (sym (left_items ∙ ap (λ o. and_then o (λ added. option_map (λ others. added ++ others) rest)) is)) ∙ before

  pub next_kept : (new : List (Item Atom)) → option_map (λ added. front ++ added) (items_known (opened c)) ≡ Some new
      → option_map (λ others. new ++ others) (items_known (flat_map opened (drop (at + 1) cells))) ≡ items_known (flat_map opened cells)
  next_kept new is = let one = some_front front new (items_known (opened c)) is in next_known one.0 new one.1 one.2

  pub next_none : option_map (λ added. front ++ added) (items_known (opened c)) ≡ None → None ≡ items_known (flat_map opened cells)
  next_none is = next_lost (none_front front (items_known (opened c)) is)

pub one_more_piece : (pieces : List Piece) (piece : Piece) → flat_map items_in (pieces ++ piece ∷ []) ≡ flat_map items_in pieces ++ items_in piece
one_more_piece pieces piece = flat_map-append items_in pieces (piece ∷ []) ∙ ap (λ xs. flat_map items_in pieces ++ xs) (append-nil (items_in piece))
