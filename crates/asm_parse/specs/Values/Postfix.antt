-- The expression that items in postfix order make.
use Rattle.std.specs.Prelude.{◌++◌, List, [], ◌∷◌, Option, Some, None}
use Rattle.asm_parse.specs.Types.{Item, Atom}
use Rattle.asm_parse.specs.Expression.{Expression, Leaf, Prefix, Infix, postfix, and_then}
use Rattle.asm_parse.specs.Source.{Operand, Here}

-- Reads one item after some expressions; the last expression is first in the list. An operator takes its operands from them; None
-- if one is lacking.
abbrev pub put : {L : Type 0} → Item L → List (Expression L) → Option (List (Expression L))
put (Item.Leaf l) before = Some (Leaf l ∷ before)
put (Item.Unary op) (a ∷ before) = Some (Prefix op a ∷ before)
put (Item.Binary op) (b ∷ a ∷ before) = Some (Infix op a b ∷ before)
put _ _ = None

-- the expressions that are there after these items, if `before` are there before them
abbrev pub run : {L : Type 0} → List (Item L) → List (Expression L) → Option (List (Expression L))
run [] before = Some before
run (item ∷ items) before = and_then (put item before) (λ now. run items now)

-- the items of expressions one after the other; the last expression is first in the list
abbrev pub spread : {L : Type 0} → List (Expression L) → List (Item L)
spread [] = []
spread (e ∷ before) = spread before ++ postfix e

-- the one expression that is left; this leaf if there is not exactly one
abbrev pub only : {L : Type 0} → L → Option (List (Expression L)) → Expression L
only other (Some (e ∷ [])) = e
only other _ = Leaf other

-- the expression of an object file that has these items in postfix order
abbrev pub tree : List (Item Atom) → Expression Atom
tree items = only (Atom.Number 0) (run items [])

-- the expression of a source that has these items in postfix order
abbrev pub source_tree : List (Item Operand) → Expression Operand
source_tree items = only Here (run items [])
