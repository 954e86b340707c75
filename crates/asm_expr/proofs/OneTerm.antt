-- An expression of one term is settled as what the term stands for.
use Rattle.std.proofs.Common.{◌≡◌, ◌+◌, List, [], ◌∷◌, Option, Some, None, Result, Ok, ap, ℕ}
use Rattle.asm_parse.specs.declared.fault.ExprFault.{ExprFault}
use Rattle.asm_parse.specs.declared.item.Item.{Item}
use Rattle.asm_parse.specs.Expression.{postfix}
use Rattle.asm_parse.specs.Source.{Operand, Number, Name, Here}
use Rattle.asm_expr.specs.declared.answer.Settled.{Settled}
use Rattle.asm_parse.specs.declared.values.atom.Atom.{Atom}
use Rattle.asm_expr.specs.declared.meaning.Meaning.{Meaning}
use Rattle.asm_expr.specs.Alone.{atom_alone, atom_meant, atom_of, atom_number}
use Rattle.asm_expr.specs.Names.{Table, found}
use Rattle.asm_parse.specs.Values.Postfix.{source_tree}
use Rattle.asm_expr.specs.Settling.{divisions_fault, first_of_two, items_known, meant, reduced, settled, settled_as, size_meant, too_large, unknown_of, unless_fault}

-- what is answered for a name that stands for this
abbrev pub answered : Table → Option Meaning → Result Settled ExprFault
answered t m = unless_fault (first_of_two (too_large (0 + size_meant m)) (divisions_fault t (meant m))) (settled_as (items_known (postfix (reduced t (meant m)))) (unknown_of (reduced t (meant m))))

by_meaning : (t : Table) (m : Option Meaning) (a : Atom) → atom_meant m ≡ Some a → answered t m ≡ Ok (Settled.Known (Item.Leaf a ∷ []))
by_meaning t (Some (Meaning.Label r)) a e = let is : Atom.Ref r ≡ a = cc in ap (λ x. Ok (Settled.Known (Item.Leaf x ∷ []))) is
by_meaning t (Some (Meaning.External r)) a e = let is : Atom.Ref r ≡ a = cc in ap (λ x. Ok (Settled.Known (Item.Leaf x ∷ []))) is
by_meaning t (Some (Meaning.Constant n)) a e = let is : Atom.Number n ≡ a = cc in ap (λ x. Ok (Settled.Known (Item.Leaf x ∷ []))) is
by_meaning t (Some Meaning.UnknownConstant) a e = absurd cc
by_meaning t (Some (Meaning.Equ equated)) a e = absurd cc
by_meaning t (Some Meaning.Faulty) a e = absurd cc
by_meaning t None a e = absurd cc

by_operand : (t : Table) (o : Operand) (a : Atom) → atom_of t o ≡ Some a → settled t (source_tree (Item.Leaf o ∷ [])) ≡ Ok (Settled.Known (Item.Leaf a ∷ []))
by_operand t (Number n) a e = let is : Atom.Number n ≡ a = cc in ap (λ x. Ok (Settled.Known (Item.Leaf x ∷ []))) is
by_operand t (Name name) a e = by_meaning t (found t name) a e
by_operand t Here a e = let is : Atom.Ref t.here ≡ a = cc in ap (λ x. Ok (Settled.Known (Item.Leaf x ∷ []))) is

pub alone_settled : (t : Table) (items : List (Item Operand)) (a : Atom) → atom_alone t items ≡ Some a → settled t (source_tree items) ≡ Ok (Settled.Known (Item.Leaf a ∷ []))
alone_settled t [] a e = absurd cc
alone_settled t (Item.Leaf o ∷ []) a e = by_operand t o a e
alone_settled t (Item.Leaf o ∷ x ∷ xs) a e = absurd cc
alone_settled t (Item.Unary op ∷ xs) a e = absurd cc
alone_settled t (Item.Binary op ∷ xs) a e = absurd cc

number_is : (o : Option Atom) (n : ℕ) → atom_number o ≡ Some n → o ≡ Some (Atom.Number n)
number_is (Some (Atom.Number m)) n e = let is : m ≡ n = cc in ap (λ x. Some (Atom.Number x)) is
number_is (Some (Atom.Ref r)) n e = absurd cc
number_is None n e = absurd cc

pub number_settled : (t : Table) (items : List (Item Operand)) (n : ℕ) → atom_number (atom_alone t items) ≡ Some n
    → settled t (source_tree items) ≡ Ok (Settled.Known (Item.Leaf (Atom.Number n) ∷ []))
number_settled t items n e = alone_settled t items (Atom.Number n) (number_is (atom_alone t items) n e)
