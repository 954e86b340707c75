-- The stacks of the code that reads symbols.
use Rattle.std.specs.Prelude.{◌≡◌, ◌-◌, ℕ, ◌+◌, max, Bool, List, [], ◌∷◌, ◌++◌, Option, Some, None, Result, Ok, Err, length, slice_get, is_some}
use Rattle.asm_parse.specs.declared.fault.ExprFault.{ExprFault}
use Rattle.asm_parse.specs.declared.item.Item.{Item}
use Rattle.asm_parse.specs.declared.sign.Prefix.{Prefix}
use Rattle.asm_parse.specs.declared.reader.Part.{Part}
use Rattle.asm_parse.specs.declared.reader.Operator.{Operator}
use Rattle.asm_parse.specs.declared.reader.Pending.{Pending}
use Rattle.asm_parse.specs.Expression.{postfix}
use Rattle.asm_parse.specs.Source.{Operand, Name, operand}
use Rattle.asm_parse.specs.Words.{sign_of}
use Rattle.asm_parse.specs.Grammar.{GrammarSymbol, Term, Marked, Foreign, Phrase, prefix_level, infix_level, depth, expression, symbol_of_name}
use Rattle.asm_parse.specs.Private.Parsing.{Frame, Inside, Under, RightOf, State}

abbrev pub part_symbol : Part → GrammarSymbol
part_symbol (Part.Term t) = Term (operand t)
part_symbol (Part.Sign s) = Marked s
part_symbol Part.Foreign = Foreign

-- a term as a symbol: its name may be an operator, or reserved
abbrev pub named_symbol : Operand → GrammarSymbol
named_symbol (Name name) = symbol_of_name (sign_of name) name
named_symbol other = Term other

abbrev pub level_of : Operator → ℕ
level_of Operator.Inside = 8
level_of (Operator.Under p) = prefix_level p
level_of (Operator.RightOf o) = infix_level o

abbrev pub open_of : Option Pending → ℕ
open_of (Some p) = p.count
open_of None = 0

abbrev pub open_in : List Pending → ℕ
open_in pending = open_of (slice_get pending (length pending - 1))

abbrev pub operator_of : Frame → Operator
operator_of Inside = Operator.Inside
operator_of (Under p) = Operator.Under p
operator_of (RightOf o a) = Operator.RightOf o

abbrev pub opened : List Frame → ℕ
opened [] = 0
opened (Inside ∷ frames) = opened frames + 1
opened (Under p ∷ frames) = opened frames + 1
opened (RightOf o a ∷ frames) = opened frames

-- the operators of frames, the innermost last
abbrev pub pendings : List Frame → List Pending
pendings [] = []
pendings (f ∷ frames) = pendings frames ++ (record { operator = operator_of f; count = opened (f ∷ frames) }) ∷ []

-- the items of the operands of frames
abbrev pub written : List Frame → List (Item Operand)
written [] = []
written (Inside ∷ frames) = written frames
written (Under p ∷ frames) = written frames
written (RightOf o a ∷ frames) = written frames ++ postfix (expression a)

-- what an operator writes after its operands
abbrev pub closed_by : Prefix → List (Item Operand)
closed_by Prefix.Plus = []
closed_by (Prefix.Operator op) = Item.Unary op ∷ []

abbrev pub closed_item : Operator → List (Item Operand)
closed_item Operator.Inside = []
closed_item (Operator.Under p) = closed_by p
closed_item (Operator.RightOf o) = Item.Binary o ∷ []

-- how deep the whole phrase is, if the operand that is read next has depth d
abbrev pub depth_around : List Frame → ℕ → ℕ
depth_around [] d = d
depth_around (Inside ∷ frames) d = depth_around frames (d + 1)
depth_around (Under p ∷ frames) d = depth_around frames (d + 1)
depth_around (RightOf o a ∷ frames) d = depth_around frames (max (depth a) d)

abbrev pub depth_of : Option Phrase → ℕ
depth_of None = 0
depth_of (Some a) = depth a

abbrev pub items_of : Option Phrase → List (Item Operand)
items_of None = []
items_of (Some a) = postfix (expression a)

-- The state of the code: the operators that wait, the items that are written, how deep the expression is so far, and whether an
-- operand is complete.
pub record Holds (state : State) (pending : List Pending) (items : List (Item Operand)) (deepest : ℕ) (complete : Bool) : Type 0 where
  pub waiting : pending ≡ pendings state.frames
  pub writing : items ≡ written state.frames ++ items_of state.operand
  pub deep : deepest ≡ depth_around state.frames (depth_of state.operand)
  pub whole : complete ≡ is_some state.operand

-- What a step answers.
abbrev pub Answers : Option State → {A : Type 0} → Result A ExprFault → List Pending → List (Item Operand) → ℕ → Bool → Type 0
Answers (Some state) (Ok x) pending items deepest complete = Holds state pending items deepest complete
Answers None (Ok x) pending items deepest complete = ⊥
Answers None (Err ExprFault.Syntax) pending items deepest complete = Unit {0}
Answers _ (Err ExprFault.NoMemory) pending items deepest complete = Unit {0}
Answers _ (Err _) pending items deepest complete = ⊥

-- The stacks hold these frames and then this operand.
abbrev pub IsReduced : List Frame × Phrase → List Pending → List (Item Operand) → Type 0
IsReduced at pending items = (pending ≡ pendings at.0) × (items ≡ written at.0 ++ postfix (expression at.1))
