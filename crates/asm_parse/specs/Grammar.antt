-- Which tokens make which expression, and how deep it is.
-- In words: docs/LANGUAGE.md, section 'Expressions'.
use Rattle.std.specs.Prelude.{◌≡◌, ◌≤◌, ◌<◌, ℕ, ◌+◌, max, List, [], ◌∷◌, ◌++◌, Option, Some, None, Result, Ok, Err, if◌then◌else◌, ◌==◌}
use Rattle.asm_line.specs.declared.token.Kind.{Kind}
use Rattle.asm_line.specs.declared.token.Mark.{Mark}
use Rattle.asm_line.specs.Tokens.{Lexeme}
use Rattle.asm_parse.specs.declared.fault.ExprFault.{ExprFault}
use Rattle.asm_parse.specs.declared.operator.Unary.{Unary}
use Rattle.asm_parse.specs.declared.operator.Binary.{Binary}
use Rattle.asm_parse.specs.declared.item.Item.{Item}
use Rattle.asm_parse.specs.declared.reader.TheConstants.{MOST_OPEN}
use Rattle.asm_parse.specs.declared.sign.Sign.{Sign}
use Rattle.asm_parse.specs.declared.sign.Prefix.{Prefix}
use Rattle.asm_parse.specs.Expression.{Expression, postfix}
use Rattle.asm_parse.specs.Expression as tree
use Rattle.asm_parse.specs.Source.{Operand, Number, Name, Here}
use Rattle.common.specs.Words.{upper, is_reserved}
use Rattle.asm_parse.specs.Words.{sign_of}

-- What a token is in an expression: a term, a sign (an operator or parenthesis), or neither.
pub data GrammarSymbol : Type 0 where
  Term : Operand → GrammarSymbol
  Marked : Sign → GrammarSymbol
  Foreign : GrammarSymbol

-- the byte of a string of one character, given its text with the quotes; a quote in it is doubled
abbrev pub character : List ℕ → Option ℕ
character (q ∷ c ∷ r ∷ []) = Some c
character (q ∷ c ∷ d ∷ r ∷ []) = if c == q then Some c else None
character _ = None

abbrev pub symbol_of_name : Option Sign → List ℕ → GrammarSymbol
symbol_of_name (Some sign) name = Marked sign
symbol_of_name None name = if is_reserved name then Foreign else Term (Name name)

abbrev pub symbol_of_string : Option ℕ → GrammarSymbol
symbol_of_string (Some c) = Term (Number c)
symbol_of_string None = Foreign

abbrev pub symbol_by : Kind → List ℕ → GrammarSymbol
symbol_by Kind.Name text = symbol_of_name (sign_of (upper text)) (upper text)
symbol_by (Kind.Number n) text = Term (Number n)
symbol_by Kind.Quoted text = symbol_of_string (character text)
symbol_by (Kind.Mark Mark.Dollar) text = Term Here
symbol_by (Kind.Mark Mark.Open) text = Marked Sign.Open
symbol_by (Kind.Mark Mark.Close) text = Marked Sign.Close
symbol_by (Kind.Mark Mark.Plus) text = Marked Sign.Plus
symbol_by (Kind.Mark Mark.Minus) text = Marked Sign.Minus
symbol_by (Kind.Mark Mark.Star) text = Marked Sign.Star
symbol_by (Kind.Mark Mark.Slash) text = Marked Sign.Slash
symbol_by _ text = Foreign

abbrev pub symbol : Lexeme → GrammarSymbol
symbol token = symbol_by token.kind token.text

-- An expression with its parentheses: a term, a phrase in parentheses, or an operator with its operands.
pub data Phrase : Type 0 where
  Single : Operand → Phrase
  Enclosed : Phrase → Phrase
  Prefixed : Prefix → Phrase → Phrase
  Joined : Binary → Phrase → Phrase → Phrase

-- how loosely each operator binds; the smallest number binds most tightly
abbrev pub prefix_level : Prefix → ℕ
prefix_level Prefix.Plus = 1
prefix_level (Prefix.Operator Unary.Negate) = 1
prefix_level (Prefix.Operator Unary.High) = 1
prefix_level (Prefix.Operator Unary.Low) = 1
prefix_level (Prefix.Operator Unary.Not) = 5

abbrev pub infix_level : Binary → ℕ
infix_level Binary.Multiply = 2
infix_level Binary.Divide = 2
infix_level Binary.Modulo = 2
infix_level Binary.ShiftLeft = 2
infix_level Binary.ShiftRight = 2
infix_level Binary.Add = 3
infix_level Binary.Subtract = 3
infix_level Binary.Equal = 4
infix_level Binary.NotEqual = 4
infix_level Binary.Less = 4
infix_level Binary.LessOrEqual = 4
infix_level Binary.Greater = 4
infix_level Binary.GreaterOrEqual = 4
infix_level Binary.And = 6
infix_level Binary.Or = 7
infix_level Binary.Xor = 7

abbrev pub looseness : Phrase → ℕ
looseness (Single t) = 0
looseness (Enclosed a) = 0
looseness (Prefixed p a) = prefix_level p
looseness (Joined o a b) = infix_level o

-- Operands bind at least as tightly as their operator. The right operand of an infix operator binds more tightly, so operators of
-- equal precedence group to the left.
abbrev pub IsGrouped : Phrase → Type 0
IsGrouped (Single t) = Unit {0}
IsGrouped (Enclosed a) = IsGrouped a
IsGrouped (Prefixed p a) = (looseness a ≤ prefix_level p) × IsGrouped a
IsGrouped (Joined o a b) = (looseness a ≤ infix_level o) × (looseness b < infix_level o) × IsGrouped a × IsGrouped b

abbrev pub prefix_sign : Prefix → Sign
prefix_sign Prefix.Plus = Sign.Plus
prefix_sign (Prefix.Operator Unary.Negate) = Sign.Minus
prefix_sign (Prefix.Operator Unary.High) = Sign.High
prefix_sign (Prefix.Operator Unary.Low) = Sign.Low
prefix_sign (Prefix.Operator Unary.Not) = Sign.Not

abbrev pub infix_sign : Binary → Sign
infix_sign Binary.Add = Sign.Plus
infix_sign Binary.Subtract = Sign.Minus
infix_sign Binary.Multiply = Sign.Star
infix_sign Binary.Divide = Sign.Slash
infix_sign Binary.Modulo = Sign.Mod
infix_sign Binary.ShiftLeft = Sign.Shl
infix_sign Binary.ShiftRight = Sign.Shr
infix_sign Binary.And = Sign.And
infix_sign Binary.Or = Sign.Or
infix_sign Binary.Xor = Sign.Xor
infix_sign Binary.Equal = Sign.Eq
infix_sign Binary.NotEqual = Sign.Ne
infix_sign Binary.Less = Sign.Lt
infix_sign Binary.LessOrEqual = Sign.Le
infix_sign Binary.Greater = Sign.Gt
infix_sign Binary.GreaterOrEqual = Sign.Ge

abbrev pub spelling : Phrase → List GrammarSymbol
spelling (Single t) = Term t ∷ []
spelling (Enclosed a) = Marked Sign.Open ∷ spelling a ++ Marked Sign.Close ∷ []
spelling (Prefixed p a) = Marked (prefix_sign p) ∷ spelling a
spelling (Joined o a b) = spelling a ++ Marked (infix_sign o) ∷ spelling b

-- the most parentheses and prefix operators that are open at one point
abbrev pub depth : Phrase → ℕ
depth (Single t) = 0
depth (Enclosed a) = depth a + 1
depth (Prefixed p a) = depth a + 1
depth (Joined o a b) = max (depth a) (depth b)

-- an expression after a prefix operator; a prefix `+` has no effect
abbrev pub under : Prefix → Expression Operand → Expression Operand
under Prefix.Plus e = e
under (Prefix.Operator op) e = tree.Prefix op e

abbrev pub expression : Phrase → Expression Operand
expression (Single t) = tree.Leaf t
expression (Enclosed a) = expression a
expression (Prefixed p a) = under p (expression a)
expression (Joined o a b) = tree.Infix o (expression a) (expression b)

-- The symbols are those of this phrase, and the phrase is grouped as precedence demands.
pub record SpellsPhrase (symbols : List GrammarSymbol) (phrase : Phrase) : Type 0 where
  pub grouped : IsGrouped phrase
  pub spelled : symbols ≡ spelling phrase

-- What the code answers for symbols: the items of their expression, if it is not too deep; `TooDeep` if it is; `Syntax` if they
-- make none; or that memory ran out.
abbrev pub IsParsed : List GrammarSymbol → Result (List (Item Operand)) ExprFault → Type 0
IsParsed symbols (Ok items) = (phrase : Phrase) × SpellsPhrase symbols phrase × (depth phrase ≤ MOST_OPEN) × (items ≡ postfix (expression phrase))
IsParsed symbols (Err ExprFault.Syntax) = (phrase : Phrase) → SpellsPhrase symbols phrase → ⊥
IsParsed symbols (Err ExprFault.TooDeep) = (phrase : Phrase) × SpellsPhrase symbols phrase × (MOST_OPEN < depth phrase)
IsParsed symbols (Err ExprFault.NoMemory) = Unit {0}
IsParsed symbols (Err _) = ⊥
