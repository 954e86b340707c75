-- The errors of tokens, and what a call answers.
-- In words: docs/LANGUAGE.md, section 'Lines'.
use Rattle.std.specs.Prelude.{◌≡◌, List, [], ◌∷◌, Option, Some, None, Result, Ok, Err}
use Rattle.asm_parse.specs.declared.fault.ExprFault.{ExprFault}
use Rattle.common.specs.Results.{◌>>=◌}
use Rattle.asm_spell.specs.declared.fault.StmtFault.{StmtFault}

-- the error of an operand that is no expression
abbrev pub of_expression : ExprFault → StmtFault
of_expression ExprFault.NoMemory = StmtFault.NoMemory
of_expression why = StmtFault.Expr why

-- These errors can come from tokens alone. The others are errors of names and values.
abbrev pub IsOfTokens : StmtFault → Type 0
IsOfTokens StmtFault.UnknownWord = Unit {0}
IsOfTokens StmtFault.BadOperands = Unit {0}
IsOfTokens StmtFault.ReservedName = Unit {0}
IsOfTokens (StmtFault.Expr ExprFault.Syntax) = Unit {0}
IsOfTokens (StmtFault.Expr ExprFault.TooDeep) = Unit {0}
IsOfTokens StmtFault.NoMemory = Unit {0}
IsOfTokens _ = ⊥

-- the value, or this error if there is none
abbrev pub value_or : {A : Type 0} → StmtFault → Option A → Result A StmtFault
value_or fault None = Err fault
value_or fault (Some x) = Ok x

-- each element read, from left to right, or the first error
abbrev pub each : {A B : Type 0} → (A → Result B StmtFault) → List A → Result (List B) StmtFault
each read [] = Ok []
each read (x ∷ xs) = read x >>= λ y. each read xs >>= λ ys. Ok (y ∷ ys)

-- A call that fails with this error is right: the definition gives the same error, or memory ran out.
abbrev pub Fails : {B : Type 0} → StmtFault → Result B StmtFault → Type 0
Fails StmtFault.NoMemory read = Unit {0}
Fails fault read = read ≡ Err fault

abbrev pub Gives : {A B : Type 0} → (A → B) → Result A StmtFault → Result B StmtFault → Type 0
Gives view (Ok x) read = read ≡ Ok (view x)
Gives view (Err fault) read = Fails fault read
