-- What calls of `asm_expr` answer, as answers about a statement.
use Rattle.std.proofs.Common.{◌≡◌, ◌⊎◌, inl, inr, Some, None, Result, Ok, Err, refl, sym, ap, subst, ◌∙◌}
use Rattle.common.specs.Results.{◌>>=◌}
use Rattle.asm_parse.specs.declared.fault.ExprFault.{ExprFault}
use Rattle.asm_parse.specs.Expression.{Expression}
use Rattle.asm_parse.specs.Source.{Operand}
use Rattle.asm_expr.specs.declared.answer.Settled.{Settled}
use Rattle.asm_expr.specs.declared.here.Offset.{Offset}
use Rattle.asm_expr.specs.Names.{Table}
use Rattle.asm_expr.specs.Offsets.{IsOffset, offset}
use Rattle.asm_expr.specs.Settling.{fault}
use Rattle.asm_spell.specs.declared.fault.StmtFault.{StmtFault}
use Rattle.asm_spell.specs.Faults.{Fails, Gives, of_expression}
use Rattle.asm_stmt.specs.declared.cell.Filling.{Filling}
use Rattle.asm_stmt.specs.Fields.{as_stmt, distance_filling, distance_or}
use Rattle.asm_stmt.specs.Private.Views.{same}

-- the error of an expression is the statement's error
fails_by : {B : Type 0} (why : ExprFault) (read : Result B StmtFault) → read ≡ Err (of_expression why) → Fails (of_expression why) read
fails_by ExprFault.NoMemory read is = tt
fails_by ExprFault.Syntax read is = is
fails_by ExprFault.DivideByZero read is = is
fails_by ExprFault.LabelDivisor read is = is
fails_by ExprFault.TooDeep read is = is
fails_by ExprFault.TooLarge read is = is

abbrev no_memory : Result Settled ExprFault
no_memory = Err ExprFault.NoMemory

pub refused : (why : ExprFault) (read : Result Settled ExprFault) → (Err why ≡ read) ⊎ (Err why ≡ no_memory) → Fails (of_expression why) (as_stmt read)
refused why read (inl is) = fails_by why (as_stmt read) (ap as_stmt (sym is))
refused why read (inr memory) = let none : ExprFault.NoMemory ≡ why = cc in subst (λ w. Fails (of_expression w) (as_stmt read)) none tt

pub answered : (s : Settled) (read : Result Settled ExprFault) → (Ok s ≡ read) ⊎ (Ok s ≡ no_memory) → as_stmt read ≡ Ok s
answered s read (inl is) = ap as_stmt (sym is)
answered s read (inr memory) = cc

-- if the first step fails, both steps together fail with the same error
pub first_fails : {A B : Type 0} (why : StmtFault) (read : Result A StmtFault) (more : A → Result B StmtFault) → Fails why read → Fails why (read >>= more)
first_fails StmtFault.NoMemory read more is = tt
first_fails StmtFault.UnknownWord read more is = ap (λ r. r >>= more) is
first_fails StmtFault.BadOperands read more is = ap (λ r. r >>= more) is
first_fails StmtFault.ByteRange read more is = ap (λ r. r >>= more) is
first_fails StmtFault.NeedsLowOrHigh read more is = ap (λ r. r >>= more) is
first_fails StmtFault.ShortNeedsLabel read more is = ap (λ r. r >>= more) is
first_fails StmtFault.SizeNamesLabel read more is = ap (λ r. r >>= more) is
first_fails StmtFault.BadOrg read more is = ap (λ r. r >>= more) is
first_fails StmtFault.NeedsNumber read more is = ap (λ r. r >>= more) is
first_fails StmtFault.ReservedName read more is = ap (λ r. r >>= more) is
first_fails (StmtFault.Expr why) read more is = ap (λ r. r >>= more) is

-- An operand of JR or DJNZ that begins with `$`.
or_fault : (why : ExprFault) (o : Offset) → (o ≡ Offset.Other → ⊥) → distance_or (Some why) o ≡ Err (of_expression why)
or_fault why (Offset.Number n) not_other = refl
or_fault why Offset.Unknown not_other = refl
or_fault why Offset.NotConstant not_other = refl
or_fault why Offset.Other not_other = absurd (not_other refl)

pub offset_refused : (t : Table) (e : Expression Operand) (why : ExprFault) → IsOffset t e (Err why) → Fails (of_expression why) (distance_or (fault t e) (offset t e))
offset_refused t e why is = by_fault why is
  where
    by_fault : (why : ExprFault) → IsOffset t e (Err why) → Fails (of_expression why) (distance_or (fault t e) (offset t e))
    by_fault ExprFault.NoMemory is = tt
    by_fault ExprFault.Syntax is = ap (λ f. distance_or f (offset t e)) is.0 ∙ or_fault ExprFault.Syntax (offset t e) is.1
    by_fault ExprFault.DivideByZero is = ap (λ f. distance_or f (offset t e)) is.0 ∙ or_fault ExprFault.DivideByZero (offset t e) is.1
    by_fault ExprFault.LabelDivisor is = ap (λ f. distance_or f (offset t e)) is.0 ∙ or_fault ExprFault.LabelDivisor (offset t e) is.1
    by_fault ExprFault.TooDeep is = ap (λ f. distance_or f (offset t e)) is.0 ∙ or_fault ExprFault.TooDeep (offset t e) is.1
    by_fault ExprFault.TooLarge is = ap (λ f. distance_or f (offset t e)) is.0 ∙ or_fault ExprFault.TooLarge (offset t e) is.1

pub offset_answered : (t : Table) (e : Expression Operand) (o : Offset) → IsOffset t e (Ok o) → distance_or (fault t e) (offset t e) ≡ distance_filling o
offset_answered t e (Offset.Number n) is = ap (λ f. distance_or f (offset t e)) is.0 ∙ ap (distance_or None) is.1
offset_answered t e Offset.Unknown is = ap (λ f. distance_or f (offset t e)) is.0 ∙ ap (distance_or None) is.1
offset_answered t e Offset.NotConstant is = ap (λ f. distance_or f (offset t e)) is.0 ∙ ap (distance_or None) is.1
offset_answered t e Offset.Other is = ap (distance_or (fault t e)) is

-- What the function answers is what reading gives.
pub given : (r read : Result Filling StmtFault) → read ≡ r → Gives same r read
given (Ok f) read is = is
given (Err why) read is = by_fault why is
  where
    by_fault : (why : StmtFault) → read ≡ Err why → Fails why read
    by_fault StmtFault.NoMemory is = tt
    by_fault StmtFault.UnknownWord is = is
    by_fault StmtFault.BadOperands is = is
    by_fault StmtFault.ByteRange is = is
    by_fault StmtFault.NeedsLowOrHigh is = is
    by_fault StmtFault.ShortNeedsLabel is = is
    by_fault StmtFault.SizeNamesLabel is = is
    by_fault StmtFault.BadOrg is = is
    by_fault StmtFault.NeedsNumber is = is
    by_fault StmtFault.ReservedName is = is
    by_fault (StmtFault.Expr why) is = is
