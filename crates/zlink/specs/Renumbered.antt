-- Statements whose refs are renumbered: from numbers in one source to numbers in the whole program.
use Rattle.std.specs.Prelude.{ℕ, map}
use Rattle.asm_parse.specs.Expression.{Expression, Leaf, Prefix, Infix}
use Rattle.asm_expr.specs.Below.{Atom}
use Rattle.asm_module.specs.Program.Statement as statement
use Rattle.asm_module.specs.Program.Statement.{Datum, Statement}

abbrev pub refs_renumbered : (ℕ → ℕ) → Expression Atom → Expression Atom
refs_renumbered to (Leaf (Atom.Number n)) = Leaf (Atom.Number n)
refs_renumbered to (Leaf (Atom.Ref ref)) = Leaf (Atom.Ref (to ref))
refs_renumbered to (Prefix op a) = Prefix op (refs_renumbered to a)
refs_renumbered to (Infix op a b) = Infix op (refs_renumbered to a) (refs_renumbered to b)

abbrev pub datum_in : (ℕ → ℕ) → Datum → Datum
datum_in to (statement.Byte e) = statement.Byte (refs_renumbered to e)
datum_in to (statement.Word e) = statement.Word (refs_renumbered to e)

abbrev pub statement_in : (ℕ → ℕ) → Statement → Statement
statement_in to (statement.Code instr numbers) = statement.Code instr (map (λ n. (n.0, refs_renumbered to n.1)) numbers)
statement_in to (statement.Data items) = statement.Data (map (datum_in to) items)
statement_in to (statement.Space size fill) = statement.Space size fill
statement_in to (statement.Jump condition target) = statement.Jump condition (to target)
statement_in to (statement.Short branch target) = statement.Short branch (to target)
