-- What an EQU's expression stands for.
use Rattle.std.proofs.Common.{◌≡◌, ◌≤◌, ℕ, Ok, Err, arith, refl, sym}
use Rattle.asm_expr.specs.Types.{Meaning, Settled}
use Rattle.asm_parse.specs.Expression.{Expression}
use Rattle.asm_parse.specs.Source.{Operand}
use Rattle.asm_expr.specs.Names.{AreCounted, IsCounted, Table}
use Rattle.asm_expr.specs.Settling.{IsWorthOf, replaced, settled, expression_size}
use Rattle.common.specs.Results.{◌>>=◌}
use Rattle.asm_expr.specs.Equating.{equated, meaning_of}
use Rattle.asm_expr.proofs.Guards.{positive}
use Rattle.asm_expr.proofs.Steps.{replaced_short}

some : (t : Table) → AreCounted t → (e : Expression Operand) → 1 ≤ expression_size t e
some t counted e = omega (arith, replaced_short t counted e, positive (replaced t e))

-- It stands for at least one term or operator, and for at least as many as it has items.
pub counted : (t : Table) → AreCounted t → (e : Expression Operand) (s : Settled) (n : ℕ) → IsWorthOf t e s → n ≡ expression_size t e → IsCounted (Meaning.Equ (record { settled = s; size = n }))
counted t c e (Settled.Known items) n w count = (omega (arith, count, some t c e), omega (arith, count, w.short))
counted t c e (Settled.Unknown what) n w count = (omega (arith, count, some t c e), omega (arith, count, some t c e))

-- What an EQU's expression stands for, given what it is settled as.
pub equated_as : (t : Table) (e : Expression Operand) (what : Meaning) → equated t e ≡ Ok what → (s : Settled) × (settled t e ≡ Ok s) × (what ≡ meaning_of t e s)
equated_as t e what is =
    elim (settled t e) as (λ r. (r >>= λ s. Ok (meaning_of t e s)) ≡ Ok what → (s : Settled) × (r ≡ Ok s) × (what ≡ meaning_of t e s)) [
      | Err why ↦ λ bad. cc
      | Ok s ↦ λ good. (s, refl, (let same : meaning_of t e s ≡ what = cc in sym same))
    ] is
