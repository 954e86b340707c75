-- The premises of the laws can be met: a short JP to itself, and one step of it.
use Rattle.std.proofs.Common.{◌≡◌, ℕ, zero, suc, ◌+◌, false, List, [], ◌∷◌, ◌++◌, Some, None, refl, arith, inl, negsuc}
use Rattle.std.specs.Prelude.{replicate}
use Rattle.std.specs.List.{slice_get, slice_range}
use Rattle.relax.specs.Choice.{Choice, IsSettled, ShortsReach, IsValid, bytes_before, place}
use Rattle.asm_module.specs.Program.Statement.{Statement, Jump}
use Rattle.asm_module.specs.Program.Pieces.{IsPiece}
use Rattle.zlink.specs.Reads.{Reads, shape}
use Rattle.z80_cpu.specs.State.{Machine, machine, with_pc}
use Rattle.z80_cpu.specs.declared.registers.Cpu.{Cpu}
use Rattle.z80_machine.specs.Types.{Step}
use Rattle.z80dev.specs.Turns.{IsAtStatement, Walks}

abbrev c : Choice
c k = false

abbrev program : List Statement
program = Jump None 0 ∷ []

abbrev file : List ℕ
file = 0x18 ∷ 0xFE ∷ []

abbrev at : Cpu → Machine
at cpu = machine (with_pc 256 cpu) (replicate 256 0 ++ file)

reads : Reads file program c
unfolding bytes_before
reads = record { length_is = refl; pieces = pieces }
  where
    pieces : (k : ℕ) (s : Statement) → slice_get program k ≡ Some s → IsPiece (place c (shape program) k) (c k) (place c (shape program)) s (slice_range file (bytes_before c (shape program) k) (bytes_before c (shape program) (k + 1)))
    pieces zero (Jump None zero) e = (negsuc 1, refl, record { numbers = refl; spelled = inl refl })
    pieces zero s e = absurd cc
    pieces (suc k) s e = absurd cc

valid : IsValid c (shape program)
unfolding bytes_before
valid = record { settled = settled; shorts = shorts; fits = omega arith }
  where
    settled : IsSettled c (shape program)
    settled zero zero e short = (omega arith, omega arith)
    settled zero (suc t) e short = absurd cc
    settled (suc k) t e short = absurd cc

    shorts : ShortsReach c (shape program)
    shorts zero t e = absurd cc
    shorts (suc k) t e = absurd cc

is_at : (cpu : Cpu) → IsAtStatement file program c 0 (Jump None 0) (at cpu)
unfolding bytes_before
is_at cpu = record { held = refl; statement = refl; pc = refl }

walks : (cpu : Cpu) → Walks file program c 1 (at cpu) (at cpu)
unfolding bytes_before
walks cpu = (0, Jump None 0, Step.Done, at cpu, is_at cpu, (refl, refl), refl)
