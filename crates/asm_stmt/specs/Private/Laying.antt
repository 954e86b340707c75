-- Fields and numbers as the code puts them in, one after the other.
use Rattle.std.specs.Prelude.{◌≡◌, List, ◌++◌, Result, Ok, Err, map, length}
use Rattle.std.specs.List.{flat_map, list_all}
use Rattle.z80_instr.specs.declared.Instr.{Instr}
use Rattle.z80_instr.specs.Table.{canonical}
use Rattle.z80_form.specs.Numbers.{with_numbers}
use Rattle.asm_spell.specs.declared.fault.StmtFault.{StmtFault}
use Rattle.asm_spell.specs.Faults.{Fails}
use Rattle.asm_stmt.specs.declared.cell.Cell.{Cell}
use Rattle.asm_stmt.specs.declared.code.Coded.{Coded}
use Rattle.asm_stmt.specs.declared.data.Laid.{Laid}
use Rattle.asm_stmt.specs.Cells.{all_filled, bytes, holes, is_filled, number_or_0}
use Rattle.asm_stmt.specs.Made.{Fillings, code_hole}

-- The bytes and fix-ups are those of these fields.
pub record Lays (cells : List Cell) (l : Laid) : Type 0 where
  pub bytes : l.bytes.items ≡ bytes cells
  pub holes : l.holes.items ≡ holes 0 cells
  pub told : l.told ≡ all_filled cells

-- The instruction has these numbers put in.
pub record Codes (instr : Instr) (numbers : Fillings) (c : Coded) : Type 0 where
  pub size : c.size ≡ length (canonical instr)
  pub filled : c.instr ≡ with_numbers (map (λ n. (n.0, number_or_0 n.1)) numbers) instr
  pub holes : c.holes.items ≡ flat_map (code_hole (length (canonical instr))) numbers
  pub told : c.told ≡ list_all (λ n. is_filled n.1) numbers

-- These fields were put after those before, or the call failed with the error of reading them.
abbrev pub Puts : List Cell → Result (List Cell) StmtFault → Result (Unit {0}) StmtFault → Laid → Type 0
Puts before read (Ok _) l = (some : List Cell) × (read ≡ Ok some) × Lays (before ++ some) l
Puts before read (Err why) l = Fails why read
