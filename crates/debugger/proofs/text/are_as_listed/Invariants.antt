use Rattle.std.proofs.Common.{◌≡◌, ◌*◌, drop, map}
use Rattle.std.specs.List.{enumerate_from, list_all}
use Rattle.z80_cpu.specs.State.{up_by}
use Rattle.debugger.specs.Text.{are_as_listed, is_as_listed}
use Rattle.debugger.proofs.text.are_as_listed.Given as goal

abbrev pub invariant-loop-row : goal.invariant-loop-row
invariant-loop-row l = record {
  from : l.from ≡ up_by (4 * l.row-index) l.address;
  rest : are_as_listed l.memory l.address (map (λ row. row.now) l.rows)
      ≡ list_all (λ row. is_as_listed l.memory (up_by (4 * row.0) l.address) row.1) (enumerate_from l.row-index (map (λ row. row.now) (drop l.row-index l.rows)));
}
