use Rattle.std.proofs.Common.{◌≡◌, ◌++◌, drop, map}
use Rattle.std.specs.List.{flat_map}
use Rattle.zmo_object.specs.Modules.{statement_of}
use Rattle.source_warnings.specs.Jumps.Parts.{sited_from}
use Rattle.source_warnings.specs.Private.Flat.{placed_of}
use Rattle.source_warnings.specs.Jumps.Warnings.{overs_in, statement_overs}
use Rattle.source_warnings.proofs.jumps.overs.put_overs.Given as goal

-- The warnings so far and those about the statements that are left are all warnings.
abbrev pub invariant-loop-number : goal.invariant-loop-number
invariant-loop-number l =
    l.found.items ++ flat_map (statement_overs l.jumps (placed_of l.placed)) (sited_from l.module l.number (map statement_of (drop l.number l.own-items)))
    ≡ l.fn.found.items ++ overs_in l.jumps (placed_of l.placed)
