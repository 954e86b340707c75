use Rattle.std.proofs.Common.{◌≡◌, ◌++◌, drop, map}
use Rattle.zmo_object.specs.Modules.{statement_of}
use Rattle.source_warnings.specs.Jumps.Parts.{sited_from}
use Rattle.source_warnings.specs.Private.Flat.{sited_of}
use Rattle.source_warnings.proofs.jumps.part.put_sited.Given as goal

-- The statements so far and those that are left are all statements.
abbrev pub invariant-loop-number : goal.invariant-loop-number
invariant-loop-number l =
    map sited_of l.sited.items ++ sited_from l.module l.number (map statement_of (drop l.number l.statement-items)) ≡ map sited_of l.fn.sited.items ++ sited_from l.module 0 (map statement_of l.statement-items)
