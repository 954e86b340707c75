use Rattle.std.proofs.Common.{◌≤◌, map}
use Rattle.common.specs.declared.limits.TheConstants.{MOST_STATEMENTS}
use Rattle.zmo_object.specs.Modules.{module_of}
use Rattle.zlink.proofs.Programs.Going_on.{Reached, left}
use Rattle.zlink.proofs.program.checks.check_count.Given as goal

abbrev pub invariant-loop-module : goal.invariant-loop-module
invariant-loop-module l = Reached (map module_of l.modules) l.module-index l.count (left l.modules l.module-index) × (l.count ≤ MOST_STATEMENTS)
