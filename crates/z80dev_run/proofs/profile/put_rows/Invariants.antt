use Rattle.std.proofs.Common.{◌≡◌, ◌++◌, drop}
use Rattle.std.specs.List.{flat_map}
use Rattle.z80dev_run.specs.Profile.{profile_line}
use Rattle.z80dev_run.proofs.profile.put_rows.Given as goal

-- The lines so far and those of the rows that are left are all lines.
abbrev pub invariant-loop-row : goal.invariant-loop-row
invariant-loop-row l = l.out.items ++ flat_map (profile_line l.labels) (drop l.row-index l.rows) ≡ l.fn.out.items ++ flat_map (profile_line l.labels) l.rows
