use Rattle.std.proofs.Common.{◌≡◌, ◌++◌}
use Rattle.std.specs.List.{flat_map}
use Rattle.asm_macro.specs.Texts.{source_lines}
use Rattle.z80dev_run.specs.Coverage.{coverage_line}
use Rattle.z80dev_run.proofs.coverage.coverage_file.Given as goal

-- The lines so far and those that are left are all lines.
abbrev pub invariant-loop-line : goal.invariant-loop-line
invariant-loop-line l = record {
  can_next : (goal.iterator-loop-line).can_next l.line-iterator;
  finite : (goal.iterator-loop-line).is_finite l.line-iterator;
  all : l.out.items ++ flat_map (coverage_line l.counts) l.line-iterator ≡ flat_map (coverage_line l.kept.counts.items) (source_lines l.listing);
}
