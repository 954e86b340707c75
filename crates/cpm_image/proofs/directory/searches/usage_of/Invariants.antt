use Rattle.std.proofs.Common.{◌≡◌, ◌*◌, ◌≤◌, take}
use Rattle.std.specs.List.{filter, sum_by}
use Rattle.cpm_image.specs.Directory.Entries.{held_blocks, is_of}
use Rattle.cpm_image.proofs.directory.searches.usage_of.Given as goal

abbrev pub invariant-loop-entry : goal.invariant-loop-entry
invariant-loop-entry l = record {
  held : l.blocks ≡ sum_by (held_blocks l.kind) (filter (is_of l.user l.name) (take l.entry-index l.entries));
  most : l.blocks ≤ 16 * l.entry-index;
}
