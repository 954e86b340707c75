use Rattle.std.proofs.Common.{◌≡◌, ◌==◌, ◌≤◌, not, take}
use Rattle.std.specs.List.{count_by}
use Rattle.cpm_image.specs.Directory.Entries.{blocks_of}
use Rattle.cpm_image.proofs.directory.entry.Entry.held_blocks.Given as goal

abbrev pub invariant-loop-group : goal.invariant-loop-group
invariant-loop-group l = record {
  held : l.held ≡ count_by (λ b. not (b == 0)) (take l.group (blocks_of l.kind l.self));
  most : l.held ≤ l.group;
}
