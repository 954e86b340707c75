use Rattle.std.proofs.Common.{ℕ, ◌<◌}
use Rattle.cpm_image.specs.Directory.Entries.{block}
use Rattle.cpm_image.specs.Directory.Rules.{IsBlock}
use Rattle.cpm_image.proofs.directory.rules.are_blocks.Given as goal

-- the blocks so far are blocks of files, or 0
abbrev pub invariant-loop-group : goal.invariant-loop-group
invariant-loop-group l = (i : ℕ) → i < l.group → IsBlock l.kind (block l.kind l.entry i)
