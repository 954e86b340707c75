use Rattle.std.proofs.Common.{◌≡◌, length, take}
use Rattle.std.specs.List.{All}
use Rattle.cpm_image.proofs.laws.directory.are_entries.Given as goal

abbrev pub invariant-loop-entry : goal.invariant-loop-entry
invariant-loop-entry l = All (λ e. length e.name ≡ 11) (take l.entry-index l.entries)
