use Rattle.std.proofs.Common.{◌≡◌, length, subst}
use Rattle.std.specs.List.{All}
use Rattle.std.proofs.lemmas.List.{take_all}
use Rattle.std.proofs.lemmas.List.Elements.{All-more}
use Rattle.cpm_image.specs.Directory.Types.{Entry}
use Rattle.cpm_image.proofs.laws.directory.are_entries.Goals as goal

pub loop-entry-preserved : goal.loop-entry-preserved
loop-entry-preserved c = All-more (λ (e : Entry). length e.name ≡ 11) c.args.entries.now c.loop-entry.entry-index _ c.loop-entry-test.true c.loop-entry.invariant c.is_entry.ensures

pub returns : goal.returns
returns c = subst (All (λ (e : Entry). length e.name ≡ 11)) (take_all c.loop-entry.entry-index c.args.entries.now c.loop-entry-test.false) c.loop-entry.invariant
