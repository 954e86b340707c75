use Rattle.std.proofs.Common.{rules, tests, ◌∙◌}
use Rattle.cpm_image.specs.Directory.Entries.{is_free}
use Rattle.std.proofs.lemmas.Iterator.{YieldsList-from_slice}
use Rattle.std.proofs.lemmas.Iterator.Search.{position_from_yields_List}
use Rattle.cpm_image.proofs.directory.searches.free_entry.Goals as goal

pub returns : goal.returns
returns c = c.numbered.ensures ∙ position_from_yields_List (is_free) c.position.new.self _ c.position.result c.position.ensures.ran (YieldsList-from_slice c.args.entries.now cc) (λ x b q k. search (rules, tests))
