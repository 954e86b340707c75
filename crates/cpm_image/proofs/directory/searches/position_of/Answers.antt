use Rattle.std.proofs.Common.{rules, tests, ◌∙◌}
use Rattle.cpm_image.specs.Directory.Entries.{is_extent_of}
use Rattle.std.proofs.lemmas.Iterator.{YieldsList-from_slice}
use Rattle.std.proofs.lemmas.Iterator.Search.{position_from_yields_List}
use Rattle.cpm_image.proofs.directory.searches.position_of.Goals as goal

pub returns-clause-found : goal.returns-clause-found
returns-clause-found c = c.numbered.ensures ∙ position_from_yields_List (is_extent_of c.args.user c.args.name.now c.args.extent) c.position.new.self _ c.position.result c.position.ensures.ran (YieldsList-from_slice c.args.entries.now cc) (λ x b q k. search (rules, tests))
