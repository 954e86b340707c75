use Rattle.std.proofs.Common.{rules, tests}
use Rattle.std.proofs.lemmas.Iterator.{YieldsList-from_slice}
use Rattle.std.proofs.lemmas.Iterator.Search.{any_from_yields_List}
use Rattle.cpm_image.specs.Directory.Entries.{is_extent_of}
use Rattle.cpm_image.proofs.Names.{own_name}
use Rattle.cpm_image.proofs.directory.rules.has_own_name.Goals as goal

pub returns : goal.returns
returns c =
    let e = c.args.entry.now in
    let found = any_from_yields_List (is_extent_of e.user c.new-name.result c.extent_number-extent.result) c.any.new.self _ c.any.result c.any.ensures.ran (YieldsList-from_slice c.args.before.now cc) (λ x b q k. search (rules, tests)) in
    rw (found, c.new-name.ensures, c.extent_number-extent.ensures) (own_name c.args.before.now e c.requires)
