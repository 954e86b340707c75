use Rattle.std.proofs.Common.{rules}
use Rattle.cpm_image.specs.Directory.Letters.{byte_matches}
use Rattle.cpm_image.proofs.directory.entry.name_matches.Goals as goal
use Rattle.std.proofs.lemmas.Iterator.{YieldsList-from_slice, YieldsList-from_zip}
use Rattle.std.proofs.lemmas.Iterator.Search.{all_from_yields_List}
use Rattle.std.proofs.Common.{tests}

pub returns : goal.returns
returns c =
    let patterns = YieldsList-from_slice {s = c.zip.result.a} c.args.pattern.now cc in
    let bytes = YieldsList-from_slice {s = c.zip.result.b} c.args.name.now cc in
    all_from_yields_List (λ p. byte_matches p.0 p.1) c.all.new.self _ c.all.result c.all.ensures.ran (YieldsList-from_zip {s = c.zip.result} patterns bytes) (λ x b q k. search (rules, tests))
