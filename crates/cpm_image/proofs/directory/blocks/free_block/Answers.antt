use Rattle.std.proofs.Common.{false, not, get_or, ap, ◌-◌, find, refl, sym, ◌∙◌, rules, tests}
use Rattle.std.specs.List.{range_with_len}
use Rattle.cpm_image.specs.Kind.{block_count, first_block}
use Rattle.std.proofs.lemmas.Iterator.{YieldsList-from_range}
use Rattle.std.proofs.lemmas.Iterator.Adapters.{option_map_id}
use Rattle.std.proofs.lemmas.Iterator.Search.{find_from_yields_List}
use Rattle.cpm_image.proofs.TakenBlocks.{lowest}
use Rattle.cpm_image.proofs.directory.blocks.free_block.Goals as goal

pub returns-clause-lowest : goal.returns-clause-lowest
returns-clause-lowest c =
    sym (option_map_id c.find.result)
    ∙ find_from_yields_List (λ b. not (get_or c.taken-marks.result b false)) c.find.new.self _ c.find.result c.find.ensures.ran (YieldsList-from_range c.first_block.result c.block_count.result (block_count c.args.kind - first_block c.args.kind) refl (let first = c.first_block.ensures in let count = c.block_count.ensures in rw (first, count) refl)) (λ x b q k. search (rules, tests))
    ∙ ap (λ n. find (λ b. not (get_or c.taken-marks.result b false)) (range_with_len n (block_count c.args.kind - first_block c.args.kind))) c.first_block.ensures ∙ lowest c.args.kind c.taken-marks.result c.args.entries.now c.taken-marks.ensures
