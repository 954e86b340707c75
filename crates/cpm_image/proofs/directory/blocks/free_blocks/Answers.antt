use Rattle.std.proofs.Common.{false, not, get_or, ap, ◌-◌, refl, ◌∙◌, rules, tests}
use Rattle.std.specs.List.{count_by, range_with_len}
use Rattle.cpm_image.specs.Kind.{block_count, first_block}
use Rattle.std.proofs.lemmas.Iterator.{YieldsList-from_range}
use Rattle.std.proofs.lemmas.Iterator.Consumers.{YieldsList-from_filter, count_from_yields_List}
use Rattle.std.proofs.lemmas.List.Sums.{length-filter}
use Rattle.cpm_image.proofs.Counts.{free_counted}
use Rattle.cpm_image.proofs.directory.blocks.free_blocks.Goals as goal

pub returns : goal.returns
returns c =
    count_from_yields_List c.filter.result c.count.result c.count.ensures.ran
    (YieldsList-from_filter _ (λ b. not (get_or c.taken-marks.result b false))
    (YieldsList-from_range c.first_block.result c.block_count.result (block_count c.args.kind - first_block c.args.kind) c.filter.ensures.source (let first = c.first_block.ensures in let count = c.block_count.ensures in rw (first, count) refl))
    c.filter.ensures.closure (λ x r q k. search (rules, tests)))
    ∙ length-filter (λ b. not (get_or c.taken-marks.result b false)) (range_with_len c.first_block.result (block_count c.args.kind - first_block c.args.kind))
    ∙ ap (λ n. count_by (λ b. not (get_or c.taken-marks.result b false)) (range_with_len n (block_count c.args.kind - first_block c.args.kind))) c.first_block.ensures
    ∙ free_counted c.args.kind c.taken-marks.result c.args.entries.now c.taken-marks.ensures
