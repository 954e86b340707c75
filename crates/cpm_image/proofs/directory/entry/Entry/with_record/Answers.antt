use Rattle.std.proofs.Common.{rules, ◌≡◌, ◌/◌, ◌∙◌, ap, length}
use Rattle.cpm_image.specs.Directory.Entries.{with_block}
use Rattle.cpm_image.proofs.Words.{block_put, group_below}
use Rattle.cpm_image.proofs.directory.entry.Entry.with_record.Goals as goal

pub returns-clause-placed : goal.returns-clause-placed
returns-clause-placed c =
    let long : length c.args.self.now.blocks ≡ 16 = search rules in
    block_put c.args.kind c.args.self.now.blocks c.with_block.result _ c.args.block_number long (group_below c.args.kind c.args.i c.requires.record)
    (c.with_block.ensures.bytes ∙ ap (λ n. with_block c.args.kind c.args.self.now.blocks (c.args.i / n) c.args.block_number) c.block_records.ensures)
