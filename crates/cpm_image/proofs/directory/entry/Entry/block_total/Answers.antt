use Rattle.std.proofs.Common.{rules, ◌≡◌, length, ◌∙◌, sym}
use Rattle.cpm_image.proofs.Words.{length-numbers}
use Rattle.cpm_image.proofs.directory.entry.Entry.block_total.Goals as goal

pub returns-clause-total : goal.returns-clause-total
returns-clause-total c =
    let long : length c.args.self.now.blocks ≡ 16 = search rules in
    c.entry_blocks.ensures ∙ sym (length-numbers c.args.kind c.args.self.now.blocks long)
