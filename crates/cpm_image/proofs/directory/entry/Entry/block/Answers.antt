use Rattle.std.proofs.Common.{rules, ◌≡◌, ◌+◌, ◌*◌, length, get_or, sym, ◌∙◌}
use Rattle.cpm_image.proofs.Words.{word_at}
use Rattle.cpm_image.proofs.directory.entry.Entry.block.Goals as goal

pub returns-in-Megabyte-clause-block : goal.returns-in-Megabyte-clause-block
returns-in-Megabyte-clause-block c =
    let long : length c.args.self.now.blocks ≡ 16 = search rules in
    let bytes : c.from-in-Megabyte.result + 256 * c.from-in-Megabyte-2.result ≡ get_or c.args.self.now.blocks (2 * c.args.group) 0 + 256 * get_or c.args.self.now.blocks (2 * c.args.group + 1) 0 = search rules in
    rw c.in-Megabyte.is (bytes ∙ sym (word_at 8 c.args.self.now.blocks c.args.group long))
