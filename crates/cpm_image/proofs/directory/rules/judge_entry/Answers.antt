use Rattle.std.proofs.Common.{true, false}
use Rattle.cpm_image.proofs.OwnBlocks.{block_below, own_blocks}
use Rattle.cpm_image.proofs.directory.rules.judge_entry.Goals as goal

pub returns-then-not-own-clause-judged : goal.returns-then-not-own-clause-judged
returns-then-not-own-clause-judged c =
    let blocks = c.if-not-are_blocks.ensures {u = tt} in
    (c.is_good.ensures.0 c.if-not-is_good.false, blocks, own_blocks c.args.kind c.args.marks.now c.args.before.now c.args.entry.now false c.requires.marks blocks ((c.if-not-own.ensures {u = tt}).own (λ a. block_below c.args.kind c.args.entry.now a blocks)))

pub returns-then-not-has_own_name-clause-judged : goal.returns-then-not-has_own_name-clause-judged
returns-then-not-has_own_name-clause-judged c =
    let blocks = c.if-not-are_blocks.ensures {u = tt} in
    (c.is_good.ensures.0 c.if-not-is_good.false, blocks, own_blocks c.args.kind c.args.marks.now c.args.before.now c.args.entry.now true c.requires.marks blocks ((c.if-not-own.ensures {u = tt}).own (λ a. block_below c.args.kind c.args.entry.now a blocks)), c.if-not-has_own_name.ensures {u = tt})

pub returns-clause-judged : goal.returns-clause-judged
returns-clause-judged c =
    let blocks = c.if-not-are_blocks.ensures {u = tt} in
    (c.is_good.ensures.0 c.if-not-is_good.false, blocks, own_blocks c.args.kind c.args.marks.now c.args.before.now c.args.entry.now true c.requires.marks blocks ((c.if-not-own.ensures {u = tt}).own (λ a. block_below c.args.kind c.args.entry.now a blocks)), c.if-not-has_own_name.ensures {u = tt})
