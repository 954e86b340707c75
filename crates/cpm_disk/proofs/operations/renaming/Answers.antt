use Rattle.std.proofs.Common.{sym, ◌∙◌}
use Rattle.cpm_disk.proofs.Worth.{renamed_soundly}
use Rattle.cpm_disk.proofs.operations.renaming.Goals as goal

pub returns-clause-kept : goal.returns-clause-kept
returns-clause-kept c kind = renamed_soundly kind c.args.user c.args.old.now c.args.new.now c.args.entries.now c.may_rename.result c.requires
    (c.is_name.ensures.eleven ∙ sym c.is_name-2.ensures.eleven) c.is_name-2.ensures.seven c.may_rename.ensures.step
