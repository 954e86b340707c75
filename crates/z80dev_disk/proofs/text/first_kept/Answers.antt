use Rattle.std.proofs.Common.{◌∙◌, sym}
use Rattle.z80dev_disk.proofs.Texts.{first_goes, first_stays}
use Rattle.z80dev_disk.proofs.text.first_kept.Goals as goal

pub returns-then-is_left_out : goal.returns-then-is_left_out
returns-then-is_left_out c = first_goes c.args.text.now c.requires (sym c.is_left_out.ensures ∙ c.if-is_left_out.true)

pub returns : goal.returns
returns c = first_stays c.args.text.now c.requires (sym c.is_left_out.ensures ∙ c.if-is_left_out.false)
