use Rattle.std.proofs.Common.{◌+◌, ◌∙◌}
use Rattle.cpm_disk.proofs.Putting.{gone_round}
use Rattle.cpm_disk.proofs.control.bytes.put_field.Goals as goal

pub returns : goal.returns
returns c = c.put_bytes.ensures ∙ gone_round (c.args.address + c.args.offset) c.args.bytes.now c.args.memory.now
