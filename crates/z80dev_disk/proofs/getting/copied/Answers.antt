use Rattle.std.proofs.Common.{ap, replicate, sym, unwrap_or}
use Rattle.z80dev_disk.proofs.Unread.{not_read}
use Rattle.z80dev_disk.proofs.getting.copied.Goals as goal

pub returns-in-Err-clause-bytes : goal.returns-in-Err-clause-bytes
returns-in-Err-clause-bytes c = sym (ap (λ o. unwrap_or o (replicate 128 0)) (not_read c.args.disk.now c.read_block_of.new.self c.args.user c.args.name.now c.args.number c.in-Err.field-0 c.requires.sound c.requires.within c.in-Err.ensures.done))
