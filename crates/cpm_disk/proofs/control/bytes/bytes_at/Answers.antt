use Rattle.std.proofs.Common.{◌+◌, arith}
use Rattle.std.proofs.lemmas.List.FromFn.{fill_by_all}
use Rattle.cpm_disk.specs.Control.Bytes.{bytes_at, memory_byte}
use Rattle.cpm_disk.proofs.control.bytes.bytes_at.Goals as goal

pub returns : goal.returns
unfolding bytes_at
returns g c =
    fill_by_all (λ i. memory_byte (c.args.address + i) c.args.memory.now) c.loop-i.bytes g.row.N 0 c.loop-i.invariant.long
    (λ k below. c.loop-i.invariant.so_far k (omega (arith, c.loop-i-test.false)))
