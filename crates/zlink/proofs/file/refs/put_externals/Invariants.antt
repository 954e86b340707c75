use Rattle.std.proofs.Common.{◌≡◌, ◌++◌, map, slice_index, take}
use Rattle.zlink.proofs.file.refs.put_externals.Given as goal

abbrev pub invariant-loop-number : goal.invariant-loop-number
invariant-loop-number l = l.table.items ≡ l.fn.table.items ++ map (slice_index l.places) (take l.number-index l.externals)
