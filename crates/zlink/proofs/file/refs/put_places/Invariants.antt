use Rattle.std.proofs.Common.{◌≡◌, ◌++◌, take}
use Rattle.zlink.proofs.file.refs.put_places.Given as goal

abbrev pub invariant-loop-place : goal.invariant-loop-place
invariant-loop-place l = l.table.items ≡ l.fn.table.items ++ take l.place-index l.places
