use Rattle.std.proofs.Common.{◌≡◌, ◌++◌, drop}
use Rattle.z80dev_disk.specs.Text.{without_cr}
use Rattle.z80dev_disk.proofs.text.host_text.Given as goal

abbrev pub invariant-loop-number : goal.invariant-loop-number
invariant-loop-number l = without_cr l.kept ≡ l.text.items ++ without_cr (drop l.number l.kept)
