use Rattle.std.proofs.Common.{◌≡◌, ◌&&◌, drop, find}
use Rattle.cpm_image.specs.Directory.Entries.{is_match, is_read_only}
use Rattle.cpm_disk.specs.Image.{directory}
use Rattle.z80dev_disk.proofs.entries.read_only_name.Given as goal

abbrev pub invariant-loop-number : goal.invariant-loop-number
invariant-loop-number l = find (λ e. is_match l.user l.pattern e && is_read_only e) (directory l.disk.kind l.disk.device) ≡ find (λ e. is_match l.user l.pattern e && is_read_only e) (drop l.number (directory l.disk.kind l.disk.device))
