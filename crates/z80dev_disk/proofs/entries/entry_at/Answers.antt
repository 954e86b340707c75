use Rattle.std.proofs.Common.{◌≡◌, ◌∙◌, length, ap, rules, if◌then◌else◌, replicate}
use Rattle.cpm_image.specs.Directory.Entries.{at, bytes_of}
use Rattle.cpm_disk.specs.Image.{directory}
use Rattle.z80dev_disk.proofs.Entry_bytes.{spelled}
use Rattle.z80dev_disk.proofs.entries.entry_at.Goals as goal

pub returns : goal.returns
returns c =
    let kind = c.args.disk.now.kind in
    let image = c.args.disk.now.device in
    let are = c.entry.ensures.bytes ∙ ap (λ b. if b then replicate 32 0xE5 else bytes_of (at (directory kind image) c.args.entry_number)) c.requires.sound in
    let long : length c.entry.result ≡ 32 = search rules in
    c.from_bytes.ensures ∙ spelled kind image c.args.entry_number c.entry.result c.requires.within are long
