use Rattle.std.proofs.Common.{◌≤◌, ◌≡◌, ◌+◌, ◌-◌, ◌∙◌, ap, arith, length}
use Rattle.std.proofs.lemmas.Bool.{and_parts, leb-true}
use Rattle.cpm_image.specs.Directory.Letters.{letters}
use Rattle.z80dev_disk.proofs.Letters.{laid, same_name}
use Rattle.z80dev_disk.proofs.name.joined.Goals as goal

pub returns : goal.returns
returns c =
    let (least, all) = and_parts _ _ c.requires.name in
    let short : length c.args.name.now ≤ 8 = leb-true (length c.args.name.now) 8 least in
    let count : 8 + length c.args.kind.now - 8 ≡ length c.args.kind.now = omega arith in
    c.new.ensures ∙ ap letters (laid c.args.name.now c.args.kind.now c.copy_from_slice.new.self c.copy_from_slice-2.new.self (8 + length c.args.kind.now - 8) short c.copy_from_slice.ensures.after c.copy_from_slice-2.ensures.after count)
    ∙ same_name c.args.name.now c.args.kind.now c.requires.name c.requires.kind
