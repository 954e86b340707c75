use Rattle.std.proofs.Common.{rules, ◌≡◌, ◌*◌, ◌/◌, ◌≤◌, length, arith, subst, Ok}
use Rattle.std.proofs.lemmas.Grind.{common_steps}
use Rattle.std.specs.Simd.{first_chunks}
use Rattle.cpm_image.specs.Image.{IsImageOfKind}
use Rattle.cpm_image.proofs.Bytes.{filled_up}
use Rattle.cpm_image.proofs.memory.MemoryImage.from_bytes.Goals as goal

pub returns : goal.returns
returns c =
    let n = length c.args.bytes.now / 128 in
    let whole : length c.args.bytes.now ≡ 128 * n = grind (arith, common_steps) in
    let room : n ≤ c.sector_count-count.result = grind (arith, common_steps) in
    let given : c.as_chunks.result.0.now ≡ first_chunks 128 n c.args.bytes.now = search rules in
    subst (λ kind. IsImageOfKind kind c.args.bytes.now (Ok c.in_ok-sectors.sectors.items)) c.kind_of_bytes.ensures
    (filled_up c.kind_of_bytes.result _ n c.args.bytes.now _ _ c.sector_count-count.ensures whole room given c.in_ok-sectors.ensures)
