use Rattle.std.proofs.lemmas.Result.{err_from_is_err_and}
use Rattle.z80dev_disk.specs.Dir.{DirOf}
use Rattle.z80dev_disk.specs.Refusals.{RefusesDir}
use Rattle.z80dev_disk.proofs.Refused.{of_bytes}
use Rattle.z80dev_disk.proofs.listing.listed.Goals as goal

pub returns-in_err-disk : goal.returns-in_err-disk
returns-in_err-disk c =
    let p = err_from_is_err_and c.from_residual.result c.from_residual.ensures.1 in
    rw (p.1, p.2) (of_bytes (RefusesDir c.args.asked.now.pattern) (DirOf c.args.asked.now) c.args.image.now c.in_err-disk.field-0.0 c.in_err-disk.ensures)
