use Rattle.std.proofs.Common.{subst}
use Rattle.z80dev_disk.specs.Changes.{IsRenamedImage}
use Rattle.z80dev_disk.specs.Words.{file_name_of}
use Rattle.z80dev.proofs.Images.{two_changed, two_first, two_second, two_unclaimed}
use Rattle.z80dev.proofs.disks.changing.rename_file.Goals as goal

pub returns-in_err-old : goal.returns-in_err-old
returns-in_err-old g c = λ o.
    two_first file_name_of c.args.old.now c.args.new.now c.args.target (λ from to bytes. IsRenamedImage bytes c.args.target.user from to) (g.F.Files.folder c.args.files.now) o c.in_err-old.field-0.0
    c.from_residual.result c.in_err-old.ensures.name c.from_residual.ensures.1

pub returns-in_err-new : goal.returns-in_err-new
returns-in_err-new g c = λ o.
    two_second file_name_of c.args.old.now c.args.new.now c.args.target (λ from to bytes. IsRenamedImage bytes c.args.target.user from to) (g.F.Files.folder c.args.files.now) o c.in_ok-old.old c.in_err-new.field-0.0
    c.from_residual-in_err-new.result c.in_ok-old.ensures.name c.in_err-new.ensures.name c.from_residual-in_err-new.ensures.1

pub returns-in_err-image : goal.returns-in_err-image
returns-in_err-image g c = λ o.
    two_unclaimed file_name_of c.args.old.now c.args.new.now c.args.target (λ from to bytes. IsRenamedImage bytes c.args.target.user from to) (g.F.Files.folder c.args.files.now) (g.F.Files.folder c.claim.new.files) o c.in_ok-old.old c.in_ok-new.new
    c.in_err-image.field-0.0 c.from_residual-in_err-image.result c.in_ok-old.ensures.name c.in_ok-new.ensures.name c.in_err-image.ensures c.from_residual-in_err-image.ensures.1

pub returns : goal.returns
returns g c = λ o.
    two_changed file_name_of c.args.old.now c.args.new.now c.args.target (λ from to bytes. IsRenamedImage bytes c.args.target.user from to) (g.F.Files.folder c.args.files.now) (g.F.Files.folder c.claim.new.files) (g.F.Files.folder c.change.new.files) o
    c.in_ok-old.old c.in_ok-new.new c.in_ok-image.image c.rename-made.result c.change.result c.in_ok-old.ensures.name c.in_ok-new.ensures.name c.in_ok-image.ensures (subst (λ b. IsRenamedImage b c.args.target.user c.in_ok-old.old c.in_ok-new.new c.rename-made.result) c.deref.ensures.value c.rename-made.ensures.answer) c.change.ensures
