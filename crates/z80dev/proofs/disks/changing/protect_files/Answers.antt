use Rattle.std.proofs.Common.{map, subst}
use Rattle.z80dev_disk.specs.Changes.{IsMarkedImage}
use Rattle.z80dev_disk.specs.Words.{pattern_of}
use Rattle.z80dev.specs.Disks.{attribute_of}
use Rattle.z80dev.proofs.Images.{several_changed, several_unclaimed, several_unnamed}
use Rattle.z80dev.proofs.disks.changing.protect_files.Goals as goal

pub returns-in_err-patterns : goal.returns-in_err-patterns
returns-in_err-patterns g c = λ o.
    several_unnamed pattern_of (map (λ word. word.now) c.args.words.now) c.args.target (λ patterns bytes. IsMarkedImage bytes c.args.target.user (attribute_of c.args.attribute) c.args.on patterns) (g.F.Files.folder c.args.files.now) o c.in_err-patterns.field-0.0
    c.from_residual.result c.in_err-patterns.ensures c.from_residual.ensures.1

pub returns-in_err-image : goal.returns-in_err-image
returns-in_err-image g c = λ o.
    several_unclaimed pattern_of (map (λ word. word.now) c.args.words.now) c.in_ok-patterns.patterns.items c.args.target (λ patterns bytes. IsMarkedImage bytes c.args.target.user (attribute_of c.args.attribute) c.args.on patterns) (g.F.Files.folder c.args.files.now) (g.F.Files.folder c.claim.new.files) o
    c.in_err-image.field-0.0 c.from_residual-in_err-image.result c.in_ok-patterns.ensures c.in_err-image.ensures c.from_residual-in_err-image.ensures.1

pub returns : goal.returns
returns g c = λ o.
    several_changed pattern_of (map (λ word. word.now) c.args.words.now) c.in_ok-patterns.patterns.items c.args.target (λ patterns bytes. IsMarkedImage bytes c.args.target.user (attribute_of c.args.attribute) c.args.on patterns) (g.F.Files.folder c.args.files.now) (g.F.Files.folder c.claim.new.files)
    (g.F.Files.folder c.change.new.files) o c.in_ok-image.image c.mark-made.result c.change.result c.in_ok-patterns.ensures c.in_ok-image.ensures (subst (λ b. IsMarkedImage b c.args.target.user (attribute_of c.args.attribute) c.args.on c.in_ok-patterns.patterns.items c.mark-made.result) c.deref.ensures.value (subst (λ ps. IsMarkedImage c.deref.result.now c.args.target.user (attribute_of c.args.attribute) c.args.on ps c.mark-made.result) c.deref-2.ensures.value (subst (λ a. IsMarkedImage c.deref.result.now c.args.target.user a c.args.on c.deref-2.result.now c.mark-made.result) c.attribute_of-attribute.ensures c.mark-made.ensures.answer))) c.change.ensures
