use Rattle.std.proofs.Common.{◌≡◌, Err, None, Ok, map, string_bytes, subst}
use Rattle.z80dev_disk.specs.Get.{IsGetAll}
use Rattle.z80dev.specs.Disks.{GetsMatching, Warns, gotten_paths, over_image}
use Rattle.host.specs.Ending.{IsClear, effect_of}
use Rattle.z80dev.specs.Private.Images.{WritesAll}
use Rattle.z80dev.proofs.Images.{gets_over, gets_refused, gets_stopped, passed_on}
use Rattle.z80dev.proofs.disks.getting.get_matching.Goals as goal

pub returns : goal.returns
returns g c = λ o.
    gets_refused c.args.image.now c.args.user c.args.text c.args.pattern.now c.args.folder.now (g.F.Files.folder c.args.files.now) (g.F.Files.folder c.read_image.new.files) o c.in_ok-read.read c.in-Err.why c.refusal_end.result
    c.in_ok-read.ensures (subst (λ b. IsGetAll b c.args.user c.args.pattern.now c.args.text (Err c.in-Err.why)) c.deref.ensures.value c.in-Err.ensures.answer) c.refusal_end.ensures

pub returns-in_err-refuse_image-in-Ok : goal.returns-in_err-refuse_image-in-Ok
returns-in_err-refuse_image-in-Ok g c = λ o.
    let e = c.in_err-refuse_image-in-Ok.field-0.0 in
    let image = c.args.image.now in
    let folder = c.args.folder.now in
    let x = effect_of (g.F.Files.folder c.args.files.now) (g.F.Files.folder c.read_image.new.files) o o in
    let refused : IsClear (over_image image (gotten_paths folder c.in-Ok.gotten.items)) (Err e) =
    subst (λ l. IsClear (over_image image (gotten_paths folder l)) (Err e)) c.deref-in-Ok.ensures.value
    (subst (λ ps. IsClear (over_image image ps) (Err e)) c.in_ok-paths-in-Ok.ensures (subst (λ l. IsClear (over_image image (map string_bytes l)) (Err e)) c.deref-in-Ok-2.ensures.value c.in_err-refuse_image-in-Ok.ensures)) in
    passed_on (Warns (GetsMatching image c.args.user c.args.text c.args.pattern.now folder x)) e c.from_residual-in_err-refuse_image-in-Ok.result c.from_residual-in_err-refuse_image-in-Ok.ensures.1
    (gets_over image c.args.user c.args.text c.args.pattern.now folder (g.F.Files.folder c.args.files.now) (g.F.Files.folder c.read_image.new.files) o c.in_ok-read.read c.in-Ok.gotten e
    c.in_ok-read.ensures (subst (λ b. IsGetAll b c.args.user c.args.pattern.now c.args.text (Ok c.in-Ok.gotten)) c.deref.ensures.value c.in-Ok.ensures.answer) refused)

pub returns-in_err-write_into-in-Ok : goal.returns-in_err-write_into-in-Ok
returns-in_err-write_into-in-Ok g c = λ o.
    let e = c.in_err-write_into-in-Ok.field-0.0 in
    let image = c.args.image.now in
    let folder = c.args.folder.now in
    let x = effect_of (g.F.Files.folder c.args.files.now) (g.F.Files.folder c.write_into.new.files) o o in
    let none : over_image image (gotten_paths folder c.in-Ok.gotten.items) ≡ None =
    subst (λ l. over_image image (gotten_paths folder l) ≡ None) c.deref-in-Ok.ensures.value
    (subst (λ ps. over_image image ps ≡ None) c.in_ok-paths-in-Ok.ensures (subst (λ l. over_image image (map string_bytes l) ≡ None) c.deref-in-Ok-2.ensures.value c.in_ok-refuse_image-in-Ok.ensures)) in
    passed_on (Warns (GetsMatching image c.args.user c.args.text c.args.pattern.now folder x)) e c.from_residual-in_err-write_into-in-Ok.result c.from_residual-in_err-write_into-in-Ok.ensures.1
    (gets_stopped image c.args.user c.args.text c.args.pattern.now folder (g.F.Files.folder c.args.files.now) (g.F.Files.folder c.read_image.new.files) (g.F.Files.folder c.write_into.new.files) o c.in_ok-read.read c.in-Ok.gotten e
    c.in_ok-read.ensures (subst (λ b. IsGetAll b c.args.user c.args.pattern.now c.args.text (Ok c.in-Ok.gotten)) c.deref.ensures.value c.in-Ok.ensures.answer) none
    (subst (λ l. WritesAll folder l (g.F.Files.folder c.read_image.new.files) (g.F.Files.folder c.write_into.new.files) (Err e)) c.deref-in-Ok-3.ensures.value c.in_err-write_into-in-Ok.ensures))
