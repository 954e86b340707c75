use Rattle.std.proofs.Common.{◌≡◌, zero, suc, ◌<◌, ℕ, ◌∷◌, ◌∙◌, arith, false, rules, [], refl, slice_index_or, subst}
use Rattle.z80dev_disk.specs.Put.{IsPutImage}
use Rattle.z80dev_disk.specs.Words.{is_wild}
use Rattle.z80dev_disk.specs.declared.putting.PutFile.{PutFile}
use Rattle.host.specs.declared.end.End.TheVariants as end
use Rattle.z80dev.specs.Disks.{as_put}
use Rattle.z80dev.proofs.Images.{put_changed, put_unclaimed, put_unread, put_without_memory}
use Rattle.z80dev.proofs.disks.changing.put_file.Goals as goal

one_plain : (file : PutFile) → is_wild file.name ≡ false → (k : ℕ) (d : PutFile) → k < 1 → is_wild (slice_index_or (file ∷ []) k d).name ≡ false
one_plain file plain zero d lt = plain
one_plain file plain (suc k) d lt = absurd (omega (arith, lt))

pub put-made-requires-clause-names : goal.put-made-requires-clause-names
put-made-requires-clause-names g c = one_plain (record { name = c.in_ok-name.name; bytes = c.deref.result }) c.in_ok-name.ensures.plain

pub returns-in_err-image : goal.returns-in_err-image
returns-in_err-image g c = λ o.
    put_unclaimed c.args.target c.args.manner c.args.path.now c.args.word.now c.in_ok-name.name c.in_ok-name.ensures.name (g.F.Files.folder c.args.files.now) (g.F.Files.folder c.claim.new.files) o c.in_err-image.field-0.0
    c.from_residual-in_err-image.result c.in_err-image.ensures c.from_residual-in_err-image.ensures.1

pub returns-in_err-file : goal.returns-in_err-file
returns-in_err-file g c = λ o.
    put_unread c.args.target c.args.manner c.args.path.now c.args.word.now c.in_ok-name.name c.in_ok-name.ensures.name (g.F.Files.folder c.args.files.now) (g.F.Files.folder c.claim.new.files) (g.F.Files.folder c.read.new.files) o
    c.in_ok-image.image c.in_err-file.field-0.0 c.from_residual-in_err-file.result c.in_ok-image.ensures c.in_err-file.ensures c.from_residual-in_err-file.ensures.1

pub returns-in_err-bytes : goal.returns-in_err-bytes
returns-in_err-bytes g c = λ o.
    put_without_memory c.args.target c.args.manner c.args.path.now c.args.word.now c.in_ok-name.name c.in_ok-name.ensures.name (g.F.Files.folder c.args.files.now) (g.F.Files.folder c.claim.new.files) (g.F.Files.folder c.read.new.files) o
    c.in_ok-image.image c.in_ok-file.file.items end.NoMemory c.from_residual-in_err-bytes.result c.in_ok-image.ensures c.in_ok-file.ensures.0 c.in_ok-file.ensures.1 refl (search rules)

pub returns : goal.returns
returns g c = λ o.
    put_changed c.args.target c.args.manner c.args.path.now c.args.word.now c.in_ok-name.name c.in_ok-name.ensures.name (g.F.Files.folder c.args.files.now) (g.F.Files.folder c.claim.new.files) (g.F.Files.folder c.read.new.files)
    (g.F.Files.folder c.change.new.files) o c.in_ok-image.image c.in_ok-file.file.items c.put-made.result c.without_name.result c.change.result c.in_ok-image.ensures c.in_ok-file.ensures.0 c.in_ok-file.ensures.1
    (subst (λ b. IsPutImage b c.args.target.user c.args.manner.replace ((c.in_ok-name.name, as_put c.args.manner.text c.in_ok-file.file.items) ∷ []) c.put-made.result) c.deref-2.ensures.value
    (subst (λ f. IsPutImage c.deref-2.result.now c.args.target.user c.args.manner.replace ((c.in_ok-name.name, f) ∷ []) c.put-made.result) (c.deref.ensures.value ∙ c.in_ok-bytes.ensures) c.put-made.ensures.answer))
    c.without_name.ensures c.change.ensures
