use Rattle.std.proofs.Common.{◌∙◌, map, subst}
use Rattle.std.proofs.lemmas.Result.{err_from_is_err_and}
use Rattle.z80dev_disk.specs.Private.{IsRefusedAt}
use Rattle.z80dev_disk.specs.Put.{PutsOne, StopsOne, named_file, name_of_file}
use Rattle.z80dev_disk.proofs.Alongs.{along_step, image_at, stops_at}
use Rattle.z80dev_disk.proofs.putting.put_all.Goals as goal

pub returns-in_err-put_one-clause-stopped : goal.returns-in_err-put_one-clause-stopped
returns-in_err-put_one-clause-stopped c =
    let (kind_is, sound, so_far) = c.loop-file.invariant in
    let user = c.args.user in
    let kind = c.args.disk.now.kind in
    let file = named_file c.file-item.result in
    let stops = subst (λ k. IsRefusedAt (StopsOne k user c.args.replace) name_of_file file c.loop-file.disk.device c.in_err-put_one.field-0.0) kind_is c.in_err-put_one.ensures.stopped in
    let p = err_from_is_err_and c.from_residual.result c.from_residual.ensures.1 in
    rw (p.1, p.2) (stops_at (PutsOne kind user c.args.replace) (StopsOne kind user c.args.replace) name_of_file (map named_file c.args.files.now) c.loop-file.file-index file c.args.disk.now.device c.loop-file.disk.device c.in_err-put_one.field-0.0
    (image_at named_file c.args.files.now c.loop-file.file-index c.file-item.result c.loop-file-test.true c.file-item.is) so_far stops)

pub loop-file-preserved : goal.loop-file-preserved
loop-file-preserved c =
    let (kind_is, sound, so_far) = c.loop-file.invariant in
    let user = c.args.user in
    let file = named_file c.file-item.result in
    let put = subst (λ k. PutsOne k user c.args.replace file c.loop-file.disk.device c.put_one.new.disk.device) kind_is c.in_ok-put_one.ensures.put in (
      c.in_ok-put_one.ensures.kind ∙ kind_is,
      c.in_ok-put_one.ensures.sound,
      along_step (PutsOne c.args.disk.now.kind user c.args.replace) (map named_file c.args.files.now) c.loop-file.file-index file c.args.disk.now.device c.loop-file.disk.device c.put_one.new.disk.device
          (image_at named_file c.args.files.now c.loop-file.file-index c.file-item.result c.loop-file-test.true c.file-item.is) so_far put,
    )
