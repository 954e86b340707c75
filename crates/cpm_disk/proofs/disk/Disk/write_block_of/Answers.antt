use Rattle.std.proofs.Common.{◌≡◌, ◌⊎◌, true, Err, Ok, ap, length, refl, slice_set, subst, sym, ◌∙◌}
use Rattle.std.proofs.lemmas.Result.{err_from_is_err_and}
use Rattle.cpm_image.specs.declared.directory.fault.DiskFault.TheVariants.{Fault}
use Rattle.cpm_disk.specs.Kept.{IsKeptBy}
use Rattle.cpm_disk.specs.Steps.{writing}
use Rattle.cpm_disk.specs.Files.{HasRecord, HasSameRecords, IsFile, OthersAreSame}
use Rattle.cpm_disk.specs.Image.{directory}
use Rattle.cpm_disk.specs.Operations.{IsRecordWritten}
use Rattle.cpm_disk.proofs.StillMounted.{mounted_partly_written, mounted_written, whole, write_between}
use Rattle.cpm_disk.proofs.Others.{whole_write, write_others}
use Rattle.cpm_disk.proofs.Refusals.{write_refused}
use Rattle.cpm_disk.proofs.Stopped.{write_left}
use Rattle.cpm_disk.proofs.Written.{record_written}
use Rattle.cpm_disk.proofs.Remembered.{still_writable}
use Rattle.cpm_disk.proofs.disk.Disk.write_block_of.Goals as goal

pub returns-in_err-place-clause-done : goal.returns-in_err-place-clause-done
returns-in_err-place-clause-done g c =
    let entries = c.self.invariant.entries_are c.if-self.false in
    let asked : writing c.self.inside.kind c.args.user c.args.name.now c.args.number (directory c.self.inside.kind (g.S.Sectors.sectors c.self.inside.device)) ≡ Err c.in_err-place.field-0.0 =
    ap (writing c.self.inside.kind c.args.user c.args.name.now c.args.number) (sym (c.deref-2.ensures.value ∙ entries)) ∙ sym c.in_err-place.ensures.step in
    let p = err_from_is_err_and c.from_residual.result c.from_residual.ensures.1 in
    rw (p.1, p.2) (subst (λ disk. IsRecordWritten g.S.Sectors.sectors g.S.Sectors.faults disk disk c.args.user c.args.name.now c.args.number c.args.bytes.now (Err c.in_err-place.field-0.0)) c.self.view_is
    (write_refused g.S.Sectors.sectors g.S.Sectors.faults _ c.args.user c.args.name.now c.args.number c.args.bytes.now c.in_err-place.field-0.0 c.if-self.false asked c.in_err-place.ensures.refusals))

pub invariant_of-self : goal.invariant_of-self
invariant_of-self g c =
    let entries = c.self.invariant.entries_are c.if-self.false in
    let kept : IsKeptBy c.self.inside.kind c.args.user c.args.name.now (directory c.self.inside.kind (g.S.Sectors.sectors c.self.inside.device)) c.in_ok-place.place = subst (λ es. IsKeptBy c.self.inside.kind c.args.user c.args.name.now es c.in_ok-place.place) (c.deref-2.ensures.value ∙ entries) c.in_ok-place.ensures.kept in
    let size = c.in-Ok.ensures.size ∙ sym c.self.invariant.size ∙ ap length (sym c.deref_mut.ensures.value) ∙ c.deref_mut.ensures.len in
    let all = whole _ c.write_all.new.entries c.self.inside.entries.items size in
    let asked : writing c.self.inside.kind c.args.user c.args.name.now c.args.number (directory c.self.inside.kind (g.S.Sectors.sectors c.self.inside.device)) ≡ Ok c.in_ok-place.place =
    ap (writing c.self.inside.kind c.args.user c.args.name.now c.args.number) (sym (c.deref-2.ensures.value ∙ entries)) ∙ sym c.writing_at.ensures.step ∙ c.in_ok-place.was in
    let sound = kept.sound _ (write_between c.self.inside.kind _ _ c.in_ok-place.place _ _ (whole_write c.self.inside.kind _ _ c.in_ok-place.place _ _ (rw (c.from.ensures, c.block_records.ensures) at c.in-Ok.ensures.written))) in
    mounted_written c.self.inside.kind _ _ c.self.inside.entries.items _ c.self.inside.failed _ c.args.user c.args.name.now c.in_ok-place.place _ _ c.self.invariant kept (rw (c.from.ensures, c.block_records.ensures) at c.in-Ok.ensures.written)
    (all ∙ c.in-Ok.ensures.entries ∙ ap (λ es. slice_set es c.in_ok-place.place.entry_number c.in_ok-place.place.entry) (c.deref_mut.ensures.value ∙ entries)) (ap length all ∙ c.in-Ok.ensures.size) (still_writable c.self.inside.kind _ _ c.args.user c.args.name.now c.args.number c.args.bytes.now c.in_ok-place.place c.requires c.self.invariant.sound sound kept c.in_ok-place.ensures.placed asked (rw (c.from.ensures, c.block_records.ensures) at c.in-Ok.ensures.written))

pub invariant_of-self-in-Err : goal.invariant_of-self-in-Err
invariant_of-self-in-Err g c =
    let entries = c.self.invariant.entries_are c.if-self.false in
    let kept : IsKeptBy c.self.inside.kind c.args.user c.args.name.now (directory c.self.inside.kind (g.S.Sectors.sectors c.self.inside.device)) c.in_ok-place.place = subst (λ es. IsKeptBy c.self.inside.kind c.args.user c.args.name.now es c.in_ok-place.place) (c.deref-2.ensures.value ∙ entries) c.in_ok-place.ensures.kept in
    let size = c.in-Err.ensures.size ∙ sym c.self.invariant.size ∙ ap length (sym c.deref_mut.ensures.value) ∙ c.deref_mut.ensures.len in
    let all = whole _ c.write_all.new.entries c.self.inside.entries.items size in
    mounted_partly_written c.self.inside.kind _ _ c.self.inside.entries.items _ c.self.inside.failed _ c.args.user c.args.name.now c.in_ok-place.place _ _ c.self.invariant kept (rw (c.from.ensures, c.block_records.ensures) at c.in-Err.ensures.stopped) (ap length all ∙ c.in-Err.ensures.size)

pub returns-in-Ok-clause-done : goal.returns-in-Ok-clause-done
returns-in-Ok-clause-done g c =
    let entries = c.self.invariant.entries_are c.if-self.false in
    let asked : writing c.self.inside.kind c.args.user c.args.name.now c.args.number (directory c.self.inside.kind (g.S.Sectors.sectors c.self.inside.device)) ≡ Ok c.in_ok-place.place =
    ap (writing c.self.inside.kind c.args.user c.args.name.now c.args.number) (sym (c.deref-2.ensures.value ∙ entries)) ∙ sym c.writing_at.ensures.step ∙ c.in_ok-place.was in
    subst (λ old. IsRecordWritten g.S.Sectors.sectors g.S.Sectors.faults old (record { device = c.write_all.new.device; kind = c.self.inside.kind; failed = c.self.inside.failed }) c.args.user c.args.name.now c.args.number c.args.bytes.now (Ok tt)) c.self.view_is
    (c.if-self.false, c.if-self.false, refl, c.in-Ok.ensures.cause, c.in_ok-place.place, asked, (rw (c.from.ensures, c.block_records.ensures) at c.in-Ok.ensures.written))

pub returns-in-Err-clause-done : goal.returns-in-Err-clause-done
returns-in-Err-clause-done g c =
    let entries = c.self.invariant.entries_are c.if-self.false in
    let asked : writing c.self.inside.kind c.args.user c.args.name.now c.args.number (directory c.self.inside.kind (g.S.Sectors.sectors c.self.inside.device)) ≡ Ok c.in_ok-place.place =
    ap (writing c.self.inside.kind c.args.user c.args.name.now c.args.number) (sym (c.deref-2.ensures.value ∙ entries)) ∙ sym c.writing_at.ensures.step ∙ c.in_ok-place.was in
    subst (λ old. IsRecordWritten g.S.Sectors.sectors g.S.Sectors.faults old (record { device = c.write_all.new.device; kind = c.self.inside.kind; failed = true }) c.args.user c.args.name.now c.args.number c.args.bytes.now (Err Fault)) c.self.view_is
    (c.if-self.false, refl, refl, c.in-Err.ensures.cause, c.in_ok-place.place, asked, (rw (c.from.ensures, c.block_records.ensures) at c.in-Err.ensures.stopped))

pub returns-in-Ok-clause-sound : goal.returns-in-Ok-clause-sound
returns-in-Ok-clause-sound g c =
    let entries = c.self.invariant.entries_are c.if-self.false in
    let kept : IsKeptBy c.self.inside.kind c.args.user c.args.name.now (directory c.self.inside.kind (g.S.Sectors.sectors c.self.inside.device)) c.in_ok-place.place = subst (λ es. IsKeptBy c.self.inside.kind c.args.user c.args.name.now es c.in_ok-place.place) (c.deref-2.ensures.value ∙ entries) c.in_ok-place.ensures.kept in
    kept.sound _ (write_between c.self.inside.kind _ _ c.in_ok-place.place _ _ (whole_write c.self.inside.kind _ _ c.in_ok-place.place _ _ (rw (c.from.ensures, c.block_records.ensures) at c.in-Ok.ensures.written)))

pub returns-in-Err-clause-sound : goal.returns-in-Err-clause-sound
returns-in-Err-clause-sound g c =
    let entries = c.self.invariant.entries_are c.if-self.false in
    let kept : IsKeptBy c.self.inside.kind c.args.user c.args.name.now (directory c.self.inside.kind (g.S.Sectors.sectors c.self.inside.device)) c.in_ok-place.place = subst (λ es. IsKeptBy c.self.inside.kind c.args.user c.args.name.now es c.in_ok-place.place) (c.deref-2.ensures.value ∙ entries) c.in_ok-place.ensures.kept in
    kept.sound _ (write_between c.self.inside.kind _ _ c.in_ok-place.place _ _ (rw (c.from.ensures, c.block_records.ensures) at c.in-Err.ensures.stopped))

pub returns-in-Ok-clause-others : goal.returns-in-Ok-clause-others
returns-in-Ok-clause-others g c =
    let entries = c.self.invariant.entries_are c.if-self.false in
    let kept : IsKeptBy c.self.inside.kind c.args.user c.args.name.now (directory c.self.inside.kind (g.S.Sectors.sectors c.self.inside.device)) c.in_ok-place.place = subst (λ es. IsKeptBy c.self.inside.kind c.args.user c.args.name.now es c.in_ok-place.place) (c.deref-2.ensures.value ∙ entries) c.in_ok-place.ensures.kept in
    subst (λ old. OthersAreSame old.kind (g.S.Sectors.sectors old.device) (g.S.Sectors.sectors c.write_all.new.device) (IsFile c.args.user c.args.name.now)) c.self.view_is
    (write_others c.self.inside.kind _ _ c.in_ok-place.place _ _ c.args.user c.args.name.now c.self.invariant.sound kept (whole_write c.self.inside.kind _ _ c.in_ok-place.place _ _ (rw (c.from.ensures, c.block_records.ensures) at c.in-Ok.ensures.written)))

pub returns-in-Err-clause-others : goal.returns-in-Err-clause-others
returns-in-Err-clause-others g c =
    let entries = c.self.invariant.entries_are c.if-self.false in
    let kept : IsKeptBy c.self.inside.kind c.args.user c.args.name.now (directory c.self.inside.kind (g.S.Sectors.sectors c.self.inside.device)) c.in_ok-place.place = subst (λ es. IsKeptBy c.self.inside.kind c.args.user c.args.name.now es c.in_ok-place.place) (c.deref-2.ensures.value ∙ entries) c.in_ok-place.ensures.kept in
    subst (λ old. OthersAreSame old.kind (g.S.Sectors.sectors old.device) (g.S.Sectors.sectors c.write_all.new.device) (IsFile c.args.user c.args.name.now)) c.self.view_is
    (write_others c.self.inside.kind _ _ c.in_ok-place.place _ _ c.args.user c.args.name.now c.self.invariant.sound kept (rw (c.from.ensures, c.block_records.ensures) at c.in-Err.ensures.stopped))

pub returns-in-Ok-clause-written : goal.returns-in-Ok-clause-written
returns-in-Ok-clause-written g c =
    let entries = c.self.invariant.entries_are c.if-self.false in
    let asked : writing c.self.inside.kind c.args.user c.args.name.now c.args.number (directory c.self.inside.kind (g.S.Sectors.sectors c.self.inside.device)) ≡ Ok c.in_ok-place.place =
    ap (writing c.self.inside.kind c.args.user c.args.name.now c.args.number) (sym (c.deref-2.ensures.value ∙ entries)) ∙ sym c.writing_at.ensures.step ∙ c.in_ok-place.was in
    let kept : IsKeptBy c.self.inside.kind c.args.user c.args.name.now (directory c.self.inside.kind (g.S.Sectors.sectors c.self.inside.device)) c.in_ok-place.place = subst (λ es. IsKeptBy c.self.inside.kind c.args.user c.args.name.now es c.in_ok-place.place) (c.deref-2.ensures.value ∙ entries) c.in_ok-place.ensures.kept in
    let sound = kept.sound _ (write_between c.self.inside.kind _ _ c.in_ok-place.place _ _ (whole_write c.self.inside.kind _ _ c.in_ok-place.place _ _ (rw (c.from.ensures, c.block_records.ensures) at c.in-Ok.ensures.written))) in
    subst (λ old. HasRecord old.kind (g.S.Sectors.sectors old.device) (g.S.Sectors.sectors c.write_all.new.device) c.args.user c.args.name.now c.args.number c.args.bytes.now) c.self.view_is
    (record_written c.self.inside.kind _ _ c.args.user c.args.name.now c.args.number c.args.bytes.now c.in_ok-place.place c.requires c.self.invariant.sound sound kept c.in_ok-place.ensures.placed asked (rw (c.from.ensures, c.block_records.ensures) at c.in-Ok.ensures.written))

pub returns-in-Err-clause-stopped : goal.returns-in-Err-clause-stopped
returns-in-Err-clause-stopped g c =
    let entries = c.self.invariant.entries_are c.if-self.false in
    let asked : writing c.self.inside.kind c.args.user c.args.name.now c.args.number (directory c.self.inside.kind (g.S.Sectors.sectors c.self.inside.device)) ≡ Ok c.in_ok-place.place =
    ap (writing c.self.inside.kind c.args.user c.args.name.now c.args.number) (sym (c.deref-2.ensures.value ∙ entries)) ∙ sym c.writing_at.ensures.step ∙ c.in_ok-place.was in
    let kept : IsKeptBy c.self.inside.kind c.args.user c.args.name.now (directory c.self.inside.kind (g.S.Sectors.sectors c.self.inside.device)) c.in_ok-place.place = subst (λ es. IsKeptBy c.self.inside.kind c.args.user c.args.name.now es c.in_ok-place.place) (c.deref-2.ensures.value ∙ entries) c.in_ok-place.ensures.kept in
    let sound = kept.sound _ (write_between c.self.inside.kind _ _ c.in_ok-place.place _ _ (rw (c.from.ensures, c.block_records.ensures) at c.in-Err.ensures.stopped)) in
    subst (λ old. HasSameRecords old.kind (g.S.Sectors.sectors old.device) (g.S.Sectors.sectors c.write_all.new.device) c.args.user c.args.name.now ⊎ HasRecord old.kind (g.S.Sectors.sectors old.device) (g.S.Sectors.sectors c.write_all.new.device) c.args.user c.args.name.now c.args.number c.args.bytes.now) c.self.view_is
    (write_left c.self.inside.kind _ _ c.args.user c.args.name.now c.args.number c.args.bytes.now c.in_ok-place.place c.requires c.self.invariant.sound sound kept c.in_ok-place.ensures.placed asked (rw (c.from.ensures, c.block_records.ensures) at c.in-Err.ensures.stopped))
