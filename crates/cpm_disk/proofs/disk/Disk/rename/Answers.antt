use Rattle.std.proofs.Common.{◌≡◌, true, Err, Ok, ap, length, refl, subst, sym, ◌∙◌}
use Rattle.cpm_image.specs.declared.directory.fault.DiskFault.TheVariants.{Fault}
use Rattle.cpm_image.specs.Directory.Rules.{IsSound}
use Rattle.cpm_disk.specs.Kept.{StaysSound}
use Rattle.cpm_disk.specs.Steps.{renaming, after_renaming}
use Rattle.cpm_disk.specs.Calls.{Changed, PartlyChanged}
use Rattle.cpm_disk.specs.Files.{IsEither, IsMoved, OthersAreSame}
use Rattle.cpm_disk.specs.Image.{directory}
use Rattle.cpm_disk.specs.Operations.{IsRenamed}
use Rattle.cpm_disk.proofs.StillMounted.{mounted_changed, whole}
use Rattle.cpm_disk.proofs.Maps.{renamed_file}
use Rattle.cpm_disk.proofs.Others.{rename_others, whole_change}
use Rattle.cpm_disk.proofs.disk.Disk.rename.Goals as goal

pub invariant_of-self : goal.invariant_of-self
invariant_of-self g c =
    let entries = c.deref_mut.ensures.value ∙ c.self.invariant.entries_are c.if-self.false in
    let asked = c.deref.ensures.value ∙ c.self.invariant.entries_are c.if-self.false in
    let kept = subst (λ es. IsSound c.self.inside.kind es → StaysSound c.self.inside.kind es (after_renaming c.args.user c.args.old.now c.args.new.now es)) asked (c.in_ok-renaming.ensures.kept c.self.inside.kind) c.self.invariant.sound in
    let now : c.change_all.new.entries ≡ after_renaming c.args.user c.args.old.now c.args.new.now (directory c.self.inside.kind (g.S.Sectors.sectors c.self.inside.device)) = c.in-Ok.ensures.entries ∙ ap (after_renaming c.args.user c.args.old.now c.args.new.now) entries in
    mounted_changed c.self.inside.kind _ _ c.self.inside.entries.items (after_renaming c.args.user c.args.old.now c.args.new.now (directory c.self.inside.kind (g.S.Sectors.sectors c.self.inside.device))) _ c.self.inside.failed _ c.self.invariant kept
    (subst (Changed c.self.inside.kind (g.S.Sectors.sectors c.self.inside.device) (g.S.Sectors.sectors c.change_all.new.device)) now c.in-Ok.ensures.changed)
    (whole _ c.change_all.new.entries c.self.inside.entries.items (c.in-Ok.ensures.size ∙ sym c.self.invariant.size ∙ ap length (sym c.deref_mut.ensures.value) ∙ c.deref_mut.ensures.len) ∙ now) (ap length (sym now) ∙ c.in-Ok.ensures.size)

pub returns-in-Err-clause-sound : goal.returns-in-Err-clause-sound
returns-in-Err-clause-sound g c =
    let entries = c.deref_mut.ensures.value ∙ c.self.invariant.entries_are c.if-self.false in
    let asked = c.deref.ensures.value ∙ c.self.invariant.entries_are c.if-self.false in
    let kept = subst (λ es. IsSound c.self.inside.kind es → StaysSound c.self.inside.kind es (after_renaming c.args.user c.args.old.now c.args.new.now es)) asked (c.in_ok-renaming.ensures.kept c.self.inside.kind) c.self.invariant.sound in
    kept _ (subst (λ es. PartlyChanged c.self.inside.kind (g.S.Sectors.sectors c.self.inside.device) (g.S.Sectors.sectors c.change_all.new.device) (after_renaming c.args.user c.args.old.now c.args.new.now es)) entries c.in-Err.ensures.stopped).between

pub returns-in-Err-clause-done : goal.returns-in-Err-clause-done
returns-in-Err-clause-done g c =
    let entries = c.self.invariant.entries_are c.if-self.false in
    let asked : renaming c.args.user c.args.old.now c.args.new.now (directory c.self.inside.kind (g.S.Sectors.sectors c.self.inside.device)) ≡ Ok tt =
    ap (renaming c.args.user c.args.old.now c.args.new.now) (sym (c.deref.ensures.value ∙ entries)) ∙ sym c.renaming.ensures.step ∙ c.in_ok-renaming.was in
    subst (λ old. IsRenamed g.S.Sectors.sectors g.S.Sectors.faults old (record { device = c.change_all.new.device; kind = c.self.inside.kind; failed = true }) c.args.user c.args.old.now c.args.new.now (Err Fault)) c.self.view_is (
      c.if-self.false,
      refl,
      refl,
      c.in-Err.ensures.cause,
      tt,
      asked,
      subst (λ es. PartlyChanged c.self.inside.kind (g.S.Sectors.sectors c.self.inside.device) (g.S.Sectors.sectors c.change_all.new.device) (after_renaming c.args.user c.args.old.now c.args.new.now es)) (c.deref_mut.ensures.value ∙ entries) c.in-Err.ensures.stopped,
    )

pub returns-in-Ok-clause-others : goal.returns-in-Ok-clause-others
returns-in-Ok-clause-others g c =
    let entries = c.deref_mut.ensures.value ∙ c.self.invariant.entries_are c.if-self.false in
    subst (λ old. OthersAreSame old.kind (g.S.Sectors.sectors old.device) (g.S.Sectors.sectors c.change_all.new.device) (IsEither c.args.user c.args.old.now c.args.new.now)) c.self.view_is
    (rename_others c.self.inside.kind _ _ c.args.user c.args.old.now c.args.new.now c.requires (c.is_name.ensures.eleven ∙ sym c.is_name-2.ensures.eleven) c.is_name-2.ensures.seven c.self.invariant.sound
    (whole_change c.self.inside.kind _ _ _ (subst (Changed c.self.inside.kind (g.S.Sectors.sectors c.self.inside.device) (g.S.Sectors.sectors c.change_all.new.device)) (c.in-Ok.ensures.entries ∙ ap (after_renaming c.args.user c.args.old.now c.args.new.now) entries) c.in-Ok.ensures.changed)))

pub returns-in-Err-clause-others : goal.returns-in-Err-clause-others
returns-in-Err-clause-others g c =
    let entries = c.deref_mut.ensures.value ∙ c.self.invariant.entries_are c.if-self.false in
    subst (λ old. OthersAreSame old.kind (g.S.Sectors.sectors old.device) (g.S.Sectors.sectors c.change_all.new.device) (IsEither c.args.user c.args.old.now c.args.new.now)) c.self.view_is
    (rename_others c.self.inside.kind _ _ c.args.user c.args.old.now c.args.new.now c.requires (c.is_name.ensures.eleven ∙ sym c.is_name-2.ensures.eleven) c.is_name-2.ensures.seven c.self.invariant.sound
    (subst (λ es. PartlyChanged c.self.inside.kind (g.S.Sectors.sectors c.self.inside.device) (g.S.Sectors.sectors c.change_all.new.device) (after_renaming c.args.user c.args.old.now c.args.new.now es)) entries c.in-Err.ensures.stopped))

pub returns-in-Ok-clause-moved : goal.returns-in-Ok-clause-moved
returns-in-Ok-clause-moved g c =
    let entries = c.deref_mut.ensures.value ∙ c.self.invariant.entries_are c.if-self.false in
    let asked : renaming c.args.user c.args.old.now c.args.new.now (directory c.self.inside.kind (g.S.Sectors.sectors c.self.inside.device)) ≡ Ok tt =
    ap (renaming c.args.user c.args.old.now c.args.new.now) (sym (c.deref.ensures.value ∙ c.self.invariant.entries_are c.if-self.false)) ∙ sym c.renaming.ensures.step ∙ c.in_ok-renaming.was in
    subst (λ old. IsMoved old.kind (g.S.Sectors.sectors old.device) (g.S.Sectors.sectors c.change_all.new.device) c.args.user c.args.old.now c.args.new.now) c.self.view_is
    (renamed_file c.self.inside.kind _ _ c.args.user c.args.old.now c.args.new.now c.requires (c.is_name.ensures.eleven ∙ sym c.is_name-2.ensures.eleven) c.is_name-2.ensures.seven c.self.invariant.sound asked
    (subst (Changed c.self.inside.kind (g.S.Sectors.sectors c.self.inside.device) (g.S.Sectors.sectors c.change_all.new.device)) (c.in-Ok.ensures.entries ∙ ap (after_renaming c.args.user c.args.old.now c.args.new.now) entries) c.in-Ok.ensures.changed))
