use Rattle.std.proofs.Common.{All, ◌≡◌, true, Err, Ok, ap, length, inr, refl, subst, sym, ◌∙◌}
use Rattle.cpm_image.specs.declared.directory.fault.DiskFault.TheVariants.{Fault}
use Rattle.cpm_image.specs.Directory.Entries.{at}
use Rattle.cpm_image.specs.Directory.Rules.{IsSound}
use Rattle.cpm_disk.specs.Kept.{StaysSound}
use Rattle.cpm_disk.specs.Steps.{marking, after_marking}
use Rattle.cpm_disk.specs.Calls.{Changed, PartlyChanged}
use Rattle.cpm_disk.specs.Files.{IsMarkedFile, IsMatched, OthersAreSame}
use Rattle.cpm_disk.specs.Image.{directory}
use Rattle.cpm_disk.specs.Operations.{IsMarked}
use Rattle.cpm_disk.proofs.StillMounted.{mounted_changed, mounted_partly, whole}
use Rattle.cpm_disk.proofs.Marking.{mark_others, marked_file}
use Rattle.cpm_disk.proofs.Others.{whole_change}
use Rattle.cpm_disk.proofs.disk.Disk.mark.Goals as goal

pub invariant_of-self : goal.invariant_of-self
invariant_of-self g c =
    let entries = c.deref_mut.ensures.value ∙ c.self.invariant.entries_are c.if-self.false in
    let asked = c.deref.ensures.value ∙ c.self.invariant.entries_are c.if-self.false in
    let kept = subst (λ es. IsSound c.self.inside.kind es → StaysSound c.self.inside.kind es (after_marking c.args.user c.args.pattern.now.name c.args.attribute c.args.on es)) asked (c.marking.ensures.kept c.self.inside.kind c.args.attribute c.args.on) c.self.invariant.sound in
    let now : c.change_all.new.entries ≡ after_marking c.args.user c.args.pattern.now.name c.args.attribute c.args.on (directory c.self.inside.kind (g.S.Sectors.sectors c.self.inside.device)) = c.in-Ok.ensures.entries ∙ ap (after_marking c.args.user c.args.pattern.now.name c.args.attribute c.args.on) entries in
    mounted_changed c.self.inside.kind _ _ c.self.inside.entries.items (after_marking c.args.user c.args.pattern.now.name c.args.attribute c.args.on (directory c.self.inside.kind (g.S.Sectors.sectors c.self.inside.device))) _ c.self.inside.failed _ c.self.invariant kept
    (subst (Changed c.self.inside.kind (g.S.Sectors.sectors c.self.inside.device) (g.S.Sectors.sectors c.change_all.new.device)) now c.in-Ok.ensures.changed)
    (whole _ c.change_all.new.entries c.self.inside.entries.items (c.in-Ok.ensures.size ∙ sym c.self.invariant.size ∙ ap length (sym c.deref_mut.ensures.value) ∙ c.deref_mut.ensures.len) ∙ now) (ap length (sym now) ∙ c.in-Ok.ensures.size)

pub invariant_of-self-in-Err : goal.invariant_of-self-in-Err
invariant_of-self-in-Err g c =
    let entries = c.deref_mut.ensures.value ∙ c.self.invariant.entries_are c.if-self.false in
    let asked = c.deref.ensures.value ∙ c.self.invariant.entries_are c.if-self.false in
    let kept = subst (λ es. IsSound c.self.inside.kind es → StaysSound c.self.inside.kind es (after_marking c.args.user c.args.pattern.now.name c.args.attribute c.args.on es)) asked (c.marking.ensures.kept c.self.inside.kind c.args.attribute c.args.on) c.self.invariant.sound in
    let all = whole _ c.change_all.new.entries c.self.inside.entries.items (c.in-Err.ensures.size ∙ sym c.self.invariant.size ∙ ap length (sym c.deref_mut.ensures.value) ∙ c.deref_mut.ensures.len) in
    mounted_partly c.self.inside.kind _ _ c.self.inside.entries.items (after_marking c.args.user c.args.pattern.now.name c.args.attribute c.args.on (directory c.self.inside.kind (g.S.Sectors.sectors c.self.inside.device))) _ c.self.inside.failed _ _ c.self.invariant kept
    (subst (λ es. PartlyChanged c.self.inside.kind (g.S.Sectors.sectors c.self.inside.device) (g.S.Sectors.sectors c.change_all.new.device) (after_marking c.args.user c.args.pattern.now.name c.args.attribute c.args.on es)) entries c.in-Err.ensures.stopped)
    (ap length all ∙ c.in-Err.ensures.size)

pub returns-in-Ok-clause-sound : goal.returns-in-Ok-clause-sound
returns-in-Ok-clause-sound g c =
    let entries = c.deref_mut.ensures.value ∙ c.self.invariant.entries_are c.if-self.false in
    let asked = c.deref.ensures.value ∙ c.self.invariant.entries_are c.if-self.false in
    let kept = subst (λ es. IsSound c.self.inside.kind es → StaysSound c.self.inside.kind es (after_marking c.args.user c.args.pattern.now.name c.args.attribute c.args.on es)) asked (c.marking.ensures.kept c.self.inside.kind c.args.attribute c.args.on) c.self.invariant.sound in
    kept _ (λ k. inr (ap (λ es. at es k) (c.in-Ok.ensures.changed.entries_are ∙ c.in-Ok.ensures.entries ∙ ap (after_marking c.args.user c.args.pattern.now.name c.args.attribute c.args.on) entries)))

pub returns-in-Err-clause-sound : goal.returns-in-Err-clause-sound
returns-in-Err-clause-sound g c =
    let entries = c.deref_mut.ensures.value ∙ c.self.invariant.entries_are c.if-self.false in
    let asked = c.deref.ensures.value ∙ c.self.invariant.entries_are c.if-self.false in
    let kept = subst (λ es. IsSound c.self.inside.kind es → StaysSound c.self.inside.kind es (after_marking c.args.user c.args.pattern.now.name c.args.attribute c.args.on es)) asked (c.marking.ensures.kept c.self.inside.kind c.args.attribute c.args.on) c.self.invariant.sound in
    kept _ (subst (λ es. PartlyChanged c.self.inside.kind (g.S.Sectors.sectors c.self.inside.device) (g.S.Sectors.sectors c.change_all.new.device) (after_marking c.args.user c.args.pattern.now.name c.args.attribute c.args.on es)) entries c.in-Err.ensures.stopped).between

pub returns-in-Err-clause-done : goal.returns-in-Err-clause-done
returns-in-Err-clause-done g c =
    let entries = c.self.invariant.entries_are c.if-self.false in
    let asked : marking c.args.user c.args.pattern.now.name (directory c.self.inside.kind (g.S.Sectors.sectors c.self.inside.device)) ≡ Ok c.in_ok-count.count =
    ap (marking c.args.user c.args.pattern.now.name) (sym (c.deref.ensures.value ∙ entries)) ∙ sym c.marking.ensures.step ∙ c.in_ok-count.was in
    subst (λ old. IsMarked g.S.Sectors.sectors g.S.Sectors.faults old (record { device = c.change_all.new.device; kind = c.self.inside.kind; failed = true }) c.args.user c.args.pattern.now.name c.args.attribute c.args.on (Err Fault)) c.self.view_is (
      c.if-self.false,
      refl,
      refl,
      c.in-Err.ensures.cause,
      c.in_ok-count.count,
      asked,
      subst (λ es. PartlyChanged c.self.inside.kind (g.S.Sectors.sectors c.self.inside.device) (g.S.Sectors.sectors c.change_all.new.device) (after_marking c.args.user c.args.pattern.now.name c.args.attribute c.args.on es)) (c.deref_mut.ensures.value ∙ entries) c.in-Err.ensures.stopped,
    )

pub returns-in-Ok-clause-others : goal.returns-in-Ok-clause-others
returns-in-Ok-clause-others g c =
    let entries = c.deref_mut.ensures.value ∙ c.self.invariant.entries_are c.if-self.false in
    subst (λ old. OthersAreSame old.kind (g.S.Sectors.sectors old.device) (g.S.Sectors.sectors c.change_all.new.device) (IsMatched c.args.user c.args.pattern.now.name)) c.self.view_is
    (mark_others c.self.inside.kind _ _ c.args.user c.args.pattern.now.name c.args.attribute c.args.on c.requires c.self.invariant.sound
    (whole_change c.self.inside.kind _ _ _ (subst (Changed c.self.inside.kind (g.S.Sectors.sectors c.self.inside.device) (g.S.Sectors.sectors c.change_all.new.device)) (c.in-Ok.ensures.entries ∙ ap (after_marking c.args.user c.args.pattern.now.name c.args.attribute c.args.on) entries) c.in-Ok.ensures.changed)))

pub returns-in-Err-clause-others : goal.returns-in-Err-clause-others
returns-in-Err-clause-others g c =
    let entries = c.deref_mut.ensures.value ∙ c.self.invariant.entries_are c.if-self.false in
    subst (λ old. OthersAreSame old.kind (g.S.Sectors.sectors old.device) (g.S.Sectors.sectors c.change_all.new.device) (IsMatched c.args.user c.args.pattern.now.name)) c.self.view_is
    (mark_others c.self.inside.kind _ _ c.args.user c.args.pattern.now.name c.args.attribute c.args.on c.requires c.self.invariant.sound
    (subst (λ es. PartlyChanged c.self.inside.kind (g.S.Sectors.sectors c.self.inside.device) (g.S.Sectors.sectors c.change_all.new.device) (after_marking c.args.user c.args.pattern.now.name c.args.attribute c.args.on es)) entries c.in-Err.ensures.stopped))

pub returns-in-Ok-clause-marked : goal.returns-in-Ok-clause-marked
returns-in-Ok-clause-marked g c = λ name matches.
    let entries = c.deref_mut.ensures.value ∙ c.self.invariant.entries_are c.if-self.false in
    subst (λ old. IsMarkedFile old.kind (g.S.Sectors.sectors old.device) (g.S.Sectors.sectors c.change_all.new.device) c.args.user name c.args.attribute c.args.on) c.self.view_is
    (marked_file c.self.inside.kind _ _ c.args.user c.args.pattern.now.name c.args.attribute c.args.on name c.requires matches c.self.invariant.sound
    (subst (All (λ e. length e.name ≡ 11)) (c.deref-2.ensures.value ∙ c.self.invariant.entries_are c.if-self.false) c.are_entries.ensures)
    (subst (Changed c.self.inside.kind (g.S.Sectors.sectors c.self.inside.device) (g.S.Sectors.sectors c.change_all.new.device)) (c.in-Ok.ensures.entries ∙ ap (after_marking c.args.user c.args.pattern.now.name c.args.attribute c.args.on) entries) c.in-Ok.ensures.changed))
