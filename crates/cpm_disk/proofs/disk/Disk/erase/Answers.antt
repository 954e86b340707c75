use Rattle.std.proofs.Common.{◌≡◌, true, Err, Ok, ap, length, inr, refl, subst, sym, ◌∙◌}
use Rattle.cpm_image.specs.declared.directory.fault.DiskFault.TheVariants.{Fault}
use Rattle.cpm_image.specs.Directory.Entries.{at}
use Rattle.cpm_image.specs.Directory.Rules.{IsSound}
use Rattle.cpm_disk.specs.Kept.{StaysSound}
use Rattle.cpm_disk.specs.Steps.{erasure, after_erasure}
use Rattle.cpm_disk.specs.Calls.{Changed, PartlyChanged}
use Rattle.cpm_disk.specs.Files.{IsMatched, OthersAreSame}
use Rattle.cpm_disk.specs.Image.{directory}
use Rattle.cpm_disk.specs.Operations.{IsErased}
use Rattle.cpm_disk.proofs.StillMounted.{mounted_changed, whole}
use Rattle.cpm_disk.proofs.Maps.{erased_file}
use Rattle.cpm_disk.proofs.Others.{erase_others, whole_change}
use Rattle.cpm_disk.proofs.disk.Disk.erase.Goals as goal

pub invariant_of-self : goal.invariant_of-self
invariant_of-self g c =
    let entries = c.deref_mut.ensures.value ∙ c.self.invariant.entries_are c.if-self.false in
    let asked = c.deref.ensures.value ∙ c.self.invariant.entries_are c.if-self.false in
    let kept = subst (λ es. IsSound c.self.inside.kind es → StaysSound c.self.inside.kind es (after_erasure c.args.user c.args.pattern.now.name es)) asked (c.erasure.ensures.kept c.self.inside.kind) c.self.invariant.sound in
    let now : c.change_all.new.entries ≡ after_erasure c.args.user c.args.pattern.now.name (directory c.self.inside.kind (g.S.Sectors.sectors c.self.inside.device)) = c.in-Ok.ensures.entries ∙ ap (after_erasure c.args.user c.args.pattern.now.name) entries in
    mounted_changed c.self.inside.kind _ _ c.self.inside.entries.items (after_erasure c.args.user c.args.pattern.now.name (directory c.self.inside.kind (g.S.Sectors.sectors c.self.inside.device))) _ c.self.inside.failed _ c.self.invariant kept
    (subst (Changed c.self.inside.kind (g.S.Sectors.sectors c.self.inside.device) (g.S.Sectors.sectors c.change_all.new.device)) now c.in-Ok.ensures.changed)
    (whole _ c.change_all.new.entries c.self.inside.entries.items (c.in-Ok.ensures.size ∙ sym c.self.invariant.size ∙ ap length (sym c.deref_mut.ensures.value) ∙ c.deref_mut.ensures.len) ∙ now) (ap length (sym now) ∙ c.in-Ok.ensures.size)

pub returns-in-Ok-clause-sound : goal.returns-in-Ok-clause-sound
returns-in-Ok-clause-sound g c =
    let entries = c.deref_mut.ensures.value ∙ c.self.invariant.entries_are c.if-self.false in
    let asked = c.deref.ensures.value ∙ c.self.invariant.entries_are c.if-self.false in
    let kept = subst (λ es. IsSound c.self.inside.kind es → StaysSound c.self.inside.kind es (after_erasure c.args.user c.args.pattern.now.name es)) asked (c.erasure.ensures.kept c.self.inside.kind) c.self.invariant.sound in
    kept _ (λ k. inr (ap (λ es. at es k) (c.in-Ok.ensures.changed.entries_are ∙ c.in-Ok.ensures.entries ∙ ap (after_erasure c.args.user c.args.pattern.now.name) entries)))

pub returns-in-Err-clause-sound : goal.returns-in-Err-clause-sound
returns-in-Err-clause-sound g c =
    let entries = c.deref_mut.ensures.value ∙ c.self.invariant.entries_are c.if-self.false in
    let asked = c.deref.ensures.value ∙ c.self.invariant.entries_are c.if-self.false in
    let kept = subst (λ es. IsSound c.self.inside.kind es → StaysSound c.self.inside.kind es (after_erasure c.args.user c.args.pattern.now.name es)) asked (c.erasure.ensures.kept c.self.inside.kind) c.self.invariant.sound in
    kept _ (subst (λ es. PartlyChanged c.self.inside.kind (g.S.Sectors.sectors c.self.inside.device) (g.S.Sectors.sectors c.change_all.new.device) (after_erasure c.args.user c.args.pattern.now.name es)) entries c.in-Err.ensures.stopped).between

pub returns-in-Err-clause-done : goal.returns-in-Err-clause-done
returns-in-Err-clause-done g c =
    let entries = c.self.invariant.entries_are c.if-self.false in
    let asked : erasure c.args.user c.args.pattern.now.name (directory c.self.inside.kind (g.S.Sectors.sectors c.self.inside.device)) ≡ Ok c.in_ok-count.count =
    ap (erasure c.args.user c.args.pattern.now.name) (sym (c.deref.ensures.value ∙ entries)) ∙ sym c.erasure.ensures.step ∙ c.in_ok-count.was in
    subst (λ old. IsErased g.S.Sectors.sectors g.S.Sectors.faults old (record { device = c.change_all.new.device; kind = c.self.inside.kind; failed = true }) c.args.user c.args.pattern.now.name (Err Fault)) c.self.view_is (
      c.if-self.false,
      refl,
      refl,
      c.in-Err.ensures.cause,
      c.in_ok-count.count,
      asked,
      subst (λ es. PartlyChanged c.self.inside.kind (g.S.Sectors.sectors c.self.inside.device) (g.S.Sectors.sectors c.change_all.new.device) (after_erasure c.args.user c.args.pattern.now.name es)) (c.deref_mut.ensures.value ∙ entries) c.in-Err.ensures.stopped,
    )

pub returns-in-Ok-clause-others : goal.returns-in-Ok-clause-others
returns-in-Ok-clause-others g c =
    let entries = c.deref_mut.ensures.value ∙ c.self.invariant.entries_are c.if-self.false in
    subst (λ old. OthersAreSame old.kind (g.S.Sectors.sectors old.device) (g.S.Sectors.sectors c.change_all.new.device) (IsMatched c.args.user c.args.pattern.now.name)) c.self.view_is
    (erase_others c.self.inside.kind _ _ c.args.user c.args.pattern.now.name c.requires c.self.invariant.sound
    (whole_change c.self.inside.kind _ _ _ (subst (Changed c.self.inside.kind (g.S.Sectors.sectors c.self.inside.device) (g.S.Sectors.sectors c.change_all.new.device)) (c.in-Ok.ensures.entries ∙ ap (after_erasure c.args.user c.args.pattern.now.name) entries) c.in-Ok.ensures.changed)))

pub returns-in-Err-clause-others : goal.returns-in-Err-clause-others
returns-in-Err-clause-others g c =
    let entries = c.deref_mut.ensures.value ∙ c.self.invariant.entries_are c.if-self.false in
    subst (λ old. OthersAreSame old.kind (g.S.Sectors.sectors old.device) (g.S.Sectors.sectors c.change_all.new.device) (IsMatched c.args.user c.args.pattern.now.name)) c.self.view_is
    (erase_others c.self.inside.kind _ _ c.args.user c.args.pattern.now.name c.requires c.self.invariant.sound
    (subst (λ es. PartlyChanged c.self.inside.kind (g.S.Sectors.sectors c.self.inside.device) (g.S.Sectors.sectors c.change_all.new.device) (after_erasure c.args.user c.args.pattern.now.name es)) entries c.in-Err.ensures.stopped))

pub returns-in-Ok-clause-gone : goal.returns-in-Ok-clause-gone
returns-in-Ok-clause-gone g c = λ name matches.
    let entries = c.deref_mut.ensures.value ∙ c.self.invariant.entries_are c.if-self.false in
    let now : directory c.self.inside.kind (g.S.Sectors.sectors c.change_all.new.device) ≡ after_erasure c.args.user c.args.pattern.now.name (directory c.self.inside.kind (g.S.Sectors.sectors c.self.inside.device)) =
    c.in-Ok.ensures.changed.entries_are ∙ c.in-Ok.ensures.entries ∙ ap (after_erasure c.args.user c.args.pattern.now.name) entries in
    erased_file c.self.inside.kind _ (directory c.self.inside.kind (g.S.Sectors.sectors c.self.inside.device)) c.args.user c.args.pattern.now.name name c.requires matches now
