use Rattle.std.proofs.Common.{◌≡◌, true, Err, Ok, ap, refl, slice_set, subst, sym, ◌∙◌}
use Rattle.cpm_image.specs.declared.directory.fault.DiskFault.TheVariants.{Fault}
use Rattle.cpm_image.specs.Directory.Rules.{IsSound}
use Rattle.cpm_disk.specs.Kept.{IsGoodPut}
use Rattle.cpm_disk.specs.Steps.{creation}
use Rattle.cpm_disk.specs.Calls.{Changed}
use Rattle.cpm_disk.specs.Files.{IsFile, OthersAreSame}
use Rattle.cpm_disk.specs.Image.{directory}
use Rattle.cpm_disk.specs.Operations.{IsCreated}
use Rattle.cpm_disk.proofs.StillMounted.{partly}
use Rattle.cpm_disk.proofs.Maps.{made_file}
use Rattle.cpm_disk.proofs.Others.{create_others, whole_change}
use Rattle.cpm_disk.proofs.Outcomes.{second}
use Rattle.cpm_disk.proofs.disk.Disk.create.Goals as goal

pub returns-in-Ok-clause-done : goal.returns-in-Ok-clause-done
returns-in-Ok-clause-done g c =
    let entries = c.self.invariant.entries_are c.if-self.false in
    let asked : creation c.args.user c.args.name.now (directory c.self.inside.kind (g.S.Sectors.sectors c.self.inside.device)) ≡ Ok (c.in_ok-number.number, c.in_ok-number.entry) =
    ap (creation c.args.user c.args.name.now) (sym (c.deref.ensures.value ∙ entries)) ∙ sym c.creation.ensures.step ∙ c.in_ok-number.was in
    subst (λ old. IsCreated g.S.Sectors.sectors g.S.Sectors.faults old (record { device = c.store.new.device; kind = c.self.inside.kind; failed = c.self.inside.failed }) c.args.user c.args.name.now (Ok c.in_ok-number.number)) c.self.view_is (
      c.if-self.false,
      c.if-self.false,
      refl,
      c.in-Ok.ensures.cause,
      (c.in_ok-number.number, c.in_ok-number.entry),
      asked,
      (refl, subst (Changed c.self.inside.kind (g.S.Sectors.sectors c.self.inside.device) (g.S.Sectors.sectors c.store.new.device)) (c.in-Ok.ensures.entries ∙ ap (λ es. slice_set es c.in_ok-number.number c.in_ok-number.entry) (c.deref_mut.ensures.value ∙ entries)) c.in-Ok.ensures.stored),
    )

pub returns-in-Err-clause-done : goal.returns-in-Err-clause-done
returns-in-Err-clause-done g c =
    let entries = c.self.invariant.entries_are c.if-self.false in
    let asked : creation c.args.user c.args.name.now (directory c.self.inside.kind (g.S.Sectors.sectors c.self.inside.device)) ≡ Ok (c.in_ok-number.number, c.in_ok-number.entry) =
    ap (creation c.args.user c.args.name.now) (sym (c.deref.ensures.value ∙ entries)) ∙ sym c.creation.ensures.step ∙ c.in_ok-number.was in
    subst (λ old. IsCreated g.S.Sectors.sectors g.S.Sectors.faults old (record { device = c.store.new.device; kind = c.self.inside.kind; failed = true }) c.args.user c.args.name.now (Err Fault)) c.self.view_is (
      c.if-self.false,
      refl,
      refl,
      c.in-Err.ensures.cause,
      (c.in_ok-number.number, c.in_ok-number.entry),
      asked,
      partly c.self.inside.kind _ _ _ (second _ _ _ (subst (Changed c.self.inside.kind (g.S.Sectors.sectors c.self.inside.device) (g.S.Sectors.sectors c.store.new.device)) (c.in-Err.ensures.entries ∙ ap (λ es. slice_set es c.in_ok-number.number c.in_ok-number.entry) (c.deref_mut.ensures.value ∙ entries))) c.in-Err.ensures.stopped),
    )

pub returns-in-Ok-clause-others : goal.returns-in-Ok-clause-others
returns-in-Ok-clause-others g c =
    let entries = c.deref.ensures.value ∙ c.self.invariant.entries_are c.if-self.false in
    let lent = c.deref_mut.ensures.value ∙ c.self.invariant.entries_are c.if-self.false in
    let asked = ap (creation c.args.user c.args.name.now) (sym entries) ∙ sym c.creation.ensures.step ∙ c.in_ok-number.was in
    let put = subst (λ es. IsSound c.self.inside.kind es → IsGoodPut c.self.inside.kind es (c.in_ok-number.number, c.in_ok-number.entry)) entries (c.in_ok-number.ensures.kept c.self.inside.kind) c.self.invariant.sound in
    subst (λ old. OthersAreSame old.kind (g.S.Sectors.sectors old.device) (g.S.Sectors.sectors c.store.new.device) (IsFile c.args.user c.args.name.now)) c.self.view_is
    (create_others c.self.inside.kind _ _ c.args.user c.args.name.now (c.in_ok-number.number, c.in_ok-number.entry) c.is_name.ensures.seven c.self.invariant.sound put asked
    (whole_change c.self.inside.kind _ _ _ (subst (Changed c.self.inside.kind (g.S.Sectors.sectors c.self.inside.device) (g.S.Sectors.sectors c.store.new.device)) (c.in-Ok.ensures.entries ∙ ap (λ es. slice_set es c.in_ok-number.number c.in_ok-number.entry) lent) c.in-Ok.ensures.stored)))

pub returns-in-Err-clause-others : goal.returns-in-Err-clause-others
returns-in-Err-clause-others g c =
    let entries = c.deref.ensures.value ∙ c.self.invariant.entries_are c.if-self.false in
    let lent = c.deref_mut.ensures.value ∙ c.self.invariant.entries_are c.if-self.false in
    let asked = ap (creation c.args.user c.args.name.now) (sym entries) ∙ sym c.creation.ensures.step ∙ c.in_ok-number.was in
    let put = subst (λ es. IsSound c.self.inside.kind es → IsGoodPut c.self.inside.kind es (c.in_ok-number.number, c.in_ok-number.entry)) entries (c.in_ok-number.ensures.kept c.self.inside.kind) c.self.invariant.sound in
    subst (λ old. OthersAreSame old.kind (g.S.Sectors.sectors old.device) (g.S.Sectors.sectors c.store.new.device) (IsFile c.args.user c.args.name.now)) c.self.view_is
    (create_others c.self.inside.kind _ _ c.args.user c.args.name.now (c.in_ok-number.number, c.in_ok-number.entry) c.is_name.ensures.seven c.self.invariant.sound put asked
    (partly c.self.inside.kind _ _ _ (second _ _ _ (subst (Changed c.self.inside.kind (g.S.Sectors.sectors c.self.inside.device) (g.S.Sectors.sectors c.store.new.device)) (c.in-Err.ensures.entries ∙ ap (λ es. slice_set es c.in_ok-number.number c.in_ok-number.entry) lent)) c.in-Err.ensures.stopped)))

pub returns-in-Ok-clause-made : goal.returns-in-Ok-clause-made
returns-in-Ok-clause-made g c =
    let entries = c.deref.ensures.value ∙ c.self.invariant.entries_are c.if-self.false in
    let lent = c.deref_mut.ensures.value ∙ c.self.invariant.entries_are c.if-self.false in
    let asked = ap (creation c.args.user c.args.name.now) (sym entries) ∙ sym c.creation.ensures.step ∙ c.in_ok-number.was in
    let put = subst (λ es. IsSound c.self.inside.kind es → IsGoodPut c.self.inside.kind es (c.in_ok-number.number, c.in_ok-number.entry)) entries (c.in_ok-number.ensures.kept c.self.inside.kind) c.self.invariant.sound in
    made_file c.self.inside.kind _ _ c.args.user c.args.name.now (c.in_ok-number.number, c.in_ok-number.entry) c.requires c.is_name.ensures.seven put asked
    (subst (Changed c.self.inside.kind (g.S.Sectors.sectors c.self.inside.device) (g.S.Sectors.sectors c.store.new.device)) (c.in-Ok.ensures.entries ∙ ap (λ es. slice_set es c.in_ok-number.number c.in_ok-number.entry) lent) c.in-Ok.ensures.stored)
