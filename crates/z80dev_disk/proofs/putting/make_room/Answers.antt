use Rattle.std.proofs.Common.{◌∙◌, subst, sym}
use Rattle.std.proofs.lemmas.Result.{err_from_is_err_and}
use Rattle.cpm_disk.specs.Image.{directory}
use Rattle.z80dev_disk.specs.Put.{LacksRoom, MakesRoom}
use Rattle.z80dev_disk.proofs.Done_changes.{erased, lacks}
use Rattle.z80dev_disk.proofs.Others.{erased_alone, itself_matches, no_file}
use Rattle.z80dev_disk.proofs.putting.make_room.Goals as goal

pub returns-in_err-erase-clause-lacks : goal.returns-in_err-erase-clause-lacks
returns-in_err-erase-clause-lacks c =
    let is_so = sym c.is_replaced.ensures ∙ c.if-not-is_replaced.false in
    let p = err_from_is_err_and c.from_residual.result c.from_residual.ensures.1 in
    rw (p.1, p.2) (subst (λ b. LacksRoom b c.args.disk.now.kind c.args.user c.args.name.now c.args.disk.now.device c.in_err-erase.field-0.0) (sym is_so)
    (lacks c.args.disk.now c.erase.new.self c.args.user c.args.replace c.of_any_extent.result.name c.args.name.now c.in_err-erase.field-0.0 c.requires.sound (c.of_any_extent.ensures ∙ c.bytes.ensures.value) is_so c.in_err-erase.ensures.done))

pub returns-clause-made : goal.returns-clause-made
returns-clause-made c =
    let is_so = sym c.is_replaced.ensures ∙ c.if-not-is_replaced.false in
    subst (λ b. MakesRoom b c.args.disk.now.kind c.args.user c.args.name.now c.args.disk.now.device c.erase.new.self.device) (sym is_so)
    (erased c.args.disk.now c.erase.new.self c.args.user c.of_any_extent.result.name c.args.name.now c.in_ok-erase.field-0 (c.of_any_extent.ensures ∙ c.bytes.ensures.value) c.in_ok-erase.ensures.done c.in_ok-erase.ensures.gone c.in_ok-erase.ensures.others c.in_ok-erase.ensures.sound)

pub returns-clause-others : goal.returns-clause-others
returns-clause-others c =
    let e = erased c.args.disk.now c.erase.new.self c.args.user c.of_any_extent.result.name c.args.name.now c.in_ok-erase.field-0 (c.of_any_extent.ensures ∙ c.bytes.ensures.value) c.in_ok-erase.ensures.done c.in_ok-erase.ensures.gone c.in_ok-erase.ensures.others c.in_ok-erase.ensures.sound in
    erased_alone c.args.disk.now.kind c.args.disk.now.device c.erase.new.self.device c.args.user c.args.name.now c.requires.plain c.bytes.ensures.seven c.bytes.ensures.eleven c.has_names.ensures e.gone e.others

pub returns-clause-gone : goal.returns-clause-gone
returns-clause-gone c =
    let e = erased c.args.disk.now c.erase.new.self c.args.user c.of_any_extent.result.name c.args.name.now c.in_ok-erase.field-0 (c.of_any_extent.ensures ∙ c.bytes.ensures.value) c.in_ok-erase.ensures.done c.in_ok-erase.ensures.gone c.in_ok-erase.ensures.others c.in_ok-erase.ensures.sound in
    λ _. no_file c.args.user c.args.name.now (directory c.args.disk.now.kind c.erase.new.self.device) (e.gone c.args.name.now (itself_matches c.args.name.now))
