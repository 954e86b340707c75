use Rattle.std.proofs.Common.{◌∙◌, ap, sym}
use Rattle.zmo_object.specs.Modules.{module_of}
use Rattle.zlink.specs.Program.Parts.{public_found}
use Rattle.zlink.specs.Private.Joining.{part}
use Rattle.zlink.proofs.Programs.Names.{external_there, resolving_next, resolving_stops}
use Rattle.zlink.proofs.program.joining.links_of.Goals as goal

pub returns-in_default : goal.returns-in_default
returns-in_default c =
    let name = c.name-item.result in
    let there = external_there c.args.object.now c.deref-name-items.result.now c.loop-external.external name c.deref-name-items.ensures.value c.loop-external-test.true c.name-item.is in
    resolving_stops c.args.names.now (part c.args.number c.args.base (module_of c.args.object.now)) c.loop-external.external name.items c.loop-external.externals.items there.0 there.1
    (sym (c.in_default.ensures ∙ ap (public_found c.args.names.now) c.deref.ensures.value)) c.loop-external.invariant

pub loop-external-preserved : goal.loop-external-preserved
loop-external-preserved c =
    let name = c.name-item.result in
    let there = external_there c.args.object.now c.deref-name-items.result.now c.loop-external.external name c.deref-name-items.ensures.value c.loop-external-test.true c.name-item.is in
    resolving_next c.args.names.now (part c.args.number c.args.base (module_of c.args.object.now)) c.loop-external.external name.items c.loop-external.externals.items c.push.new.self.items c.in-Some.statement there.0 there.1
    (c.in-Some.ensures ∙ ap (public_found c.args.names.now) c.deref.ensures.value) c.in_ok-push.ensures.items c.loop-external.invariant
