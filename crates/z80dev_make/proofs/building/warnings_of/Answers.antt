use Rattle.std.proofs.Common.{Ok, subst, sym}
use Rattle.std.proofs.lemmas.Result.{IfOk-weaker}
use Rattle.zlink.specs.Built.{IsBuilt}
use Rattle.z80dev_make.specs.Jumps.{jumps_of}
use Rattle.z80dev_make.specs.Warned.{AreWarnings}
use Rattle.z80dev_make.proofs.Warned_program.{are_modules, warned_program}
use Rattle.z80dev_make.proofs.building.warnings_of.Goals as goal

pub warn_built-requires : goal.warn_built-requires
warn_built-requires c = are_modules c.args.wanted.grow c.requires.0 c.in-Ok.built (subst (IsBuilt c.args.wanted.grow c.requires.0) c.in-Ok.is c.requires.2)

pub returns-in-Ok : goal.returns-in-Ok
returns-in-Ok c =
    let grow = c.args.wanted.grow in
    let front = c.args.front in
    let files = c.args.files.now in
    let is = subst (IsBuilt grow c.requires.0) c.in-Ok.is c.requires.2 in
    IfOk-weaker c.warn_built.result _ _
    (λ lines right. subst (λ o. AreWarnings c.args.wanted.warn front files grow (jumps_of o) lines.items) (sym c.in-Ok.is)
    (subst (λ w. AreWarnings w front files grow (jumps_of (Ok c.in-Ok.built)) lines.items) (sym c.if-wanted.true)
    (warned_program front grow files c.requires.0 c.in-Ok.built lines.items c.requires.1 is right)))
    c.warn_built.ensures
