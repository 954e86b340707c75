use Rattle.std.proofs.Common.{refl, [], ◌∷◌}
use Rattle.cpm_console.specs.Screen.{screen}
use Rattle.cpm_console.proofs.Texts.{prints_on, prints-failed}
use Rattle.cpm_console.proofs.terminal.Terminal.put_plain.Goals as goal

pub returns-in_err-put : goal.returns-in_err-put
returns-in_err-put g c =
    let old = screen g.C.Console.dialog c.args.self.now in
    let new = record old { dialog = g.C.Console.dialog c.put.new.self } in
    prints_on old new (c.args.byte ∷ []) _ _ c.from_residual.ensures.1 (prints-failed old new c.args.byte _ c.in_err-put.ensures refl)
