use Rattle.std.proofs.Common.{ℕ, refl, get_or}
use Rattle.cpm_console.specs.Screen.{screen}
use Rattle.cpm_console.specs.Text.{before_dollar, bytes_from}
use Rattle.cpm_bdos.proofs.Speaking.{not_put}
use Rattle.cpm_bdos.proofs.console.texts.print.Goals as goal

pub returns-in-Ok : goal.returns-in-Ok
returns-in-Ok g c = (refl, c.in-Ok.ensures (λ k. get_or c.args.memory.now k 0) (λ address byte below post. post))

pub returns-in-Err : goal.returns-in-Err
returns-in-Err g c =
    let memory : ℕ → ℕ = λ k. get_or c.args.memory.now k 0 in
    rw c.stop_of.ensures (not_put (screen g.C.Console.dialog c.args.terminal.now) (screen g.C.Console.dialog c.print_until_dollar.new.self)
    (before_dollar (bytes_from memory c.args.address 65536)) c.in-Err.error (c.in-Err.ensures memory (λ address byte below post. post)))
