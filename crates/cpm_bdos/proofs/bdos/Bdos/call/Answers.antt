use Rattle.std.proofs.Common.{refl}
use Rattle.cpm_bdos.proofs.Stopped.{answer_kept}
use Rattle.cpm_bdos.proofs.bdos.Bdos.call.Goals as goal

pub returns-in-Err-clause-stopped : goal.returns-in-Err-clause-stopped
returns-in-Err-clause-stopped g c =
    (refl, answer_kept g.S.Sectors.sectors g.S.Sectors.faults g.C.Console.dialog c.in-Some.function c.de.result c.args.self.now c.answer.new.self c.args.memory.now c.answer.new.memory c.in-Err.stop c.in-Err.ensures)
