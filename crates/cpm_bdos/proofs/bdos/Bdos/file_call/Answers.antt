use Rattle.std.proofs.Common.{refl}
use Rattle.cpm_bdos.proofs.bdos.Bdos.file_call.Goals as goal

pub returns-in-Open-clause-answer : goal.returns-in-Open-clause-answer
returns-in-Open-clause-answer g c = rw (c.in-Open.is, ← c.self.view_is) (refl, c.open.ensures)

pub returns-in-Erase-clause-answer : goal.returns-in-Erase-clause-answer
returns-in-Erase-clause-answer g c = rw (c.in-Erase.is, ← c.self.view_is) (refl, c.erase.ensures)

pub returns-in-Make-clause-answer : goal.returns-in-Make-clause-answer
returns-in-Make-clause-answer g c = rw (c.in-Make.is, ← c.self.view_is) c.make.ensures

pub returns-in-Rename-clause-answer : goal.returns-in-Rename-clause-answer
returns-in-Rename-clause-answer g c = rw (c.in-Rename.is, ← c.self.view_is) (refl, c.rename.ensures)
