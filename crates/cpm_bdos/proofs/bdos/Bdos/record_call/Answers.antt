use Rattle.cpm_bdos.proofs.bdos.Bdos.record_call.Goals as goal

pub returns-in-ReadRandom-clause-answer : goal.returns-in-ReadRandom-clause-answer
returns-in-ReadRandom-clause-answer g c = rw (c.in-ReadRandom.is, ← c.self.view_is) c.read_at.ensures

pub returns-in-WriteRandom-clause-answer : goal.returns-in-WriteRandom-clause-answer
returns-in-WriteRandom-clause-answer g c = rw (c.in-WriteRandom.is, ← c.self.view_is) c.write_at.ensures
