use Rattle.zlink.proofs.building.build_with.Goals as goal

pub returns-clause-exact : goal.returns-clause-exact
returns-clause-exact c = c.exact.ensures.answer c.args.grow c.args.sources.now c.build_sources.result c.build_sources.ensures
