use Rattle.zlink.proofs.Exact.{exact_link}
use Rattle.zlink.proofs.linking.link.Goals as goal

pub returns-clause-exact : goal.returns-clause-exact
returns-clause-exact c = exact_link _ c.link_modules.result c.link_modules.ensures
