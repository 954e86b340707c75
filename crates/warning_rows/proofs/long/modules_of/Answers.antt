use Rattle.std.proofs.lemmas.List.Elements.{All-map, All-push}
use Rattle.zmo_object.specs.Modules.{module_of}
use Rattle.zmo_object.specs.Rules.{IsModule}
use Rattle.warning_rows.proofs.long.modules_of.Goals as goal

pub loop-source-preserved : goal.loop-source-preserved
loop-source-preserved c = rw c.in-Ok.ensures.items (All-push (λ m. IsModule (module_of m)) c.loop-source.modules.items _ c.loop-source.invariant c.in_ok-module.ensures)

pub returns : goal.returns
returns c = All-map IsModule module_of c.loop-source.modules.items c.loop-source.invariant
