use Rattle.std.specs.Prelude.{All}
use Rattle.zmo_object.specs.Modules.{module_of}
use Rattle.zmo_object.specs.Rules.{IsModule}
use Rattle.linker_rows.proofs.linking.modules_of.Given as goal

abbrev pub invariant-loop-source : goal.invariant-loop-source
invariant-loop-source l = All (λ m. IsModule (module_of m)) l.modules.items
