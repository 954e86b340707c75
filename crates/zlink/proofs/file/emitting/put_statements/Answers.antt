use Rattle.std.proofs.Common.{ℕ, ◌++◌, List, slice_index, ap, ◌∙◌, arith, append_assoc}
use Rattle.relax.specs.Choice.{chosen}
use Rattle.zmo_object.specs.Modules.{ModuleStatement}
use Rattle.zlink.specs.Private.Pieces.{IsSizedPiece}
use Rattle.zlink.proofs.Files.Laid.{laid-step}
use Rattle.zlink.proofs.file.emitting.put_statements.Goals as goal

pub loop-k-preserved : goal.loop-k-preserved
loop-k-preserved c =
    let IsPiece : ℕ → ModuleStatement → List ℕ → Type 0 = λ k. IsSizedPiece (slice_index c.args.places.now k) (chosen c.args.long.now k) c.args.table.now in
    let before = c.loop-k.invariant in
    let put = c.in_ok-put_statement.ensures in (
      before.0 ++ put.0,
      put.1 ∙ ap (λ bs. bs ++ put.0) before.1 ∙ append_assoc c.args.file.now.items before.0 put.0,
      laid-step IsPiece c.args.first c.loop-k.k c.args.statements.now c.index-statements-k.result before.0 put.0 (omega arith) c.index-statements-k.is before.2 put.2,
    )
