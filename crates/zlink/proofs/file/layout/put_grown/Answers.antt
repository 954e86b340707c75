use Rattle.std.proofs.Common.{◌∷◌, [], ◌++◌, true, false, sym, ap, ◌∙◌, arith}
use Rattle.std.proofs.lemmas.List.{append-nil}
use Rattle.relax.specs.Choice.{chosen}
use Rattle.zlink.proofs.Files.Growing.{marked-step}
use Rattle.zlink.proofs.file.layout.put_grown.Goals as goal
use Rattle.zlink.proofs.file.layout.put_grown.Goals.{then-is_grown+in_ok-number+in_ok-push, else-is_grown}

pub loop-k-preserved : goal.loop-k-preserved
loop-k-preserved c = elim c.if-is_grown.branch [
  | then-is_grown+in_ok-number+in_ok-push w ↦ marked-step (chosen c.args.long.now) c.args.first c.loop-k.k c.args.statements.now c.index-statements-k.result c.args.numbers.now.items c.loop-k.numbers.items c.if-is_grown.numbers.items true
      (omega arith) c.index-statements-k.is c.loop-k.invariant (sym w.if-is_grown.true ∙ c.is_grown.ensures) (ap (λ v. v.items) w.numbers-is ∙ w.in_ok-push.ensures.items ∙ ap (λ n. c.loop-k.numbers.items ++ n ∷ []) w.in_ok-number.ensures)
  | else-is_grown w ↦ marked-step (chosen c.args.long.now) c.args.first c.loop-k.k c.args.statements.now c.index-statements-k.result c.args.numbers.now.items c.loop-k.numbers.items c.if-is_grown.numbers.items false
      (omega arith) c.index-statements-k.is c.loop-k.invariant (sym w.if-is_grown.false ∙ c.is_grown.ensures) (ap (λ v. v.items) w.numbers-is ∙ sym (append-nil c.loop-k.numbers.items))
]
