use Rattle.std.proofs.Common.{ℕ, ◌*◌, List, [], ◌∷◌, ◌++◌, ap, ◌∙◌}
use Rattle.z80_cpu.specs.State.{up_by}
use Rattle.state_text.proofs.Ranges.{one_more}
use Rattle.state_text.proofs.printing.memory.line_starts.Goals as goal

pub loop-line-preserved : goal.loop-line-preserved
loop-line-preserved c =
    let start : ℕ → ℕ = λ n. up_by (16 * n) c.args.from in
    c.in_ok-push.ensures.items ∙ ap (λ (ss : List ℕ). ss ++ start c.loop-line.line ∷ []) c.loop-line.invariant ∙ one_more start c.loop-line.line
