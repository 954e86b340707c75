use Rattle.std.proofs.Common.{ℕ, List, [], ◌∷◌, ◌++◌, ap, ◌∙◌}
use Rattle.z80_cpu.specs.State.{byte_at, up_by}
use Rattle.state_text.proofs.Ranges.{one_more}
use Rattle.state_text.proofs.printing.memory.memory_bytes.Goals as goal

pub loop-offset-preserved : goal.loop-offset-preserved
loop-offset-preserved c =
    let byte : ℕ → ℕ = λ n. byte_at (up_by n c.args.from) c.args.memory.now in
    c.in_ok-push.ensures.items ∙ ap (λ (b : ℕ). c.loop-offset.bytes.items ++ b ∷ []) c.get.ensures.byte
    ∙ ap (λ (bs : List ℕ). bs ++ byte c.loop-offset.offset ∷ []) c.loop-offset.invariant ∙ one_more byte c.loop-offset.offset
