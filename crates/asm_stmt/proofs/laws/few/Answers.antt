use Rattle.asm_stmt.proofs.Sizes.{Lengths, few}
use Rattle.asm_stmt.proofs.laws.few.Goals as goal

pub returns : goal.returns
returns c = λ t b p count is.
    let lengths : Lengths = record { least = c.length.ensures.least; most = c.length.ensures.most } in
    few c.kept.ensures.size lengths t b p count is
