use Rattle.std.proofs.Common.{◌∙◌, ◌∷◌, [], ap, arith, length, sym}
use Rattle.std.proofs.lemmas.Slice.Eq.{slice_eq-Decides}
use Rattle.std.proofs.lemmas.Bool.Decides.{Decides-eqb}
use Rattle.hex.specs.Hex.{upper_digits}
use Rattle.hex.proofs.HexLemmas.{length-encode_with}
use Rattle.machine_history.proofs.recorded.line_of.Goals as goal

pub returns-then-eq-clause-byte : goal.returns-then-eq-clause-byte
returns-then-eq-clause-byte c = λ byte lt is.
    let same = (slice_eq-Decides Decides-eqb _ _ _ c.eq.ensures).0 c.if-eq.true in
    let two = ap length (sym is ∙ same ∙ c.as_slice.ensures) in
    let pair = length-encode_with upper_digits (byte ∷ []) in
    absurd (omega (arith, two, pair))
