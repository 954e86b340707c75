-- One more line of a trace.
use Rattle.std.proofs.Common.{◌≡◌, ◌+◌, ◌++◌, ◌∷◌, [], ℕ, List, take, sym, subst}
use Rattle.cpm_run.specs.declared.recording.TraceStep.{TraceStep}
use Rattle.z80dev_run.specs.Labelled.{Known}
use Rattle.z80dev_run.specs.Lines.{IsTrace, IsTraceLine}
use Rattle.z80dev_run.specs.Lines.IsTrace.{more}

-- the lines of one more step
pub one_more : (known : Known) (steps : List TraceStep) (n : ℕ) (step : TraceStep) (text line new : List ℕ) → take (n + 1) steps ≡ take n steps ++ step ∷ [] → new ≡ text ++ line
    → IsTrace known (take n steps) text → IsTraceLine known step line → IsTrace known (take (n + 1) steps) new
one_more known steps n step text line new e is trace shows =
    subst (λ bytes. IsTrace known (take (n + 1) steps) bytes) (sym is) (subst (λ ss. IsTrace known ss (text ++ line)) (sym e) (more (take n steps) text step line trace shows))
