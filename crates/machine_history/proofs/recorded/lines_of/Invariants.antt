use Rattle.std.proofs.Common.{◌≡◌, ◌++◌, ◌<◌, ◌^◌, ℕ, All, List, length}
use Rattle.cpm_run.specs.declared.arriving.Arrival.{Arrival}
use Rattle.machine_history.specs.Recorded.{HasWidths, record_text}
use Rattle.machine_history.proofs.recorded.lines_of.Given as goal

-- If the file is a record, the rest is the text of what is left of it.
abbrev pub invariant-loop-line : goal.invariant-loop-line
invariant-loop-line l =
    (arrivals : List Arrival) (last : ℕ) → All HasWidths arrivals → last < 2 ^ 64 → l.fn.text ≡ record_text arrivals last
    → (left : List Arrival) × (arrivals ≡ l.arrivals.items ++ left) × All HasWidths left × (l.rest ≡ record_text left last)

abbrev pub decreases-loop-line : goal.decreases-loop-line
decreases-loop-line l = length l.rest
