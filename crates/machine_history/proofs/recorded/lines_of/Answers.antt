use Rattle.std.proofs.Common.{◌++◌, List, ap, sym, ◌∙◌}
use Rattle.cpm_run.specs.declared.arriving.Arrival.{Arrival}
use Rattle.machine_history.proofs.Leftovers.{at_end, no_line, one_more}
use Rattle.machine_history.proofs.recorded.lines_of.Goals as goal

pub returns-in-End : goal.returns-in-End
returns-in-End c = λ arrivals last all lt is.
    let kept = c.loop-line.invariant arrivals last all lt is in
    at_end c.loop-line.arrivals.items arrivals kept.0 last c.in-End.last c.loop-line.rest.now c.in-Some.after.now c.in-Some.line lt kept.1 kept.2 kept.3 c.in-Some.ensures.byte c.in-Some.ensures.end c.in-End.is

pub loop-line-preserved : goal.loop-line-preserved
loop-line-preserved c = λ arrivals last all lt is.
    let kept = c.loop-line.invariant arrivals last all lt is in
    let more = one_more c.loop-line.arrivals.items arrivals kept.0 last c.loop-line.rest.now c.in-Some.after.now c.in-Some.line c.in-Byte.arrival lt kept.1 kept.2 kept.3 c.in-Some.ensures.byte c.in-Some.ensures.end c.in-Byte.is in
    (more.0, more.1 ∙ ap (λ (xs : List Arrival). xs ++ more.0) (sym c.in_ok-push-in-Byte.ensures.items), more.2, more.3)

pub returns : goal.returns
returns c = λ arrivals last all lt is.
    let kept = c.loop-line.invariant arrivals last all lt is in
    no_line kept.0 last c.loop-line.rest.now lt kept.2 kept.3 c.in_default.ensures.byte c.in_default.ensures.end
