use Rattle.machine_history.proofs.Order.{Rises}
use Rattle.machine_history.proofs.recorded.is_in_order.Given as goal

abbrev pub invariant-loop-arrival : goal.invariant-loop-arrival
invariant-loop-arrival l = Rises l.arrivals l.arrival-index l.most
