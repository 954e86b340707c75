use Rattle.std.proofs.Common.{◌≤◌, arith, leb-false, leb-true}
use Rattle.std.proofs.lemmas.Option.{slice_get_within}
use Rattle.machine_history.proofs.Order.{falls, rises_on, too_early}
use Rattle.machine_history.proofs.recorded.is_in_order.Goals as goal

pub loop-arrival-preserved : goal.loop-arrival-preserved
loop-arrival-preserved c = rises_on c.args.arrivals.now c.loop-arrival.arrival-index c.loop-arrival.most c.loop-arrival-test.true c.if-arrival-most.false c.loop-arrival.invariant

pub returns-clause-yes : goal.returns-clause-yes
returns-clause-yes c = λ above. record {
  rising = λ j k one later order first second. c.loop-arrival.invariant.rising j k one later order (let inside = slice_get_within c.args.arrivals.now k later second in let outside = c.loop-arrival-test.false in omega (arith, inside, outside)) first second;
  within = λ k one is.
      let most = c.loop-arrival.invariant.within k one (let inside = slice_get_within c.args.arrivals.now k one is in let outside = c.loop-arrival-test.false in omega (arith, inside, outside)) is in
      let least : c.loop-arrival.most ≤ c.args.last = leb-true c.loop-arrival.most c.args.last above in
      omega (arith, most, least);
}

pub returns-then-arrival-most-clause-no : goal.returns-then-arrival-most-clause-no
returns-then-arrival-most-clause-no c = λ no. falls c.args.arrivals.now c.loop-arrival.arrival-index c.loop-arrival.most c.args.last c.loop-arrival-test.true c.if-arrival-most.true c.loop-arrival.invariant

pub returns-clause-no : goal.returns-clause-no
returns-clause-no c = λ no. too_early c.args.arrivals.now c.loop-arrival.arrival-index c.loop-arrival.most c.args.last (leb-false c.loop-arrival.most c.args.last no) c.loop-arrival.invariant
