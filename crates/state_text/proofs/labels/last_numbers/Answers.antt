use Rattle.std.proofs.Common.{rules, ◌≡◌, [], ap, arith, map, sym, ◌∙◌}
use Rattle.std.specs.Prelude.{slice_index}
use Rattle.std.proofs.lemmas.List.{length-set}
use Rattle.state_text.specs.Labelled.{parts_of}
use Rattle.state_text.specs.Private.Numbers.{last_at}
use Rattle.state_text.proofs.Numbered.{all_zero, empty, put_one, zeroed}
use Rattle.state_text.proofs.labels.last_numbers.Goals as goal

pub loop-label-init : goal.loop-label-init
loop-label-init c = record {
  size = all_zero 65536 c.in_ok-numbers.numbers.items (c.in_ok-numbers.ensures.items_if_clones_equal (λ y e. e));
  count = omega arith;
  left = λ address below. ap (λ k. last_at k 0 (map parts_of c.args.labels.now) address) (zeroed 65536 c.in_ok-numbers.numbers.items (c.in_ok-numbers.ensures.items_if_clones_equal (λ y e. e)) address below);
}

pub loop-label-preserved : goal.loop-label-preserved
loop-label-preserved c = record {
  size = length-set c.loop-label.numbers.items _ _ ∙ c.loop-label.invariant.size;
  count = let h = c.in-Some.ensures.cases.1 in let sum = c.loop-label.invariant.count in omega (arith, h, sum);
  left = λ address below. put_one (map parts_of c.loop-label.rest.now) (map parts_of c.in-Some.behind.now) (parts_of c.in-Some.label.now) c.loop-label.numbers.items c.loop-label.number address _
      (ap (map parts_of) c.in-Some.ensures.cases.0) (search (rules, c.loop-label.invariant.size)) (c.loop-label.invariant.left address below);
}

pub returns-clause-each : goal.returns-clause-each
returns-clause-each c = λ address below.
    let none : c.loop-label.rest.now ≡ [] = empty c.loop-label.rest.now c.in_default.ensures.cases in
    ap (λ rest. last_at (slice_index c.loop-label.numbers.items address) c.loop-label.number (map parts_of rest) address) (sym none) ∙ c.loop-label.invariant.left address below
