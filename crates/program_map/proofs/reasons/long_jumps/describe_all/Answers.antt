use Rattle.std.proofs.Common.{◌≡◌, ◌<◌, ◌+◌, [], ◌∙◌, ℕ, false, true, length, get_or, ap, arith}
use Rattle.std.specs.Option.{option_map_or}
use Rattle.std.proofs.lemmas.List.{length-drop}
use Rattle.std.specs.Vec.Iter.{into_iter_items}
use Rattle.relax.specs.declared.shape.Statement.TheVariants.{Fixed, Jump}
use Rattle.relax.specs.Choice.{chosen}
use Rattle.program_map.specs.Private.Gathered.{IsDescribed, items_at}
use Rattle.program_map.proofs.Reasoned.Described.{described-more, described-skip, first_left, not_listed, not_listed_short, listed, described}
use Rattle.program_map.proofs.reasons.long_jumps.describe_all.Goals as goal

pub loop-k-preserved-in-Continue-1 : goal.loop-k-preserved-in-Continue-1
loop-k-preserved-in-Continue-1 c =
    let steps = c.in-Some.ensures.steps in
    let k : ℕ = c.loop-k.k-iterator.count in
    let left = first_left c.args.reasons.items k c.in-Some.reason (into_iter_items c.next.new.self.iter) (c.loop-k.invariant.rest ∙ steps.0.0) in
    let count : c.next.new.self.count ≡ k + 1 = steps.2 in
    let number : c.in-Some.k ≡ k = steps.1 in
    let len = steps.0.1 in
    let items = ap length steps.0.0 in
    let all = ap length c.loop-k.invariant.rest in
    let within : k < length c.args.statements.now = omega (arith, len, items, all, c.loop-k.invariant.len, length-drop k c.args.reasons.items, c.requires.same_reasons) in
    let jump : get_or c.args.statements.now k (Fixed 0) ≡ Jump c.in-Jump.target = (let here : get_or c.args.statements.now c.in-Some.k (Fixed 0) ≡ Jump c.in-Jump.target = c.in-Jump.is in rw number at here) in
    let long : chosen c.args.long.now k ≡ true = rw number at c.if-long-k.true in
    let said = c.describe.ensures in
    let reason : items_at c.args.reasons.items k ≡ c.in-Some.reason.items = ap (λ o. option_map_or (λ v. v.items) o []) left.0 in
    let is : IsDescribed c.args.statements.now (chosen c.args.long.now) c.args.places.now c.args.reasons.items c.describe.result =
    described c.args.statements.now (chosen c.args.long.now) c.args.places.now c.args.reasons.items k c.in-Jump.target within jump long c.describe.result (rw (reason, ← number) said) in
    rw (count, c.in_ok-push.ensures.items) record {
      rest = left.1;
      len = omega (arith, len, items, c.loop-k.invariant.len);
      described = described-more _ _ _ _ k _ c.loop-k.invariant.described within c.describe.result is (said.statement ∙ number) (listed (chosen c.args.long.now) k _ _ jump long);
    }

pub loop-k-preserved-else-long-k : goal.loop-k-preserved-else-long-k
loop-k-preserved-else-long-k c =
    let steps = c.in-Some.ensures.steps in
    let k : ℕ = c.loop-k.k-iterator.count in
    let left = first_left c.args.reasons.items k c.in-Some.reason (into_iter_items c.next.new.self.iter) (c.loop-k.invariant.rest ∙ steps.0.0) in
    let count : c.next.new.self.count ≡ k + 1 = steps.2 in
    let number : c.in-Some.k ≡ k = steps.1 in
    let len = steps.0.1 in
    let items = ap length steps.0.0 in
    let all = ap length c.loop-k.invariant.rest in
    let within : k < length c.args.statements.now = omega (arith, len, items, all, c.loop-k.invariant.len, length-drop k c.args.reasons.items, c.requires.same_reasons) in
    let jump : get_or c.args.statements.now k (Fixed 0) ≡ Jump c.in-Jump.target = (let here : get_or c.args.statements.now c.in-Some.k (Fixed 0) ≡ Jump c.in-Jump.target = c.in-Jump.is in rw number at here) in
    let short : chosen c.args.long.now k ≡ false = rw number at c.if-long-k.false in
    rw count record {
      rest = left.1;
      len = omega (arith, len, items, c.loop-k.invariant.len);
      described = described-skip _ _ _ _ k _ c.loop-k.invariant.described within (not_listed_short (chosen c.args.long.now) k _ _ jump short);
    }

pub loop-k-preserved : goal.loop-k-preserved
loop-k-preserved c =
    let steps = c.in-Some.ensures.steps in
    let k : ℕ = c.loop-k.k-iterator.count in
    let left = first_left c.args.reasons.items k c.in-Some.reason (into_iter_items c.next.new.self.iter) (c.loop-k.invariant.rest ∙ steps.0.0) in
    let count : c.next.new.self.count ≡ k + 1 = steps.2 in
    let number : c.in-Some.k ≡ k = steps.1 in
    let len = steps.0.1 in
    let items = ap length steps.0.0 in
    let all = ap length c.loop-k.invariant.rest in
    let within : k < length c.args.statements.now = omega (arith, len, items, all, c.loop-k.invariant.len, length-drop k c.args.reasons.items, c.requires.same_reasons) in
    rw count record {
      rest = left.1;
      len = omega (arith, len, items, c.loop-k.invariant.len);
      described = described-skip _ _ _ _ k _ c.loop-k.invariant.described within (not_listed (chosen c.args.long.now) k _ (rw number at c.in_default.not-Jump));
    }
