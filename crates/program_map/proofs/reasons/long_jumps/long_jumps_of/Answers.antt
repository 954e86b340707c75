use Rattle.std.proofs.Common.{◌≡◌, ◌<◌, ◌+◌, ◌∙◌, ℕ, [], All, List, Bool, length, map, take, sym, ap, subst, arith, rules}
use Rattle.std.proofs.Math.Path.{fun_ext}
use Rattle.std.proofs.lemmas.List.Elements.{All-weaker}
use Rattle.std.proofs.lemmas.List.{take_all}
use Rattle.std.proofs.lemmas.List.Sorted.{All-permutation, IsNonDecreasingBy-from_sort_by_key, IsPermutation-map, answers_always, ties_still_rise}
use Rattle.relax.specs.Choice.{chosen}
use Rattle.relax.proofs.Sizes.{chosen-replicate}
use Rattle.relax.specs.declared.shape.Statement.{Statement}
use Rattle.relax.specs.Growth.{IsForcing, after}
use Rattle.std.specs.List.Sorted.{IsPermutation}
use Rattle.program_map.specs.Private.Gathered.{AreBytesBefore, AreWants, gathered, items_at, want_at}
use Rattle.program_map.specs.Reasons.Reasons.{IsLongJump, long_numbers}
use Rattle.program_map.specs.declared.reasons.long_jumps.LongJump.{LongJump}
use Rattle.program_map.proofs.Reasoned.Explained.{explained, not_below}
use Rattle.program_map.proofs.Reasoned.Near.{near_wants}
use Rattle.program_map.proofs.reasons.long_jumps.long_jumps_of.Goals as goal

pub wants_of-requires-clause-places : goal.wants_of-requires-clause-places
wants_of-requires-clause-places c =
    let zeros : c.deref.result.now ≡ _ = c.deref.ensures.value ∙ c.in_ok-none_long.ensures.items_if_clones_equal (λ y e. e) in
    let short : chosen c.deref.result.now ≡ after [] = fun_ext (λ k. ap (λ (l : List Bool). chosen l k) zeros ∙ chosen-replicate _ k) in
    rw (c.deref-2.ensures.value, ← short) c.in_ok-all_short.ensures.each

pub gather-requires-clause-near : goal.gather-requires-clause-near
gather-requires-clause-near c =
    let len = c.in_ok-wants.ensures.len in
    rw c.deref-4.ensures.value (near_wants c.statements-statements.result.now c.statements-statements.ensures.shape _ _ (omega (arith, len)) c.in_ok-wants.ensures.each)

pub returns : goal.returns
returns c =
    let grown = c.requires in
    let same = c.statements-statements.ensures.value in
    let told = c.in_ok-jumps.ensures in
    let sorts = c.in_ok-sort_by_key.ensures in
    let shape : List Statement = c.statements-statements.result.now in
    let is = c.statements-statements.ensures.shape in
    let order : List ℕ = c.args.growth.now.order.items in
    let long : c.deref-7.result.now ≡ c.args.growth.now.long.items = c.deref-7.ensures.value in
    let follows : ((k : ℕ) → chosen c.deref-7.result.now k ≡ after order k) = λ k. ap (λ (l : List Bool). chosen l k) long ∙ grown.long k in
    let same_long : c.deref-6.result.now ≡ c.deref-7.result.now = c.deref-6.ensures.value ∙ sym long in
    let before : AreBytesBefore (chosen c.deref-7.result.now) shape c.deref-8.result.now = rw (c.deref-8.ensures.value, ← same_long) c.in_ok-places.ensures.each in
    let wants : c.deref-4.result.now ≡ c.in_ok-wants.wants.items = c.deref-4.ensures.value in
    let len : length c.in_ok-wants.wants.items ≡ length shape = (let e = c.in_ok-wants.ensures.len in omega arith) in
    let same_wanted : c.deref-3.result.now ≡ c.deref-7.result.now = c.deref-3.ensures.value ∙ sym long in
    let wanted : AreWants shape (chosen c.deref-7.result.now) c.in_ok-wants.wants.items = rw (← same_wanted) c.in_ok-wants.ensures.each in
    let gathers : ((k : ℕ) → k < length c.in_ok-wants.wants.items → items_at c.in_ok-reasons.reasons.items k ≡ gathered (want_at c.in_ok-wants.wants.items k) k order) = (let same_order : c.deref-5.result.now ≡ order = c.deref-5.ensures.value in rw (wants, same_order) at c.in_ok-reasons.ensures.each) in
    let forcing : IsForcing shape order = rw same grown.order.forcing in
    let each : All (IsLongJump shape order) c.in_ok-jumps.jumps.items = All-weaker _ (IsLongJump shape order) (explained shape is order forcing (chosen c.deref-7.result.now) follows c.deref-8.result.now before c.in_ok-wants.wants.items len wanted c.in_ok-reasons.reasons.items gathers) _ told.each in
    let same_choice : chosen c.deref-7.result.now ≡ after order = fun_ext follows in
    let all_taken : take (length shape) shape ≡ shape = take_all (length shape) shape (omega arith) in
    let numbers : map (λ (j : LongJump). j.statement) c.in_ok-jumps.jumps.items ≡ long_numbers (after order) shape = told.numbers ∙ (ap (long_numbers (chosen c.deref-7.result.now)) all_taken ∙ ap (λ d. long_numbers d shape) same_choice) in
    rw (← same) record {
      each = All-permutation (IsLongJump shape order) _ _ sorts.permutation each;
      all = subst (λ l. IsPermutation l (map (λ j. j.statement) c.sort_by_key.new.self.items)) numbers (IsPermutation-map (λ (j : LongJump). j.statement) _ _ sorts.permutation);
      sorted = IsNonDecreasingBy-from_sort_by_key (λ j. j.excess) _ sorts.sorted (λ a r q k. search rules);
      ties = ties_still_rise (λ j. j.statement) (λ j. j.excess) c.in_ok-jumps.jumps.items c.sort_by_key.new.self.items (λ k d low lt. not_below _ _ (told.ascending k (k + 1) d (omega arith) lt)) (sorts.stable (λ j. j.excess) (answers_always _ _ _ (λ f a r g h. search rules)));
    }
