use Rattle.std.proofs.Common.{◌≡◌, ◌≤◌, ◌+◌, ◌∙◌, ◌∷◌, [], ℕ, Err, Some, ap, length, refl, slice_get, subst, sym, arith}
use Rattle.std.proofs.lemmas.Option.{slice_get-get_or}
use Rattle.cpm_run.specs.declared.arriving.PlayEnd.TheVariants as play
use Rattle.cpm_run.specs.Play.{FollowsRecord, due_from, last_due}
use Rattle.cpm_run.proofs.Due.{IsDueFrom, no_arrival, recorded_at}
use Rattle.cpm_run.proofs.Replayed.{KeepsTo, all_came, as_due, at_first_due, one_came, past_time, quiet_still, repeats_to, taken_all, taken_none, took_due, went_all, went_due}
use Rattle.cpm_run.proofs.Sitting.{moved, unasked_on}
use Rattle.cpm_run.proofs.playing.state.Playing.repeat.Goals as goal

pub loop-arrival-init : goal.loop-arrival-init
loop-arrival-init g c = (
  c.requires.bound,
  record { coming = refl; leaves = refl; looks = refl },
  λ none_yet at_start. at_first_due c.args.recorded.now c.args.last c.args.self.now.turns c.args.self.now.arrivals.items at_start none_yet,
  λ start before first. first,
  λ none_yet. ap length none_yet,
  λ before quiet. quiet,
)

pub returns-in-Err-clause-follows : goal.returns-in-Err-clause-follows
returns-in-Err-clause-follows g c = λ none_yet at_start.
    let so_far = c.loop-arrival.invariant.2 none_yet at_start in (
      as_due c.args.recorded.now c.args.last c.loop-arrival.arrival-index c.go_to.new.self.turns _
          (went_due c.args.recorded.now c.args.last c.loop-arrival.arrival-index c.loop-arrival.self.turns c.args.limit c.min.result c.go_to.new.self.turns _ _ so_far c.loop-arrival-test.true c.min.ensures c.in-Err.ensures.target c.loop-arrival.invariant.0 c.in-Err.ensures.arrivals),
      λ is. absurd (c.in-Err.ensures.ending (ap Err is)),
    )

pub returns-in-Err-clause-stands : goal.returns-in-Err-clause-stands
returns-in-Err-clause-stands g c = λ start before first. repeats_to _ _ Unit c.args.limit c.args.last c.in-Err.end start before _ _ (c.in-Err.ensures.stands start before (c.loop-arrival.invariant.3 start before first))

pub returns-then-is_err-clause-follows : goal.returns-then-is_err-clause-follows
returns-then-is_err-clause-follows g c = λ none_yet at_start.
    let so_far = c.loop-arrival.invariant.2 none_yet at_start in
    let there = went_due c.args.recorded.now c.args.last c.loop-arrival.arrival-index c.loop-arrival.self.turns c.args.limit c.min.result c.go_to.new.self.turns _ _ so_far c.loop-arrival-test.true c.min.ensures c.in_default.ensures.target c.loop-arrival.invariant.0 c.in_default.ensures.arrivals in
    let none_taken = c.take_in.ensures.arrivals ∙ taken_none c.go_to.new.self.turns ((recorded_at c.args.recorded.now c.loop-arrival.arrival-index).byte ∷ []) c.take_in.result c.go_to.new.self.arrivals.items (sym c.is_err.ensures.value ∙ c.if-is_err.true) in (
      subst (λ n. FollowsRecord (due_from 0 c.args.recorded.now) (last_due 0 c.args.recorded.now c.args.last) n c.take_in.new.self.arrivals.items) (sym c.take_in.ensures.still.turns)
          (subst (λ l. FollowsRecord (due_from 0 c.args.recorded.now) (last_due 0 c.args.recorded.now c.args.last) c.go_to.new.self.turns l) (sym none_taken) (as_due c.args.recorded.now c.args.last c.loop-arrival.arrival-index c.go_to.new.self.turns c.go_to.new.self.arrivals.items there)),
      λ is. absurd (let no : play.NoMemory ≡ play.Left = is in cc),
    )

pub returns-then-is_err-clause-stands : goal.returns-then-is_err-clause-stands
returns-then-is_err-clause-stands g c = λ start before first.
    let gone = c.in_default.ensures.stands start before (c.loop-arrival.invariant.3 start before first) in
    moved _ _ start before _ c.go_to.new.self _ gone (c.take_in.ensures.came start gone.shown gone.plays) c.take_in.ensures.ahead

pub loop-arrival-preserved : goal.loop-arrival-preserved
loop-arrival-preserved g c = (
  subst (λ n. n ≤ c.args.limit) (sym c.take_in.ensures.still.turns) c.in_default.ensures.bound,
  unasked_on _ _ _ c.loop-arrival.invariant.1 c.in_default.ensures.keys,
  λ none_yet at_start.
      let so_far = c.loop-arrival.invariant.2 none_yet at_start in
      let reached = c.in_default.ensures.reached in
      let there = went_due c.args.recorded.now c.args.last c.loop-arrival.arrival-index c.loop-arrival.self.turns c.args.limit c.min.result c.go_to.new.self.turns _ _ so_far c.loop-arrival-test.true c.min.ensures c.in_default.ensures.target c.loop-arrival.invariant.0 c.in_default.ensures.arrivals in
      let came = c.take_in.ensures.arrivals ∙ taken_all c.go_to.new.self.turns ((recorded_at c.args.recorded.now c.loop-arrival.arrival-index).byte ∷ []) c.take_in.result c.go_to.new.self.arrivals.items (sym c.is_err.ensures.value ∙ c.if-is_err.false) in
      let taken = took_due c.args.recorded.now c.args.last c.loop-arrival.arrival-index c.loop-arrival.self.turns c.args.limit c.min.result c.go_to.new.self.turns _ c.take_in.new.self.arrivals.items there so_far.1 c.loop-arrival-test.true c.min.ensures reached.1 c.in_default.ensures.target c.in_default.ensures.least reached.0.below came in (
        subst (λ n. KeepsTo (due_from 0 c.args.recorded.now) (last_due 0 c.args.recorded.now c.args.last) (c.loop-arrival.arrival-index + 1) n c.take_in.new.self.arrivals.items) (sym c.take_in.ensures.still.turns) taken.0,
        subst (λ n. IsDueFrom c.args.recorded.now c.args.last (c.loop-arrival.arrival-index + 1) n) (sym c.take_in.ensures.still.turns) taken.1,
      ),
  λ start before first.
      let gone = c.in_default.ensures.stands start before (c.loop-arrival.invariant.3 start before first) in
      moved _ _ start before _ c.go_to.new.self _ gone (c.take_in.ensures.came start gone.shown gone.plays) c.take_in.ensures.ahead,
  λ none_yet.
      let was = c.loop-arrival.invariant.4 none_yet in
      let same = ap length c.in_default.ensures.arrivals in
      let one = one_came c.go_to.new.self.turns (recorded_at c.args.recorded.now c.loop-arrival.arrival-index).byte c.go_to.new.self.arrivals.items _
      (c.take_in.ensures.arrivals ∙ taken_all c.go_to.new.self.turns ((recorded_at c.args.recorded.now c.loop-arrival.arrival-index).byte ∷ []) c.take_in.result c.go_to.new.self.arrivals.items (sym c.is_err.ensures.value ∙ c.if-is_err.false)) in
      omega (arith, was, same, one),
  λ before quiet. quiet_still before _ c.go_to.new.self c.take_in.new.self c.take_in.ensures.ahead (c.in_default.ensures.told before (c.loop-arrival.invariant.5 before quiet)),
)

pub returns-in-Ok-clause-follows : goal.returns-in-Ok-clause-follows
returns-in-Ok-clause-follows g c = λ none_yet at_start.
    let so_far = c.loop-arrival.invariant.2 none_yet at_start in
    let outside : length c.args.recorded.now ≤ c.loop-arrival.arrival-index = let e = c.loop-arrival-test.false in omega (arith, e) in (
      as_due c.args.recorded.now c.args.last c.loop-arrival.arrival-index _ _ (went_all c.args.recorded.now c.args.last c.loop-arrival.arrival-index c.loop-arrival.self.turns c.args.limit c.min-2.result _ _ _ so_far outside c.min-2.ensures c.in-Ok.ensures.target c.in-Ok.ensures.arrivals),
      λ _. c.in-Ok.ensures.arrivals ∙ all_came c.args.recorded.now c.args.last c.loop-arrival.arrival-index _ _ so_far.0 outside,
    )

pub returns-in-Err-go_to-clause-follows : goal.returns-in-Err-go_to-clause-follows
returns-in-Err-go_to-clause-follows g c = λ none_yet at_start.
    let so_far = c.loop-arrival.invariant.2 none_yet at_start in
    let outside : length c.args.recorded.now ≤ c.loop-arrival.arrival-index = let e = c.loop-arrival-test.false in omega (arith, e) in (
      as_due c.args.recorded.now c.args.last c.loop-arrival.arrival-index _ _ (went_all c.args.recorded.now c.args.last c.loop-arrival.arrival-index c.loop-arrival.self.turns c.args.limit c.min-2.result _ _ _ so_far outside c.min-2.ensures c.in-Err-go_to.ensures.target c.in-Err-go_to.ensures.arrivals),
      λ is. absurd (c.in-Err-go_to.ensures.ending (ap Err is)),
    )

pub returns-in-Err-go_to-clause-stands : goal.returns-in-Err-go_to-clause-stands
returns-in-Err-go_to-clause-stands g c = λ start before first. repeats_to _ _ Unit c.args.limit c.args.last c.in-Err-go_to.end start before _ _ (c.in-Err-go_to.ensures.stands start before (c.loop-arrival.invariant.3 start before first))

pub returns-then-is_err-clause-short : goal.returns-then-is_err-clause-short
returns-then-is_err-clause-short g c = λ none_yet is.
    let was = c.loop-arrival.invariant.4 none_yet in
    let same = ap length c.in_default.ensures.arrivals in
    let none = ap length (c.take_in.ensures.arrivals ∙ taken_none c.go_to.new.self.turns ((recorded_at c.args.recorded.now c.loop-arrival.arrival-index).byte ∷ []) c.take_in.result c.go_to.new.self.arrivals.items (sym c.is_err.ensures.value ∙ c.if-is_err.true)) in
    let here = slice_get-get_or c.args.recorded.now c.loop-arrival.arrival-index no_arrival c.loop-arrival-test.true in
    let reached = c.in_default.ensures.reached in (
      recorded_at c.args.recorded.now c.loop-arrival.arrival-index,
      subst (λ (n : ℕ). slice_get c.args.recorded.now n ≡ Some (recorded_at c.args.recorded.now c.loop-arrival.arrival-index)) (sym (none ∙ same ∙ was)) here,
      past_time (recorded_at c.args.recorded.now c.loop-arrival.arrival-index).turn c.args.limit c.min.result c.go_to.new.self.turns c.take_in.new.self.turns c.min.ensures reached.1 reached.0.below c.take_in.ensures.still.turns,
    )

pub returns-in-Err-clause-short : goal.returns-in-Err-clause-short
returns-in-Err-clause-short g c = λ none_yet is. absurd (c.in-Err.ensures.memory (ap Err is))

pub returns-in-Ok-clause-short : goal.returns-in-Ok-clause-short
returns-in-Ok-clause-short g c = λ none_yet is. absurd (let no : play.Left ≡ play.NoMemory = is in cc)

pub returns-in-Err-go_to-clause-short : goal.returns-in-Err-go_to-clause-short
returns-in-Err-go_to-clause-short g c = λ none_yet is. absurd (c.in-Err-go_to.ensures.memory (ap Err is))

pub returns-then-is_err-clause-told : goal.returns-then-is_err-clause-told
returns-then-is_err-clause-told g c = λ before quiet. quiet_still before _ c.go_to.new.self c.take_in.new.self c.take_in.ensures.ahead (c.in_default.ensures.told before (c.loop-arrival.invariant.5 before quiet))
