use Rattle.std.proofs.Common.{◌≡◌, ◌≢◌, ℕ, zero, suc, ◌+◌, ◌*◌, ◌<◌, ◌≤◌, ◌||◌, ◌++◌, ◌∷◌, [], Bool, true, false, not, cond, List, length, Some, refl, sym, ap, ◌∙◌, subst, arith, inl, inr, eqb, count_by, get_or-set_same, get_or-set_other}
use Rattle.std.specs.Prelude.{slice_set as set}
use Rattle.std.proofs.lemmas.Bool.{cases_lt, cases_eq, cases_Bool, cases_order, eq-eqb, ne_eqb, false_from_ne_true, both_ways, false≢true}
use Rattle.std.proofs.Math.Bool.{or-true, or-false}
use Rattle.std.proofs.Math.Path.{fun_ext}
use Rattle.std.proofs.lemmas.List.{length-set, length_push}
use Rattle.std.proofs.lemmas.List.Sums.{sum_by-set, sum_by-cons}
use Rattle.relax.specs.declared.shape.Statement.{Statement}
use Rattle.relax.specs.declared.shape.Statement.TheVariants.{Jump}
use Rattle.relax.specs.declared.relaxable.RelaxableJump.{RelaxableJump}
use Rattle.relax.specs.Choice.{Choice, chosen, IsAnyJump, Fits, IsSettled}
use Rattle.relax.specs.Ruler.{IsLengthened}
use Rattle.relax.specs.Growth.{after, Misses, IsForcing, TakesLowest, SettledBelow, IsLeastFirst}
use Rattle.relax.specs.Probes.{IsProbeCount}
use Rattle.relax.specs.Private.Worklist.{statement_of, target_of, AreRelaxable, PassesOver, IsLowestPending, pending_count, Requeued}
use Rattle.relax.proofs.Forcing.{after-push, count-set, each-push}
use Rattle.relax.proofs.Window.{in_window, still_fits}

-- what holds between two turns of the loop: each jump that does not wait is long or reaches its target
pub record BetweenTurns (shape : List Statement) (jumps : List RelaxableJump) (c : Choice) (order : List ℕ) (long pending : List Bool) (asked : ℕ) : Type 0 where
  pub same_long : length long ≡ length jumps
  pub same_pending : length pending ≡ length jumps
  pub follows : (k : ℕ) → c k ≡ after order k
  pub flags : (p : ℕ) → p < length jumps → chosen long p ≡ c (statement_of jumps p)
  pub forcing : IsForcing shape order
  pub lowest : TakesLowest shape order
  pub short : (p : ℕ) → chosen pending p ≡ true → chosen long p ≡ false
  pub fits : (p : ℕ) → p < length jumps → chosen pending p ≡ false → chosen long p ≡ false → Fits c shape (statement_of jumps p)
  pub unset : count_by not long + length order ≡ length jumps
  pub least : length jumps ≤ asked + pending_count pending
  pub most : asked + pending_count pending ≤ length jumps + 126 * length order

-- of two jumps, the one with the higher number comes later in the program
pub jumps-lt : (shape : List Statement) (jumps : List RelaxableJump) → AreRelaxable shape jumps → (p q : ℕ) → p < q → q < length jumps → statement_of jumps p < statement_of jumps q
jumps-lt shape jumps are p zero lt len = absurd (omega arith)
jumps-lt shape jumps are p (suc q) lt len =
    let step : statement_of jumps q < statement_of jumps (suc q) = (let e : suc q ≡ q + 1 = omega arith in rw e (are.ascending q (omega arith))) in
    elim (cases_lt p q) [
      | inl early ↦ (let ih = jumps-lt shape jumps are p q early (omega arith) in omega arith)
      | inr last ↦ (let e : p ≡ q = omega arith in rw e step)
    ]

jumps-ne : (shape : List Statement) (jumps : List RelaxableJump) → AreRelaxable shape jumps → (p q : ℕ) → p < length jumps → q < length jumps → q ≢ p → statement_of jumps q ≢ statement_of jumps p
jumps-ne shape jumps are p q lp lq ne e =
    elim (cases_order q p) [
      | inl same ↦ ne same
      | inr apart ↦ elim apart [
        | inl lt ↦ (let l = jumps-lt shape jumps are q p lt lp in omega arith)
        | inr gt ↦ (let l = jumps-lt shape jumps are p q gt lq in omega arith)
      ]
    ]

-- clearing a flag leaves one flag fewer set
pub pending_count-clear : (flags : List Bool) (p : ℕ) → p < length flags → chosen flags p ≡ true → pending_count (set flags p false) + 1 ≡ pending_count flags
pending_count-clear flags p lt was =
    let sums = sum_by-set (λ b. cond b 1 0) flags p false false lt in
    let one : ◌≡◌ {A = ℕ} (cond (chosen flags p) 1 0) 1 = rw was refl in
    omega (arith, sums, one)

pub flag_lt : (flags : List Bool) (p : ℕ) → chosen flags p ≡ true → p < length flags
flag_lt [] p is = absurd (false≢true is)
flag_lt (b ∷ flags) zero is = omega arith
flag_lt (b ∷ flags) (suc p) is = let ih = flag_lt flags p is in omega arith

chosen-clear_other : (flags : List Bool) (p q : ℕ) (b : Bool) → q ≢ p → chosen (set flags p b) q ≡ chosen flags q
chosen-clear_other flags p q b ne = get_or-set_other flags p q b false ne

-- if a flag is set in the list with flag p cleared, it was set before and is not flag p
cleared_set : (flags : List Bool) (p q : ℕ) → p < length flags → chosen (set flags p false) q ≡ true → (q ≢ p) × (chosen flags q ≡ true)
cleared_set flags p q lt is =
    let ne : (q ≢ p) = λ e. (let there = get_or-set_same flags p false false lt in both_ways (chosen (set flags p false) p) there (rw e at is)) in
    (ne, sym (chosen-clear_other flags p q false ne) ∙ is)

module _ (shape : List Statement) (jumps : List RelaxableJump) (are : AreRelaxable shape jumps) (c : Choice) (order : List ℕ) (long pending : List Bool) (asked : ℕ) (was : BetweenTurns shape jumps c order long pending asked) (p : ℕ) (found : IsLowestPending pending p) where
  pub found_lt : p < length jumps
  found_lt = let lt = flag_lt pending p found.set in let same = was.same_pending in omega arith

  pub found_jump : IsAnyJump shape (statement_of jumps p)
  found_jump = (target_of jumps p, are.each p found_lt)

  pub found_short : c (statement_of jumps p) ≡ false
  found_short = sym (was.flags p found_lt) ∙ was.short p found.set

  -- the tested jump reaches its target
  pub turn_fits : Fits c shape (statement_of jumps p) → BetweenTurns shape jumps c order long (set pending p false) (asked + 1)
  turn_fits fits =
      let lt : p < length pending = flag_lt pending p found.set in
      let count = pending_count-clear pending p lt found.set in
      record {
        same_long = was.same_long;
        same_pending = length-set pending p false ∙ was.same_pending;
        follows = was.follows;
        flags = was.flags;
        forcing = was.forcing;
        lowest = was.lowest;
        short = λ q is. was.short q (cleared_set pending p q lt is).1;
        fits = λ q lq done short. elim (cases_eq q p) as (λ _. Fits c shape (statement_of jumps q)) [
          | inl same ↦ rw same fits
          | inr other ↦ was.fits q lq (sym (chosen-clear_other pending p q false other) ∙ done) short
        ];
        unset = was.unset;
        least = (let before = was.least in omega arith);
        most = (let before = was.most in omega arith);
      }

  -- the tested jump misses its target
  misses_now : ¬ Fits c shape (statement_of jumps p) → Misses c shape (statement_of jumps p)
  misses_now misses = record {
    target = target_of jumps p;
    jump = are.each p found_lt;
    short = found_short;
    misses = λ reach. misses (λ t jump. (let e : t ≡ target_of jumps p = (let both : Some (Jump t) ≡ Some (Jump (target_of jumps p)) = sym jump ∙ are.each p found_lt in cc) in rw e reach));
  }

  settled_below : SettledBelow c shape (statement_of jumps p)
  settled_below j t lt jump short =
      let there = are.complete j t jump in
      let q : ℕ = there.0 in
      let at : statement_of jumps q ≡ j = there.2 in
      let lq : q < length jumps = there.1 in
      let before : q < p = elim (cases_lt q p) [
        | inl early ↦ early
        | inr late ↦ absurd (elim (cases_eq p q) [
          | inl same ↦ (let e : statement_of jumps p ≡ statement_of jumps q = ap (statement_of jumps) same in omega arith)
          | inr other ↦ (let further = jumps-lt shape jumps are p q (omega arith) lq in omega arith)
        ])
      ] in
      let unset_q : chosen long q ≡ false = was.flags q lq ∙ (ap c at ∙ short) in
      let fit : Fits c shape (statement_of jumps q) = was.fits q lq (found.below q before) unset_q in
      let fit_j : Fits c shape j = subst (Fits c shape) at fit in
      fit_j t jump

  -- the tested jump becomes long
  pub turn_grows : (d : Choice) → IsLengthened c d (statement_of jumps p) → ¬ Fits c shape (statement_of jumps p) → (is : List Bool) → Requeued jumps (set long p true) (set pending p false) is p → BetweenTurns shape jumps d (order ++ statement_of jumps p ∷ []) (set long p true) is (asked + 1)
  turn_grows d longer misses is requeued =
      let lt : p < length pending = flag_lt pending p found.set in
      let len_long = was.same_long in
      let k : ℕ = statement_of jumps p in
      let lt_long : p < length long = (let l = found_lt in omega arith) in
      let count = pending_count-clear pending p lt found.set in
      let push_len = length_push order k in
      let same : c ≡ after order = fun_ext was.follows in
      let other_long : ((q : ℕ) → q ≢ p → chosen (set long p true) q ≡ chosen long q) = λ q ne. get_or-set_other long p q true false ne in
      let ne_of_short : ((q : ℕ) → chosen (set long p true) q ≡ false → q ≢ p) = λ q short e. both_ways (chosen (set long p true) q) short (rw e (get_or-set_same long p true false lt_long)) in
      record {
        same_long = length-set long p true ∙ was.same_long;
        same_pending = requeued.len ∙ (length-set pending p false ∙ was.same_pending);
        follows = λ j. longer j ∙ (ap (λ b. b || eqb k j) (was.follows j) ∙ sym (after-push order k j));
        flags = λ q lq. elim (cases_eq q p) [
          | inl e ↦ rw e (get_or-set_same long p true false lt_long ∙ sym (longer k ∙ (ap (λ b. c k || b) (eq-eqb k k refl) ∙ or-true (c k))))
          | inr ne ↦ other_long q ne ∙ (was.flags q lq ∙ sym (longer (statement_of jumps q) ∙ (ap (λ b. c (statement_of jumps q) || b) (ne_eqb k (statement_of jumps q) (λ e. jumps-ne shape jumps are p q found_lt lq ne (sym e))) ∙ or-false (c (statement_of jumps q)))))
        ];
        forcing = each-push (λ o n. Misses (after o) shape n) order k was.forcing (subst (λ e. Misses e shape k) same (misses_now misses));
        lowest = each-push (λ o n. SettledBelow (after o) shape n) order k was.lowest (subst (λ e. SettledBelow e shape k) same settled_below);
        short = λ q on. elim (cases_Bool (chosen (set pending p false) q)) [
          | inl old ↦ (let there = cleared_set pending p q lt old in other_long q there.0 ∙ was.short q there.1)
          | inr new ↦ requeued.short q new on
        ];
        fits = λ q lq off short.
            (let ne = ne_of_short q short in
            let off_was : chosen (set pending p false) q ≡ false = false_from_ne_true _ (λ on. both_ways (chosen is q) off (requeued.kept q on)) in
            let fit : Fits c shape (statement_of jumps q) = was.fits q lq (sym (chosen-clear_other pending p q false ne) ∙ off_was) (sym (other_long q ne) ∙ short) in
            let not_over : ¬ PassesOver (statement_of jumps q) (target_of jumps q) k = λ over.
            (let near = in_window c shape jumps are q p lq found_lt fit over in
            both_ways (chosen is q) off (requeued.requeued q lq ne near.1 near.0 short over)) in
            λ u jump. (let e : u ≡ target_of jumps q = (let both : Some (Jump u) ≡ Some (Jump (target_of jumps q)) = sym jump ∙ are.each q lq in cc) in
            rw e (still_fits c d shape k (target_of jumps p) (are.each p found_lt) found_short longer (statement_of jumps q) (target_of jumps q) (jumps-ne shape jumps are p q found_lt lq ne) not_over (fit (target_of jumps q) (are.each q lq)))));
        unset = (let counts = count-set long p lt_long (was.short p found.set) in let before = was.unset in omega arith);
        least = (let before = was.least in let more = requeued.least in omega arith);
        most = (let before = was.most in let more = requeued.most in omega arith);
      }

-- no flag is set
pending_count-none : (flags : List Bool) → ((p : ℕ) → chosen flags p ≡ false) → pending_count flags ≡ 0
pending_count-none [] none = refl
pending_count-none (b ∷ flags) none =
    let e = sum_by-cons (λ x. cond x 1 0) b flags in
    let first : ◌≡◌ {A = ℕ} (cond b 1 0) 0 = rw (none 0) refl in
    let ih = pending_count-none flags (λ p. none (suc p)) in
    omega (arith, e, first, ih)

-- no jump waits any more
pub finished : (shape : List Statement) (jumps : List RelaxableJump) → AreRelaxable shape jumps → (c : Choice) (order : List ℕ) (long pending : List Bool) (asked : ℕ) → BetweenTurns shape jumps c order long pending asked → ((p : ℕ) → chosen pending p ≡ false) → IsLeastFirst shape order × IsProbeCount shape asked
finished shape jumps are c order long pending asked was none =
    let same : c ≡ after order = fun_ext was.follows in
    let settled : IsSettled c shape = λ k t jump short.
    (let there = are.complete k t jump in
    let unset_q : chosen long there.0 ≡ false = was.flags there.0 there.1 ∙ (ap c there.2 ∙ short) in
    let fit : Fits c shape k = subst (Fits c shape) there.2 (was.fits there.0 there.1 (none there.0) unset_q) in
    fit t jump) in
    let count = pending_count-none pending none in
    let jumps = are.count in
    let least = was.least in
    let most = was.most in
    let unset = was.unset in
    (record { forcing = was.forcing; lowest = was.lowest; settled = subst (λ e. IsSettled e shape) same settled }, record { least = omega arith; most = omega arith })
