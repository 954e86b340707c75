-- Where a command stops, and which turn was the last at which something held, have one answer.
use Rattle.std.proofs.Common.{◌≡◌, ◌≢◌, ◌+◌, ◌<◌, ◌≤◌, ◌⊎◌, ℕ, zero, suc, Bool, true, false, List, Option, Some, None, refl, sym, ap, subst, ◌∙◌, inl, inr, arith}
use Rattle.std.specs.Prelude.{◌==◌, ◌||◌, if◌then◌else◌, is_some}
use Rattle.std.proofs.lemmas.Bool.{cases_Bool, cases_eq, cases_lt, true≢false}
use Rattle.z80_cpu.specs.State.{Machine}
use Rattle.machine_history.specs.Alike.{AlikePoints, AlikeStates, IsCalm}
use Rattle.machine_history.specs.Calls.{IsCallTo, calls, is_at}
use Rattle.machine_history.specs.Going.{RanUntil}
use Rattle.machine_history.specs.Stops.{IsLast, IsLastBefore, hit_at, holds}
use Rattle.machine_history.specs.Walk.{IsNextPoint, LeadsBy, MemoryState, Point, Shown, first_point, never}
use Rattle.machine_history.specs.Walk.LeadsBy.{none, more}
use Rattle.machine_history.specs.declared.calls.ReturnPlace.{ReturnPlace}
use Rattle.machine_history.specs.declared.history.Outcome.{Outcome}
use Rattle.machine_history.specs.declared.history.Outcome.TheVariants as outcome
use Rattle.machine_history.specs.declared.stops.Goal.{Goal}
use Rattle.machine_history.specs.declared.stops.Goal.TheVariants as goal
use Rattle.machine_history.specs.declared.stops.Hit.{Hit}
use Rattle.machine_history.specs.declared.stops.Stops.{Stops}
use Rattle.cpm_run.proofs.OneRun.{OneStep}
use Rattle.machine_history.proofs.OneState.{Goes_well, Test, calm_well, first_points, last_of, none_well, on_the_way, one_next, same_walk, with_machine}

-- ---- what holds at a turn

-- it depends on the machine before and after the turn alone
hit_same : (printed : List ℕ) (goal : Option Goal) (stops : Stops) (a b x y : MemoryState) → AlikeStates printed a b → AlikeStates printed x y → hit_at goal stops b y ≡ hit_at goal stops a x
hit_same printed goal stops a b x y before after =
    ap (λ (m : Machine). hit_at goal stops (with_machine m b) y) before.machine ∙ ap (λ (m : Machine). hit_at goal stops a (with_machine m y)) after.machine

-- nothing holds at a turn, and something does
clash : {A : Type 0} (one two : Option Hit) (hit : Hit) → two ≡ one → one ≡ Some hit → is_some two ≡ false → A
clash one two hit same is fails = absurd (true≢false (sym (ap is_some (same ∙ is)) ∙ fails))

-- ---- walks

-- turns, whatever holds at them
plain : (test : Test) {n : ℕ} {a x : Point} → LeadsBy test n a x → LeadsBy never n a x
plain test (none p) = none p
plain test (more m old last new before next fails) = more m old last new (plain test before) next refl

-- turns after other turns
joined : (test : Test) (k : ℕ) (a : Point) {n : ℕ} {b x : Point} → LeadsBy never k a b → LeadsBy test n b x → LeadsBy never (k + n) a x
joined test k a first (none p) = subst (λ (j : ℕ). LeadsBy never j a p) (omega arith) first
joined test k a first (more m old last new before next fails) = subst (λ (j : ℕ). LeadsBy never j a new) (omega arith) (more (k + m) a last new (joined test k a first before) next refl)

-- ---- the last turn at which something held

walk_of : (stops : Stops) (start : MemoryState) (n : ℕ) (now : Point) (last : Option (ℕ × Hit)) → IsLastBefore stops start n now last → LeadsBy never n (first_point start) now
walk_of stops start n now None known = plain (holds None stops) known
walk_of stops start n now (Some (turn, why)) known =
    let number : known.0 + 1 + known.1 ≡ n = let before = known.4 in let sum = known.5 in omega (arith, before, sum) in
    subst (λ (j : ℕ). LeadsBy never j (first_point start) now) number (joined (holds None stops) (known.0 + 1) (first_point start) (more known.0 (first_point start) known.2 known.3 known.6 known.7 refl) known.9)

abbrev found_at : Hit → ℕ → Option (ℕ × Hit)
found_at why n = Some (n, why)

-- How the last of n turns was: there is none; or something held at it; or nothing did, and the answer is that of the turns before.
abbrev Ends_at : Stops → MemoryState → ℕ → Point → Option (ℕ × Hit) → Type 0
Ends_at stops start n now last =
    ((n ≡ 0) × (last ≡ None))
    ⊎ ((m : ℕ) × (old : Point) × (n ≡ m + 1) × LeadsBy never m (first_point start) old × IsNextPoint old now
    × (((why : Hit) × (hit_at None stops old.state now.state ≡ Some why) × (last ≡ Some (n, why))) ⊎ ((holds None stops old.state now.state ≡ false) × IsLastBefore stops start m old last)))

ends_at : (stops : Stops) (start : MemoryState) (n : ℕ) (now : Point) (last : Option (ℕ × Hit)) → IsLastBefore stops start n now last → Ends_at stops start n now last
ends_at stops start n now None known = by_last (last_of (holds None stops) known) where
  by_last : ((n ≡ 0) × (now ≡ first_point start)) ⊎ ((m : ℕ) × (old : Point) × (n ≡ m + 1) × LeadsBy (holds None stops) m (first_point start) old × IsNextPoint old now × (holds None stops old.state now.state ≡ false)) → Ends_at stops start n now None
  by_last (inl h) = inl (h.0, refl)
  by_last (inr h) = inr (h.0, h.1, h.2, plain (holds None stops) h.3, h.4, inr (h.5, h.3))
ends_at stops start n now (Some (turn, why)) known = by_last (last_of (holds None stops) known.9) where
  by_last : ((known.1 ≡ 0) × (now ≡ known.3)) ⊎ ((m : ℕ) × (old : Point) × (known.1 ≡ m + 1) × LeadsBy (holds None stops) m known.3 old × IsNextPoint old now × (holds None stops old.state now.state ≡ false)) → Ends_at stops start n now (Some (turn, why))
  by_last (inl h) =
      let number : n ≡ known.0 + 1 = let before = known.4 in let sum = known.5 in let no_more = h.0 in omega (arith, no_more, before, sum) in
      let same : turn ≡ n = let before = known.4 in omega (arith, before, number) in
      inr (known.0, known.2, number, known.6, subst (λ (p : Point). IsNextPoint known.2 p) (sym h.1) known.7, inl (why, subst (λ (p : Point). hit_at None stops known.2.state p.state ≡ Some why) (sym h.1) known.8, ap (found_at why) same))
  by_last (inr h) =
      let rest : IsLastBefore stops start (turn + h.0) h.1 (Some (turn, why)) = (known.0, h.0, known.2, known.3, known.4, refl, known.6, known.7, known.8, h.3) in
      inr (turn + h.0, h.1, let sum = known.5 in let some_more = h.2 in omega (arith, sum, some_more), walk_of stops start (turn + h.0) h.1 (Some (turn, why)) rest, h.4, inr (h.5, rest))

some_same : (x y : Hit) → ◌≡◌ {A = Option Hit} (Some x) (Some y) → x ≡ y
some_same x y e = cc

by_hit : {A B : Type 0} (n : ℕ) (last other : Option (ℕ × Hit)) (one two : Option Hit) → two ≡ one → (A → B → other ≡ last)
    → ((why : Hit) × (one ≡ Some why) × (last ≡ Some (n, why))) ⊎ ((is_some one ≡ false) × A) → ((why : Hit) × (two ≡ Some why) × (other ≡ Some (n, why))) ⊎ ((is_some two ≡ false) × B) → other ≡ last
by_hit n last other one two same again (inl h) (inl k) = k.2 ∙ ap (λ (why : Hit). found_at why n) (some_same k.0 h.0 (sym k.1 ∙ same ∙ h.1)) ∙ sym h.2
by_hit n last other one two same again (inl h) (inr k) = clash one two h.0 same h.1 k.0
by_hit n last other one two same again (inr h) (inl k) = clash two one k.0 (sym same) k.1 h.0
by_hit n last other one two same again (inr h) (inr k) = again h.1 k.1

-- the same answer after n turns, if the turns before have one
combined : (one_step : OneStep) (printed : List ℕ) (stops : Stops) (start beginning : MemoryState) (n : ℕ) (now there : Point) (last other : Option (ℕ × Hit)) → AlikePoints printed (first_point start) (first_point beginning) → Goes_well now.end → Goes_well there.end
    → ((m : ℕ) → n ≡ m + 1 → (old past : Point) → old.end ≡ None → past.end ≡ None → IsLastBefore stops start m old last → IsLastBefore stops beginning m past other → other ≡ last)
    → Ends_at stops start n now last → Ends_at stops beginning n there other → other ≡ last
combined one_step printed stops start beginning n now there last other alike well fine again (inl h) (inl k) = k.1 ∙ sym h.1
combined one_step printed stops start beginning n now there last other alike well fine again (inl h) (inr k) = absurd (let none_of_them = h.0 in let some = k.2 in omega (arith, none_of_them, some))
combined one_step printed stops start beginning n now there last other alike well fine again (inr h) (inl k) = absurd (let none_of_them = k.0 in let some = h.2 in omega (arith, none_of_them, some))
combined one_step printed stops start beginning n now there last other alike well fine again (inr h) (inr k) =
    let number : k.0 ≡ h.0 = let one = h.2 in let two = k.2 in omega (arith, one, two) in
    let olds = same_walk one_step printed never never (first_point beginning) k.1 alike (none_well h.1.end h.4.goes) (none_well k.1.end k.4.goes) h.3 (subst (λ (j : ℕ). LeadsBy never j (first_point beginning) k.1) number k.3) in
    let nows = one_next one_step printed h.1 k.1 now there olds.states well fine h.4 k.4 in
    by_hit n last other (hit_at None stops h.1.state now.state) (hit_at None stops k.1.state there.state) (hit_same printed None stops h.1.state k.1.state now.state there.state olds.states nows.states)
    (λ a b. again h.0 h.2 h.1 k.1 h.4.goes k.4.goes a (subst (λ (j : ℕ). IsLastBefore stops beginning j k.1 other) number b)) h.5 k.5

last_same : (one_step : OneStep) (printed : List ℕ) (stops : Stops) (start beginning : MemoryState) (n : ℕ) (now there : Point) (last other : Option (ℕ × Hit)) → AlikePoints printed (first_point start) (first_point beginning) → Goes_well now.end → Goes_well there.end
    → IsLastBefore stops start n now last → IsLastBefore stops beginning n there other → other ≡ last
last_same one_step printed stops start beginning zero now there last other alike well fine one two =
    combined one_step printed stops start beginning 0 now there last other alike well fine (λ m e old past goes does a b. absurd (omega (arith, e))) (ends_at stops start 0 now last one) (ends_at stops beginning 0 there other two)
last_same one_step printed stops start beginning (suc n) now there last other alike well fine one two =
    combined one_step printed stops start beginning (suc n) now there last other alike well fine
    (λ m e old past goes does a b.
    let number : m ≡ n = omega (arith, e) in
    last_same one_step printed stops start beginning n old past last other alike (none_well old.end goes) (none_well past.end does) (subst (λ (j : ℕ). IsLastBefore stops start j old last) number a) (subst (λ (j : ℕ). IsLastBefore stops beginning j past other) number b))
    (ends_at stops start (suc n) now last one) (ends_at stops beginning (suc n) there other two)

end_well : (n : ℕ) (shown : Shown) → IsCalm shown.point → (b : Bool) → Goes_well (if b then shown.point.end else None)
end_well n shown calm true = calm_well shown.point.end calm
end_well n shown calm false = none_well None refl

pub one_last : OneStep → (printed : List ℕ) (stops : Stops) (shown other : Shown) (n : ℕ) (last found : Option (ℕ × Hit)) → AlikeStates printed shown.start other.start → IsCalm shown.point → IsCalm other.point → IsLast stops shown n last → IsLast stops other n found → found ≡ last
one_last one_step printed stops shown other n last found alike calm quiet one two =
    last_same one_step printed stops shown.start other.start n one.0 two.0 last found (first_points printed shown.start other.start alike)
    (subst Goes_well (sym one.1) (end_well n shown calm (n == shown.turn))) (subst Goes_well (sym two.1) (end_well n other quiet (n == other.turn))) one.2 two.2

-- ---- where a run stops

-- something held at the last of these turns, and not in a run that looks alike
no_pass : {A : Type 0} (one_step : OneStep) (printed : List ℕ) (goal : Option Goal) (stops : Stops) (p last q r s : Point) (before : ℕ) (why : Hit) → AlikePoints printed p r → Goes_well q.end → Goes_well s.end
    → LeadsBy (holds goal stops) before p last → IsNextPoint last q → hit_at goal stops last.state q.state ≡ Some why → LeadsBy (holds goal stops) (before + 1) r s → A
no_pass {A} one_step printed goal stops p last q r s before why alike well fine walk next held passes = by_last (last_of (holds goal stops) passes) where
  by_last : ((before + 1 ≡ 0) × (s ≡ r)) ⊎ ((m : ℕ) × (old : Point) × (before + 1 ≡ m + 1) × LeadsBy (holds goal stops) m r old × IsNextPoint old s × (holds goal stops old.state s.state ≡ false)) → A
  by_last (inl h) = absurd (let no_turn = h.0 in omega (arith, no_turn))
  by_last (inr h) =
      let number : h.0 ≡ before = let e = h.2 in omega (arith, e) in
      let lasts = same_walk one_step printed (holds goal stops) (holds goal stops) r h.1 alike (none_well last.end next.goes) (none_well h.1.end h.4.goes) walk (subst (λ (j : ℕ). LeadsBy (holds goal stops) j r h.1) number h.3) in
      let nows = one_next one_step printed last h.1 q s lasts.states well fine next h.4 in
      clash (hit_at goal stops last.state q.state) (hit_at goal stops h.1.state s.state) why (hit_same printed goal stops last.state h.1.state q.state s.state lasts.states nows.states) held h.5

-- the same, the other way round
nor_pass : {A : Type 0} (one_step : OneStep) (printed : List ℕ) (goal : Option Goal) (stops : Stops) (p q r last s : Point) (before : ℕ) (why : Hit) → AlikePoints printed p r → Goes_well q.end → Goes_well s.end
    → LeadsBy (holds goal stops) (before + 1) p q → LeadsBy (holds goal stops) before r last → IsNextPoint last s → hit_at goal stops last.state s.state ≡ Some why → A
nor_pass {A} one_step printed goal stops p q r last s before why alike well fine passes walk next held = by_last (last_of (holds goal stops) passes) where
  by_last : ((before + 1 ≡ 0) × (q ≡ p)) ⊎ ((m : ℕ) × (old : Point) × (before + 1 ≡ m + 1) × LeadsBy (holds goal stops) m p old × IsNextPoint old q × (holds goal stops old.state q.state ≡ false)) → A
  by_last (inl h) = absurd (let no_turn = h.0 in omega (arith, no_turn))
  by_last (inr h) =
      let number : h.0 ≡ before = let e = h.2 in omega (arith, e) in
      let lasts = same_walk one_step printed (holds goal stops) (holds goal stops) r last alike (none_well h.1.end h.4.goes) (none_well last.end next.goes) (subst (λ (j : ℕ). LeadsBy (holds goal stops) j p h.1) number h.3) walk in
      let nows = one_next one_step printed h.1 last q s lasts.states well fine h.4 next in
      clash (hit_at goal stops last.state s.state) (hit_at goal stops h.1.state q.state) why (sym (hit_same printed goal stops h.1.state last.state q.state s.state lasts.states nows.states)) held h.5

-- how a run of k turns stops
abbrev Stops_after : Option Goal → Stops → ℕ → Point → Point → ℕ → Outcome → Type 0
Stops_after goal stops limit p q k (outcome.Held why) = (before : ℕ) × (last : Point) × (k ≡ before + 1) × (before < limit) × LeadsBy (holds goal stops) before p last × IsNextPoint last q × (hit_at goal stops last.state q.state ≡ Some why)
Stops_after goal stops limit p q k outcome.Ended = (k ≤ limit) × LeadsBy (holds goal stops) k p q × (q.end ≢ None)
Stops_after goal stops limit p q k outcome.Limit = (k ≡ limit) × LeadsBy (holds goal stops) k p q × (q.end ≡ None)

stops_after : (goal : Option Goal) (stops : Stops) (limit : ℕ) (old new : Shown) (o : Outcome) → RanUntil goal stops limit old new o → (k : ℕ) × (new.turn ≡ old.turn + k) × Stops_after goal stops limit old.point new.point k o
stops_after goal stops limit old new (outcome.Held why) h = (h.0 + 1, let turns = h.3 in omega (arith, turns), (h.0, h.1, refl, h.2, h.4, h.5, h.6))
stops_after goal stops limit old new outcome.Ended h = (h.0.0, h.0.2, (h.0.1, h.0.3, h.1))
stops_after goal stops limit old new outcome.Limit h = (limit, h.0, (refl, h.1, h.2))

within : (goal : Option Goal) (stops : Stops) (limit : ℕ) (p q : Point) (k : ℕ) (o : Outcome) → Stops_after goal stops limit p q k o → k ≤ limit
within goal stops limit p q k (outcome.Held why) h = let number = h.2 in let below = h.3 in omega (arith, number, below)
within goal stops limit p q k outcome.Ended h = h.0
within goal stops limit p q k outcome.Limit h = let number = h.0 in omega (arith, number)

walked : (goal : Option Goal) (stops : Stops) (limit : ℕ) (p q : Point) (k : ℕ) (o : Outcome) → Stops_after goal stops limit p q k o → LeadsBy never k p q
walked goal stops limit p q k (outcome.Held why) h = subst (λ (j : ℕ). LeadsBy never j p q) (sym h.2) (more h.0 p h.1 q (plain (holds goal stops) h.4) h.5 refl)
walked goal stops limit p q k outcome.Ended h = plain (holds goal stops) h.1
walked goal stops limit p q k outcome.Limit h = plain (holds goal stops) h.1

-- a point before the last, to which nothing held, and in which the run goes on
before_stop : (goal : Option Goal) (stops : Stops) (limit : ℕ) (p q : Point) (k : ℕ) (o : Outcome) (i : ℕ) → i < k → Stops_after goal stops limit p q k o → (mid : Point) × LeadsBy (holds goal stops) i p mid × (mid.end ≡ None)
before_stop goal stops limit p q k (outcome.Held why) i below h = elim (cases_eq i h.0) [
  | inl e ↦ (h.1, subst (λ (j : ℕ). LeadsBy (holds goal stops) j p h.1) (sym e) h.4, h.5.goes)
  | inr other ↦ (let mid = on_the_way (holds goal stops) i (let number = h.2 in omega (arith, below, number, other)) h.4 in (mid.0, mid.2, mid.3.goes))
]
before_stop goal stops limit p q k outcome.Ended i below h = let mid = on_the_way (holds goal stops) i below h.1 in (mid.0, mid.2, mid.3.goes)
before_stop goal stops limit p q k outcome.Limit i below h = let mid = on_the_way (holds goal stops) i below h.1 in (mid.0, mid.2, mid.3.goes)

-- no run stops after fewer turns than one that looks alike
not_sooner : {A : Type 0} (one_step : OneStep) (printed : List ℕ) (goal : Option Goal) (stops : Stops) (limit : ℕ) (p q r s : Point) (k j : ℕ) (o u : Outcome) → AlikePoints printed p r → Goes_well q.end → k < j
    → Stops_after goal stops limit p q k o → Stops_after goal stops limit r s j u → A
not_sooner one_step printed goal stops limit p q r s k j (outcome.Held why) u alike well below h two =
    let mid = before_stop goal stops limit r s j u k below two in
    no_pass one_step printed goal stops p h.1 q r mid.0 h.0 why alike well (none_well mid.0.end mid.2) h.4 h.5 h.6 (subst (λ (i : ℕ). LeadsBy (holds goal stops) i r mid.0) h.2 mid.1)
not_sooner one_step printed goal stops limit p q r s k j outcome.Ended u alike well below h two =
    let mid = before_stop goal stops limit r s j u k below two in
    let same = same_walk one_step printed (holds goal stops) (holds goal stops) r mid.0 alike well (none_well mid.0.end mid.2) h.1 mid.1 in
    absurd (h.2 (sym same.ends ∙ mid.2))
not_sooner one_step printed goal stops limit p q r s k j outcome.Limit u alike well below h two =
    absurd (let number = h.0 in let most = within goal stops limit r s j u two in omega (arith, number, most, below))

nor_sooner : {A : Type 0} (one_step : OneStep) (printed : List ℕ) (goal : Option Goal) (stops : Stops) (limit : ℕ) (p q r s : Point) (k j : ℕ) (o u : Outcome) → AlikePoints printed p r → Goes_well s.end → j < k
    → Stops_after goal stops limit p q k o → Stops_after goal stops limit r s j u → A
nor_sooner one_step printed goal stops limit p q r s k j o (outcome.Held why) alike well below one h =
    let mid = before_stop goal stops limit p q k o j below one in
    nor_pass one_step printed goal stops p mid.0 r h.1 s h.0 why alike (none_well mid.0.end mid.2) well (subst (λ (i : ℕ). LeadsBy (holds goal stops) i p mid.0) h.2 mid.1) h.4 h.5 h.6
nor_sooner one_step printed goal stops limit p q r s k j o outcome.Ended alike well below one h =
    let mid = before_stop goal stops limit p q k o j below one in
    let same = same_walk one_step printed (holds goal stops) (holds goal stops) r s alike (none_well mid.0.end mid.2) well mid.1 h.1 in
    absurd (h.2 (same.ends ∙ mid.2))
nor_sooner one_step printed goal stops limit p q r s k j o outcome.Limit alike well below one h =
    absurd (let number = h.0 in let most = within goal stops limit p q k o one in omega (arith, number, most, below))

-- two that stop after as many turns stop for the same reason
one_reason : (one_step : OneStep) (printed : List ℕ) (goal : Option Goal) (stops : Stops) (limit : ℕ) (p q r s : Point) (k : ℕ) (o u : Outcome) → AlikePoints printed p r → AlikePoints printed q s → Goes_well q.end → Goes_well s.end
    → Stops_after goal stops limit p q k o → Stops_after goal stops limit r s k u → u ≡ o
one_reason one_step printed goal stops limit p q r s k (outcome.Held why) (outcome.Held cause) alike ends well fine h j =
    let number : j.0 ≡ h.0 = let one = h.2 in let two = j.2 in omega (arith, one, two) in
    let lasts = same_walk one_step printed (holds goal stops) (holds goal stops) r j.1 alike (none_well h.1.end h.5.goes) (none_well j.1.end j.5.goes) h.4 (subst (λ (i : ℕ). LeadsBy (holds goal stops) i r j.1) number j.4) in
    ap outcome.Held (some_same cause why (sym j.6 ∙ hit_same printed goal stops h.1.state j.1.state q.state s.state lasts.states ends.states ∙ h.6))
one_reason one_step printed goal stops limit p q r s k (outcome.Held why) outcome.Ended alike ends well fine h j =
    no_pass one_step printed goal stops p h.1 q r s h.0 why alike well fine h.4 h.5 h.6 (subst (λ (i : ℕ). LeadsBy (holds goal stops) i r s) h.2 j.1)
one_reason one_step printed goal stops limit p q r s k (outcome.Held why) outcome.Limit alike ends well fine h j =
    no_pass one_step printed goal stops p h.1 q r s h.0 why alike well fine h.4 h.5 h.6 (subst (λ (i : ℕ). LeadsBy (holds goal stops) i r s) h.2 j.1)
one_reason one_step printed goal stops limit p q r s k outcome.Ended (outcome.Held why) alike ends well fine h j =
    nor_pass one_step printed goal stops p q r j.1 s j.0 why alike well fine (subst (λ (i : ℕ). LeadsBy (holds goal stops) i p q) j.2 h.1) j.4 j.5 j.6
one_reason one_step printed goal stops limit p q r s k outcome.Limit (outcome.Held why) alike ends well fine h j =
    nor_pass one_step printed goal stops p q r j.1 s j.0 why alike well fine (subst (λ (i : ℕ). LeadsBy (holds goal stops) i p q) j.2 h.1) j.4 j.5 j.6
one_reason one_step printed goal stops limit p q r s k outcome.Ended outcome.Ended alike ends well fine h j = refl
one_reason one_step printed goal stops limit p q r s k outcome.Limit outcome.Limit alike ends well fine h j = refl
one_reason one_step printed goal stops limit p q r s k outcome.Ended outcome.Limit alike ends well fine h j = absurd (h.2 (sym ends.ends ∙ j.2))
one_reason one_step printed goal stops limit p q r s k outcome.Limit outcome.Ended alike ends well fine h j = absurd (j.2 (ends.ends ∙ h.2))

same_number : (one_step : OneStep) (printed : List ℕ) (goal : Option Goal) (stops : Stops) (limit : ℕ) (p q r s : Point) (k j : ℕ) (o u : Outcome) → AlikePoints printed p r → Goes_well q.end → Goes_well s.end
    → Stops_after goal stops limit p q k o → Stops_after goal stops limit r s j u → j ≡ k
same_number one_step printed goal stops limit p q r s k j o u alike well fine one two = elim (cases_lt k j) [
  | inl sooner ↦ not_sooner one_step printed goal stops limit p q r s k j o u alike well sooner one two
  | inr later ↦ elim (cases_eq k j) [
    | inl e ↦ sym e
    | inr other ↦ nor_sooner one_step printed goal stops limit p q r s k j o u alike fine (omega (arith, later, other)) one two
  ]
]

pub one_stop : OneStep → (printed : List ℕ) (goal : Option Goal) (stops : Stops) (limit : ℕ) (old other new there : Shown) (o u : Outcome) → AlikePoints printed old.point other.point → other.turn ≡ old.turn → IsCalm new.point → IsCalm there.point
    → RanUntil goal stops limit old new o → RanUntil goal stops limit other there u → (u ≡ o) × (there.turn ≡ new.turn) × AlikePoints printed new.point there.point
one_stop one_step printed goal stops limit old other new there o u alike turns calm quiet one two =
    let h = stops_after goal stops limit old new o one in
    let j = stops_after goal stops limit other there u two in
    let well = calm_well new.point.end calm in
    let fine = calm_well there.point.end quiet in
    let number = same_number one_step printed goal stops limit old.point new.point other.point there.point h.0 j.0 o u alike well fine h.2 j.2 in
    let two_too = subst (λ (i : ℕ). Stops_after goal stops limit other.point there.point i u) number j.2 in
    let ends = same_walk one_step printed never never other.point there.point alike well fine (walked goal stops limit old.point new.point h.0 o h.2) (walked goal stops limit other.point there.point h.0 u two_too) in (
      one_reason one_step printed goal stops limit old.point new.point other.point there.point h.0 o u alike ends well fine h.2 two_too,
      let mine = h.1 in let theirs = j.1 in omega (arith, mine, theirs, turns, number),
      ends,
    )

-- ---- the call over which `next` leads to a place

-- the tests of turns, by the states in which they begin
abbrev calls_or_is_at : ReturnPlace → Test
calls_or_is_at place old new = calls place old || is_at place old

abbrev begins_call : ReturnPlace → Test
begins_call place old new = calls place old

neither : (a b : Bool) → (a || b) ≡ false → (a ≡ false) × (b ≡ false)
neither true b e = absurd (true≢false e)
neither false b e = (refl, e)

-- How the last of n turns was: there is none; or it began at a call to the place; or at the place; or at neither, and the answer is that of the
-- turns before.
abbrev Call_at : ReturnPlace → MemoryState → ℕ → Point → Option ℕ → Type 0
Call_at place start n now call =
    ((n ≡ 0) × (call ≡ None))
    ⊎ ((m : ℕ) × (old : Point) × (n ≡ m + 1) × LeadsBy never m (first_point start) old × IsNextPoint old now
    × (((calls place old.state ≡ true) × (call ≡ Some m))
    ⊎ ((calls place old.state ≡ false) × (((is_at place old.state ≡ true) × (call ≡ None)) ⊎ ((is_at place old.state ≡ false) × IsCallTo place start m old call)))))

call_walk : (place : ReturnPlace) (start : MemoryState) (n : ℕ) (now : Point) (call : Option ℕ) → IsCallTo place start n now call → LeadsBy never n (first_point start) now
call_walk place start n now (Some turn) known =
    let number : turn + 1 + known.0 ≡ n = let sum = known.3 in omega (arith, sum) in
    subst (λ (j : ℕ). LeadsBy never j (first_point start) now) number (joined (calls_or_is_at place) (turn + 1) (first_point start) (more turn (first_point start) known.1 known.2 known.4 known.6 refl) known.7)
call_walk place start n now None (inl known) = plain (begins_call place) known
call_walk place start n now None (inr known) =
    let number : known.0 + 1 + known.1 ≡ n = let sum = known.4 in omega (arith, sum) in
    subst (λ (j : ℕ). LeadsBy never j (first_point start) now) number (joined (begins_call place) (known.0 + 1) (first_point start) (more known.0 (first_point start) known.2 known.3 known.5 known.8 refl) known.9)

call_at : (place : ReturnPlace) (start : MemoryState) (n : ℕ) (now : Point) (call : Option ℕ) → IsCallTo place start n now call → Call_at place start n now call
call_at place start n now (Some turn) known = by_last (last_of (calls_or_is_at place) known.7) where
  by_last : ((known.0 ≡ 0) × (now ≡ known.2)) ⊎ ((m : ℕ) × (old : Point) × (known.0 ≡ m + 1) × LeadsBy (calls_or_is_at place) m known.2 old × IsNextPoint old now × (calls_or_is_at place old.state now.state ≡ false)) → Call_at place start n now (Some turn)
  by_last (inl h) = inr (turn, known.1, let sum = known.3 in let no_more = h.0 in omega (arith, sum, no_more), known.4, subst (λ (p : Point). IsNextPoint known.1 p) (sym h.1) known.6, inl (known.5, refl))
  by_last (inr h) =
      let rest : IsCallTo place start (turn + 1 + h.0) h.1 (Some turn) = (h.0, known.1, known.2, refl, known.4, known.5, known.6, h.3) in
      let not_here = neither (calls place h.1.state) (is_at place h.1.state) h.5 in
      inr (turn + 1 + h.0, h.1, let sum = known.3 in let some_more = h.2 in omega (arith, sum, some_more), call_walk place start (turn + 1 + h.0) h.1 (Some turn) rest, h.4, inr (not_here.0, inr (not_here.1, rest)))
call_at place start n now None (inl known) = by_last (last_of (begins_call place) known) where
  by_place : (m : ℕ) (old : Point) → n ≡ m + 1 → LeadsBy (begins_call place) m (first_point start) old → IsNextPoint old now → calls place old.state ≡ false → (is_at place old.state ≡ true) ⊎ (is_at place old.state ≡ false) → Call_at place start n now None
  by_place m old e walk next fails (inl there) = inr (m, old, e, plain (begins_call place) walk, next, inr (fails, inl (there, refl)))
  by_place m old e walk next fails (inr apart) = inr (m, old, e, plain (begins_call place) walk, next, inr (fails, inr (apart, inl walk)))

  by_last : ((n ≡ 0) × (now ≡ first_point start)) ⊎ ((m : ℕ) × (old : Point) × (n ≡ m + 1) × LeadsBy (begins_call place) m (first_point start) old × IsNextPoint old now × (begins_call place old.state now.state ≡ false)) → Call_at place start n now None
  by_last (inl h) = inl (h.0, refl)
  by_last (inr h) = by_place h.0 h.1 h.2 h.3 h.4 h.5 (cases_Bool (is_at place h.1.state))
call_at place start n now None (inr known) = by_last (last_of (begins_call place) known.9) where
  rest_of : (m : ℕ) (old : Point) → LeadsBy (begins_call place) m known.3 old → IsCallTo place start (known.0 + 1 + m) old None
  rest_of m old walk = inr (known.0, m, known.2, known.3, refl, known.5, known.6, known.7, known.8, walk)

  by_place : (m : ℕ) (old : Point) → n ≡ known.0 + 1 + m + 1 → LeadsBy (begins_call place) m known.3 old → IsNextPoint old now → calls place old.state ≡ false → (is_at place old.state ≡ true) ⊎ (is_at place old.state ≡ false) → Call_at place start n now None
  by_place m old e walk next fails (inl there) = inr (known.0 + 1 + m, old, e, call_walk place start (known.0 + 1 + m) old None (rest_of m old walk), next, inr (fails, inl (there, refl)))
  by_place m old e walk next fails (inr apart) = inr (known.0 + 1 + m, old, e, call_walk place start (known.0 + 1 + m) old None (rest_of m old walk), next, inr (fails, inr (apart, rest_of m old walk)))

  by_last : ((known.1 ≡ 0) × (now ≡ known.3)) ⊎ ((m : ℕ) × (old : Point) × (known.1 ≡ m + 1) × LeadsBy (begins_call place) m known.3 old × IsNextPoint old now × (begins_call place old.state now.state ≡ false)) → Call_at place start n now None
  by_last (inl h) = inr (known.0, known.2, let sum = known.4 in let no_more = h.0 in omega (arith, sum, no_more), known.5, subst (λ (p : Point). IsNextPoint known.2 p) (sym h.1) known.8, inr (known.7, inl (known.6, refl)))
  by_last (inr h) = by_place h.0 h.1 (let sum = known.4 in let some_more = h.2 in omega (arith, sum, some_more)) h.3 h.4 h.5 (cases_Bool (is_at place h.1.state))

by_call : {A B : Type 0} (m : ℕ) (call found : Option ℕ) (c d is was : Bool) → d ≡ c → was ≡ is → (A → B → found ≡ call)
    → ((c ≡ true) × (call ≡ Some m)) ⊎ ((c ≡ false) × (((is ≡ true) × (call ≡ None)) ⊎ ((is ≡ false) × A)))
    → ((d ≡ true) × (found ≡ Some m)) ⊎ ((d ≡ false) × (((was ≡ true) × (found ≡ None)) ⊎ ((was ≡ false) × B))) → found ≡ call
by_call m call found c d is was e f again (inl h) (inl k) = k.1 ∙ sym h.1
by_call m call found c d is was e f again (inl h) (inr k) = absurd (true≢false (sym h.0 ∙ sym e ∙ k.0))
by_call m call found c d is was e f again (inr h) (inl k) = absurd (true≢false (sym k.0 ∙ e ∙ h.0))
by_call m call found c d is was e f again (inr (h, inl a)) (inr (k, inl b)) = b.1 ∙ sym a.1
by_call m call found c d is was e f again (inr (h, inl a)) (inr (k, inr b)) = absurd (true≢false (sym a.0 ∙ sym f ∙ b.0))
by_call m call found c d is was e f again (inr (h, inr a)) (inr (k, inl b)) = absurd (true≢false (sym b.0 ∙ f ∙ a.0))
by_call m call found c d is was e f again (inr (h, inr a)) (inr (k, inr b)) = again a.1 b.1

called : (one_step : OneStep) (printed : List ℕ) (place : ReturnPlace) (start beginning : MemoryState) (n : ℕ) (now there : Point) (call found : Option ℕ) → AlikePoints printed (first_point start) (first_point beginning)
    → ((m : ℕ) → n ≡ m + 1 → (old past : Point) → IsCallTo place start m old call → IsCallTo place beginning m past found → found ≡ call)
    → Call_at place start n now call → Call_at place beginning n there found → found ≡ call
called one_step printed place start beginning n now there call found alike again (inl h) (inl k) = k.1 ∙ sym h.1
called one_step printed place start beginning n now there call found alike again (inl h) (inr k) = absurd (let none_of_them = h.0 in let some = k.2 in omega (arith, none_of_them, some))
called one_step printed place start beginning n now there call found alike again (inr h) (inl k) = absurd (let none_of_them = k.0 in let some = h.2 in omega (arith, none_of_them, some))
called one_step printed place start beginning n now there call found alike again (inr h) (inr k) =
    let number : k.0 ≡ h.0 = let one = h.2 in let two = k.2 in omega (arith, one, two) in
    let olds = same_walk one_step printed never never (first_point beginning) k.1 alike (none_well h.1.end h.4.goes) (none_well k.1.end k.4.goes) h.3 (subst (λ (j : ℕ). LeadsBy never j (first_point beginning) k.1) number k.3) in
    by_call h.0 call found (calls place h.1.state) (calls place k.1.state) (is_at place h.1.state) (is_at place k.1.state)
    (ap (λ (m : Machine). calls place (with_machine m k.1.state)) olds.states.machine) (ap (λ (m : Machine). is_at place (with_machine m k.1.state)) olds.states.machine)
    (λ a b. again h.0 h.2 h.1 k.1 a (subst (λ (j : ℕ). IsCallTo place beginning j k.1 found) number b)) h.5
    (subst (λ (j : ℕ). ((calls place k.1.state ≡ true) × (found ≡ Some j)) ⊎ ((calls place k.1.state ≡ false) × (((is_at place k.1.state ≡ true) × (found ≡ None)) ⊎ ((is_at place k.1.state ≡ false) × IsCallTo place beginning k.0 k.1 found)))) number k.5)

pub one_call : (one_step : OneStep) (printed : List ℕ) (place : ReturnPlace) (start beginning : MemoryState) (n : ℕ) (now there : Point) (call found : Option ℕ) → AlikePoints printed (first_point start) (first_point beginning)
    → IsCallTo place start n now call → IsCallTo place beginning n there found → found ≡ call
one_call one_step printed place start beginning zero now there call found alike one two =
    called one_step printed place start beginning 0 now there call found alike (λ m e old past a b. absurd (omega (arith, e))) (call_at place start 0 now call one) (call_at place beginning 0 there found two)
one_call one_step printed place start beginning (suc n) now there call found alike one two =
    called one_step printed place start beginning (suc n) now there call found alike
    (λ m e old past a b.
    let number : m ≡ n = omega (arith, e) in
    one_call one_step printed place start beginning n old past call found alike (subst (λ (j : ℕ). IsCallTo place start j old call) number a) (subst (λ (j : ℕ). IsCallTo place beginning j past found) number b))
    (call_at place start (suc n) now call one) (call_at place beginning (suc n) there found two)
