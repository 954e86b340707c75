-- The walks of a history, one turn after the other.
use Rattle.std.proofs.Common.{◌≡◌, ℕ, ◌+◌, ◌-◌, ◌<◌, ◌^◌, Bool, true, false, List, [], ◌∷◌, ◌++◌, Option, Some, None, refl, sym, subst, ap, ◌∙◌, arith, inl, inr}
use Rattle.std.specs.Prelude.{All, ◌||◌, if◌then◌else◌, is_some, option_map}
use Rattle.std.specs.Option.{option_or}
use Rattle.std.proofs.lemmas.List.Elements.{All-push, All-nil, All-same}
use Rattle.cpm_run.specs.declared.ending.Why.{Why}
use Rattle.cpm_run.specs.declared.ending.Why.TheVariants as why
use Rattle.machine_history.specs.Private.Kept.{IsKept}
use Rattle.machine_history.specs.Calls.{IsCallTo, calls, is_at}
use Rattle.machine_history.specs.Stops.{IsLastBefore, hit_at}
use Rattle.machine_history.specs.Walk.{IsAfter, IsNextPoint, IsTrue_of_run, LeadsBy, MakesTurn, Point, Shown, MemoryState, end_after, first_point, never}
use Rattle.machine_history.specs.Walk.LeadsBy.{none, more}
use Rattle.machine_history.specs.declared.calls.ReturnPlace.{ReturnPlace}
use Rattle.machine_history.specs.declared.kept.Kept.{Kept}
use Rattle.machine_history.specs.declared.stops.Hit.{Hit}
use Rattle.machine_history.specs.declared.stops.Stops.{Stops}

-- the beginning of a run
pub begun : (test : MemoryState → MemoryState → Bool) (start s : MemoryState) (p : Point) → p ≡ first_point s → s ≡ start → LeadsBy test 0 (first_point start) p
begun test start s p e same = subst (λ (q : Point). LeadsBy test 0 (first_point start) q) (ap first_point (sym same) ∙ sym e) (none (first_point start))

-- one turn more
pub go_on : (start : MemoryState) (n : ℕ) (old new : Point) → IsAfter start n old → IsNextPoint old new → IsAfter start (n + 1) new
go_on start n old new before next = more n (first_point start) old new before next refl

-- what is shown after one turn more
pub true_more : (old new : Shown) → IsTrue_of_run old → new.start ≡ old.start → new.turn ≡ old.turn + 1 → IsNextPoint old.point new.point → IsTrue_of_run new
true_more old new after start turn next =
    subst (λ (s : MemoryState). IsAfter s new.turn new.point) (sym start)
    (subst (λ (n : ℕ). IsAfter old.start n new.point) (sym turn) (go_on old.start old.turn old.point new.point after next))

-- no states are kept at the beginning
pub none_kept : (start : MemoryState) (kept : List Kept) → kept ≡ [] → All (IsKept start) kept
none_kept start kept e = All-same (IsKept start) kept [] e (All-nil (IsKept start))

-- a point in which the run has not ended, by its state
pub going : (start : MemoryState) (turn : ℕ) (p : Point) (s : MemoryState) → s ≡ p.state → p.end ≡ None → IsAfter start turn p → IsAfter start turn (record { state = s; end = None })
going start turn p s same e after =
    subst (λ (t : MemoryState). IsAfter start turn (record { state = t; end = None })) (sym same)
    (subst (λ (o : Option Why). IsAfter start turn (record { state = p.state; end = o })) e after)

-- one more state may be kept
pub kept_more : (start : MemoryState) (items new : List Kept) (b : Bool) (x : Kept) → new ≡ (if b then items ++ x ∷ [] else items) → All (IsKept start) items → IsKept start x → All (IsKept start) new
kept_more start items new true x e known is = All-same (IsKept start) new (items ++ x ∷ []) e (All-push (IsKept start) items x known is)
kept_more start items new false x e known is = All-same (IsKept start) new items e known

-- one more turn: something holds at it, or the last is the same as before
pub last_more : (stops : Stops) (start : MemoryState) (n : ℕ) (old new : Point) (last : Option (ℕ × Hit)) (held : Option Hit) → IsLastBefore stops start n old last → IsAfter start n old → IsNextPoint old new
    → held ≡ hit_at None stops old.state new.state → IsLastBefore stops start (n + 1) new (option_or (option_map (λ why. (n + 1, why)) held) last)
last_more stops start n old new last (Some why) known all next is = (n, 0, old, new, refl, omega arith, all, next, sym is, none new)
last_more stops start n old new None None known all next is = more n (first_point start) old new known next (ap is_some (sym is))
last_more stops start n old new (Some (turn, why)) None known all next is =
    let sum : n ≡ turn + known.1 = known.5 in
    (known.0, known.1 + 1, known.2, known.3, known.4, omega (arith, sum), known.6, known.7, known.8, more known.1 known.3 old new known.9 next (ap is_some (sym is)))

-- one more turn: it begins at a call to the place, or at the place itself, or at neither
pub call_more : (place : ReturnPlace) (start : MemoryState) (n : ℕ) (old new : Point) (call : Option ℕ) (is_call is_there : Bool) → IsCallTo place start n old call → IsAfter start n old → IsNextPoint old new
    → is_call ≡ calls place old.state → is_there ≡ is_at place old.state → IsCallTo place start (n + 1) new (if is_call then Some n else if is_there then None else call)
call_more place start n old new call true is_there known all next c t = (0, old, new, omega arith, all, sym c, next, none new)
call_more place start n old new call false true known all next c t = inr (n, 0, old, new, omega arith, all, sym t, sym c, next, none new)
call_more place start n old new None false false (inl known) all next c t = inl (more n (first_point start) old new known next (sym c))
call_more place start n old new None false false (inr known) all next c t =
    let sum : n ≡ known.0 + 1 + known.1 = known.4 in
    inr (known.0, known.1 + 1, known.2, known.3, omega (arith, sum), known.5, known.6, known.7, known.8, more known.1 known.3 old new known.9 next (sym c))
call_more place start n old new (Some turn) false false known all next c t =
    let sum : n ≡ turn + 1 + known.0 = known.3 in
    let neither : (calls place old.state || is_at place old.state) ≡ false = ap (λ (b : Bool). b || is_at place old.state) (sym c) ∙ sym t in
    (known.0 + 1, known.1, known.2, omega (arith, sum), known.4, known.5, known.6, more known.0 known.2 old new known.7 next neither)

-- the same, by what the code has made of the state before the turn
pub call_made : (place : ReturnPlace) (start : MemoryState) (n : ℕ) (old new : Point) (call made : Option ℕ) (s : MemoryState) → s ≡ old.state → made ≡ (if calls place s then Some n else if is_at place s then None else call)
    → IsCallTo place start n old call → IsAfter start n old → IsNextPoint old new → IsCallTo place start (n + 1) new made
call_made place start n old new call made s same is known all next =
    let e : made ≡ (if calls place old.state then Some n else if is_at place old.state then None else call) = is ∙ ap (λ (t : MemoryState). if calls place t then Some n else if is_at place t then None else call) same in
    subst (λ (r : Option ℕ). IsCallTo place start (n + 1) new r) (sym e) (call_more place start n old new call (calls place old.state) (is_at place old.state) known all next refl refl)

-- ---- the number of turns

-- the turns that were made, in a point from which the run goes on
pub counted : (test : MemoryState → MemoryState → Bool) {n : ℕ} {a p : Point} → LeadsBy test n a p → p.end ≡ None → p.state.turns ≡ a.state.turns + n
counted test (none p) going = omega arith
counted test (more m old last new before next fails) going = by_turn next.turns (counted test before next.goes) where
  by_turn : MakesTurn last.state next.by new.state → last.state.turns ≡ old.state.turns + m → new.state.turns ≡ old.state.turns + (m + 1)
  by_turn (inl h) sum = let one = h.turns in omega (arith, one, sum)
  by_turn (inr h) sum = absurd (let no : ◌≡◌ {A = Option Why} None (Some why.NoMemory) = sym going ∙ next.ends ∙ ap (λ (o : Option Why). end_after o new.state) h.1 in cc)

-- there is a number for one more
pub room : (start : MemoryState) (n : ℕ) (p : Point) → start.turns ≡ 0 → IsAfter start n p → p.end ≡ None → n < 2 ^ 64 - 1 → p.state.turns < 2 ^ 64 - 1
room start n p first after going below = let sum = counted never after going in omega (arith, sum, first, below)

-- a point from which the run goes on, as the code finds it
pub goes_on : (end found : Option Why) (b : Bool) → found ≡ end → b ≡ is_some found → b ≡ false → end ≡ None
goes_on end None b is some failed = sym is
goes_on end (Some why) b is some failed = absurd (let clash : true ≡ false = sym some ∙ failed in cc)
