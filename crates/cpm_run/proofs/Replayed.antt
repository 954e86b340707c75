-- How a session follows a record.
use Rattle.std.proofs.Common.{◌≡◌, ◌≢◌, ◌<◌, ◌≤◌, ◌+◌, ◌++◌, ◌∷◌, [], ℕ, true, false, List, Option, None, Some, Result, Ok, Err, length, slice_get, take, refl, subst, sym, ap, ◌∙◌, arith, length-append}
use Rattle.std.proofs.lemmas.List.{take_all, take_more}
use Rattle.std.proofs.lemmas.Option.{slice_get-get_or, slice_get_past}
use Rattle.std.specs.Prelude.{get_or, max, min}
use Rattle.std.specs.Result.{is_err}
use Rattle.cpm_disk.specs.Image.{Image}
use Rattle.cpm_run.specs.declared.arriving.Arrival.{Arrival}
use Rattle.cpm_run.specs.declared.arriving.PlayEnd.{PlayEnd}
use Rattle.cpm_run.specs.declared.arriving.PlayEnd.TheVariants as play
use Rattle.cpm_run.specs.declared.playing.state.Playing.{Playing}
use Rattle.cpm_run.specs.Play.{FollowsRecord, IsInOrder, IsShownAgain, PlayState, arrived, due_from, last_due}
use Rattle.cpm_run.specs.Private.Playing.{HasShown, IsQuiet, IsRefused, IsUnasked, Repeats, RepeatsTo, WasRefused, taken}
use Rattle.cpm_console.specs.Seat.{Seat}
use Rattle.cpm_run.proofs.Due.{IsDueFrom, due_at_first, due_in_order, due_length, in_due_time, next_due, no_arrival, none_due, recorded_at, within_due}
use Rattle.cpm_run.proofs.Looking.{more_events}

-- The first `count` bytes of a record have come, and no more steps are made than the next of them allows.
pub record KeepsTo (recorded : List Arrival) (last count turns : ℕ) (arrivals : List Arrival) : Type 0 where
  pub front : arrivals ≡ take count recorded
  pub within : turns ≤ last
  pub later : (k : ℕ) (other : Arrival) → count ≤ k → slice_get recorded k ≡ Some other → turns ≤ other.turn

module _ (recorded : List Arrival) (last : ℕ) (order : IsInOrder recorded last) where
  pub follows : (count turns : ℕ) (arrivals : List Arrival) → KeepsTo recorded last count turns arrivals → FollowsRecord recorded last turns arrivals
  follows count turns arrivals keeps = record { count = count; front = keeps.front; later = keeps.later; within = keeps.within }

  -- steps were made up to the next byte at most
  pub went_to : (count turns limit : ℕ) (arrivals same : List Arrival) → same ≡ arrivals → arrivals ≡ take count recorded → count < length recorded → turns ≤ min (recorded_at recorded count).turn limit → KeepsTo recorded last count turns same
  went_to count turns limit arrivals same is front inside below =
      let here = slice_get-get_or recorded count no_arrival inside in record {
        front = is ∙ front;
        within = let most = order.within count (recorded_at recorded count) here in omega (arith, most, below);
        later = λ k other after there. let most = order.rising count k (recorded_at recorded count) other after here there in omega (arith, most, below);
      }

  -- a byte came in time
  pub took_next : (count turns : ℕ) (arrivals all : List Arrival) → KeepsTo recorded last count turns arrivals → count < length recorded → turns ≡ (recorded_at recorded count).turn
      → all ≡ arrivals ++ arrived turns ((recorded_at recorded count).byte ∷ []) → KeepsTo recorded last (count + 1) turns all
  took_next count turns arrivals all keeps inside time is = record {
    front = is ∙ ap (λ (n : ℕ). arrivals ++ (arrived n ((recorded_at recorded count).byte ∷ []))) time ∙ ap (λ l. l ++ (recorded_at recorded count ∷ [])) keeps.front ∙ sym (take_more recorded count no_arrival inside);
    within = keeps.within;
    later = λ k other after there. keeps.later k other (omega (arith, after)) there;
  }

  -- all have come
  pub went_last : (count turns : ℕ) (arrivals same : List Arrival) → same ≡ arrivals → arrivals ≡ take count recorded → length recorded ≤ count → turns ≤ last → KeepsTo recorded last count turns same
  went_last count turns arrivals same is front outside below = record {
    front = is ∙ front;
    within = below;
    later = λ k other after there. absurd (let none : ◌≡◌ {A = Option Arrival} None (Some other) = sym (slice_get_past recorded k (omega (arith, outside, after))) ∙ there in cc);
  }

module _ (recorded : List Arrival) (last : ℕ) where
  abbrev Keeps : ℕ → ℕ → List Arrival → Type 0
  Keeps i turns arrivals = KeepsTo (due_from 0 recorded) (last_due 0 recorded last) i turns arrivals

  keeps_at_first : (n : ℕ) (arrivals : List Arrival) → n ≡ 0 → arrivals ≡ [] → Keeps 0 n arrivals
  keeps_at_first n arrivals none empty = record { front = empty; within = omega (arith, none); later = λ k other after there. omega (arith, none) }

  pub at_first_due : (n : ℕ) (arrivals : List Arrival) → n ≡ 0 → arrivals ≡ [] → Keeps 0 n arrivals × IsDueFrom recorded last 0 n
  at_first_due n arrivals none empty = (keeps_at_first n arrivals none empty, due_at_first recorded last n none)

  pub as_due : (i turns : ℕ) (arrivals : List Arrival) → Keeps i turns arrivals → FollowsRecord (due_from 0 recorded) (last_due 0 recorded last) turns arrivals
  as_due i turns arrivals keeps = follows (due_from 0 recorded) (last_due 0 recorded last) (due_in_order 0 recorded last) i turns arrivals keeps

  -- steps were made towards the next byte
  pub went_due : (i n limit target turns : ℕ) (arrivals same : List Arrival) → Keeps i n arrivals × IsDueFrom recorded last i n → i < length recorded → target ≡ min (recorded_at recorded i).turn limit → turns ≤ max n target → n ≤ limit → same ≡ arrivals → Keeps i turns same
  went_due i n limit target turns arrivals same so_far inside is below bound kept =
      let next = next_due recorded last i n inside so_far.1 in
      let long = due_length 0 recorded in
      went_to (due_from 0 recorded) (last_due 0 recorded last) (due_in_order 0 recorded last) i turns limit arrivals same kept so_far.0.front (omega (arith, inside, long))
      (within_due n (recorded_at recorded i).turn limit target turns (recorded_at (due_from 0 recorded) i).turn is below bound (ap (λ (a : Arrival). a.turn) next.0))

  -- the next byte came
  pub took_due : (i n limit target turns : ℕ) (arrivals all : List Arrival) → Keeps i turns arrivals → IsDueFrom recorded last i n → i < length recorded → target ≡ min (recorded_at recorded i).turn limit → target ≤ turns → turns ≤ max n target → n ≤ turns → turns < limit
      → all ≡ arrivals ++ arrived turns ((recorded_at recorded i).byte ∷ []) → Keeps (i + 1) turns all × IsDueFrom recorded last (i + 1) turns
  took_due i n limit target turns arrivals all keeps due inside is reached below later bound came =
      let next = next_due recorded last i n inside due in
      let long = due_length 0 recorded in
      let time = in_due_time n (recorded_at recorded i).turn limit target turns (recorded_at (due_from 0 recorded) i).turn is reached below later bound (ap (λ (a : Arrival). a.turn) next.0) in (
        took_next (due_from 0 recorded) (last_due 0 recorded last) (due_in_order 0 recorded last) i turns arrivals all keeps (omega (arith, inside, long)) time
            (came ∙ ap (λ (b : ℕ). arrivals ++ arrived turns (b ∷ [])) (sym (ap (λ (a : Arrival). a.byte) next.0))),
        subst (λ (m : ℕ). IsDueFrom recorded last (i + 1) m) (sym (time ∙ ap (λ (a : Arrival). a.turn) next.0)) next.1,
      )

  -- all have come, and the last steps were made
  pub went_all : (i n limit target turns : ℕ) (arrivals same : List Arrival) → Keeps i n arrivals × IsDueFrom recorded last i n → length recorded ≤ i → target ≡ min last limit → turns ≤ max n target → same ≡ arrivals → Keeps i turns same
  went_all i n limit target turns arrivals same so_far outside is below kept =
      let long = due_length 0 recorded in
      let whole = none_due recorded last i n outside so_far.1 in
      went_last (due_from 0 recorded) (last_due 0 recorded last) (due_in_order 0 recorded last) i turns arrivals same kept so_far.0.front (omega (arith, outside, long)) (omega (arith, whole, is, below))

  pub all_came : (i n : ℕ) (arrivals : List Arrival) → Keeps i n arrivals → length recorded ≤ i → arrivals ≡ due_from 0 recorded
  all_came i n arrivals keeps outside = let long = due_length 0 recorded in keeps.front ∙ take_all i (due_from 0 recorded) (omega (arith, outside, long))

-- memory ran out for a byte, or it came
pub taken_none : {E : Type 0} (turns : ℕ) (bytes : List ℕ) (r : Result Unit E) (arrivals : List Arrival) → is_err r ≡ true → taken turns bytes r arrivals ≡ arrivals
taken_none turns bytes (Ok done) arrivals is = absurd (let no : false ≡ true = is in cc)
taken_none turns bytes (Err e) arrivals is = refl

pub taken_all : {E : Type 0} (turns : ℕ) (bytes : List ℕ) (r : Result Unit E) (arrivals : List Arrival) → is_err r ≡ false → taken turns bytes r arrivals ≡ arrivals ++ arrived turns bytes
taken_all turns bytes (Ok done) arrivals is = refl
taken_all turns bytes (Err e) arrivals is = absurd (let no : true ≡ false = is in cc)

-- one more byte came
pub one_came : (turns byte : ℕ) (arrivals all : List Arrival) → all ≡ arrivals ++ arrived turns (byte ∷ []) → length all ≡ length arrivals + 1
one_came turns byte arrivals all is = ap length is ∙ length-append arrivals (arrived turns (byte ∷ []))

-- the steps are made after which a byte comes
pub past_time : (time limit target turns now : ℕ) → target ≡ min time limit → target ≤ turns → turns < limit → now ≡ turns → time ≤ now
past_time time limit target turns now is least below same = omega (arith, is, least, below, same)

module _ {S : Type 0} (sectors : S → Image) (faults : S → ℕ) where
  pub repeats_to : (A : Type 0) (limit last : ℕ) (end : PlayEnd) (start : PlayState S) (before after : Seat) (p : Playing S) → Repeats {A = A} sectors faults limit (Err end) start before p after → RepeatsTo sectors faults limit last end start before p after
  repeats_to A limit last (play.Run why) start before after p ends = ends
  repeats_to A limit last play.Failed start before after p ends = ends
  repeats_to A limit last play.Left start before after p ends = absurd ends
  repeats_to A limit last play.NoMemory start before after p ends = absurd ends

-- nobody was asked, and all was shown
pub shown_again : {S : Type 0} (end : PlayEnd) (before mid after : Seat) (new : PlayState S) (bytes : List ℕ) → IsUnasked before mid → IsUnasked mid after → new.run.system.terminal.console.output ≡ Some bytes
    → HasShown before after new.shown bytes → end ≢ play.Failed → IsShownAgain end before after new
shown_again end before mid after new bytes first then put seen other =
    record { coming = then.coming ∙ first.coming; leaves = then.leaves ∙ first.leaves; looks = then.looks ∙ first.looks; all = λ _. (bytes, put, seen); failed = λ is. absurd (other is) }

-- nobody was asked, and the screen failed
pub failed_again : {S : Type 0} (before mid after : Seat) (new : PlayState S) → IsUnasked before mid → IsUnasked mid after → WasRefused before after → IsShownAgain play.Failed before after new
failed_again before mid after new first then refused =
    record { coming = then.coming ∙ first.coming; leaves = then.leaves ∙ first.leaves; looks = then.looks ∙ first.looks; all = λ other. absurd (other refl); failed = λ is. refused }

-- nothing was shown
pub quiet_still : {S : Type 0} (before after : Seat) (p q : Playing S) → q.ahead.items ≡ p.ahead.items → IsQuiet before p after → IsQuiet before q after
quiet_still before after p q same quiet = record { none = same ∙ quiet.none; events = quiet.events; told = quiet.told }

-- the last of what was put was not shown
pub refused_last : {S : Type 0} (before mid after : Seat) (p : Playing S) → IsQuiet before p mid → IsRefused mid after → WasRefused before after
refused_last before mid after p quiet (bytes, noted) = (quiet.events, bytes, more_events quiet.events _ before.events mid.events after.events quiet.told noted)
