-- How sessions at a keyboard go on.
use Rattle.std.proofs.Common.{slice_get, suc, zero, ◌≤◌, ◌∷◌, ◌<◌, length, take, inr, ◌≡◌, ◌≢◌, ◌++◌, ◌+◌, [], inl, ℕ, List, Option, None, Some, Result, Ok, Err, refl, sym, ap, subst, ◌∙◌, append_assoc, append-nil, arith, Bool, false, true, IfSome}
use Rattle.std.proofs.lemmas.Bool.{cases_lt}
use Rattle.std.proofs.lemmas.List.{map-append, take_all}
use Rattle.std.specs.Prelude.{min}
use lib.Seq.{take-append_seam}
use Rattle.std.proofs.KnownBytes.{Consumes-nil, Consumes-trans, Keeps-refl, Keeps-trans}
use Rattle.std.specs.Io.{StartsWith}
use Rattle.std.specs.Io.KnownBytes.{Consumes, IsAtEnd, Keeps}
use Rattle.z80_cpu.specs.State.{Machine}
use Rattle.z80_cpu.specs.declared.registers.Cpu.{Cpu}
use Rattle.z80_machine.specs.Run.{Ended, Ran, Turns}
use Rattle.z80_machine.specs.Types.{Step}
use Rattle.z80_machine.specs.declared.runs.Stop.{Stop}
use Rattle.cpm_console.specs.Dialog.{Dialog, typed_in}
use Rattle.cpm_disk.specs.Image.{Image}
use Rattle.cpm_bdos.specs.System.{System, with_console}
use Rattle.cpm_disk.specs.declared.control.stop.Stop.TheVariants as stop
use Rattle.cpm_run.specs.declared.ending.Why.{Why}
use Rattle.cpm_run.specs.declared.ending.Why.TheVariants as why
use Rattle.cpm_run.specs.Turns.{Goes, IsTurn, RunState, is_finished, step_end}
use Rattle.cpm_run.specs.Turns.Goes.{none, more}
use Rattle.cpm_run.specs.Play.{Arrives, CameBefore, EndsBy, IsEcho, PlayedRunEnds, PlayEnds, PlayState, PlaysOn, Sees, arrived, arrival_bytes}
use Rattle.cpm_console.specs.Seat.{Leaves, Seat, Takes}
use Rattle.cpm_run.specs.Play.PlaysOn.{goes, came}
use Rattle.cpm_run.specs.declared.arriving.Arrival.{Arrival}
use Rattle.cpm_run.specs.declared.arriving.PlayEnd.{PlayEnd}
use Rattle.cpm_run.specs.declared.arriving.PlayEnd.TheVariants as play
use Rattle.cpm_run.specs.declared.playing.state.Playing.{Playing}
use Rattle.cpm_run.specs.Private.Playing.{Begins, Continues, Ends, HasHeard, HasShown, IsBetween, IsBroken, IsLeftBy, IsOver, IsStill, IsUnasked, MakesNoStep, SoFar, Stands, Waits, WaitsOn, Went, state_of}
use Rattle.cpm_run.proofs.Going.{Pauses, at, go_on, step_is_turn, system, turn_as, unwatched}

-- the screen has got bytes that were shown ahead, and then the rest of what was put
pub shown_all : (before mid after : Seat) (shown ahead rest put : List ℕ) → HasShown before mid shown ahead → ((more : List ℕ) → Keeps (mid.screen (rest ++ more)) (after.screen more)) → put ≡ ahead ++ rest → HasShown before after shown put
shown_all before mid after shown ahead rest put was then is = λ more.
    let same : (shown ++ put) ++ more ≡ (shown ++ ahead) ++ (rest ++ more) = ap (λ l. (shown ++ l) ++ more) is ∙ ap (λ l. l ++ more) (sym (append_assoc shown ahead rest)) ∙ append_assoc (shown ++ ahead) rest more in
    subst (λ l. Keeps (before.screen l) (after.screen more)) (sym same) (Keeps-trans _ _ _ (was (rest ++ more)) (then more))

-- all that was put is shown, and nothing is shown ahead
pub none_ahead : (before after : Seat) (shown put ahead : List ℕ) → HasShown before after shown put → ahead ≡ [] → HasShown before after (shown ++ put) ahead
none_ahead before after shown put ahead is empty = λ more.
    let same : ((shown ++ put) ++ ahead) ++ more ≡ (shown ++ put) ++ more = ap (λ l. l ++ more) (ap (λ l. (shown ++ put) ++ l) empty ∙ append-nil (shown ++ put)) in
    subst (λ l. Keeps (before.screen l) (after.screen more)) (sym same) (is more)

-- nothing more was shown
pub seen_kept : (before mid after : Seat) (shown ahead same : List ℕ) → after.screen ≡ mid.screen → same ≡ ahead → HasShown before mid shown ahead → HasShown before after shown same
seen_kept before mid after shown ahead same screen is was = λ more.
    subst (λ (l : List ℕ). Keeps (before.screen ((shown ++ l) ++ more)) (after.screen more)) (sym is)
    (subst (λ (f : List ℕ → Option (List ℕ)). Keeps (before.screen ((shown ++ ahead) ++ more)) (f more)) (sym screen) (was more))

-- a front of a buffer of 256 bytes
pub take_min : (n : ℕ) (xs : List ℕ) → length xs ≡ 256 → take (min n 256) xs ≡ take n xs
take_min n xs is = elim (cases_lt n 256) [
  | inl below ↦ ap (λ (k : ℕ). take k xs) (let e : min n 256 ≡ n = omega (arith, below) in e)
  | inr above ↦ take_all (min n 256) xs (omega (arith, is, above)) ∙ sym (take_all n xs (omega (arith, is, above)))
]

-- the bytes of what arrived are those that came
arrived_bytes : (turns : ℕ) (bytes : List ℕ) → arrival_bytes (arrived turns bytes) ≡ bytes
arrived_bytes turns [] = refl
arrived_bytes turns (byte ∷ bytes) = ap (λ l. byte ∷ l) (arrived_bytes turns bytes)

-- keys came after those that had come
pub heard_more : (before mid after : Seat) (turns : ℕ) (bytes : List ℕ) (arrivals all : List Arrival) (was ended : Bool) → all ≡ arrivals ++ arrived turns bytes → Takes bytes mid after → (ended ≡ true → IsAtEnd after.coming)
    → HasHeard before mid arrivals was → HasHeard before after all ended
heard_more before mid after turns bytes arrivals all was ended is takes end heard =
    let whole : arrival_bytes all ≡ arrival_bytes arrivals ++ bytes = ap arrival_bytes is ∙ map-append (λ (a : Arrival). a.byte) arrivals (arrived turns bytes) ∙ ap (λ l. arrival_bytes arrivals ++ l) (arrived_bytes turns bytes) in record {
      coming = subst (Consumes before.coming after.coming) (sym whole) (Consumes-trans before.coming mid.coming after.coming (arrival_bytes arrivals) bytes heard.coming takes.coming);
      stays = λ there. ap before.leaves whole ∙ sym (heard.leaves bytes) ∙ takes.stays;
      leaves = λ more. takes.leaves more ∙ heard.leaves (bytes ++ more) ∙ ap before.leaves (sym (ap (λ l. l ++ more) whole ∙ append_assoc (arrival_bytes arrivals) bytes more));
      end = end;
    }

-- no key came, and none will
pub heard_end : (before mid after : Seat) (arrivals : List Arrival) (was ended : Bool) → Takes [] mid after → IsAtEnd after.coming → HasHeard before mid arrivals was → HasHeard before after arrivals ended
heard_end before mid after arrivals was ended takes end heard = heard_more before mid after 0 [] arrivals arrivals was ended (sym (append-nil arrivals)) takes (λ _. end) heard

-- nobody was asked
pub heard_kept : (before mid after : Seat) (arrivals same : List Arrival) (ended kept : Bool) → IsUnasked mid after → same ≡ arrivals → kept ≡ ended → HasHeard before mid arrivals ended → HasHeard before after same kept
heard_kept before mid after arrivals same ended kept unasked is still heard = record {
  coming = subst (λ l. Consumes before.coming after.coming (arrival_bytes l)) (sym is) (subst (λ k. Consumes before.coming k (arrival_bytes arrivals)) (sym unasked.coming) heard.coming);
  stays = λ there. ap (λ l. before.leaves (arrival_bytes l)) is ∙ heard.stays there;
  leaves = λ more. ap (λ (f : List ℕ → Bool). f more) unasked.leaves ∙ heard.leaves more ∙ ap (λ l. before.leaves (arrival_bytes l ++ more)) (sym is);
  end = λ e. subst IsAtEnd (sym unasked.coming) (heard.end (sym still ∙ e));
}

-- no key came yet
pub heard_none : (before : Seat) (arrivals : List Arrival) (ended : Bool) → arrivals ≡ [] → ended ≡ false → HasHeard before before arrivals ended
heard_none before arrivals ended empty not_ended = record {
  coming = subst (λ l. Consumes before.coming before.coming (arrival_bytes l)) (sym empty) (Consumes-nil before.coming);
  stays = λ there. ap (λ l. before.leaves (arrival_bytes l)) empty ∙ there;
  leaves = λ more. ap (λ l. before.leaves (arrival_bytes l ++ more)) (sym empty);
  end = λ e. absurd (let no : false ≡ true = sym not_ended ∙ e in cc);
}

front_of : (a b : Option (List ℕ)) (bytes : List ℕ) → Consumes a b bytes → IfSome a (λ keys. StartsWith keys bytes)
front_of None b bytes is = tt
front_of (Some x) None bytes is = absurd is
front_of (Some x) (Some y) bytes is = ap (take (length bytes)) is ∙ take-append_seam bytes y

-- what came so far came first
pub arrives : (before after : Seat) (arrivals : List Arrival) (ended : Bool) → HasHeard before after arrivals ended → Arrives before arrivals
arrives before after arrivals ended heard = record { came = front_of before.coming after.coming (arrival_bytes arrivals) heard.coming; stays = heard.stays }

pub same_arrives : (before : Seat) (arrivals same : List Arrival) → same ≡ arrivals → Arrives before arrivals → Arrives before same
same_arrives before arrivals same is arrives = subst (Arrives before) (sym is) arrives

pub left_by : (before mid after : Seat) (arrivals : List Arrival) (ended : Bool) (keys : List ℕ) → HasHeard before mid arrivals ended → Leaves keys mid after → IsLeftBy before after arrivals
left_by before mid after arrivals ended keys heard by =
    (keys, Consumes-trans before.coming mid.coming after.coming (arrival_bytes arrivals) keys heard.coming by.coming, sym (heard.leaves keys) ∙ by.leaves)

pub unasked_on : (a b c : Seat) → IsUnasked a b → IsUnasked b c → IsUnasked a c
unasked_on a b c first then = record { coming = then.coming ∙ first.coming; leaves = then.leaves ∙ first.leaves; looks = then.looks ∙ first.looks }

-- the same bytes, and as many steps or more
pub sooner : (n m : ℕ) (arrivals same : List Arrival) → n ≤ m → same ≡ arrivals → CameBefore n arrivals → CameBefore m same
sooner n m arrivals same le is before = λ k one here. let most = before k one (ap (λ l. slice_get l k) (sym is) ∙ here) in omega (arith, le, most)

arrived_now : (turns : ℕ) (bytes : List ℕ) → CameBefore (turns + 1) (arrived turns bytes)
arrived_now turns [] k one here = absurd cc
arrived_now turns (byte ∷ bytes) zero one here = let is : one ≡ record { turn = turns; byte = byte } = cc in let now : one.turn ≡ turns = ap (λ (a : Arrival). a.turn) is in omega (arith, now)
arrived_now turns (byte ∷ bytes) (suc k) one here = arrived_now turns bytes k one here

both_before : (n : ℕ) (xs ys : List Arrival) → CameBefore n xs → CameBefore n ys → CameBefore n (xs ++ ys)
both_before n [] ys first then k one here = then k one here
both_before n (x ∷ xs) ys first then zero one here = first zero one here
both_before n (x ∷ xs) ys first then (suc k) one here = both_before n xs ys (λ j it there. first (suc j) it there) then k one here

-- bytes came before the next step
pub more_in_time : (turns now : ℕ) (bytes : List ℕ) (arrivals all : List Arrival) → now ≡ turns → all ≡ arrivals ++ arrived turns bytes → CameBefore (turns + 1) arrivals → CameBefore (now + 1) all
more_in_time turns now bytes arrivals all same is before = sooner (turns + 1) (now + 1) (arrivals ++ arrived turns bytes) all (omega (arith, same)) is (both_before (turns + 1) arrivals (arrived turns bytes) before (arrived_now turns bytes))

none_before : (n : ℕ) (arrivals : List Arrival) → arrivals ≡ [] → CameBefore n arrivals
none_before n arrivals empty = λ k one here. absurd (let nothing : ◌≡◌ {A = Option Arrival} None (Some one) = ap (λ l. slice_get l k) (sym empty) ∙ here in cc)

-- two calls that make no step
pub still : {S : Type 0} (old mid new : Playing S) → IsStill old mid → IsStill mid new → IsStill old new
still old mid new first then = record { cpu = then.cpu ∙ first.cpu; turns = then.turns ∙ first.turns; looked = then.looked ∙ first.looked }

pub still_there : {S : Type 0} (old new : Playing S) → IsStill old new → MakesNoStep old new
still_there old new is = record { cpu = is.cpu; turns = is.turns; looked = λ past. (let same = is.looked in omega (arith, same), let same = is.looked in let turns = is.turns in omega (arith, same, turns, past)) }

pub no_step : {S : Type 0} (old mid new : Playing S) → MakesNoStep old mid → MakesNoStep mid new → MakesNoStep old new
no_step old mid new first then = record {
  cpu = then.cpu ∙ first.cpu;
  turns = then.turns ∙ first.turns;
  looked = λ past. let one = first.looked past in let two = then.looked one.1 in (omega (arith, one.0, two.0), two.1);
}

-- the same step is still to be made
pub between_kept : {S : Type 0} (limit : ℕ) (p q : Playing S) → q.cpu ≡ p.cpu → q.turns ≡ p.turns → IsBetween limit p → IsBetween limit q
between_kept limit p q cpu turns next = record {
  going = ap (λ (r : Cpu). is_finished r.pc) cpu ∙ next.going;
  below = subst (λ (n : ℕ). n < limit) (sym turns) next.below;
}

module _ {S : Type 0} (sectors : S → Image) (faults : S → ℕ) where
  -- steps of the machine are steps of the run
  pub ran : (k : ℕ) (old new : Machine) (s : System S Dialog) → Turns system k old new → Goes sectors faults (λ (d : Dialog). d) k (at old s) (at new s)
  ran k old new s turns =
      let same : 0 + k ≡ k = omega arith in
      subst (λ i. Goes sectors faults (λ (d : Dialog). d) i (at old s) (at new s)) same (go_on sectors faults (λ (d : Dialog). d) 0 (at old s) s (none (at old s)) turns)

  -- one step, which may end the run
  pub went : (end : Option Why) (start old : PlayState S) (new : RunState S Dialog) → PlaysOn sectors faults start old → is_finished old.run.machine.cpu.pc ≡ false
      → IsTurn sectors faults (λ (d : Dialog). d) old.run end new → Went sectors faults end start (record old { run = new; turns = old.turns + 1 })
  went None start old new before going turn = goes 1 start old new before (more 0 old.run old.run new (none old.run) going turn)
  went (Some why) start old new before going turn = (old, before, going, turn, refl, refl, refl)

  -- the machine stopped, and the session goes on
  pub paused : (limit k : ℕ) (stop : Stop) (old new : Machine) (s : System S Dialog) → Ran system limit k stop old new → Pauses stop → Goes sectors faults (λ (d : Dialog). d) k (at old s) (at new s)
  paused limit k Stop.Watched old new s made pauses = ran k old new s made.1
  paused limit k Stop.Limit old new s made pauses = ran k old new s made.1
  paused limit k Stop.Halted old new s made pauses = absurd (pauses.0 refl)
  paused limit k Stop.Undocumented old new s made pauses = absurd (pauses.1 refl)

  -- the last step of the machine ends the run
  pub ended_by : (k : ℕ) (outcome : Step) (end : Why) (start old : PlayState S) (new : Machine) → step_end outcome ≡ Some end → PlaysOn sectors faults start old
      → Ended system k outcome old.run.machine new → EndsBy sectors faults start end (record old { run = at new old.run.system; turns = old.turns + k + 1 })
  ended_by k outcome end start old new is before (last, steps, e, step) =
      let s = old.run.system in (
        record old { run = at last s; turns = old.turns + k },
        goes k start old (at last s) before (ran k old.run.machine last s steps),
        (unwatched last.cpu.pc e).1,
        turn_as sectors faults (λ (d : Dialog). d) (step_end outcome) (Some end) (at last s) (at new s) is (step_is_turn sectors faults (λ (d : Dialog). d) outcome last new s e step),
        refl,
        refl,
        refl,
      )

  -- bytes came, and the console has them
  pub came_in : (bytes : List ℕ) (start old : PlayState S) (system : System S Dialog) (arrivals : List Arrival) → system ≡ with_console (typed_in bytes old.run.system.terminal.console) old.run.system
      → arrivals ≡ old.arrivals ++ arrived old.turns bytes → PlaysOn sectors faults start old
      → PlaysOn sectors faults start (record old { run = record { machine = old.run.machine; system = system }; arrivals = arrivals })
  came_in bytes start old system arrivals typed known before = rw (typed, known) (came bytes start old before)

  -- no byte came
  pub none_came : (start old : PlayState S) (system : System S Dialog) (arrivals : List Arrival) → system ≡ old.run.system → arrivals ≡ old.arrivals → PlaysOn sectors faults start old
      → PlaysOn sectors faults start (record old { run = record { machine = old.run.machine; system = system }; arrivals = arrivals })
  none_came start old system arrivals same known before = rw (same, known) before

  -- a session that did not end with the run
  pub unclosed : (limit : ℕ) (end : PlayEnd) (start : PlayState S) (before after : Seat) (p : Playing S) → ((why : Why) → end ≢ play.Run why) → Ends sectors faults limit end start before p after
      → (shown : List ℕ) × PlayEnds sectors faults limit start end (state_of p shown) × Arrives before p.arrivals.items × Sees end before after (state_of p shown) × ((reason : Why) → end ≡ play.Run reason → CameBefore p.turns p.arrivals.items)
  unclosed limit (play.Run why) start before after p other ends = absurd (other why refl)
  unclosed limit play.Left start before after p other ends = (ends.shown, (ends.plays, ends.next.going, ends.next.below), ends.arrives, (ends.left, ends.all, (p.ahead.items, ends.echo, ends.seen)), λ reason is. absurd (other reason is))
  unclosed limit play.NoMemory start before after p other ends = (ends.shown, (ends.plays, ends.next.going, ends.next.below), ends.arrives, (ends.all, (p.ahead.items, ends.seen)), λ reason is. absurd (other reason is))
  unclosed limit play.Failed start before after p other ends = (ends.0.shown, inl ends.0.plays, ends.1, tt, λ reason is. absurd (other reason is))

  -- a session that ended with the run, and all is shown
  pub closed : (limit : ℕ) (end : Why) (start : PlayState S) (before mid after : Seat) (p : Playing S) (bytes : List ℕ) (over : Ends sectors faults limit (play.Run end) start before p mid) → IsUnasked mid after → (end ≡ why.Stopped stop.EndOfInput → p.ended ≡ true)
      → p.bdos.terminal.console.output ≡ Some bytes → HasShown before after over.0.shown bytes
      → (shown : List ℕ) × PlayEnds sectors faults limit start (play.Run end) (state_of p shown) × Arrives before p.arrivals.items × Sees (play.Run end) before after (state_of p shown) × ((reason : Why) → play.Run end ≡ play.Run reason → CameBefore p.turns p.arrivals.items)
  closed limit end start before mid after p bytes (over, heard, time) unasked known put seen =
      let still = heard_kept before mid after p.arrivals.items p.arrivals.items p.ended p.ended unasked refl refl heard in
      (over.shown, over.ends, arrives before mid p.arrivals.items p.ended heard, (still.coming, λ e. still.end (known e), (bytes, put, seen)), λ reason is. time)

  -- the screen failed after the run
  pub unshown : (limit : ℕ) (end : Why) (start : PlayState S) (before mid after : Seat) (p : Playing S) → Ends sectors faults limit (play.Run end) start before p mid
      → (shown : List ℕ) × PlayEnds sectors faults limit start play.Failed (state_of p shown) × Arrives before p.arrivals.items × Sees play.Failed before after (state_of p shown) × ((reason : Why) → play.Failed ≡ play.Run reason → CameBefore p.turns p.arrivals.items)
  unshown limit end start before mid after p (over, heard, time) = (over.shown, inr (end, over.ends), arrives before mid p.arrivals.items p.ended heard, tt, λ reason is. time)

  -- the keyboard was asked, and the session waits on
  pub waits_kept : (limit : ℕ) (start : PlayState S) (before mid after : Seat) (p q : Playing S) → Waits sectors faults limit start before p mid → q.cpu ≡ p.cpu → q.turns ≡ p.turns
      → q.ahead.items ≡ p.ahead.items → q.bdos.terminal.console.output ≡ p.bdos.terminal.console.output → ((shown : List ℕ) → PlaysOn sectors faults start (state_of p shown) → PlaysOn sectors faults start (state_of q shown))
      → after.screen ≡ mid.screen → HasHeard before after q.arrivals.items q.ended → CameBefore (q.turns + 1) q.arrivals.items → Waits sectors faults limit start before q after
  waits_kept limit start before mid after p q waits cpu turns ahead output plays screen heard time =
      let stands = waits.so_far.stands in record {
        so_far = record {
          stands = record {
            shown = stands.shown;
            plays = plays stands.shown stands.plays;
            seen = seen_kept before mid after stands.shown p.ahead.items q.ahead.items screen ahead stands.seen;
          };
          heard = heard;
          time = time;
        };
        next = between_kept limit p q cpu turns waits.next;
        all = output ∙ waits.all;
      }

  -- memory ran out for what came
  pub short_of : (limit : ℕ) (start : PlayState S) (before mid after : Seat) (p q : Playing S) → Waits sectors faults limit start before p mid → q.cpu ≡ p.cpu → q.turns ≡ p.turns
      → q.ahead.items ≡ p.ahead.items → q.bdos.terminal.console.output ≡ p.bdos.terminal.console.output → ((shown : List ℕ) → PlaysOn sectors faults start (state_of p shown) → PlaysOn sectors faults start (state_of q shown))
      → after.screen ≡ mid.screen → q.arrivals.items ≡ p.arrivals.items → Ends sectors faults limit play.NoMemory start before q after
  short_of limit start before mid after p q waits cpu turns ahead output plays screen arrivals =
      let stands = waits.so_far.stands in record {
        shown = stands.shown;
        plays = plays stands.shown stands.plays;
        next = between_kept limit p q cpu turns waits.next;
        all = output ∙ waits.all;
        seen = seen_kept before mid after stands.shown p.ahead.items q.ahead.items screen ahead stands.seen;
        arrives = same_arrives before p.arrivals.items q.arrivals.items arrivals (arrives before mid p.arrivals.items p.ended waits.so_far.heard);
      }

  -- the person left
  pub left_here : (limit : ℕ) (start : PlayState S) (before mid after : Seat) (p : Playing S) (keys : List ℕ) → Waits sectors faults limit start before p mid → IsEcho (state_of p []).run p.ahead.items → Leaves keys mid after
      → Ends sectors faults limit play.Left start before p after
  left_here limit start before mid after p keys waits echo by =
      let stands = waits.so_far.stands in record {
        shown = stands.shown;
        plays = stands.plays;
        next = waits.next;
        all = waits.all;
        seen = seen_kept before mid after stands.shown p.ahead.items p.ahead.items by.screen refl stands.seen;
        echo = echo;
        arrives = arrives before mid p.arrivals.items p.ended waits.so_far.heard;
        left = left_by before mid after p.arrivals.items p.ended keys waits.so_far.heard by;
      }

  -- no step was made yet
  pub at_first : (start : PlayState S) (before : Seat) (p : Playing S) → PlaysOn sectors faults start (state_of p []) → p.ahead.items ≡ [] → Stands sectors faults start before p before
  at_first start before p plays ahead = record {
    shown = [];
    plays = plays;
    seen = λ more. subst (λ (l : List ℕ). Keeps (before.screen (l ++ more)) (before.screen more)) (sym ahead) (Keeps-refl (before.screen more));
  }

  pub none_came_yet : (start : PlayState S) (before : Seat) (p : Playing S) → Stands sectors faults start before p before → p.arrivals.items ≡ [] → p.ended ≡ false → Begins sectors faults start before p before
  none_came_yet start before p stands none_yet not_ended =
      (record { stands = stands; heard = heard_none before p.arrivals.items p.ended none_yet not_ended; time = none_before (p.turns + 1) p.arrivals.items none_yet }, none_before p.turns p.arrivals.items none_yet)

  -- steps were made, and nobody was asked
  pub moved : (start : PlayState S) (before after : Seat) (p q : Playing S) (first : Stands sectors faults start before p after) → PlaysOn sectors faults start (state_of q first.shown)
      → q.ahead.items ≡ p.ahead.items → Stands sectors faults start before q after
  moved start before after p q first plays ahead = record {
    shown = first.shown;
    plays = plays;
    seen = seen_kept before after after first.shown p.ahead.items q.ahead.items refl ahead first.seen;
  }

  pub moved_on : (start : PlayState S) (before after : Seat) (p q : Playing S) (first : SoFar sectors faults start before p after) → PlaysOn sectors faults start (state_of q first.stands.shown)
      → q.ahead.items ≡ p.ahead.items → q.arrivals.items ≡ p.arrivals.items → q.ended ≡ p.ended → p.turns ≤ q.turns → SoFar sectors faults start before q after
  moved_on start before after p q first plays ahead arrivals ended later = record {
    stands = moved start before after p q first.stands plays ahead;
    heard = heard_kept before after after _ _ _ _ (record { coming = refl; leaves = refl; looks = refl }) arrivals ended first.heard;
    time = sooner (p.turns + 1) (q.turns + 1) p.arrivals.items q.arrivals.items (omega (arith, later)) arrivals first.time;
  }

  -- the run ended with these steps
  pub over : (limit : ℕ) (end : Why) (start : PlayState S) (before after : Seat) (p q : Playing S) (first : Stands sectors faults start before p after) → PlayedRunEnds sectors faults limit start end (state_of q first.shown)
      → q.ahead.items ≡ p.ahead.items → IsOver sectors faults limit start end before q after
  over limit end start before after p q first ends ahead = record {
    shown = first.shown;
    ends = ends;
    seen = seen_kept before after after first.shown p.ahead.items q.ahead.items refl ahead first.seen;
  }

  pub over_here : (limit : ℕ) (end : Why) (start : PlayState S) (before after : Seat) (p q : Playing S) (first : SoFar sectors faults start before p after) → PlayedRunEnds sectors faults limit start end (state_of q first.stands.shown)
      → q.ahead.items ≡ p.ahead.items → q.arrivals.items ≡ p.arrivals.items → q.ended ≡ p.ended → CameBefore q.turns p.arrivals.items → Ends sectors faults limit (play.Run end) start before q after
  over_here limit end start before after p q first ends ahead arrivals ended time =
      (over limit end start before after p q first.stands ends ahead, heard_kept before after after _ _ _ _ (record { coming = refl; leaves = refl; looks = refl }) arrivals ended first.heard, sooner q.turns q.turns p.arrivals.items q.arrivals.items (omega arith) arrivals time)

  -- all was shown, and no key came
  pub shown_on : (start : PlayState S) (before mid after : Seat) (p q : Playing S) → SoFar sectors faults start before p mid → Stands sectors faults start before q after → IsUnasked mid after
      → q.arrivals.items ≡ p.arrivals.items → q.ended ≡ p.ended → q.turns ≡ p.turns → SoFar sectors faults start before q after
  shown_on start before mid after p q first stands unasked arrivals ended turns = record {
    stands = stands;
    heard = heard_kept before mid after _ _ _ _ unasked arrivals ended first.heard;
    time = sooner (p.turns + 1) (q.turns + 1) p.arrivals.items q.arrivals.items (omega (arith, turns)) arrivals first.time;
  }

  -- all is shown before a step
  pub begun : (limit : ℕ) (start : PlayState S) (before after : Seat) (old p : Playing S) → SoFar sectors faults start before p after → IsStill old p → p.bdos.terminal.console.output ≡ Some [] → IsBetween limit old
      → Waits sectors faults limit start before p after
  begun limit start before after old p so_far still all next = record { so_far = so_far; next = between_kept limit old p still.cpu still.turns next; all = all }

  pub after_listening : {A : Type 0} (limit : ℕ) (result : Result A PlayEnd) (start : PlayState S) (before after : Seat) (p : Playing S) → WaitsOn sectors faults limit result start before p after → Continues sectors faults limit result start before p after
  after_listening limit (Ok done) start before after p waits = waits.so_far
  after_listening limit (Err end) start before after p ends = ends

  -- a session in which the keyboard or the screen failed
  pub broken : (limit : ℕ) (start : PlayState S) (before mid : Seat) (p : Playing S) → Waits sectors faults limit start before p mid → IsBroken sectors faults start p × Arrives before p.arrivals.items
  broken limit start before mid p waits = (record { shown = waits.so_far.stands.shown; plays = waits.so_far.stands.plays }, arrives before mid p.arrivals.items p.ended waits.so_far.heard)

  -- no step ended the run
  pub gone : (end : Option Why) (start new : PlayState S) → ((why : Why) → end ≢ Some why) → Went sectors faults end start new → PlaysOn sectors faults start new
  gone None start new other steps = steps
  gone (Some why) start new other steps = absurd (other why refl)

  pub went_on : (end : Option Why) (old new : RunState S Dialog) → ((why : Why) → end ≢ Some why) → IsTurn sectors faults (λ (d : Dialog). d) old end new → IsTurn sectors faults (λ (d : Dialog). d) old None new
  went_on None old new other turn = turn
  went_on (Some why) old new other turn = absurd (other why refl)

  -- an error of a call ended the session
  pub ended_so : {A : Type 0} (limit : ℕ) (end given : PlayEnd) (result : Result A PlayEnd) (start : PlayState S) (before after : Seat) (p : Playing S) → result ≡ Err given → given ≡ end → Ends sectors faults limit end start before p after
      → WaitsOn sectors faults limit result start before p after
  ended_so {A} limit end given result start before after p is which ends =
      subst (λ (r : Result A PlayEnd). WaitsOn sectors faults limit r start before p after) (sym (is ∙ ap (λ (e : PlayEnd). Err e) which)) ends
