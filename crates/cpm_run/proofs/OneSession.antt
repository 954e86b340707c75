-- Sessions to which the same bytes came at the same steps look alike.
use Rattle.std.proofs.Common.{◌≡◌, ◌≤◌, ◌+◌, ◌++◌, ◌∷◌, [], ℕ, false, List, Option, Some, None, refl, sym, ap, subst, ◌∙◌, append_assoc, append-nil, arith}
use Rattle.z80_cpu.specs.declared.registers.Cpu.{Cpu}
use Rattle.cpm_console.specs.Dialog.{Dialog, output_cleared, typed_in}
use Rattle.cpm_disk.specs.Calls.{Mounted}
use Rattle.cpm_disk.specs.Image.{Image}
use Rattle.cpm_bdos.specs.Alike.{AlikeDisks, AlikeSystems}
use Rattle.cpm_run.specs.declared.arriving.Arrival.{Arrival}
use Rattle.cpm_run.specs.declared.ending.Why.{Why}
use Rattle.cpm_run.specs.AlikeSessions.{AlikeSessions}
use Rattle.cpm_run.specs.Play.{EndsBy, PlayState, PlaysOn, arrived, first_state, on_console}
use Rattle.cpm_run.specs.Play.PlaysOn.{same, goes, came, shows}
use Rattle.cpm_run.specs.Turns.{Goes, IsTurn, RunState, is_finished}
use Rattle.cpm_run.specs.Turns.Goes.{none, more}
use Rattle.cpm_run.specs.Undisturbed.{IsUndisturbed}
use Rattle.cpm_run.proofs.OneRun.{Goes_well, OneStep, none_well, one_turn, some_well}

-- one byte after the others
abbrev typed : {S : Type 0} → ℕ → PlayState S → PlayState S
typed byte s = record s {
  run = on_console (typed_in (byte ∷ []) s.run.system.terminal.console) s.run;
  arrivals = s.arrivals ++ record { turn = s.turns; byte = byte } ∷ [];
}

abbrev shown_too : {S : Type 0} → List ℕ → PlayState S → PlayState S
shown_too bytes s = record s { run = on_console (output_cleared s.run.system.terminal.console) s.run; shown = s.shown ++ bytes }

abbrev stepped : {S : Type 0} → RunState S Dialog → PlayState S → PlayState S
stepped run s = record s { run = run; turns = s.turns + 1 }

-- A session event by event: a step, one byte that came, or what was put is shown.
pub data Walk {S : Type 0} (sectors : S → Image) (faults : S → ℕ) (start : PlayState S) : PlayState S → Type 0 where
  begin : Walk sectors faults start start
  step : (old : PlayState S) (run : RunState S Dialog) → Walk sectors faults start old → is_finished old.run.machine.cpu.pc ≡ false → IsTurn sectors faults (λ d. d) old.run None run
      → Walk sectors faults start (stepped run old)
  byte : (byte : ℕ) (old : PlayState S) → Walk sectors faults start old → Walk sectors faults start (typed byte old)
  show : (bytes : List ℕ) (old : PlayState S) → Walk sectors faults start old → old.run.system.terminal.console.output ≡ Some bytes → Walk sectors faults start (shown_too bytes old)

-- lists that end with an element
pub not_empty : {A B : Type 0} (xs : List A) (x : A) → [] ≡ xs ++ x ∷ [] → B
not_empty [] x e = absurd cc
not_empty (y ∷ xs) x e = absurd cc

same_last : {A : Type 0} (xs ys : List A) (x y : A) → xs ++ x ∷ [] ≡ ys ++ y ∷ [] → (xs ≡ ys) × (x ≡ y)
same_last [] [] x y e = (refl, cc)
same_last [] (z ∷ ys) x y e = not_empty ys y (let rest : [] ≡ ys ++ y ∷ [] = cc in rest)
same_last (z ∷ xs) [] x y e = not_empty xs x (let rest : [] ≡ xs ++ x ∷ [] = cc in rest)
same_last (w ∷ xs) (z ∷ ys) x y e =
    let rest = same_last xs ys x y (let tails : xs ++ x ∷ [] ≡ ys ++ y ∷ [] = cc in tails) in
    let heads : w ≡ z = cc in
    (ap (λ l. w ∷ l) rest.0 ∙ ap (λ v. v ∷ ys) heads, rest.1)

pub same_some : {A : Type 0} (x y : A) → ◌≡◌ {A = Option A} (Some x) (Some y) → x ≡ y
same_some x y e = cc

module _ {S : Type 0} (sectors : S → Image) (faults : S → ℕ) where
  -- ---- every session is a walk

  walk_steps : {n : ℕ} {old new : RunState S Dialog} → Goes sectors faults (λ (d : Dialog). d) n old new → (start mid : PlayState S) → Walk sectors faults start (record mid { run = old })
      → Walk sectors faults start (record mid { run = new; turns = mid.turns + n })
  walk_steps (none s) start mid walk =
      let made : mid.turns ≡ mid.turns + 0 = omega arith in
      subst (λ (k : ℕ). Walk sectors faults start (record mid { run = s; turns = k })) made walk
  walk_steps (more n old last new before going turn) start mid walk =
      let made : mid.turns + n + 1 ≡ mid.turns + (n + 1) = omega arith in
      subst (λ (k : ℕ). Walk sectors faults start (record mid { run = new; turns = k })) made (step (record mid { run = last; turns = mid.turns + n }) new (walk_steps before start mid walk) going turn)

  abbrev with_input : PlayState S → List ℕ → List Arrival → PlayState S
  with_input s input arrivals = record s { run = on_console (record s.run.system.terminal.console { input = input }) s.run; arrivals = arrivals }

  walk_bytes : (bytes : List ℕ) (start mid : PlayState S) → Walk sectors faults start mid
      → Walk sectors faults start (with_input mid (mid.run.system.terminal.console.input ++ bytes) (mid.arrivals ++ arrived mid.turns bytes))
  walk_bytes [] start mid walk =
      subst (λ l. Walk sectors faults start (with_input mid (mid.run.system.terminal.console.input ++ []) l)) (sym (append-nil mid.arrivals))
      (subst (λ l. Walk sectors faults start (with_input mid l mid.arrivals)) (sym (append-nil mid.run.system.terminal.console.input)) walk)
  walk_bytes (b ∷ bytes) start mid walk =
      let input = mid.run.system.terminal.console.input in
      let one : List Arrival = record { turn = mid.turns; byte = b } ∷ [] in
      subst (λ l. Walk sectors faults start (with_input mid (input ++ b ∷ bytes) l)) (append_assoc mid.arrivals one (arrived mid.turns bytes))
      (subst (λ l. Walk sectors faults start (with_input mid l ((mid.arrivals ++ one) ++ arrived mid.turns bytes))) (append_assoc input (b ∷ []) bytes)
      (walk_bytes bytes start (typed b mid) (byte b mid walk)))

  pub walk_of : {start s : PlayState S} → PlaysOn sectors faults start s → Walk sectors faults start s
  walk_of (same s) = begin
  walk_of (goes n old mid run before steps) = walk_steps steps old mid (walk_of before)
  walk_of (came bytes old mid before) = walk_bytes bytes old mid (walk_of before)
  walk_of (shows bytes old mid before known) = show bytes mid (walk_of before) known

  -- ---- sessions that look alike

  shown_first : (a b : PlayState S) (bytes : List ℕ) → a.run.system.terminal.console.output ≡ Some bytes → AlikeSessions sectors a b → AlikeSessions sectors (shown_too bytes a) b
  shown_first a b bytes known alike =
      let system = alike.system in
      let dialog = system.screen.dialog in
      let (put, also, left, right, together) = dialog.output in
      record {
        machine = alike.machine;
        system = record {
          disk = system.disk;
          screen = record {
            dialog = record {
              input = dialog.input;
              output = ([], also, refl, right, together ∙ ap (λ l. a.shown ++ l) (same_some put bytes (sym left ∙ known)) ∙ sym (append-nil (a.shown ++ bytes)));
              faults = dialog.faults;
            };
            column = system.screen.column;
          };
          dma = system.dma;
          user = system.user;
          search = system.search;
          within = system.within;
        };
      }

  shown_second : (a b : PlayState S) (bytes : List ℕ) → b.run.system.terminal.console.output ≡ Some bytes → AlikeSessions sectors a b → AlikeSessions sectors a (shown_too bytes b)
  shown_second a b bytes known alike =
      let system = alike.system in
      let dialog = system.screen.dialog in
      let (put, also, left, right, together) = dialog.output in
      record {
        machine = alike.machine;
        system = record {
          disk = system.disk;
          screen = record {
            dialog = record {
              input = dialog.input;
              output = (put, [], left, refl, append-nil (b.shown ++ bytes) ∙ ap (λ l. b.shown ++ l) (same_some bytes also (sym known ∙ right)) ∙ together);
              faults = dialog.faults;
            };
            column = system.screen.column;
          };
          dma = system.dma;
          user = system.user;
          search = system.search;
          within = system.within;
        };
      }

  typed_both : (a b : PlayState S) (one other : ℕ) → other ≡ one → AlikeSessions sectors a b → AlikeSessions sectors (typed one a) (typed other b)
  typed_both a b one other is alike =
      let system = alike.system in
      let dialog = system.screen.dialog in
      record {
        machine = alike.machine;
        system = record {
          disk = system.disk;
          screen = record {
            dialog = record {
              input = ap (λ l. l ++ other ∷ []) dialog.input ∙ ap (λ (v : ℕ). a.run.system.terminal.console.input ++ v ∷ []) is;
              output = dialog.output;
              faults = dialog.faults;
            };
            column = system.screen.column;
          };
          dma = system.dma;
          user = system.user;
          search = system.search;
          within = system.within;
        };
      }

  -- No byte came after more steps than were made.
  bounded : {start s : PlayState S} → start.arrivals ≡ [] → Walk sectors faults start s → (xs : List Arrival) (x : Arrival) → s.arrivals ≡ xs ++ x ∷ [] → x.turn ≤ s.turns
  bounded empty begin xs x e = not_empty xs x (sym empty ∙ e)
  bounded empty (step old run walk going turn) xs x e = let most = bounded empty walk xs x e in omega (arith, most)
  bounded empty (byte b old walk) xs x e =
      let last = (same_last old.arrivals xs (record { turn = old.turns; byte = b }) x e).1 in
      let is : x.turn ≡ old.turns = ap (λ (a : Arrival). a.turn) (sym last) in
      omega (arith, is)
  bounded empty (show bytes old walk known) xs x e = bounded empty walk xs x e

  -- so none came after one step more
  too_late : {A : Type 0} {start s : PlayState S} → start.arrivals ≡ [] → Walk sectors faults start s → (xs : List Arrival) (b turns : ℕ) → xs ++ record { turn = turns; byte = b } ∷ [] ≡ s.arrivals → turns ≡ s.turns + 1 → A
  too_late empty walk xs b turns e late = absurd (let most = bounded empty walk xs (record { turn = turns; byte = b }) (sym e) in omega (arith, most, late))

module _ {S : Type 0} (sectors : S → Image) (faults : S → ℕ) (one_step : OneStep) (cpu : Cpu) (memory : List ℕ) (disk other : Mounted S) (disks : AlikeDisks sectors disk other) where
  abbrev Walk_a : PlayState S → Type 0
  Walk_a s = Walk sectors faults (first_state cpu memory disk) s

  abbrev Walk_b : PlayState S → Type 0
  Walk_b s = Walk sectors faults (first_state cpu memory other) s

  -- a step from sessions that look alike
  pub step_both : (a b : PlayState S) (x y : RunState S Dialog) (o p : Option Why) → Goes_well o → Goes_well p → AlikeSessions sectors a b → IsTurn sectors faults (λ (d : Dialog). d) a.run o x → IsTurn sectors faults (λ (d : Dialog). d) b.run p y
      → (p ≡ o) × AlikeSessions sectors (stepped x a) (stepped y b)
  step_both a b x y o p well fine alike one two =
      let both = one_turn sectors faults (λ (d : Dialog). d) (Some (a.shown, b.shown)) one_step a.run b.run x y o p (record { machine = alike.machine; system = alike.system }) well fine one two in
      (both.0, record { machine = both.1.machine; system = both.1.system })

  -- the other session, if a session has not begun
  from_begin : {b : PlayState S} → Walk_b b → b.arrivals ≡ [] → b.turns ≡ 0 → AlikeSessions sectors (first_state cpu memory disk) b
  from_begin begin arrivals turns = record {
    machine = refl;
    system = record { disk = disks; screen = record { dialog = record { input = refl; output = ([], [], refl, refl, refl); faults = refl }; column = refl }; dma = refl; user = refl; search = refl; within = omega arith };
  }
  from_begin (step old run walk going turn) arrivals turns = absurd (omega (arith, turns))
  from_begin (byte b old walk) arrivals turns = not_empty old.arrivals (record { turn = old.turns; byte = b }) (sym arrivals)
  from_begin (show bytes old walk known) arrivals turns = shown_second sectors faults (first_state cpu memory disk) old bytes known (from_begin walk arrivals turns)

  abbrev Reaches : PlayState S → Type 0
  Reaches a = (b : PlayState S) → Walk_b b → b.arrivals ≡ a.arrivals → b.turns ≡ a.turns → AlikeSessions sectors a b

  -- after a step
  from_step : {b : PlayState S} (a : PlayState S) (x : RunState S Dialog) → Walk_a a → Reaches a → IsTurn sectors faults (λ (d : Dialog). d) a.run None x → Walk_b b → b.arrivals ≡ a.arrivals → b.turns ≡ a.turns + 1
      → AlikeSessions sectors (stepped x a) b
  from_step a x first again turn begin arrivals turns = absurd (omega (arith, turns))
  from_step a x first again turn (step old run walk going also) arrivals turns =
      (step_both a old x run None None none_well none_well (again old walk arrivals (let e : old.turns ≡ a.turns = omega (arith, turns) in e)) turn also).1
  from_step a x first again turn (byte b old walk) arrivals turns = too_late sectors faults refl first old.arrivals b old.turns arrivals turns
  from_step a x first again turn (show bytes old walk known) arrivals turns = shown_second sectors faults (stepped x a) old bytes known (from_step a x first again turn walk arrivals turns)

  -- after a byte
  from_byte : {b : PlayState S} (a : PlayState S) (one : ℕ) → Reaches a → Walk_b b → b.arrivals ≡ a.arrivals ++ record { turn = a.turns; byte = one } ∷ [] → b.turns ≡ a.turns → AlikeSessions sectors (typed one a) b
  from_byte a one again begin arrivals turns = not_empty a.arrivals (record { turn = a.turns; byte = one }) arrivals
  from_byte a one again (step old run walk going also) arrivals turns = too_late sectors faults refl walk a.arrivals one a.turns (sym arrivals) (sym turns)
  from_byte a one again (byte b old walk) arrivals turns =
      let both = same_last old.arrivals a.arrivals (record { turn = old.turns; byte = b }) (record { turn = a.turns; byte = one }) arrivals in
      typed_both sectors faults a old one b (ap (λ (v : Arrival). v.byte) both.1) (again old walk both.0 turns)
  from_byte a one again (show bytes old walk known) arrivals turns = shown_second sectors faults (typed one a) old bytes known (from_byte a one again walk arrivals turns)

  pub alike : {a : PlayState S} → Walk_a a → Reaches a
  alike begin b walk arrivals turns = from_begin walk arrivals turns
  alike (step old run before going turn) b walk arrivals turns = from_step old run before (alike before) turn walk arrivals turns
  alike (byte one old before) b walk arrivals turns = from_byte old one (alike before) walk arrivals turns
  alike (show bytes old before known) b walk arrivals turns = shown_first sectors faults old b bytes known (alike before b walk arrivals turns)

  pub between : (a b : PlayState S) → PlaysOn sectors faults (first_state cpu memory disk) a → PlaysOn sectors faults (first_state cpu memory other) b → b.arrivals ≡ a.arrivals → b.turns ≡ a.turns → AlikeSessions sectors a b
  between a b one two arrivals turns = alike (walk_of sectors faults one) b (walk_of sectors faults two) arrivals turns

  -- sessions with the same runs and the same bytes that were shown
  same_seen : (a b x y : PlayState S) → x.shown ≡ a.shown → y.shown ≡ b.shown → AlikeSessions sectors (record a { run = x.run }) (record b { run = y.run }) → AlikeSessions sectors x y
  same_seen a b x y one two alike = record {
    machine = alike.machine;
    system = subst (λ l. AlikeSystems sectors (λ (d : Dialog). d) (Some (x.shown, l)) x.run.system y.run.system) (sym two) (subst (λ l. AlikeSystems sectors (λ (d : Dialog). d) (Some (l, b.shown)) x.run.system y.run.system) (sym one) alike.system);
  }

  pub at_end : (a b : PlayState S) (end cause : Why) → IsUndisturbed end → IsUndisturbed cause → EndsBy sectors faults (first_state cpu memory disk) end a → EndsBy sectors faults (first_state cpu memory other) cause b
      → b.arrivals ≡ a.arrivals → b.turns ≡ a.turns → (cause ≡ end) × AlikeSessions sectors a b
  at_end a b end cause calm quiet (last, plays, going, turn, count, had, shown) (late, also, still, next, number, has, seen) arrivals turns =
      let before = between last late plays also (sym has ∙ arrivals ∙ had) (let e : late.turns ≡ last.turns = omega (arith, number, turns, count) in e) in
      let both = step_both last late a.run b.run (Some end) (Some cause) (some_well end calm) (some_well cause quiet) before turn next in
      (same_some cause end both.0, same_seen (stepped a.run last) (stepped b.run late) a b shown seen both.1)
