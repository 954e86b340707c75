-- Moving the last definitions of the path to the order.
use Rattle.std.proofs.Common.{rules, ◌≡◌, ◌≢◌, ◌⊎◌, ◌↔◌, ◌<◌, ◌≤◌, ◌+◌, ◌-◌, ◌∙◌, sym, ap, refl, inl, inr, subst, ℕ, zero, suc, Bool, true, false, List, [], ◌∷◌, ◌++◌, Vec, length, reverse, take, map, slice_index, slice_index_or, slice_set, arith, get_or}
use Rattle.std.specs.List.{All, Contains, push, sum_by}
use Rattle.std.proofs.lemmas.List.Sums.{sum_by-set}
use Rattle.std.specs.Global.{Global}
use Rattle.std.proofs.lemmas.Bool.{cases_eq, cases_lt, false≢true}
use Rattle.std.proofs.lemmas.List.{length-set, length_push, reverse-append, map-append, take-append-le, take_at, take_all, get_or_append_left, get_or_at}
use Rattle.std.proofs.lemmas.Grind.{common_steps}
use Rattle.asm_names.specs.declared.walk.Seen.{Seen}
use Rattle.asm_names.specs.declared.walk.Frame.{Frame}
use Rattle.asm_names.specs.declared.walk.Turn.{Turn}
use Rattle.asm_names.specs.declared.walk.Walk.{Walk}
use Rattle.asm_names.specs.Orders.Circles.{LeadsTo, IsOnCircle}
use Rattle.asm_names.specs.Orders.Circles.LeadsTo.{next, further}
use Rattle.asm_names.specs.Orders.Order.{named_by, turn_definitions, AreInOrder, Follows}
use Rattle.asm_names.specs.Private.Standing.{Reaches, Stands, Standing, Closing, Draining, IsDraining, AreOnCircle, AreTold, AreFrames, IsFinished, IsTop, Turned, not_seen, seen_at, low_of, starts, IsFollowed}
use Rattle.asm_names.proofs.Orders.Leading.{leads_on, reaches_leads, reaches_named}
use Rattle.asm_names.proofs.Orders.Frames.{low_le, low_inside, low_below}
use Rattle.asm_names.proofs.Orders.Opened.{push_before, push_last, seen_same, seen_other}
use Rattle.asm_names.proofs.Orders.Followed.{open_is, not_open_is, other_start, all_reach_top}

-- an order with one turn more
in_order_push : (named : ℕ → List ℕ) (turns : List Turn) (t : Turn) → AreInOrder named turns → Follows named turns t → AreInOrder named (push turns t)
in_order_push named turns t was one k d lt =
    elim (cases_lt k (length turns)) [
      | inl before ↦ rw (get_or_append_left turns (t ∷ []) d k before) (rw (take-append-le k turns (t ∷ []) (omega arith)) (was k d before))
      | inr last ↦ (let e : length turns ≡ k = omega (arith, lt, length_push turns t) in
          rw (get_or_at turns t [] d k e) (rw (take_at turns (t ∷ []) k e) one))
    ]

contains_push : (turns : List Turn) (t : Turn) (k : ℕ) → Contains (turn_definitions turns) k → Contains (turn_definitions (push turns t)) k
contains_push turns t k (p, lt, is) =
    rw (map-append (λ u. u.definition) turns (t ∷ [])) (p, omega (arith, lt, length_push (turn_definitions turns) t.definition), get_or_append_left (turn_definitions turns) (t.definition ∷ []) k p lt ∙ is)

contains_last : (turns : List Turn) (t : Turn) → Contains (turn_definitions (push turns t)) t.definition
contains_last turns t =
    rw (map-append (λ u. u.definition) turns (t ∷ []))
    (length (turn_definitions turns), omega (arith, length_push (turn_definitions turns) t.definition), get_or_at (turn_definitions turns) t.definition [] t.definition (length (turn_definitions turns)) refl)

last_of : (xs : List ℕ) (x k : ℕ) → Contains (push xs x) k → Contains xs k ⊎ (k ≡ x)
last_of xs x k (p, lt, is) =
    elim (cases_lt p (length xs)) [
      | inl before ↦ inl (p, before, sym (get_or_append_left xs (x ∷ []) k p before) ∙ is)
      | inr end ↦ (let e : length xs ≡ p = omega (arith, lt, length_push xs x) in inr (sym is ∙ get_or_at xs x [] k p e))
    ]

pushed_contains : (turns : List Turn) (t : Turn) (k : ℕ) → Contains (turn_definitions (push turns t)) k → Contains (turn_definitions turns) k ⊎ (k ≡ t.definition)
pushed_contains turns t k more = last_of (turn_definitions turns) t.definition k (rw (map-append (λ u. u.definition) turns (t ∷ [])) at more)

-- a definition that was followed stays followed when one moves to the order
followed_on : (seen : List Seen) (d low to : ℕ) → d < length seen → IsFollowed seen low to → IsFollowed (slice_set seen d Seen.Done) low to
followed_on seen d low to room (inl done) = inl (grind (arith, common_steps, cases_eq to d, seen_same seen d Seen.Done room, seen_other seen d to Seen.Done))
followed_on seen d low to room (inr (q, stands, above)) =
    elim (cases_eq to d) [
      | inl same ↦ inl (rw same (seen_same seen d Seen.Done room))
      | inr ne ↦ inr (q, seen_other seen d to Seen.Done ne ∙ stands, above)
    ]

pub done_not_open : {p : ℕ} → ◌≡◌ {A = Seen} Seen.Done (Seen.Open p) → ⊥
done_not_open e = cc

told : (count : ℕ) (seen : List Seen) (followed path : List ℕ) (turns : List Turn) (d : ℕ) (b : Bool) → AreTold count seen followed (push path d) turns
    → AreTold count (slice_set seen d Seen.Done) followed path (push turns (record { definition = d; on_circle = b }))
told count seen followed path turns d b was =
    let t : Turn = record { definition = d; on_circle = b } in
    let len = length_push path d in
    let at : seen_at seen d ≡ Seen.Open (length path) = rw (push_last path d) at (was.place (length path) (omega (arith, len))).1 in
    let few : d < count = rw (push_last path d) at (was.place (length path) (omega (arith, len))).0 in
    let room : d < length seen = (let a = was.seen_all in omega arith) in
    record {
      seen_all = length-set seen d Seen.Done ∙ was.seen_all;
      followed_all = was.followed_all;
      fresh = λ k e. grind (arith, common_steps, cases_eq k d, seen_same seen d Seen.Done, seen_other seen d k Seen.Done, was.fresh k, room);
      place = λ p lt.
          let old : (slice_index path p < count) × (seen_at seen (slice_index path p) ≡ Seen.Open p) = rw (push_before path d p lt) at (was.place p (omega (arith, len))) in (
            old.0,
            elim (cases_eq (slice_index path p) d) [
              | inl same ↦ absurd (let e : p ≡ length path = open_is (sym old.1 ∙ ap (seen_at seen) same ∙ at) in omega (arith, e, lt))
              | inr ne ↦ seen_other seen d (slice_index path p) Seen.Done ne ∙ old.1
            ],
          );
      placed = λ k p e. elim (cases_eq k d) [
        | inl same ↦ absurd (done_not_open (sym (seen_same seen d Seen.Done room) ∙ ap (seen_at (slice_set seen d Seen.Done)) (sym same) ∙ e))
        | inr ne ↦
            (let old = was.placed k p (sym (seen_other seen d k Seen.Done ne) ∙ e) in
            elim (cases_lt p (length path)) [
              | inl before ↦ (before, sym (push_before path d p before) ∙ old.1)
              | inr end ↦ absurd (let f : p ≡ length path = omega (arith, old.0, len) in ne (sym old.1 ∙ ap (slice_index (push path d)) f ∙ push_last path d))
            ])
      ];
      turn = λ k e. elim (cases_eq k d) [
        | inl same ↦ rw same (contains_last turns t)
        | inr ne ↦ contains_push turns t k (was.turn k (sym (seen_other seen d k Seen.Done ne) ∙ e))
      ];
      counted =
          let same : sum_by not_seen (slice_set seen d Seen.Done) + 0 ≡ sum_by not_seen seen =
          subst (λ n. sum_by not_seen (slice_set seen d Seen.Done) + n ≡ sum_by not_seen seen) (ap not_seen at)
          (sum_by-set not_seen seen d Seen.Done Seen.Not room ∙ omega arith) in
          omega (arith, same, was.counted, len, length_push turns t);
      turned = λ k h. elim (pushed_contains turns t k h) [
        | inl before ↦ (let old = was.turned k before in (old.0, grind (arith, common_steps, cases_eq k d, seen_same seen d Seen.Done, seen_other seen d k Seen.Done, old.1, room)))
        | inr last ↦ rw last (few, seen_same seen d Seen.Done room)
      ];
    }

-- no frame begins after the end of the path
starts_below : (fs : List Frame) (end p : ℕ) → AreFrames fs end → Contains (starts fs) p → p < end
starts_below [] end p are (k, lt, is) = absurd (omega (arith, lt))
starts_below (f ∷ fs) end p are (zero, lt, is) = rw is at are.0
starts_below (f ∷ fs) end p are (suc k, lt, is) = (let h = starts_below fs f.start p are.2 (k, omega (arith, lt), is) in let g = are.0 in omega arith)

no_start_above : (g : Frame) (fs : List Frame) (end p : ℕ) → AreFrames (g ∷ fs) end → g.start < p → Contains (starts (g ∷ fs)) p → ⊥
no_start_above g fs end p are lt (zero, room, is) = omega (arith, is, lt)
no_start_above g fs end p are lt (suc k, room, is) = (let h = starts_below fs g.start p are.2 (k, omega (arith, room), is) in omega arith)

-- what holds after one turn more
pub drained_more : (uses : List (Vec ℕ Global)) (start : ℕ) (seen : List Seen) (followed path : List ℕ) (frames : List Frame) (turns : List Turn) (d : ℕ) (b : Bool)
    → Draining uses start seen followed (push path d) frames turns → start ≤ length path → Follows (named_by uses) turns (record { definition = d; on_circle = b })
    → Draining uses start (slice_set seen d Seen.Done) followed path frames (push turns (record { definition = d; on_circle = b }))
drained_more uses start seen followed path frames turns d b was le one =
    let len = length_push path d in
    let room : d < length seen = (let a = (rw (push_last path d) at (was.told.place (length path) (omega (arith, len)))).0 in let e = was.told.seen_all in omega arith) in
    let same : (p : ℕ) → p < length path → slice_index (push path d) p ≡ slice_index path p = λ p lt. push_before path d p lt in
    let low_same : (p : ℕ) → p < start → slice_index (push path d) (low_of frames p) ≡ slice_index path (low_of frames p) = λ p lt.
    same (low_of frames p) (let h = low_le frames start p was.framed lt in omega arith) in
    record {
      told = told (length uses) seen followed path turns d b was.told;
      long = le;
      in_order = in_order_push (named_by uses) turns (record { definition = d; on_circle = b }) was.in_order one;
      closed = λ k to done names. elim (cases_eq k d) [
        | inl is ↦ followed_on seen d start to room (was.within (length path) to le (omega (arith, len)) (subst (λ x. Contains (named_by uses x) to) (is ∙ sym (push_last path d)) names))
        | inr ne ↦ followed_on seen d start to room (was.closed k to (sym (seen_other seen d k Seen.Done ne) ∙ done) names)
      ];
      within = λ p to le' lt names. followed_on seen d start to room (was.within p to le' (omega (arith, len)) (rw (same p lt) names));
      onwards = λ p q pq lt. rw (sym (same p (omega arith))) (rw (sym (same q (omega arith))) (was.onwards p q pq lt));
      framed = was.framed;
      back = λ p lt. rw (sym (same p (omega arith))) (rw (sym (low_same p lt)) (was.back p lt));
      explored = λ p to lt names. followed_on seen d (low_of frames p) to room (was.explored p to lt (rw (same p (omega arith)) names));
      finished = λ p lt. rw (sym (same p (omega arith))) (was.finished p lt);
    }

-- what holds once all have moved
pub drained_all : (uses : List (Vec ℕ Global)) (start : ℕ) (seen : List Seen) (followed path : List ℕ) (frames : List Frame) (turns : List Turn)
    → Draining uses start seen followed path frames turns → length path ≡ start → Stands uses seen followed path frames turns
drained_all uses start seen followed path frames turns was is =
    record {
      told = was.told;
      in_order = was.in_order;
      closed = λ k to done names. elim (was.closed k to done names) [
        | inl all ↦ all
        | inr there ↦ absurd (let h = (was.told.placed to there.0 there.1).0 in let le = there.2 in omega (arith, is))
      ];
      onwards = λ p q pq lt. was.onwards p q pq (omega (arith, is));
      framed = rw is was.framed;
      back = λ p lt. was.back p (omega (arith, is));
      explored = λ p to lt names. was.explored p to (omega (arith, is)) names;
      finished = λ p lt. was.finished p (omega (arith, is));
    }

-- after the last frame, which leads to nothing before it, is removed, its definitions can be moved
pub draining_of : (uses : List (Vec ℕ Global)) (start : ℕ) (seen : List Seen) (followed path : List ℕ) (fs : List Frame) (turns : List Turn)
    → Stands uses seen followed path (record { start = start; low = start } ∷ fs) turns → IsFinished uses followed path start
    → Draining uses start seen followed path fs turns
draining_of uses start seen followed path fs turns was all =
    let g : Frame = record { start = start; low = start } in
    let below : (p : ℕ) → p < start → low_of (g ∷ fs) p ≡ low_of fs p = λ p lt. low_below g fs p lt in
    let room : start < length path = was.framed.0 in
    record {
      told = was.told;
      long = omega arith;
      in_order = was.in_order;
      closed = λ k to done names. inl (was.closed k to done names);
      within = λ p to le lt names.
          let every : length (named_by uses (slice_index path p)) ≤ slice_index followed (slice_index path p) = elim (cases_eq p start) [
            | inl same ↦ rw same all
            | inr ne ↦ elim (was.finished p lt) [
              | inl done ↦ done
              | inr began ↦ absurd (no_start_above g fs (length path) p was.framed (omega arith) began)
            ]
          ] in
          rw (low_inside g fs p le) at (was.explored p to lt (rw (take_all (slice_index followed (slice_index path p)) (named_by uses (slice_index path p)) every) names));
      onwards = λ p q pq lt. was.onwards p q pq (omega arith);
      framed = was.framed.2;
      back = λ p lt. rw (below p lt) at (was.back p (omega arith));
      explored = λ p to lt names. rw (below p lt) at (was.explored p to (omega arith) names);
      finished = λ p lt. elim (was.finished p (omega arith)) [
        | inl done ↦ inl done
        | inr began ↦ inr (other_start start (starts fs) p (omega arith) began)
      ];
    }

leads_of : {named : ℕ → List ℕ} {a b : ℕ} → Reaches named a b → a ≢ b → LeadsTo named a b
leads_of (inl same) ne = absurd (ne same)
leads_of (inr leads) ne = leads

-- all definitions from the start of the last frame on are on a circle, if there is more than one
pub circles_of : (uses : List (Vec ℕ Global)) (start : ℕ) (seen : List Seen) (followed path : List ℕ) (fs : List Frame) (turns : List Turn)
    → Stands uses seen followed path (record { start = start; low = start } ∷ fs) turns → start + 1 < length path → AreOnCircle uses start path
circles_of uses start seen followed path fs turns was more p le lt =
    let named = named_by uses in
    let g : Frame = record { start = start; low = start } in
    let back : (q : ℕ) → start ≤ q → q < length path → Reaches named (slice_index path q) (slice_index path start) = λ q above room. rw (low_inside g fs q above) at (was.back q room) in
    let apart : (q : ℕ) → q < length path → q ≢ start → slice_index path q ≢ slice_index path start = λ q room ne same.
    ne (open_is (sym (was.told.place q room).1 ∙ ap (seen_at seen) same ∙ (was.told.place start (omega arith)).1)) in
    let there : (q : ℕ) → start < q → q < length path → LeadsTo named (slice_index path start) (slice_index path q) = λ q above room.
    leads_of (was.onwards start q (omega arith) room) (λ same. apart q room (omega arith) (sym same)) in
    let here : (q : ℕ) → start < q → q < length path → LeadsTo named (slice_index path q) (slice_index path start) = λ q above room.
    leads_of (back q (omega arith) room) (apart q room (omega arith)) in
    elim (cases_eq p start) [
      | inl same ↦ rw same (leads_on (there (start + 1) (omega arith) more) (here (start + 1) (omega arith) more))
      | inr ne ↦ leads_on (here p (omega arith) lt) (there p (omega arith) lt)
    ]

closed_on : (uses : List (Vec ℕ Global)) (seen : List Seen) → ((k to : ℕ) → seen_at seen k ≡ Seen.Done → Contains (named_by uses k) to → seen_at seen to ≡ Seen.Done)
    → (a b : ℕ) → seen_at seen a ≡ Seen.Done → LeadsTo (named_by uses) a b → seen_at seen b ≡ Seen.Done
closed_on uses seen closed a b done (next names) = closed a b done names
closed_on uses seen closed a c done (further {b = b} names rest) = closed_on uses seen closed b c (closed a b done names) rest

not_both : (b : Bool) → b ≡ false → b ≡ true → ⊥
not_both b is_not is_so = false≢true (sym is_not ∙ is_so)

own : (uses : List (Vec ℕ Global)) (seen : List Seen) (d : ℕ) → ((a b : ℕ) → seen_at seen a ≡ Seen.Done → LeadsTo (named_by uses) a b → seen_at seen b ≡ Seen.Done)
    → ((to : ℕ) → Contains (named_by uses d) to → (seen_at seen to ≡ Seen.Done) ⊎ (to ≡ d)) → (seen_at seen d ≡ Seen.Done → ⊥) → LeadsTo (named_by uses) d d → Contains (named_by uses d) d
own uses seen d on names not_done (next has) = has
own uses seen d on names not_done (further {b = b} has rest) =
    elim (names b has) [
      | inl done ↦ absurd (not_done (on b d done rest))
      | inr same ↦ subst (λ x. Contains (named_by uses d) x) same has
    ]

-- the turn of the definition at the start of the last frame, if it is the last on the path
pub follows_one : (uses : List (Vec ℕ Global)) (start : ℕ) (seen : List Seen) (followed path : List ℕ) (fs : List Frame) (turns : List Turn) (d : ℕ) (b : Bool)
    → Stands uses seen followed path (record { start = start; low = start } ∷ fs) turns → IsFinished uses followed path start → length path ≡ start + 1 → d ≡ slice_index path start
    → ((b ≡ true) ↔ Contains (named_by uses d) d) → Follows (named_by uses) turns (record { definition = d; on_circle = b })
follows_one uses start seen followed path fs turns d b was all one is tells =
    let open' : seen_at seen d ≡ Seen.Open start = rw is (was.told.place start (omega (arith, one))).1 in
    let drained = draining_of uses start seen followed path fs turns was all in
    let names : (to : ℕ) → Contains (named_by uses d) to → (seen_at seen to ≡ Seen.Done) ⊎ (to ≡ d) = λ to has.
    elim (drained.within start to (omega arith) (omega (arith, one)) (subst (λ x. Contains (named_by uses x) to) is has)) [
      | inl done ↦ inl done
      | inr there ↦ inr (let p = was.told.placed to there.0 there.1 in let e : there.0 ≡ start = (let le = there.2 in let lt = p.0 in omega (arith, one)) in sym p.1 ∙ ap (slice_index path) e ∙ sym is)
    ] in
    record {
      once = λ has. done_not_open (sym (was.told.turned d has).1 ∙ open');
      circle = (λ is_so. next (tells.0 is_so), λ leads. tells.1 (own uses seen d (closed_on uses seen was.closed) names (λ done. done_not_open (sym done ∙ open')) leads));
      behind = λ is_not to has. elim (names to has) [
        | inl done ↦ was.told.turn to done
        | inr same ↦ absurd (not_both b is_not (tells.1 (subst (λ x. Contains (named_by uses d) x) same has)))
      ];
    }
