-- Closing a circle, or one definition that is on none.
use Rattle.std.proofs.Common.{rules, ◌≡◌, ◌≢◌, ◌⊎◌, ◌↔◌, ◌<◌, ◌≤◌, ◌+◌, ◌-◌, ◌∙◌, sym, ap, refl, inl, inr, subst, ℕ, zero, suc, Bool, true, false, List, [], ◌∷◌, ◌++◌, Vec, length, reverse, slice_index, slice_set, arith}
use Rattle.std.specs.List.{Contains, push}
use Rattle.std.specs.Global.{Global}
use Rattle.std.proofs.lemmas.Bool.{false≢true}
use Rattle.std.proofs.lemmas.List.{length_push, reverse-append}
use Rattle.asm_names.specs.declared.walk.Seen.{Seen}
use Rattle.asm_names.specs.declared.walk.Frame.{Frame}
use Rattle.asm_names.specs.declared.walk.Turn.{Turn}
use Rattle.asm_names.specs.declared.walk.Walk.{Walk}
use Rattle.asm_names.specs.Orders.Circles.{IsOnCircle}
use Rattle.asm_names.specs.Orders.Order.{named_by, Follows}
use Rattle.asm_names.specs.Private.Standing.{Stands, Standing, Closing, Draining, IsDraining, AreOnCircle, AreFrames, IsFinished, IsTop, Turned, lowered}
use Rattle.asm_names.proofs.Orders.Opened.{push_before, push_last}
use Rattle.asm_names.proofs.Orders.Followed.{left_stands}
use Rattle.asm_names.proofs.Orders.Drained.{done_not_open, drained_more, drained_all, draining_of, circles_of, follows_one}

-- what holds after the last definition on the path has moved to the order
given : (uses : List (Vec ℕ Global)) (start : ℕ) (b : Bool) (old new : Walk) (t : Turned b old new) → IsDraining uses start old → start < length old.path.items
    → Follows (named_by uses) old.turns.items (record { definition = t.definition; on_circle = b }) → IsDraining uses start new
given uses start b old new t was lt one =
    let len : length old.path.items ≡ length new.path.items + 1 = ap length t.path ∙ length_push new.path.items t.definition in
    rw t.seen (rw t.turns (rw t.followed (rw (ap reverse t.frames)
    (drained_more uses start old.seen.items old.followed.items new.path.items (reverse old.frames.items) old.turns.items t.definition b (rw t.path at was) (omega (arith, len)) one))))

pub circle_turn : (uses : List (Vec ℕ Global)) (start : ℕ) (old new : Walk) → Turned true old new → IsDraining uses start old → AreOnCircle uses start old.path.items → start < length old.path.items
    → IsDraining uses start new × AreOnCircle uses start new.path.items
circle_turn uses start old new t was circle lt =
    let len : length old.path.items ≡ length new.path.items + 1 = ap length t.path ∙ length_push new.path.items t.definition in
    let at : slice_index old.path.items (length new.path.items) ≡ t.definition = ap (λ xs. slice_index xs (length new.path.items)) t.path ∙ push_last new.path.items t.definition in
    let one : Follows (named_by uses) old.turns.items (record { definition = t.definition; on_circle = true }) = record {
      once = λ has. done_not_open (sym (was.told.turned t.definition has).1 ∙ rw at at (was.told.place (length new.path.items) (omega (arith, len))).1);
      circle = (λ is. rw at at (circle (length new.path.items) (omega (arith, len)) (omega (arith, len))), λ leads. refl);
      behind = λ is to has. absurd (false≢true (sym is));
    } in (
      given uses start true old new t was lt one,
      λ p le lt'. subst (λ x. IsOnCircle (named_by uses) x) (ap (λ xs. slice_index xs p) t.path ∙ push_before new.path.items t.definition p lt') (circle p le (omega (arith, len))),
    )

pub circle_closed : (uses : List (Vec ℕ Global)) (start : ℕ) (w : Walk) → IsDraining uses start w → length w.path.items ≤ start → Standing uses w
circle_closed uses start w was le =
    drained_all uses start w.seen.items w.followed.items w.path.items (reverse w.frames.items) w.turns.items was (let h = was.long in omega arith)

pub one_closed : (uses : List (Vec ℕ Global)) (start : ℕ) (b : Bool) (old new : Walk) (t : Turned b old new) → Closing uses start old → length old.path.items ≡ start + 1
    → ((b ≡ true) ↔ Contains (named_by uses (slice_index old.path.items start)) (slice_index old.path.items start)) → Standing uses new
one_closed uses start b old new t was one tells =
    let len : length old.path.items ≡ length new.path.items + 1 = ap length t.path ∙ length_push new.path.items t.definition in
    let at : slice_index old.path.items start ≡ t.definition =
    ap (slice_index old.path.items) (omega (arith, len, one)) ∙ ap (λ xs. slice_index xs (length new.path.items)) t.path ∙ push_last new.path.items t.definition in
    let tells' : (b ≡ true) ↔ Contains (named_by uses t.definition) t.definition = subst (λ x. (b ≡ true) ↔ Contains (named_by uses x) x) at tells in
    let follows = follows_one uses start old.seen.items old.followed.items old.path.items (reverse old.frames.items) old.turns.items t.definition b was.stands was.finished one (sym at) tells' in
    let draining = draining_of uses start old.seen.items old.followed.items old.path.items (reverse old.frames.items) old.turns.items was.stands was.finished in
    circle_closed uses start new (given uses start b old new t draining (omega (arith, one)) follows) (omega (arith, len, one))

-- the frames, read from the last, when the last is removed
popped : (old rest : List Frame) (f : Frame) → old ≡ rest ++ f ∷ [] → reverse old ≡ f ∷ reverse rest
popped old rest f is = ap reverse is ∙ reverse-append rest (f ∷ [])

pub closing : (uses : List (Vec ℕ Global)) (w : Walk) (rest : List Frame) (f : Frame) → w.frames.items ≡ rest ++ f ∷ [] → Standing uses w
    → ((start : ℕ) → IsTop start (reverse w.frames.items) → IsFinished uses w.followed.items w.path.items start) → f.start ≤ f.low
    → Stands uses w.seen.items w.followed.items w.path.items (record { start = f.start; low = f.start } ∷ reverse rest) w.turns.items × IsFinished uses w.followed.items w.path.items f.start
closing uses w rest f is was all le =
    let stands : Stands uses w.seen.items w.followed.items w.path.items (f ∷ reverse rest) w.turns.items = rw (popped w.frames.items rest f is) at was in
    let low : f.low ≡ f.start = (let h = stands.framed.1 in omega arith) in (
      subst (λ l. Stands uses w.seen.items w.followed.items w.path.items (record { start = f.start; low = l } ∷ reverse rest) w.turns.items) low stands,
      all f.start (rw (popped w.frames.items rest f is) refl),
    )

pub left_behind : (uses : List (Vec ℕ Global)) (w new : Walk) (rest : List Frame) (f : Frame) → w.frames.items ≡ rest ++ f ∷ [] → Standing uses w
    → ((start : ℕ) → IsTop start (reverse w.frames.items) → IsFinished uses w.followed.items w.path.items start) → f.low < f.start
    → reverse new.frames.items ≡ lowered f.low (reverse rest)
    → Stands uses w.seen.items w.followed.items w.path.items (reverse new.frames.items) w.turns.items
left_behind uses w new rest f is was all lt frames =
    rw frames (left_stands uses w.seen.items w.followed.items w.path.items f (reverse rest) w.turns.items (rw (popped w.frames.items rest f is) at was)
    (all f.start (rw (popped w.frames.items rest f is) refl)) lt)
