-- What holds after a visit to a definition.
use Rattle.std.proofs.Common.{rules, ◌≡◌, ◌<◌, ◌≤◌, ◌+◌, ◌∙◌, sym, ap, refl, inl, inr, ℕ, ◌*◌, min, slice_set, get_or, List, [], ◌∷◌, ◌++◌, Vec, length, reverse, slice_index, arith}
use Rattle.std.specs.List.{Contains, push}
use Rattle.std.specs.Global.{Global}
use Rattle.std.proofs.lemmas.List.{length_push, length-reverse, get_or_default}
use Rattle.asm_names.specs.declared.walk.Seen.{Seen}
use Rattle.asm_names.specs.declared.walk.Frame.{Frame}
use Rattle.asm_names.specs.declared.walk.Turn.{Turn}
use Rattle.asm_names.specs.declared.walk.Walk.{Walk}
use Rattle.asm_names.specs.Orders.Order.{named_by}
use Rattle.asm_names.specs.Private.Standing.{IsFinished, left, work, Reaches, Stands, Standing, Visited, AreFrames, IsTop, Keeps, IsFollowed, seen_at, lowered, low_of}
use Rattle.asm_names.proofs.Orders.Leading.{reaches_named}
use Rattle.asm_names.proofs.Orders.Frames.{low_le, low_inside, low_below}
use Rattle.asm_names.proofs.Orders.Opened.{push_before}
use Rattle.asm_names.proofs.Orders.Followed.{all_reach_top, lowered_stands, followed_more, left_less}

top_led : (uses : List (Vec ℕ Global)) (seen : List Seen) (followed path : List ℕ) (frames : List Frame) (turns : List Turn) (start to : ℕ)
    → Stands uses seen followed path frames turns → IsTop start frames → Contains (named_by uses (slice_index path start)) to
    → (p : ℕ) → p < length path → Reaches (named_by uses) (slice_index path p) to
top_led uses seen followed path [] turns start to was top names p lt = absurd top
top_led uses seen followed path (f ∷ fs) turns start to was top names p lt =
    inr (reaches_named (all_reach_top uses seen followed path f fs turns was p lt) (rw (sym top) at names))

pub led : (uses : List (Vec ℕ Global)) (w : Walk) (start to : ℕ) → Standing uses w → IsTop start (reverse w.frames.items) → Contains (named_by uses (slice_index w.path.items start)) to
    → (p : ℕ) → p < length w.path.items → Reaches (named_by uses) (slice_index w.path.items p) to
led uses w start to was top names = top_led uses w.seen.items w.followed.items w.path.items (reverse w.frames.items) w.turns.items start to was top names

top_room : (frames : List Frame) (end start : ℕ) → AreFrames frames end → IsTop start frames → start < end
top_room [] end start are top = absurd top
top_room (f ∷ fs) end start are top = rw top at are.0

pub visited_open : (uses : List (Vec ℕ Global)) (old new : Walk) (start to : ℕ) → Standing uses old → IsTop start (reverse old.frames.items)
    → Standing uses new → seen_at new.seen.items to ≡ Seen.Open (length old.path.items) → new.path.items ≡ push old.path.items to → new.followed.items ≡ old.followed.items
    → length new.frames.items ≡ length old.frames.items + 1 → Keeps old.seen.items new.seen.items → Visited uses start to old new
visited_open uses old new start to was top now is path followed frames keeps =
    let room : start < length old.path.items = top_room (reverse old.frames.items) (length old.path.items) start was.framed top in
    let longer : length new.path.items ≡ length old.path.items + 1 = ap length path ∙ length_push old.path.items to in
    record {
      standing = now;
      there = inr (length old.path.items, is, (let h = low_le (reverse new.frames.items) (length new.path.items) start now.framed (omega (arith, room, longer)) in omega (arith, h, room)));
      kept = followed;
      seen = keeps;
      long = omega (arith, longer);
      same = ap (λ xs. slice_index xs start) path ∙ push_before old.path.items to start room;
      frames = omega (arith, frames);
    }

same_length : (q : ℕ) (frames : List Frame) → length (lowered q frames) ≡ length frames
same_length q [] = refl
same_length q (f ∷ fs) = refl

lowered_length : (q : ℕ) (new old : List Frame) → reverse new ≡ lowered q (reverse old) → length new ≡ length old
lowered_length q new old is = sym (length-reverse new) ∙ ap length is ∙ same_length q (reverse old) ∙ length-reverse old

top_lowered : (uses : List (Vec ℕ Global)) (seen : List Seen) (followed path : List ℕ) (frames : List Frame) (turns : List Turn) (start to q : ℕ)
    → Stands uses seen followed path frames turns → IsTop start frames → Contains (named_by uses (slice_index path start)) to → seen_at seen to ≡ Seen.Open q
    → Stands uses seen followed path (lowered q frames) turns × IsFollowed seen (low_of (lowered q frames) start) to
top_lowered uses seen followed path [] turns start to q was top names is = absurd top
top_lowered uses seen followed path (f ∷ fs) turns start to q was top names is =
    let g : Frame = record { start = f.start; low = min f.low q } in (
      lowered_stands uses seen followed path f fs turns to q was (rw (sym top) at names) is,
      inr (q, is, rw (low_inside g fs start (omega (arith, top))) (omega arith)),
    )

pub visited_lower : (uses : List (Vec ℕ Global)) (old new : Walk) (start to q : ℕ) → Standing uses old → IsTop start (reverse old.frames.items)
    → Contains (named_by uses (slice_index old.path.items start)) to → seen_at old.seen.items to ≡ Seen.Open q
    → reverse new.frames.items ≡ lowered q (reverse old.frames.items) → new ≡ record old { frames = new.frames } → Visited uses start to old new
visited_lower uses old new start to q was top names is frames same =
    let now = top_lowered uses old.seen.items old.followed.items old.path.items (reverse old.frames.items) old.turns.items start to q was top names is in
    record {
      standing =
          rw (ap (λ w. w.seen.items) same) (rw (ap (λ w. w.followed.items) same) (rw (ap (λ w. w.path.items) same) (rw (ap (λ w. w.turns.items) same) (rw frames now.0))));
      there = rw (ap (λ w. w.seen.items) same) (rw frames now.1);
      kept = ap (λ w. w.followed.items) same;
      seen = λ k e. rw (ap (λ w. w.seen.items) same) at e;
      long = (let h : length new.path.items ≡ length old.path.items = ap (λ w. length w.path.items) same in omega arith);
      same = ap (λ w. slice_index w.path.items start) same;
      frames = (let h : length new.frames.items ≡ length old.frames.items = lowered_length q new.frames.items old.frames.items frames in omega arith);
    }

pub seen_read : (seen : List Seen) (k : ℕ) (s : Seen) → k < length seen → s ≡ get_or seen k s → seen_at seen k ≡ s
seen_read seen k s lt is = get_or_default seen k Seen.Not s lt ∙ sym is

pub read_at : (xs : List ℕ) (k v : ℕ) → k < length xs → v ≡ get_or xs k v → v ≡ slice_index xs k
read_at xs k v lt is = is ∙ get_or_default xs k v 0 lt

pub one_top : (frames : List Frame) (a b : ℕ) → IsTop a frames → IsTop b frames → a ≡ b
one_top [] a b first other = absurd first
one_top (f ∷ fs) a b first other = sym first ∙ other

pub some_top : (frames : List Frame) (start : ℕ) → IsTop start frames → 0 < length frames
some_top [] start top = absurd top
some_top (f ∷ fs) start top = omega arith

-- the definition of the last frame, and how many of its names have been followed
pub record Reads (uses : List (Vec ℕ Global)) (w : Walk) (start definition followed : ℕ) : Type 0 where
  pub room : start < length w.path.items
  pub definition_is : definition ≡ slice_index w.path.items start
  pub few : definition < length uses
  pub followed_is : followed ≡ slice_index w.followed.items definition

pub reads : (uses : List (Vec ℕ Global)) (w : Walk) (start definition followed : ℕ) → Standing uses w → IsTop start (reverse w.frames.items)
    → definition ≡ get_or w.path.items start definition → followed ≡ get_or w.followed.items definition followed → Reads uses w start definition followed
reads uses w start definition followed was top at heard =
    let room : start < length w.path.items = top_room (reverse w.frames.items) (length w.path.items) start was.framed top in
    let is : definition ≡ slice_index w.path.items start = read_at w.path.items start definition room at in
    let few : definition < length uses = rw is (was.told.place start room).0 in
    record { room = room; definition_is = is; few = few; followed_is = read_at w.followed.items definition followed (omega (arith, few, was.told.followed_all)) heard }

pub all_followed : (uses : List (Vec ℕ Global)) (w : Walk) (start definition followed : ℕ) → Reads uses w start definition followed → IsTop start (reverse w.frames.items)
    → length (named_by uses definition) ≤ followed → (other : ℕ) → IsTop other (reverse w.frames.items) → IsFinished uses w.followed.items w.path.items other
all_followed uses w start definition followed r top all other also =
    rw (one_top (reverse w.frames.items) other start also top) (rw (sym r.definition_is) (rw (sym r.followed_is) all))

pub stepped : (uses : List (Vec ℕ Global)) (old new : Walk) (start definition followed to : ℕ) → Reads uses old start definition followed
    → followed < length (named_by uses definition) → to ≡ slice_index (named_by uses definition) followed → Visited uses start to old new
    → Stands uses new.seen.items (slice_set new.followed.items definition (followed + 1)) new.path.items (reverse new.frames.items) new.turns.items
stepped uses old new start definition followed to r less is v =
    let same : slice_index new.path.items start ≡ definition = v.same ∙ sym r.definition_is in
    let room : start < length new.path.items = (let a = r.room in let b = v.long in omega arith) in
    let heard : followed ≡ slice_index new.followed.items (slice_index new.path.items start) = rw same (rw v.kept r.followed_is) in
    rw same at (followed_more uses new.seen.items new.followed.items new.path.items (reverse new.frames.items) new.turns.items start followed to v.standing room heard
    (rw same less) (rw same (sym is)) v.there)

pub less_work : (uses : List (Vec ℕ Global)) (old new : Walk) (start definition followed to : ℕ) → Standing uses old → Reads uses old start definition followed
    → followed < length (named_by uses definition) → Visited uses start to old new
    → 2 * left uses (slice_set new.followed.items definition (followed + 1)) + length new.frames.items < work uses old
less_work uses old new start definition followed to was r less v =
    let fewer : left uses (slice_set new.followed.items definition (followed + 1)) + 1 ≡ left uses old.followed.items =
    rw v.kept (left_less uses old.followed.items definition followed was.told.followed_all r.followed_is less) in
    omega (arith, fewer, v.frames)
