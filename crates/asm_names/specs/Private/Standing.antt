-- What holds between the steps of a walk.
use Rattle.std.specs.Prelude.{◌≡◌, ◌⊎◌, ◌<◌, ◌≤◌, ◌+◌, ◌-◌, ◌*◌, ℕ, Bool, List, [], ◌∷◌, Vec, if◌then◌else◌, length, min, nat_le, reverse, slice_index, slice_index_or, slice_set, take, map}
use Rattle.std.specs.List.{Contains, push, sum_by}
use Rattle.std.specs.Global.{Global}
use Rattle.asm_names.specs.declared.walk.Turn.{Turn}
use Rattle.asm_names.specs.declared.walk.Seen.{Seen}
use Rattle.asm_names.specs.declared.walk.Frame.{Frame}
use Rattle.asm_names.specs.declared.walk.Walk.{Walk}
use Rattle.asm_names.specs.Orders.Circles.{LeadsTo, IsOnCircle}
use Rattle.asm_names.specs.Orders.Order.{named_by, turn_definitions, AreInOrder}

abbrev pub Reaches : (ℕ → List ℕ) → ℕ → ℕ → Type 0
Reaches named a b = (a ≡ b) ⊎ LeadsTo named a b

abbrev pub seen_at : List Seen → ℕ → Seen
seen_at seen k = slice_index_or seen k Seen.Not

-- The frames, the last one first, begin at decreasing indexes of a path of this length, down to index 0. Each leads to the index
-- where it begins, or to an earlier one.
abbrev pub AreFrames : List Frame → ℕ → Type 0
AreFrames [] end = end ≡ 0
AreFrames (f ∷ fs) end = (f.start < end) × (f.low ≤ f.start) × AreFrames fs f.start

-- the lowest index to which index p of the path leads, by the frame that it belongs to
abbrev pub low_of : List Frame → ℕ → ℕ
low_of [] p = 0
low_of (f ∷ fs) p = if nat_le f.start p then f.low else low_of fs p

-- the indexes of the definitions whose names are still being followed
abbrev pub starts : List Frame → List ℕ
starts frames = map (λ f. f.start) frames

-- The definition `to` is in the order already, or it is on the path at index `low` or after it.
abbrev pub IsFollowed : List Seen → ℕ → ℕ → Type 0
IsFollowed seen low to = (seen_at seen to ≡ Seen.Done) ⊎ ((q : ℕ) × (seen_at seen to ≡ Seen.Open q) × (low ≤ q))

abbrev pub not_seen : Seen → ℕ
not_seen Seen.Not = 1
not_seen s = 0

-- What the walk keeps for each definition agrees with the path and the order.
pub record AreTold (count : ℕ) (seen : List Seen) (followed path : List ℕ) (turns : List Turn) : Type 0 where
  pub seen_all : length seen ≡ count
  pub followed_all : length followed ≡ count
  pub fresh : (k : ℕ) → seen_at seen k ≡ Seen.Not → slice_index followed k ≡ 0
  pub place : (p : ℕ) → p < length path → (slice_index path p < count) × (seen_at seen (slice_index path p) ≡ Seen.Open p)
  pub placed : (k p : ℕ) → seen_at seen k ≡ Seen.Open p → (p < length path) × (slice_index path p ≡ k)
  pub turn : (k : ℕ) → seen_at seen k ≡ Seen.Done → Contains (turn_definitions turns) k
  pub counted : (length turns + length path) + sum_by not_seen seen ≡ count
  pub turned : (k : ℕ) → Contains (turn_definitions turns) k → (k < count) × (seen_at seen k ≡ Seen.Done)

-- All that holds between two steps of a walk. The frames are listed with the last one first.
pub record Stands (uses : List (Vec ℕ Global)) (seen : List Seen) (followed path : List ℕ) (frames : List Frame) (turns : List Turn) : Type 0 where
  pub told : AreTold (length uses) seen followed path turns
  pub in_order : AreInOrder (named_by uses) turns
  pub closed : (k to : ℕ) → seen_at seen k ≡ Seen.Done → Contains (named_by uses k) to → seen_at seen to ≡ Seen.Done
  pub onwards : (p q : ℕ) → p ≤ q → q < length path → Reaches (named_by uses) (slice_index path p) (slice_index path q)
  pub framed : AreFrames frames (length path)
  pub back : (p : ℕ) → p < length path → Reaches (named_by uses) (slice_index path p) (slice_index path (low_of frames p))
  pub explored : (p to : ℕ) → p < length path → Contains (take (slice_index followed (slice_index path p)) (named_by uses (slice_index path p))) to → IsFollowed seen (low_of frames p) to
  pub finished : (p : ℕ) → p < length path → (length (named_by uses (slice_index path p)) ≤ slice_index followed (slice_index path p)) ⊎ Contains (starts frames) p

abbrev pub Standing : List (Vec ℕ Global) → Walk → Type 0
Standing uses w = Stands uses w.seen.items w.followed.items w.path.items (reverse w.frames.items) w.turns.items

-- the last frame begins at index `start` of the path
abbrev pub IsTop : ℕ → List Frame → Type 0
IsTop start [] = ⊥
IsTop start (f ∷ fs) = f.start ≡ start

-- the frames when the last one also leads to index `place` of the path
abbrev pub lowered : ℕ → List Frame → List Frame
lowered place [] = []
lowered place (f ∷ fs) = (record { start = f.start; low = min f.low place }) ∷ fs

-- All names of the definition at index p of the path have been followed.
abbrev pub IsFinished : List (Vec ℕ Global) → List ℕ → List ℕ → ℕ → Type 0
IsFinished uses followed path p = length (named_by uses (slice_index path p)) ≤ slice_index followed (slice_index path p)

-- The last frame has just been removed, and it leads to nothing before it.
pub record Closing (uses : List (Vec ℕ Global)) (start : ℕ) (w : Walk) : Type 0 where
  pub stands : Stands uses w.seen.items w.followed.items w.path.items (record { start = start; low = start } ∷ reverse w.frames.items) w.turns.items
  pub finished : IsFinished uses w.followed.items w.path.items start

-- The last frame has just been removed, and it may lead to something before it.
pub record Leaving (uses : List (Vec ℕ Global)) (frame : Frame) (w : Walk) : Type 0 where
  pub stands : Stands uses w.seen.items w.followed.items w.path.items (frame ∷ reverse w.frames.items) w.turns.items
  pub finished : IsFinished uses w.followed.items w.path.items frame.start

-- The definitions on the path from index `start` on are moved to the order one after the other. The frames are those before them.
pub record Draining (uses : List (Vec ℕ Global)) (start : ℕ) (seen : List Seen) (followed path : List ℕ) (frames : List Frame) (turns : List Turn) : Type 0 where
  pub told : AreTold (length uses) seen followed path turns
  pub long : start ≤ length path
  pub in_order : AreInOrder (named_by uses) turns
  pub closed : (k to : ℕ) → seen_at seen k ≡ Seen.Done → Contains (named_by uses k) to → IsFollowed seen start to
  pub within : (p to : ℕ) → start ≤ p → p < length path → Contains (named_by uses (slice_index path p)) to → IsFollowed seen start to
  pub onwards : (p q : ℕ) → p ≤ q → q < start → Reaches (named_by uses) (slice_index path p) (slice_index path q)
  pub framed : AreFrames frames start
  pub back : (p : ℕ) → p < start → Reaches (named_by uses) (slice_index path p) (slice_index path (low_of frames p))
  pub explored : (p to : ℕ) → p < start → Contains (take (slice_index followed (slice_index path p)) (named_by uses (slice_index path p))) to → IsFollowed seen (low_of frames p) to
  pub finished : (p : ℕ) → p < start → (length (named_by uses (slice_index path p)) ≤ slice_index followed (slice_index path p)) ⊎ Contains (starts frames) p

-- Each definition on the path from index `start` on is on a circle.
abbrev pub AreOnCircle : List (Vec ℕ Global) → ℕ → List ℕ → Type 0
AreOnCircle uses start path = (p : ℕ) → start ≤ p → p < length path → IsOnCircle (named_by uses) (slice_index path p)

abbrev pub IsDraining : List (Vec ℕ Global) → ℕ → Walk → Type 0
IsDraining uses start w = Draining uses start w.seen.items w.followed.items w.path.items (reverse w.frames.items) w.turns.items

-- The last definition on the path has moved to the end of the order.
pub record Turned (on_circle : Bool) (old new : Walk) : Type 0 where
  pub definition : ℕ
  pub path : old.path.items ≡ push new.path.items definition
  pub turns : new.turns.items ≡ push old.turns.items (record { definition = definition; on_circle = on_circle })
  pub seen : new.seen.items ≡ slice_set old.seen.items definition Seen.Done
  pub followed : new.followed.items ≡ old.followed.items
  pub frames : new.frames.items ≡ old.frames.items

-- A definition that has been seen stays seen.
abbrev pub Keeps : List Seen → List Seen → Type 0
Keeps old new = (k : ℕ) → seen_at new k ≡ Seen.Not → seen_at old k ≡ Seen.Not

-- how many names are still to be followed
abbrev pub left : List (Vec ℕ Global) → List ℕ → ℕ
left [] followed = 0
left (u ∷ us) [] = 0
left (u ∷ us) (n ∷ ns) = (length u.items - n) + left us ns

-- What holds after a visit to a definition: it is in the order, or on the path at an index to which the visiting frame leads, or
-- after that.
pub record Visited (uses : List (Vec ℕ Global)) (start : ℕ) (to : ℕ) (old new : Walk) : Type 0 where
  pub standing : Standing uses new
  pub there : IsFollowed new.seen.items (low_of (reverse new.frames.items) start) to
  pub kept : new.followed.items ≡ old.followed.items
  pub seen : Keeps old.seen.items new.seen.items
  pub long : length old.path.items ≤ length new.path.items
  pub same : slice_index new.path.items start ≡ slice_index old.path.items start
  pub frames : length new.frames.items ≤ length old.frames.items + 1

-- A measure of the work that is left. Each step makes it smaller, so the walk ends.
abbrev pub work : List (Vec ℕ Global) → Walk → ℕ
work uses w = 2 * left uses w.followed.items + length w.frames.items
