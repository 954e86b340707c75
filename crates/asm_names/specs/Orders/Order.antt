-- The orders in which definitions can be settled.
use Rattle.std.specs.Prelude.{◌≡◌, ◌↔◌, ◌<◌, ℕ, true, false, List, [], Vec, length, map, take, slice_get, slice_index_or}
use Rattle.std.specs.Option.{option_map_or}
use Rattle.std.specs.List.{All, Contains}
use Rattle.std.specs.Global.{Global}
use Rattle.asm_names.specs.declared.walk.Turn.{Turn}
use Rattle.asm_names.specs.Orders.Circles.{IsOnCircle}

-- the definitions that definition k names
abbrev pub named_by : List (Vec ℕ Global) → ℕ → List ℕ
named_by uses k = option_map_or (λ named. named.items) (slice_get uses k) []

-- Each definition names only definitions: the numbers are less than the count.
abbrev pub NameOnlyDefinitions : List (Vec ℕ Global) → Type 0
NameOnlyDefinitions uses = All (λ named. All (λ to. to < length uses) named.items) uses

abbrev pub turn_definitions : List Turn → List ℕ
turn_definitions turns = map (λ t. t.definition) turns

-- A definition may come after those before it: it is not among them, it is marked exactly if it is on a circle, and if it is on
-- none, all that it names are among them.
pub record Follows (named : ℕ → List ℕ) (before : List Turn) (t : Turn) : Type 0 where
  pub once : Contains (turn_definitions before) t.definition → ⊥
  pub circle : (t.on_circle ≡ true) ↔ IsOnCircle named t.definition
  pub behind : t.on_circle ≡ false → (to : ℕ) → Contains (named t.definition) to → Contains (turn_definitions before) to

abbrev pub AreInOrder : (ℕ → List ℕ) → List Turn → Type 0
AreInOrder named turns = (k : ℕ) (d : Turn) → k < length turns → Follows named (take k turns) (slice_index_or turns k d)

-- The turns are an order of all `count` definitions: each occurs once, and after those that it has to come after.
pub record IsOrder (count : ℕ) (named : ℕ → List ℕ) (turns : List Turn) : Type 0 where
  pub many : length turns ≡ count
  pub few : (k : ℕ) → Contains (turn_definitions turns) k → k < count
  pub all : (k : ℕ) → k < count → Contains (turn_definitions turns) k
  pub in_order : AreInOrder named turns
