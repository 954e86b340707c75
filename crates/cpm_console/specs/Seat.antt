-- Where somebody sits while a program runs: a keyboard and a screen.
use Rattle.std.specs.Prelude.{◌≡◌, ◌++◌, ◌∷◌, ℕ, Bool, true, false, List, [], Option, Result, Ok, Err, option_map, take}
use Rattle.std.specs.Io.KnownBytes.{Consumes, IsAtEnd, Keeps}
use Rattle.cpm_console.specs.declared.station.Came.{Came}
use Rattle.cpm_console.specs.declared.station.Came.TheVariants as came
use Rattle.cpm_console.specs.declared.station.Patience.{Patience}
use Rattle.cpm_console.specs.declared.station.StationFault.{StationFault}

-- What happens at a keyboard and a screen. After this number of steps the keyboard is asked in this way, and gives this answer; or these bytes are
-- shown; or the screen does not take all of them.
pub data SeatEvent : Type 0 where
  asked : ℕ → Patience → Result Came StationFault → SeatEvent
  showed : List ℕ → SeatEvent
  not_showed : List ℕ → SeatEvent

-- what happens when bytes are to be shown
abbrev pub shown_event : List ℕ → Result Unit StationFault → SeatEvent
shown_event bytes (Ok done) = SeatEvent.showed bytes
shown_event bytes (Err fault) = SeatEvent.not_showed bytes

-- `screen`: all that the screen has got once these bytes are shown too, if that is known. `coming`: the bytes of the keys that will come, if they are
-- known. `leaves`: whether the person leaves by these keys, if they are the next to come. `events`: what has happened at both so far, in order, if
-- that is known.
pub record Seat : Type 0 where
  pub screen : List ℕ → Option (List ℕ)
  pub coming : Option (List ℕ)
  pub leaves : List ℕ → Bool
  pub events : Option (List SeatEvent)

-- these events too, if those before them are known
abbrev pub with_events : List SeatEvent → Option (List SeatEvent) → Option (List SeatEvent)
with_events more events = option_map (λ known. known ++ more) events

-- the looks among these events
abbrev pub looks_in : List SeatEvent → List SeatEvent
looks_in [] = []
looks_in (SeatEvent.asked turns patience answer ∷ more) = SeatEvent.asked turns patience answer ∷ looks_in more
looks_in (_ ∷ more) = looks_in more

-- These keys came, and the person has not left by them. Nothing was shown.
pub record Takes (keys : List ℕ) (old new : Seat) : Type 0 where
  pub screen : new.screen ≡ old.screen
  pub coming : Consumes old.coming new.coming keys
  pub stays : old.leaves keys ≡ false
  pub leaves : (more : List ℕ) → new.leaves more ≡ old.leaves (keys ++ more)

-- The person left by these keys. Nothing was shown.
pub record Leaves (keys : List ℕ) (old new : Seat) : Type 0 where
  pub screen : new.screen ≡ old.screen
  pub coming : Consumes old.coming new.coming keys
  pub leaves : old.leaves keys ≡ true

-- What a keyboard did when it was asked. Keys came, and their bytes are at the front of the buffer; or no byte is left, and the keyboard expects none;
-- or the person left. If the keyboard failed, nothing is known of the keys that are still to come.
abbrev pub Hears : Seat → Seat → Result Came StationFault → List ℕ → Type 0
Hears old new (Ok (came.Bytes count)) buffer = Takes (take count buffer) old new
Hears old new (Ok came.End) buffer = Takes [] old new × IsAtEnd new.coming
Hears old new (Ok came.Leave) buffer = (keys : List ℕ) × Leaves keys old new
Hears old new (Err fault) buffer = new.screen ≡ old.screen

-- The keyboard was asked once, after this number of steps and in this way.
abbrev pub Listens : ℕ → Patience → Seat → Seat → Result Came StationFault → List ℕ → Type 0
Listens turns patience old new result buffer = (new.events ≡ with_events (SeatEvent.asked turns patience result ∷ []) old.events) × Hears old new result buffer

-- The program's bytes were shown, and nothing happened to the keyboard.
pub record ShowsBytes (bytes : List ℕ) (old new : Seat) : Type 0 where
  pub screen : (more : List ℕ) → Keeps (old.screen (bytes ++ more)) (new.screen more)
  pub coming : new.coming ≡ old.coming
  pub leaves : new.leaves ≡ old.leaves
  pub events : new.events ≡ with_events (SeatEvent.showed bytes ∷ []) old.events

-- What a screen did with bytes. If it failed, nothing is known of what it shows.
abbrev pub TriesToShow : List ℕ → Seat → Seat → Result Unit StationFault → Type 0
TriesToShow bytes old new (Ok done) = ShowsBytes bytes old new
TriesToShow bytes old new (Err fault) = (new.coming ≡ old.coming) × (new.leaves ≡ old.leaves) × (new.events ≡ with_events (SeatEvent.not_showed bytes ∷ []) old.events)
