-- The state of the system between two calls.
use Rattle.std.specs.Prelude.{◌≡◌, ℕ, List, Option, None}
use Rattle.cpm_console.specs.declared.terminal.Terminal.{Terminal}
use Rattle.cpm_disk.specs.Calls.{Mounted}
use Rattle.cpm_bdos.specs.declared.files.search.Search.{Search}
use Rattle.cpm_bdos.specs.Settings.{first_dma}

-- a mounted disk, a console with its column, the address of the DMA buffer, the user, and the last search, if it found an entry
pub record System (S C : Type 0) : Type 0 where
  pub disk : Mounted S
  pub terminal : Terminal C
  pub dma : ℕ
  pub user : ℕ
  pub search : Option Search

-- the state at the start: column 0, the DMA buffer at 0080H, user 0, and no search
abbrev pub new_system : {S C : Type 0} → Mounted S → C → System S C
new_system disk console = record { disk = disk; terminal = record { console = console; column = 0 }; dma = first_dma; user = 0; search = None }

-- A stop leaves these as they were, and the registers too: the memory, the DMA address, the user and the search.
pub record IsKeptAtStop {S C : Type 0} (old new : System S C) (before now : List ℕ) : Type 0 where
  pub memory : now ≡ before
  pub dma : new.dma ≡ old.dma
  pub user : new.user ≡ old.user
  pub search : new.search ≡ old.search

-- the same system with this console
abbrev pub with_console : {S C : Type 0} → C → System S C → System S C
with_console console s = record s { terminal = record s.terminal { console = console } }
