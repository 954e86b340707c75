-- States of the system that look alike: to the program, to a reader of the image, and to the user of the console. Devices and consoles
-- may have more in them than that; no definition sees it.
use Rattle.std.specs.Prelude.{◌≡◌, ◌≢◌, ◌<◌, ◌++◌, [], ℕ, List, Option, Some, None, Result, Err, ⊤}
use Rattle.cpm_console.specs.Dialog.{Dialog}
use Rattle.cpm_console.specs.Screen.{Screen, screen}
use Rattle.cpm_image.specs.declared.directory.entry.TheConstants.{USERS}
use Rattle.cpm_image.specs.Directory.Rules.{IsSound}
use Rattle.cpm_disk.specs.Calls.{Mounted}
use Rattle.cpm_disk.specs.Image.{Image, IsOfDirectory, SameBut, directory}
use Rattle.cpm_disk.specs.declared.control.stop.Stop.{Stop}
use Rattle.cpm_disk.specs.declared.control.stop.Stop.TheVariants as stop
use Rattle.cpm_bdos.specs.System.{System}
use Rattle.cpm_image.specs.declared.kind.DiskKind.{DiskKind}

-- the same directory entries, and the same bytes in every other sector
pub record SameImage (kind : DiskKind) (a b : Image) : Type 0 where
  pub entries_are : directory kind b ≡ directory kind a
  pub rest : SameBut kind (IsOfDirectory kind) a b

-- two mounted disks whose directory keeps its rules
pub record AlikeDisks {S : Type 0} (sectors : S → Image) (a b : Mounted S) : Type 0 where
  pub kind : b.kind ≡ a.kind
  pub failed : b.failed ≡ a.failed
  pub image : SameImage a.kind (sectors a.device) (sectors b.device)
  pub sound : IsSound a.kind (directory a.kind (sectors a.device))

-- What was put on two consoles, given what their users saw of each before that, if that is known: then both are known, and with what was seen
-- before they are equal.
abbrev pub SameIfKnown : Option (List ℕ × List ℕ) → Option (List ℕ) → Option (List ℕ) → Type 0
SameIfKnown None a b = ⊤
SameIfKnown (Some (seen, other)) a b = (put : List ℕ) × (also : List ℕ) × (a ≡ Some put) × (b ≡ Some also) × (other ++ also ≡ seen ++ put)

-- Nothing was seen before, and what was put is known if it was known at the beginning.
abbrev pub seen_nothing : Option (List ℕ) → Option (List ℕ × List ℕ)
seen_nothing None = None
seen_nothing (Some first) = Some ([], [])

pub record AlikeDialogs (viewed : Option (List ℕ × List ℕ)) (a b : Dialog) : Type 0 where
  pub input : b.input ≡ a.input
  pub output : SameIfKnown viewed a.output b.output
  pub faults : b.faults ≡ a.faults

pub record AlikeScreens (viewed : Option (List ℕ × List ℕ)) (a b : Screen) : Type 0 where
  pub dialog : AlikeDialogs viewed a.dialog b.dialog
  pub column : b.column ≡ a.column

pub record AlikeSystems {S C : Type 0} (sectors : S → Image) (dialog : C → Dialog) (viewed : Option (List ℕ × List ℕ)) (a b : System S C) : Type 0 where
  pub disk : AlikeDisks sectors a.disk b.disk
  pub screen : AlikeScreens viewed (screen dialog a.terminal) (screen dialog b.terminal)
  pub dma : b.dma ≡ a.dma
  pub user : b.user ≡ a.user
  pub search : b.search ≡ a.search
  pub within : a.user < USERS

-- an answer that is not that the disk or the console has failed
abbrev pub HasNotFailed : {A : Type 0} → Result A Stop → Type 0
HasNotFailed result = (result ≢ Err stop.DiskFault) × (result ≢ Err stop.ConsoleFault)
