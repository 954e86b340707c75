-- Files that are asked for.
use Rattle.std.proofs.Common.{◌≡◌, ◌<◌, ◌==◌, ℕ, false, not, All, List, [], ◌∷◌, Option, find, length, option_map, unwrap_or, refl, sym, ap, subst, true≢false}
use Rattle.std.proofs.lemmas.List.Elements.{All-filter}
use Rattle.cpm_image.specs.declared.kind.DiskKind.{DiskKind}
use Rattle.cpm_image.specs.Directory.Searches.{size}
use Rattle.cpm_image.specs.declared.directory.entry.TheConstants.{USERS}
use Rattle.cpm_image.specs.declared.directory.listing.Listed.{Listed}
use Rattle.cpm_disk.specs.Image.{Image, directory}
use Rattle.z80dev_disk.specs.Dir.{is_asked}
use Rattle.z80dev_disk.specs.Get.{refusal_of}
use Rattle.z80dev_disk.specs.Names.{is_host_name}
use Rattle.z80dev_disk.specs.Private.{AreAsked}
use Rattle.z80dev_disk.specs.declared.refusal.Refusal.TheVariants as refusal

-- if there are files, the only reason is the first name that the host cannot take
pub reason : (pattern : List ℕ) (files : List Listed) → (length files == 0) ≡ false → refusal_of pattern files ≡ option_map (λ f. refusal.BadFile f.name) (find (λ f. not (is_host_name f.name)) files)
reason pattern [] some = absurd (true≢false some)
reason pattern (file ∷ files) some = refl

-- What a listing says of each of its files, and so of each that is asked for: its user is below the limit, and its records are its size.
abbrev pub IsListed : DiskKind → Image → Listed → Type 0
IsListed kind image file = (file.user < USERS) × (file.records ≡ unwrap_or (size file.user file.name (directory kind image)) 0)

pub are_listed : (kind : DiskKind) (image : Image) (user : Option ℕ) (pattern : Option (List ℕ)) (found : List Listed) → AreAsked kind image user pattern found → All (IsListed kind image) found
are_listed kind image user pattern found (files, listing, are) = subst (All (IsListed kind image)) (sym are) (All-filter (is_asked user pattern) (IsListed kind image) files (λ k d below.
    let (low, some, is) = listing.each k d below in
    (low, ap (λ (l : Listed). l.records) is)))
