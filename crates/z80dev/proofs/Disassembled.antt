-- How `dis` ends, from what its steps did.
use Rattle.std.proofs.Common.{◌≡◌, ◌∙◌, List, ℕ, Option, None, Some, Result, Ok, Err, Vec, Bor, inl, inr, subst}
use Rattle.std.specs.Global.{Global}
use Rattle.host.specs.Files.{Folder}
use Rattle.host.specs.declared.end.End.{End}
use Rattle.host.specs.declared.end.End.TheVariants as end
use Rattle.host.specs.Ending.{Effect}
use Rattle.z80dev.specs.Making.{PrintsSource, WithIfGiven}
use Rattle.host.specs.Reading.{ReadsIfGiven, IsNotRead, IsRead, bytes_in}
use Rattle.z80dev.specs.Private.FileSteps.{RefusesProgram}

-- reading changes no file
pub same_folder : (path : Option (Bor (List ℕ))) (old new : Folder) (found : Option (Vec ℕ Global)) → ReadsIfGiven path old new (Ok found) → new ≡ old
same_folder path old new found is = is.0

pub found_if_given : (path : Option (Bor (List ℕ))) (Does : Option (List ℕ) → Type 0) (x : Effect) (mid new : Folder) (found : Option (Vec ℕ Global)) (e : End) → mid ≡ x.old
    → ReadsIfGiven path mid new (Ok found) → Does (bytes_in found) → WithIfGiven path Does x e
found_if_given None Does x mid new found e same is does = subst (λ f. Does (bytes_in f)) is.1 does
found_if_given (Some path) Does x mid new found e same (unchanged, (bytes, at, read)) does = inl (bytes.items, subst (λ f. IsRead f path.now bytes.items) same read, subst (λ f. Does (bytes_in f)) at does)

pub unread_if_given : (path : Option (Bor (List ℕ))) (Does : Option (List ℕ) → Type 0) (x : Effect) (mid : Folder) (e : End) → mid ≡ x.old → ReadsIfGiven path mid x.new (Err e) → x.after ≡ x.before
    → WithIfGiven path Does x e
unread_if_given None Does x mid e same is quiet = absurd is
unread_if_given (Some path) Does x mid e same is quiet = inr (subst (λ f. IsNotRead f x.new path.now e) same is, quiet)

pub prints_nothing : (program : List ℕ) (labels : Option (List ℕ)) (entries data_starts : List (List ℕ)) (x : Effect) (e : End) → RefusesProgram program labels entries data_starts e → x.after ≡ x.before
    → PrintsSource program labels entries data_starts x e
prints_nothing program labels entries data_starts x (end.Refused said) (why, kept, is, text) quiet = (why, kept, is, text, quiet)
prints_nothing program labels entries data_starts x end.NoMemory is quiet = quiet
prints_nothing program labels entries data_starts x end.Done is quiet = absurd is
prints_nothing program labels entries data_starts x (end.File path last) is quiet = absurd is
prints_nothing program labels entries data_starts x (end.Path path) is quiet = absurd is
prints_nothing program labels entries data_starts x end.Stream is quiet = absurd is
