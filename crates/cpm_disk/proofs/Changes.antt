-- The entries of a directory, changed one after the other.
use Rattle.std.proofs.Common.{◌≡◌, ◌⊎◌, ◌<◌, ◌≤◌, ◌+◌, ℕ, zero, suc, List, [], ◌∷◌, ◌++◌, length, map, take, drop, slice_set, get_or, refl, sym, ap, subst, ◌∙◌, inl, inr, arith, take_all, drop_of_length-le, append-nil, length-set}
use Rattle.cpm_image.specs.Kind.{entry_count, sector_count}
use Rattle.cpm_image.specs.declared.kind.DiskKind.{DiskKind}
use Rattle.std.proofs.lemmas.List.{get_or_default, set-get_or}
use Rattle.std.proofs.lemmas.List.Edits.{map_over_more}
use Rattle.cpm_image.specs.declared.directory.entry.Entry.{Entry}
use Rattle.cpm_image.specs.Directory.Entries.{at, blank}
use Rattle.cpm_disk.specs.Kept.{IsBetween}
use Rattle.cpm_disk.specs.declared.change.Change.{Change}
use Rattle.cpm_disk.specs.Calls.{Changed, PartlyChanged}
use Rattle.cpm_disk.specs.Private.Changes.{after}
use Rattle.cpm_disk.specs.Image.{Image, IsOfDirectory, SameBut, directory}
use Rattle.cpm_disk.proofs.Places.{same_all, then_same}

-- the entries below a number are changed, and the others are as they were at the beginning
abbrev pub IsPart : (Entry → Entry) → List Entry → ℕ → List Entry → Type 0
IsPart f first number entries = entries ≡ map f (take number first) ++ drop number first

pub record Changing (kind : DiskKind) (change : Change) (before image : Image) (first entries : List Entry) (number : ℕ) : Type 0 where
  pub count : length image ≡ sector_count kind
  pub size : length entries ≡ entry_count kind
  pub part : IsPart (after change) first number entries
  pub directory_is : directory kind image ≡ entries
  pub rest : SameBut kind (IsOfDirectory kind) before image

pub start : (kind : DiskKind) (change : Change) (image : Image) (entries : List Entry) → length image ≡ sector_count kind → length entries ≡ entry_count kind → directory kind image ≡ entries → Changing kind change image image entries entries 0
start kind change image entries count size is = record { count = count; size = size; part = refl; directory_is = is; rest = same_all kind (IsOfDirectory kind) image }

-- each entry is as it was at the beginning, or changed
part_at : (f : Entry → Entry) (first : List Entry) (number k : ℕ) → (at (map f (take number first) ++ drop number first) k ≡ at first k) ⊎ (at (map f (take number first) ++ drop number first) k ≡ at (map f first) k)
part_at f [] zero k = inl refl
part_at f [] (suc number) k = inl refl
part_at f (x ∷ first) zero k = inl refl
part_at f (x ∷ first) (suc number) zero = inr refl
part_at f (x ∷ first) (suc number) (suc k) = part_at f first number k

between : (f : Entry → Entry) (first entries : List Entry) (number : ℕ) → IsPart f first number entries → IsBetween first (map f first) entries
between f first entries number part k = rw part (part_at f first number k)

-- one more entry is changed
more : (f : Entry → Entry) (first entries : List Entry) (number : ℕ) (e : Entry) → number < length first → IsPart f first number entries → e ≡ at entries number → number < length entries → IsPart f first (number + 1) (slice_set entries number (f e))
more f first entries number e below part is within = map_over_more f first entries number e below part (is ∙ get_or_default entries number blank e within)

kept : (entries : List Entry) (number : ℕ) (e : Entry) → e ≡ at entries number → slice_set entries number e ≡ entries
kept entries number e is = ap (slice_set entries number) is ∙ set-get_or entries number blank

pub passed : (kind : DiskKind) (change : Change) (before image : Image) (first entries : List Entry) (number : ℕ) (e : Entry) → length first ≡ entry_count kind → number < entry_count kind → e ≡ at entries number → after change e ≡ e → Changing kind change before image first entries number → Changing kind change before image first entries (number + 1)
passed kind change before image first entries number e long below is not_it so_far = record {
  count = so_far.count;
  size = so_far.size;
  part = (
      sym (ap (slice_set entries number) not_it ∙ kept entries number e is) ∙ more (after change) first entries number e (let long_too = so_far.size in omega arith) so_far.part is (let long_too = so_far.size in omega arith));
  directory_is = so_far.directory_is;
  rest = so_far.rest;
}

pub stepped : (kind : DiskKind) (change : Change) (before image new : Image) (first entries : List Entry) (number : ℕ) (e x : Entry) → length first ≡ entry_count kind → number < entry_count kind → e ≡ at entries number → after change e ≡ x → Changing kind change before image first entries number → Changed kind image new (slice_set entries number (x)) → Changing kind change before new first (slice_set entries number (x)) (number + 1)
stepped kind change before image new first entries number e x long below is it so_far made = record {
  count = made.rest.count ∙ so_far.count;
  size = length-set entries number (x) ∙ so_far.size;
  part = (
      sym (ap (slice_set entries number) it) ∙ more (after change) first entries number e (let long_too = so_far.size in omega arith) so_far.part is (let long_too = so_far.size in omega arith));
  directory_is = made.entries_are;
  rest = then_same kind (IsOfDirectory kind) (IsOfDirectory kind) before image new (λ n of. of) so_far.rest made.rest;
}

stopped_at : (kind : DiskKind) (change : Change) (before image : Image) (first entries : List Entry) (number : ℕ) → directory kind before ≡ first → Changing kind change before image first entries number → PartlyChanged kind before image (map (after change) first)
stopped_at kind change before image first entries number was so_far = record {
  between = subst (λ es. IsBetween es (map (after change) first) (directory kind image)) (sym was) (subst (IsBetween first (map (after change) first)) (sym so_far.directory_is) (between (after change) first entries number so_far.part));
  rest = so_far.rest;
}

-- a device that failed left this entry as it was or as it was to be
pub halted : (kind : DiskKind) (change : Change) (before image new : Image) (first entries : List Entry) (number : ℕ) (e x : Entry) → length first ≡ entry_count kind → number < entry_count kind → directory kind before ≡ first → e ≡ at entries number → after change e ≡ x → Changing kind change before image first entries number
    → (new ≡ image) ⊎ Changed kind image new (slice_set entries number (x)) → PartlyChanged kind before new (map (after change) first)
halted kind change before image new first entries number e x long below was is it so_far (inl same) = subst (λ i. PartlyChanged kind before i (map (after change) first)) (sym same) (stopped_at kind change before image first entries number was so_far)
halted kind change before image new first entries number e x long below was is it so_far (inr made) = stopped_at kind change before new first (slice_set entries number (x)) (number + 1) was (stepped kind change before image new first entries number e x long below is it so_far made)

pub finished : (kind : DiskKind) (change : Change) (before image : Image) (first entries : List Entry) (number : ℕ) → length first ≡ entry_count kind → entry_count kind ≤ number → Changing kind change before image first entries number → entries ≡ map (after change) first
finished kind change before image first entries number long far so_far =
    so_far.part ∙ ap (λ xs. map (after change) xs ++ drop number first) (take_all number first (omega arith)) ∙ ap (λ xs. map (after change) first ++ xs) (drop_of_length-le first (omega arith)) ∙ append-nil (map (after change) first)

-- what the code would read after the end of the list, which it never does
abbrev unread : Entry
unread = record { user = 0; name = []; extent = 0; s1 = 0; s2 = 0; records = 0; blocks = [] }

-- the code reads the entry with this number
pub read_at : (entries : List Entry) (index number : ℕ) → index ≡ number → number < length entries → get_or entries index unread ≡ at entries number
read_at entries index number same below = ap (λ i. get_or entries i unread) same ∙ get_or_default entries number unread blank below
