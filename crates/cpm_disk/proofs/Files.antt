-- Files that a change of the directory leaves as they were.
use Rattle.std.proofs.Common.{◌≡◌, ◌⊎◌, ◌<◌, ◌/◌, ◌==◌, ℕ, suc, Bool, true, false, ◌&&◌, ◌||◌, List, [], ◌∷◌, length, find, Option, Some, None, option_map, option_and_then, refl, sym, ap, subst, ◌∙◌, inl, inr, arith, if◌then◌else◌}
use Rattle.cpm_image.specs.Kind.{block_records, entry_count}
use Rattle.cpm_image.specs.declared.kind.DiskKind.{DiskKind}
use Rattle.std.proofs.lemmas.Bool.{and_parts, cases_Bool, eqb-false}
use Rattle.std.specs.List.{list_any}
use Rattle.cpm_image.specs.declared.directory.entry.Entry.{Entry}
use Rattle.cpm_image.specs.Directory.Entries.{extent_number, at, block, is_extent_of, is_of, is_read_only, is_system, place_on_disk}
use Rattle.cpm_disk.proofs.Entries.{found_at}
use Rattle.cpm_disk.specs.Files.{SameFile, in_block}
use Rattle.cpm_disk.specs.Image.{Image, directory, disk_record}
use Rattle.cpm_disk.proofs.Places.{length_directory}

-- two entries that are equal, or both fail a test
abbrev pub Alike : (Entry → Bool) → Entry → Entry → Type 0
Alike p x y = (y ≡ x) ⊎ ((p x ≡ false) × (p y ≡ false))

pub find_alike : (p : Entry → Bool) (xs ys : List Entry) → length ys ≡ length xs → ((k : ℕ) → k < length xs → Alike p (at xs k) (at ys k)) → find p ys ≡ find p xs
find_alike p [] [] long alike = refl
find_alike p [] (y ∷ ys) long alike = absurd (omega arith)
find_alike p (x ∷ xs) [] long alike = absurd (omega arith)
find_alike p (x ∷ xs) (y ∷ ys) long alike =
    let rest = find_alike p xs ys (omega arith) (λ k below. alike (suc k) (omega arith)) in
    elim (alike 0 (omega arith)) as (λ _. find p (y ∷ ys) ≡ find p (x ∷ xs)) [
      | inl same ↦ ap (λ z. if p z then Some z else find p ys) same ∙ ap (λ o. if p x then Some x else o) rest
      | inr (fails, too) ↦ ap (λ b. if b then Some y else find p ys) too ∙ rest ∙ sym (ap (λ b. if b then Some x else find p xs) fails)
    ]

any_alike : (p : Entry → Bool) (xs ys : List Entry) → length ys ≡ length xs → ((k : ℕ) → k < length xs → Alike p (at xs k) (at ys k)) → list_any p ys ≡ list_any p xs
any_alike p [] [] long alike = refl
any_alike p [] (y ∷ ys) long alike = absurd (omega arith)
any_alike p (x ∷ xs) [] long alike = absurd (omega arith)
any_alike p (x ∷ xs) (y ∷ ys) long alike =
    let rest = any_alike p xs ys (omega arith) (λ k below. alike (suc k) (omega arith)) in
    elim (alike 0 (omega arith)) as (λ _. list_any p (y ∷ ys) ≡ list_any p (x ∷ xs)) [
      | inl same ↦ ap (λ z. p z || list_any p ys) same ∙ ap (λ b. p x || b) rest
      | inr (fails, too) ↦ ap (λ b. b || list_any p ys) too ∙ rest ∙ sym (ap (λ b. b || list_any p xs) fails)
    ]

-- the same for a test that asks for the file and for something else
narrower : (user : ℕ) (name : List ℕ) (q : Entry → Bool) (x y : Entry) → Alike (is_of user name) x y → Alike (λ e. is_of user name e && q e) x y
narrower user name q x y (inl same) = inl same
narrower user name q x y (inr (fails, too)) = inr (ap (λ b. b && q x) fails, ap (λ b. b && q y) too)

-- an entry has the same bytes for record i if the logical record that it names is as it was
pub same_stored : (kind : DiskKind) (old new : Image) (e : Entry) (i : ℕ) → ((block kind e (i / block_records kind) ≡ 0 → ⊥) → disk_record kind new (place_on_disk kind e i) ≡ disk_record kind old (place_on_disk kind e i)) → in_block kind new i e ≡ in_block kind old i e
same_stored kind old new e i kept = elim (cases_Bool (block kind e (i / block_records kind) == 0)) as (λ _. in_block kind new i e ≡ in_block kind old i e) [
  | inl none ↦ ap (λ b. if b then None else Some (disk_record kind new (place_on_disk kind e i))) none ∙ sym (ap (λ b. if b then None else Some (disk_record kind old (place_on_disk kind e i))) none)
  | inr some ↦ ap (λ b. if b then None else Some (disk_record kind new (place_on_disk kind e i))) some
      ∙ ap (λ bytes. Some bytes) (kept (eqb-false (block kind e (i / block_records kind)) 0 some))
      ∙ sym (ap (λ b. if b then None else Some (disk_record kind old (place_on_disk kind e i))) some)
]

-- a file is as it was if its entries and records are
pub same_file : (kind : DiskKind) (old new : Image) (user : ℕ) (name : List ℕ)
    → ((k : ℕ) → k < entry_count kind → Alike (is_of user name) (at (directory kind old) k) (at (directory kind new) k))
    → ((k i : ℕ) → k < entry_count kind → i < 128 → is_of user name (at (directory kind old) k) ≡ true → (block kind (at (directory kind old) k) (i / block_records kind) ≡ 0 → ⊥) → disk_record kind new (place_on_disk kind (at (directory kind old) k) i) ≡ disk_record kind old (place_on_disk kind (at (directory kind old) k) i))
    → SameFile kind old new user name
same_file kind old new user name alike kept = record {
  counts = λ number. ap (option_map (λ e. e.records)) (found number);
  records = λ number i below. ap (option_and_then (in_block kind new i)) (found number) ∙ by_entry number i below (find (is_extent_of user name number) (directory kind old)) refl;
  read_only = any_alike (λ e. is_of user name e && is_read_only e) (directory kind old) (directory kind new) long (λ k below. narrower user name is_read_only (at (directory kind old) k) (at (directory kind new) k) (alike k (within k below)));
  system = any_alike (λ e. is_of user name e && is_system e) (directory kind old) (directory kind new) long (λ k below. narrower user name is_system (at (directory kind old) k) (at (directory kind new) k) (alike k (within k below)));
}
  where
    long : length (directory kind new) ≡ length (directory kind old)
    long = length_directory kind new ∙ sym (length_directory kind old)

    within : (k : ℕ) → k < length (directory kind old) → k < entry_count kind
    within k below = (let size = length_directory kind old in omega arith)

    found : (number : ℕ) → find (is_extent_of user name number) (directory kind new) ≡ find (is_extent_of user name number) (directory kind old)
    found number = find_alike (is_extent_of user name number) (directory kind old) (directory kind new) long (λ k below. narrower user name (λ e. extent_number e == number) (at (directory kind old) k) (at (directory kind new) k) (alike k (within k below)))

    by_entry : (number i : ℕ) → i < 128 → (o : Option Entry) → find (is_extent_of user name number) (directory kind old) ≡ o → option_and_then (in_block kind new i) o ≡ option_and_then (in_block kind old i) o
    by_entry number i below None is = refl
    by_entry number i below (Some e) is =
        let (k, below_k, is_at, passes) = found_at (is_extent_of user name number) (directory kind old) e is in
        let of : is_of user name (at (directory kind old) k) ≡ true = subst (λ x. is_of user name x ≡ true) is_at (and_parts (is_of user name e) (extent_number e == number) passes).0 in
        same_stored kind old new e i (λ some. subst (λ x. disk_record kind new (place_on_disk kind x i) ≡ disk_record kind old (place_on_disk kind x i)) (sym is_at) (kept k i (within k below_k) below of (λ zero_block. some (ap (λ x. block kind x (i / block_records kind)) is_at ∙ zero_block))))
