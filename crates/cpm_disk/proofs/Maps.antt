-- What a call does to the files that it names.
use Rattle.std.proofs.Common.{◌≡◌, ◌<◌, ◌≤◌, ◌+◌, ◌*◌, ◌/◌, ◌%◌, ◌==◌, ℕ, zero, suc, Bool, true, false, ◌&&◌, ◌||◌, List, [], ◌∷◌, bytes_eq, drop, length, map, find, slice_index, slice_set, get_or, get_or-set_same, get_or-set_other, nat_eq, nat_le, not, Option, Some, None, Ok, option_map, option_and_then, refl, sym, ap, subst, ◌∙◌, inl, inr, arith, if◌then◌else◌, true≢false, eqb-true, eq-eqb, ne_eqb, le-leb, length-set}
use Rattle.cpm_image.specs.Kind.{block_count, block_records, first_block}
use Rattle.cpm_image.specs.declared.kind.DiskKind.{DiskKind}
use Rattle.cpm_disk.proofs.Numbers.{outside_directory}
use Rattle.cpm_disk.proofs.RecordPlaces.{place_within}
use Rattle.cpm_image.proofs.Words.{new_block}
use Rattle.std.proofs.lemmas.Bool.{and_from, and_parts, cases_Bool, cases_eq, cases_lt, lt-leb, not-false}
use Rattle.std.specs.List.{list_any}
use Rattle.cpm_image.specs.declared.directory.entry.TheConstants.{USERS}
use Rattle.cpm_image.specs.declared.directory.entry.Entry.{Entry}
use Rattle.cpm_image.specs.Directory.Entries.{block_numbers, extent_number, place_in_block, at, blank, block, erased, is_extent, is_extent_of, is_match, is_of, is_read_only, is_system, new_extent, place_on_disk, renamed}
use Rattle.cpm_image.specs.Directory.Letters.{letters, name_matches, with_letters}
use Rattle.cpm_image.specs.Directory.Rules.{IsBlock, IsSound}
use Rattle.cpm_image.specs.Directory.Searches.{file_is_read_only, free_entry, is_file}
use Rattle.cpm_disk.proofs.Entries.{found_at, below_extent, blank_is_not_of, is_of_file, letters_with, none_at, of_file}
use Rattle.cpm_disk.proofs.Kept.{at_erasure, at_renaming, length_of_name}
use Rattle.cpm_disk.specs.Kept.{IsGoodPut}
use Rattle.cpm_disk.specs.Steps.{◌>>=◌, after_erasure, after_renaming, creation, some_or, renaming, unless, erased_by, renamed_by}
use Rattle.cpm_disk.proofs.Results.{unless_ok}
use Rattle.cpm_image.specs.declared.directory.fault.DiskFault.TheVariants as fault
use Rattle.cpm_disk.specs.Calls.{Changed}
use Rattle.cpm_disk.specs.Files.{IsMoved, IsNewFile, IsNoFile, in_block}
use Rattle.cpm_disk.specs.Image.{Image, IsOfDirectory, SameBut, directory, disk_record}
use Rattle.cpm_disk.proofs.Attributes.{any_put, low_byte, none_with}
use Rattle.cpm_disk.proofs.Files.{same_stored}
use Rattle.cpm_disk.proofs.Others.{apart_from, created_entry, matches_letters}

-- a search finds the only entry that passes
pub find_unique : (p : Entry → Bool) (xs : List Entry) (k : ℕ) → k < length xs → p (at xs k) ≡ true → ((j : ℕ) → j < length xs → p (at xs j) ≡ true → j ≡ k) → find p xs ≡ Some (at xs k)
find_unique p [] k below passes one = absurd (omega arith)
find_unique p (x ∷ xs) zero below passes one = ap (λ b. if b then Some x else find p xs) passes
find_unique p (x ∷ xs) (suc k) below passes one = elim (cases_Bool (p x)) as (λ _. find p (x ∷ xs) ≡ Some (at (x ∷ xs) (suc k))) [
  | inl first ↦ (let same = one 0 (omega arith) first in absurd (omega arith))
  | inr not_first ↦ ap (λ b. if b then Some x else find p xs) not_first ∙ find_unique p xs k (omega arith) passes (λ j low at_j. let same = one (suc j) (omega arith) at_j in omega arith)
]

pub find_none : (p : Entry → Bool) (xs : List Entry) → ((j : ℕ) → j < length xs → p (at xs j) ≡ false) → find p xs ≡ None
find_none p [] none = refl
find_none p (x ∷ xs) none = ap (λ b. if b then Some x else find p xs) (none 0 (omega arith)) ∙ find_none p xs (λ j low. none (suc j) (omega arith))

-- in a directory that keeps its rules, a search for an extent of a file finds its entry
pub extent_found : (kind : DiskKind) (entries : List Entry) (user : ℕ) (name : List ℕ) (number k : ℕ) → user < USERS → IsSound kind entries → k < length entries → is_extent_of user name number (at entries k) ≡ true → find (is_extent_of user name number) entries ≡ Some (at entries k)
extent_found kind entries user name number k low sound below is = find_unique (is_extent_of user name number) entries k below is (λ j _ too.
    let one = and_parts (is_of user name (at entries k)) (extent_number (at entries k) == number) is in
    let two = and_parts (is_of user name (at entries j)) (extent_number (at entries j) == number) too in
    let a = of_file user name (at entries k) one.0 in
    let b = of_file user name (at entries j) two.0 in
    sound.named j k (below_extent (at entries j) (omega (arith, b.0))) (below_extent (at entries k) (omega (arith, a.0)))
    (b.0 ∙ sym a.0, b.1 ∙ sym a.1, eqb-true (extent_number (at entries j)) number two.1 ∙ sym (eqb-true (extent_number (at entries k)) number one.1)))

-- a new file
pub new_file : (kind : DiskKind) (image : Image) (entries : List Entry) (user : ℕ) (name : List ℕ) (k : ℕ) → user < USERS → letters name ≡ name → k < length entries → is_file user name entries ≡ false → directory kind image ≡ slice_set entries k (new_extent user name 0) → IsSound kind (directory kind image) → IsNewFile kind image user name
new_file kind image entries user name k low seven below none is sound = record {
  first = ap (option_map (λ e. e.records)) found;
  records = λ i. ap (option_and_then (in_block kind image i)) found ∙ ap (λ b. if b == 0 then None else Some (disk_record kind image (place_on_disk kind e i))) (new_block kind user 0 (i / block_records kind) name);
  others = λ number some. ap (option_map (λ x. x.records)) (find_none (is_extent_of user name number) (directory kind image) (absent number some));
  read_only = without is_read_only (lt-leb 128 (get_or name 8 0) (low_byte name 8 seven));
  system = without is_system (lt-leb 128 (get_or name 9 0) (low_byte name 9 seven));
}
  where
    e : Entry
    e = new_extent user name 0

    here : at (directory kind image) k ≡ new_extent user name 0
    here = ap (λ es. at es k) is ∙ get_or-set_same entries k (new_extent user name 0) blank below

    within : k < length (directory kind image)
    within = (let long = ap length is ∙ length-set entries k (new_extent user name 0) in omega arith)

    of : is_of user name (new_extent user name 0) ≡ true
    of = is_of_file user name (new_extent user name 0) refl seven

    without : (q : Entry → Bool) → q (new_extent user name 0) ≡ false → list_any (λ x. is_of user name x && q x) (directory kind image) ≡ false
    without q fails = ap (list_any (λ x. is_of user name x && q x)) is
        ∙ any_put (λ x. is_of user name x && q x) entries k (new_extent user name 0) below (ap (λ b. b && q (at entries k)) (none_at (is_of user name) entries k (blank_is_not_of user name low) none))
        (λ passes. absurd (true≢false (sym passes ∙ ap (λ b. is_of user name (new_extent user name 0) && b) fails ∙ ap (λ b. b && false) of)))
        ∙ none_with (is_of user name) q entries none

    found : find (is_extent_of user name 0) (directory kind image) ≡ Some (new_extent user name 0)
    found = extent_found kind (directory kind image) user name 0 k low sound within (subst (λ x. is_extent_of user name 0 x ≡ true) (sym here) (and_from (is_of user name (new_extent user name 0)) (0 == 0) of refl)) ∙ ap Some here

    absent : (number : ℕ) → 0 < number → (j : ℕ) → j < length (directory kind image) → is_extent_of user name number (at (directory kind image) j) ≡ false
    absent number some j low_j = elim (cases_eq j k) as (λ _. is_extent_of user name number (at (directory kind image) j) ≡ false) [
      | inl same ↦ subst (λ n. is_extent_of user name number (at (directory kind image) n) ≡ false) (sym same) (subst (λ x. is_extent_of user name number x ≡ false) (sym here)
          (ap (λ b. is_of user name (new_extent user name 0) && b) (ne_eqb 0 number (λ zero_is. omega arith)) ∙ ap (λ b. b && false) of))
      | inr other ↦ ap (λ x. is_extent_of user name number x) (ap (λ es. at es j) is ∙ get_or-set_other entries k j (new_extent user name 0) blank other)
          ∙ ap (λ b. b && (extent_number (at entries j) == number)) (none_at (is_of user name) entries j (blank_is_not_of user name low) none)
    ]

-- no entry is left of a file that matched
pub erased_file : (kind : DiskKind) (image : Image) (entries : List Entry) (user : ℕ) (pattern : List ℕ) (name : List ℕ) → user < USERS → name_matches pattern name ≡ true → directory kind image ≡ after_erasure user pattern entries → IsNoFile kind image user name
erased_file kind image entries user pattern name low matches is number = find_none (is_extent_of user name number) (directory kind image) (λ j _.
    let gone : is_of user name (at (directory kind image) j) ≡ false = subst (λ x. is_of user name x ≡ false) (sym (ap (λ es. at es j) is ∙ at_erasure user pattern entries j low)) (not_of (at entries j)) in
    ap (λ b. b && (extent_number (at (directory kind image) j) == number)) gone)
  where
    not_of : (e : Entry) → is_of user name (erased_by user pattern e) ≡ false
    not_of e = elim (cases_Bool (is_match user pattern e)) as (λ _. is_of user name (erased_by user pattern e) ≡ false) [
      | inl match ↦ subst (λ x. is_of user name x ≡ false) (sym (ap (λ b. if b then erased e else e) match)) (ap (λ b. b && bytes_eq (letters e.name) name) (ne_eqb 0xE5 user (λ same. omega arith)))
      | inr other ↦ subst (λ x. is_of user name x ≡ false) (sym (ap (λ b. if b then erased e else e) other)) (elim (cases_Bool (is_of user name e)) as (λ _. is_of user name e ≡ false) [
        | inl of ↦ (let one = of_file user name e of in
            absurd (true≢false (sym (and_from (nat_eq e.user user) (name_matches pattern e.name) (eq-eqb e.user user one.0) (sym (matches_letters pattern e.name) ∙ ap (name_matches pattern) one.1 ∙ matches)) ∙ other)))
        | inr no_file ↦ no_file
      ])
    ]

-- the high bit of a byte of a renamed name
high_bit : (old new : List ℕ) (i : ℕ) → length old ≡ length new → letters new ≡ new → nat_le 128 (get_or (with_letters old new) i 0) ≡ nat_le 128 (get_or old i 0)
high_bit [] [] i same seven = refl
high_bit [] (y ∷ new) i same seven = absurd (omega arith)
high_bit (x ∷ old) [] i same seven = absurd (omega arith)
high_bit (x ∷ old) (y ∷ new) (suc i) same seven = high_bit old new i (omega arith) (ap (drop 1) seven)
high_bit (x ∷ old) (y ∷ new) zero same seven =
    let low : y % 128 ≡ y = ap (λ ys. get_or ys 0 0) seven in
    elim (cases_lt x 128) as (λ _. nat_le 128 (128 * (x / 128) + y) ≡ nat_le 128 x) [
      | inl small ↦ lt-leb 128 (128 * (x / 128) + y) (omega arith) ∙ sym (lt-leb 128 x small)
      | inr large ↦ le-leb 128 (128 * (x / 128) + y) (omega arith) ∙ sym (le-leb 128 x large)
    ]

-- a search in changed entries finds the changed form of what another search found before
pub find_changed : (p q : Entry → Bool) (f : Entry → Entry) (xs : List Entry) → ((j : ℕ) → j < length xs → p (f (at xs j)) ≡ q (at xs j)) → find p (map f xs) ≡ option_map f (find q xs)
find_changed p q f [] same = refl
find_changed p q f (x ∷ xs) same =
    let rest = find_changed p q f xs (λ j low. same (suc j) (omega arith)) in
    elim (cases_Bool (q x)) as (λ _. find p (map f (x ∷ xs)) ≡ option_map f (find q (x ∷ xs))) [
      | inl passes ↦ ap (λ b. if b then Some (f x) else find p (map f xs)) (same 0 (omega arith) ∙ passes) ∙ sym (ap (λ b. option_map f (if b then Some x else find q xs)) passes)
      | inr fails ↦ ap (λ b. if b then Some (f x) else find p (map f xs)) (same 0 (omega arith) ∙ fails) ∙ rest ∙ sym (ap (λ b. option_map f (if b then Some x else find q xs)) fails)
    ]

pub any_changed : (p q : Entry → Bool) (f : Entry → Entry) (xs : List Entry) → ((j : ℕ) → j < length xs → p (f (at xs j)) ≡ q (at xs j)) → list_any p (map f xs) ≡ list_any q xs
any_changed p q f [] same = refl
any_changed p q f (x ∷ xs) same = ap (λ b. b || list_any p (map f xs)) (same 0 (omega arith)) ∙ ap (λ b. q x || b) (any_changed p q f xs (λ j low. same (suc j) (omega arith)))

-- a test of a renamed entry by the new name has the same result as one of the entry by the old name
renamed_test : (user : ℕ) (from to : List ℕ) (q r : Entry → Bool) (e : Entry) → length from ≡ length to → letters to ≡ to → is_of user to e ≡ false → (length e.name ≡ length to → r (renamed to e) ≡ q e)
    → (is_of user to (renamed_by user from to e) && r (renamed_by user from to e)) ≡ (is_of user from e && q e)
renamed_test user from to q r e long seven not_to kept = elim (cases_Bool (is_of user from e)) as (λ _. (is_of user to (renamed_by user from to e) && r (renamed_by user from to e)) ≡ (is_of user from e && q e)) [
  | inl of ↦ (
      let same_length = length_of_name user from e of ∙ long in
      let now : is_of user to (renamed to e) ≡ true = is_of_file user to (renamed to e) (of_file user from e of).0 (letters_with e.name to same_length seven) in
      ap (λ x. is_of user to x && r x) (ap (λ b. if b then renamed to e else e) of) ∙ ap (λ b. b && r (renamed to e)) now ∙ kept same_length ∙ sym (ap (λ b. b && q e) of))
  | inr not_from ↦ ap (λ x. is_of user to x && r x) (ap (λ b. if b then renamed to e else e) not_from) ∙ ap (λ b. b && r e) not_to ∙ sym (ap (λ b. b && q e) not_from)
]

-- a block number of an entry other than 0 is that of a block for files
pub range_of : (kind : DiskKind) (entries : List Entry) (k : ℕ) (e : Entry) → IsSound kind entries → e ≡ at entries k → e.user < USERS → (group : ℕ) → (block kind e group ≡ 0 → ⊥) → (first_block kind ≤ block kind e group) × (block kind e group < block_count kind)
range_of kind entries k e sound is_at low group some =
    let ext = subst (λ x. is_extent x ≡ true) is_at (below_extent e low) in
    elim (subst (λ x. IsBlock kind (block kind x group)) (sym is_at) (sound.blocks k ext group)) as (λ _. (first_block kind ≤ block kind e group) × (block kind e group < block_count kind)) [ inl none ↦ absurd (some none) | inr files ↦ files ]

pub moved_file : (kind : DiskKind) (old new : Image) (user : ℕ) (from to : List ℕ) → user < USERS → length from ≡ length to → letters to ≡ to → (from ≡ to → ⊥) → IsSound kind (directory kind old) → is_file user to (directory kind old) ≡ false → directory kind new ≡ after_renaming user from to (directory kind old) → SameBut kind (IsOfDirectory kind) old new → IsMoved kind old new user from to
moved_file kind old new user from to low long seven apart sound none is rest = record {
  counts = λ number. ap (option_map (λ e. e.records)) (found number) ∙ same_count (find (is_extent_of user from number) (directory kind old));
  records = λ number i below. ap (option_and_then (in_block kind new i)) (found number) ∙ same_bytes number i below (find (is_extent_of user from number) (directory kind old)) refl;
  read_only = ap (list_any (λ e. is_of user to e && is_read_only e)) is ∙ any_changed (λ e. is_of user to e && is_read_only e) (λ e. is_of user from e && is_read_only e) (renamed_by user from to) (directory kind old)
      (λ j _. renamed_test user from to is_read_only is_read_only (at (directory kind old) j) long seven (not_to j) (λ same. high_bit (at (directory kind old) j).name to 8 same seven));
  system = ap (list_any (λ e. is_of user to e && is_system e)) is ∙ any_changed (λ e. is_of user to e && is_system e) (λ e. is_of user from e && is_system e) (renamed_by user from to) (directory kind old)
      (λ j _. renamed_test user from to is_system is_system (at (directory kind old) j) long seven (not_to j) (λ same. high_bit (at (directory kind old) j).name to 9 same seven));
  gone = λ number. find_none (is_extent_of user from number) (directory kind new) (λ j _. ap (λ b. b && (extent_number (at (directory kind new) j) == number)) (subst (λ x. is_of user from x ≡ false) (sym (ap (λ es. at es j) is ∙ at_renaming user from to (directory kind old) j low)) (not_from (at (directory kind old) j))));
}
  where
    not_to : (j : ℕ) → is_of user to (at (directory kind old) j) ≡ false
    not_to j = none_at (is_of user to) (directory kind old) j (blank_is_not_of user to low) none

    found : (number : ℕ) → find (is_extent_of user to number) (directory kind new) ≡ option_map (renamed_by user from to) (find (is_extent_of user from number) (directory kind old))
    found number = ap (find (is_extent_of user to number)) is ∙ find_changed (is_extent_of user to number) (is_extent_of user from number) (renamed_by user from to) (directory kind old)
        (λ j _. renamed_test user from to (λ e. extent_number e == number) (λ e. extent_number e == number) (at (directory kind old) j) long seven (not_to j) (λ _. refl))

    kept_records : (e : Entry) → (renamed_by user from to e).records ≡ e.records
    kept_records e = elim (cases_Bool (is_of user from e)) as (λ _. (renamed_by user from to e).records ≡ e.records) [
      | inl of ↦ ap (λ b. (if b then renamed to e else e).records) of
      | inr not_of ↦ ap (λ b. (if b then renamed to e else e).records) not_of
    ]

    kept_blocks : (e : Entry) → (renamed_by user from to e).blocks ≡ e.blocks
    kept_blocks e = elim (cases_Bool (is_of user from e)) as (λ _. (renamed_by user from to e).blocks ≡ e.blocks) [
      | inl of ↦ ap (λ b. (if b then renamed to e else e).blocks) of
      | inr not_of ↦ ap (λ b. (if b then renamed to e else e).blocks) not_of
    ]

    same_count : (o : Option Entry) → option_map (λ e. e.records) (option_map (renamed_by user from to) o) ≡ option_map (λ e. e.records) o
    same_count None = refl
    same_count (Some e) = ap (λ n. Some n) (kept_records e)

    stored_by : Image → List ℕ → ℕ → Option (List ℕ)
    stored_by image blocks i = if slice_index (block_numbers kind blocks) (i / block_records kind) == 0 then None else Some (disk_record kind image (place_in_block kind (slice_index (block_numbers kind blocks) (i / block_records kind)) i))

    same_bytes : (number i : ℕ) → i < 128 → (o : Option Entry) → find (is_extent_of user from number) (directory kind old) ≡ o → option_and_then (in_block kind new i) (option_map (renamed_by user from to) o) ≡ option_and_then (in_block kind old i) o
    same_bytes number i below None is_none = refl
    same_bytes number i below (Some e) is_e = ap (λ blocks. stored_by new blocks i) (kept_blocks e) ∙ same_stored kind old new e i (λ some.
        let (k, below_k, is_at, passes) = found_at (is_extent_of user from number) (directory kind old) e is_e in
        let user_is = (of_file user from e (and_parts (is_of user from e) (extent_number e == number) passes).0).0 in
        let range = range_of kind (directory kind old) k e sound is_at (omega arith) (i / block_records kind) some in
        let within = place_within kind (block kind e (i / block_records kind)) i range.0 range.1 in
        rest.records (place_on_disk kind e i) within.1 (outside_directory kind (place_on_disk kind e i) within.0))

    not_from : (e : Entry) → is_of user from (renamed_by user from to e) ≡ false
    not_from e = elim (cases_Bool (is_of user from e)) as (λ _. is_of user from (renamed_by user from to e) ≡ false) [
      | inl of ↦ subst (λ x. is_of user from x ≡ false) (sym (ap (λ b. if b then renamed to e else e) of))
          (apart_from user to user from (renamed to e) (is_of_file user to (renamed to e) (of_file user from e of).0 (letters_with e.name to (length_of_name user from e of ∙ long) seven)) (λ _ same. apart same))
      | inr not_of ↦ subst (λ x. is_of user from x ≡ false) (sym (ap (λ b. if b then renamed to e else e) not_of)) not_of
    ]

-- a call that created a file
pub made_file : (kind : DiskKind) (old new : Image) (user : ℕ) (name : List ℕ) (put : ℕ × Entry) → user < USERS → letters name ≡ name → IsGoodPut kind (directory kind old) put → creation user name (directory kind old) ≡ Ok put → Changed kind old new (slice_set (directory kind old) put.0 put.1) → IsNewFile kind new user name
made_file kind old new user name put low seven is_put asked made =
    let (none, is_1) = unless_ok (is_file user name (directory kind old)) fault.Exists (some_or (free_entry (directory kind old)) fault.DirectoryFull >>= λ k. Ok (k, new_extent user name 0)) put asked in
    new_file kind new (directory kind old) user name put.0 low seven is_put.within none (made.entries_are ∙ ap (slice_set (directory kind old) put.0) (created_entry user name (directory kind old) put asked))
    (is_put.sound (directory kind new) (λ k. inr (ap (λ es. at es k) made.entries_are)))

-- a call that renamed a file
pub renamed_file : (kind : DiskKind) (old new : Image) (user : ℕ) (from to : List ℕ) → user < USERS → length from ≡ length to → letters to ≡ to → IsSound kind (directory kind old) → renaming user from to (directory kind old) ≡ Ok tt → Changed kind old new (after_renaming user from to (directory kind old)) → IsMoved kind old new user from to
renamed_file kind old new user from to low long seven sound asked made =
    let (there, is_1) = unless_ok (not (is_file user from (directory kind old))) fault.NotFound (unless (is_file user to (directory kind old)) fault.Exists (unless (file_is_read_only user from (directory kind old)) fault.ReadOnly (Ok tt))) tt asked in
    let (none, is_2) = unless_ok (is_file user to (directory kind old)) fault.Exists (unless (file_is_read_only user from (directory kind old)) fault.ReadOnly (Ok tt)) tt is_1 in
    let present = not-false (is_file user from (directory kind old)) there in
    moved_file kind old new user from to low long seven (λ same. true≢false (sym present ∙ ap (λ n. is_file user n (directory kind old)) same ∙ none)) sound none made.entries_are made.rest
