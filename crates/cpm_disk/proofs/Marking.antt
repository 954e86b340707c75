-- Files whose entries have an attribute set or cleared.
use Rattle.std.proofs.Common.{◌≡◌, ◌<◌, ◌/◌, ◌==◌, ℕ, Bool, true, false, ◌&&◌, ◌||◌, All, List, [], ◌∷◌, bytes_eq, length, find, nat_eq, nat_le, slice_index, get_or-set_other, Option, Some, None, option_map, option_and_then, refl, sym, ap, ◌∙◌, inl, inr, arith, if◌then◌else◌, eqb-true, eq-eqb}
use Rattle.std.proofs.lemmas.Bool.{and_from, and_parts, cases_Bool}
use Rattle.std.specs.List.{list_any}
use Rattle.cpm_image.specs.Kind.{block_records}
use Rattle.cpm_image.specs.declared.kind.DiskKind.{DiskKind}
use Rattle.cpm_image.specs.declared.directory.attribute.Attribute.{Attribute}
use Rattle.cpm_image.specs.declared.directory.attribute.Attribute.TheVariants.{ReadOnly, System}
use Rattle.cpm_image.specs.declared.directory.entry.TheConstants.{USERS}
use Rattle.cpm_image.specs.declared.directory.entry.Entry.{Entry}
use Rattle.cpm_image.specs.Directory.Entries.{at, blank, block, block_numbers, extent_number, is_extent_of, is_match, is_of, is_read_only, is_system, marked, place_in_block, place_on_disk}
use Rattle.cpm_image.specs.Directory.Letters.{letters, name_matches}
use Rattle.cpm_image.specs.Directory.Rules.{IsSound}
use Rattle.cpm_disk.proofs.Entries.{found_at, of_file}
use Rattle.cpm_disk.proofs.HighBits.{high_set}
use Rattle.cpm_disk.proofs.Kept.{IsSameButHigh, at_marking, same_but_high}
use Rattle.cpm_disk.proofs.RecordPlaces.{place_within}
use Rattle.cpm_disk.specs.Steps.{after_marking, marked_by}
use Rattle.cpm_disk.specs.Calls.{Changed, PartlyChanged}
use Rattle.cpm_disk.specs.Files.{IsMarkedFile, IsMatched, OthersAreSame, file_has, in_block, other_attribute}
use Rattle.cpm_disk.specs.Image.{Image, directory, disk_record}
use Rattle.cpm_disk.proofs.Files.{Alike, same_stored}
use Rattle.cpm_disk.proofs.Maps.{any_changed, find_changed, range_of}
use Rattle.cpm_disk.proofs.Numbers.{outside_directory}
use Rattle.cpm_disk.proofs.Others.{beside, matches_letters}

-- an entry belongs to the same file after the change
same_file_of : (user : ℕ) (name : List ℕ) (e m : Entry) → IsSameButHigh e m → is_of user name m ≡ is_of user name e
same_file_of user name e m same = ap (λ u. (u == user) && bytes_eq (letters m.name) name) (ap (λ x. x.user) same.rest) ∙ ap (λ ls. (e.user == user) && bytes_eq ls name) same.name

-- an entry matches a pattern if it belongs to a file whose name does
is_matched : (user : ℕ) (pattern name : List ℕ) (e : Entry) → name_matches pattern name ≡ true → is_of user name e ≡ true → is_match user pattern e ≡ true
is_matched user pattern name e matches of =
    let one = of_file user name e of in
    and_from (nat_eq e.user user) (name_matches pattern e.name) (eq-eqb e.user user one.0) (sym (matches_letters pattern e.name) ∙ ap (name_matches pattern) one.1 ∙ matches)

-- an entry of another file is not changed
marked_alike : (entries : List Entry) (user : ℕ) (pattern : List ℕ) (attribute : Attribute) (on : Bool) (other : ℕ) (others : List ℕ) → user < USERS → ((other ≡ user) → (name_matches pattern others ≡ true) → ⊥) → (k : ℕ) → Alike (is_of other others) (at entries k) (at (after_marking user pattern attribute on entries) k)
marked_alike entries user pattern attribute on other others low apart k =
    let after : at (after_marking user pattern attribute on entries) k ≡ marked_by user pattern attribute on (at entries k) = at_marking user pattern attribute on entries k low in
    elim (cases_Bool (is_match user pattern (at entries k))) as (λ _. Alike (is_of other others) (at entries k) (at (after_marking user pattern attribute on entries) k)) [
      | inl matches ↦ (
          let parts = and_parts (nat_eq (at entries k).user user) (name_matches pattern (at entries k).name) matches in
          let before : is_of other others (at entries k) ≡ false = elim (cases_Bool (is_of other others (at entries k))) as (λ _. is_of other others (at entries k) ≡ false) [
            | inl of ↦ (let two = of_file other others (at entries k) of in
                absurd (apart (sym two.0 ∙ eqb-true (at entries k).user user parts.0) (ap (name_matches pattern) (sym two.1) ∙ matches_letters pattern (at entries k).name ∙ parts.1)))
            | inr not_of ↦ not_of
          ] in
          inr (before, ap (is_of other others) after ∙ same_file_of other others (at entries k) (marked_by user pattern attribute on (at entries k)) (same_but_high user pattern attribute on (at entries k)) ∙ before))
      | inr kept ↦ inl (after ∙ ap (λ b. if b then marked attribute on (at entries k) else at entries k) kept)
    ]

pub mark_others : (kind : DiskKind) (old new : Image) (user : ℕ) (pattern : List ℕ) (attribute : Attribute) (on : Bool) → user < USERS → IsSound kind (directory kind old) → PartlyChanged kind old new (after_marking user pattern attribute on (directory kind old)) → OthersAreSame kind old new (IsMatched user pattern)
mark_others kind old new user pattern attribute on low_user sound left other others low apart =
    beside kind old new (after_marking user pattern attribute on (directory kind old)) other others low sound left (λ k _. marked_alike (directory kind old) user pattern attribute on other others low_user (λ same_user matches. apart (same_user, matches)) k)

-- an attribute of an entry
abbrev has : Attribute → Entry → Bool
has ReadOnly e = is_read_only e
has System e = is_system e

abbrev any_has : Attribute → ℕ → List ℕ → List Entry → Bool
any_has attribute user name entries = list_any (λ e. is_of user name e && has attribute e) entries

file_has_is : (attribute : Attribute) (kind : DiskKind) (image : Image) (user : ℕ) (name : List ℕ) → file_has attribute kind image user name ≡ any_has attribute user name (directory kind image)
file_has_is ReadOnly kind image user name = refl
file_has_is System kind image user name = refl

has_marked : (attribute : Attribute) (on : Bool) (e : Entry) → length e.name ≡ 11 → has attribute (marked attribute on e) ≡ on
has_marked ReadOnly on e long = high_set e.name 8 on (omega arith)
has_marked System on e long = high_set e.name 9 on (omega arith)

has_other : (attribute : Attribute) (on : Bool) (e : Entry) → has (other_attribute attribute) (marked attribute on e) ≡ has (other_attribute attribute) e
has_other ReadOnly on e = ap (nat_le 128) (get_or-set_other e.name 8 9 _ 0 (λ same. omega arith))
has_other System on e = ap (nat_le 128) (get_or-set_other e.name 9 8 _ 0 (λ same. omega arith))

has_other_by : (user : ℕ) (pattern : List ℕ) (attribute : Attribute) (on : Bool) (e : Entry) → has (other_attribute attribute) (marked_by user pattern attribute on e) ≡ has (other_attribute attribute) e
has_other_by user pattern attribute on e = elim (cases_Bool (is_match user pattern e)) as (λ _. has (other_attribute attribute) (marked_by user pattern attribute on e) ≡ has (other_attribute attribute) e) [
  | inl matches ↦ ap (λ b. has (other_attribute attribute) (if b then marked attribute on e else e)) matches ∙ has_other attribute on e
  | inr kept ↦ ap (λ b. has (other_attribute attribute) (if b then marked attribute on e else e)) kept
]

-- each entry of the file has the attribute that was asked for
as_asked : (user : ℕ) (pattern name : List ℕ) (attribute : Attribute) (on : Bool) (e : Entry) → name_matches pattern name ≡ true → length e.name ≡ 11
    → (is_of user name (marked_by user pattern attribute on e) && has attribute (marked_by user pattern attribute on e)) ≡ (is_of user name e && on)
as_asked user pattern name attribute on e matches long =
    ap (λ b. b && has attribute (marked_by user pattern attribute on e)) (same_file_of user name e (marked_by user pattern attribute on e) (same_but_high user pattern attribute on e))
    ∙ elim (cases_Bool (is_of user name e)) as (λ _. (is_of user name e && has attribute (marked_by user pattern attribute on e)) ≡ (is_of user name e && on)) [
      | inl of ↦ ap (λ b. is_of user name e && b) (ap (λ b. has attribute (if b then marked attribute on e else e)) (is_matched user pattern name e matches of) ∙ has_marked attribute on e long)
      | inr not_of ↦ ap (λ b. b && has attribute (marked_by user pattern attribute on e)) not_of ∙ sym (ap (λ b. b && on) not_of)
    ]

both_or : (a b on : Bool) → ((a && on) || (b && on)) ≡ ((a || b) && on)
both_or true true true = refl
both_or true true false = refl
both_or true false true = refl
both_or true false false = refl
both_or false b on = refl

any_and : (p : Entry → Bool) (on : Bool) (xs : List Entry) → list_any (λ e. p e && on) xs ≡ (list_any p xs && on)
any_and p on [] = refl
any_and p on (x ∷ xs) = ap (λ b. (p x && on) || b) (any_and p on xs) ∙ both_or (p x) (list_any p xs) on

pub marked_file : (kind : DiskKind) (old new : Image) (user : ℕ) (pattern : List ℕ) (attribute : Attribute) (on : Bool) (name : List ℕ) → user < USERS → name_matches pattern name ≡ true → IsSound kind (directory kind old) → All (λ e. length e.name ≡ 11) (directory kind old)
    → Changed kind old new (after_marking user pattern attribute on (directory kind old)) → IsMarkedFile kind old new user name attribute on
marked_file kind old new user pattern attribute on name low matches sound long made = record {
  counts = λ number. ap (option_map (λ e. e.records)) (found number) ∙ same_count (find (is_extent_of user name number) (directory kind old));
  records = λ number i below. ap (option_and_then (in_block kind new i)) (found number) ∙ same_bytes number i below (find (is_extent_of user name number) (directory kind old)) refl;
  marked = λ there. file_has_is attribute kind new user name ∙ ap (any_has attribute user name) made.entries_are
      ∙ any_changed (λ e. is_of user name e && has attribute e) (λ e. is_of user name e && on) by (directory kind old) (λ j below. as_asked user pattern name attribute on (at (directory kind old) j) matches (long j blank below))
      ∙ any_and (is_of user name) on (directory kind old) ∙ ap (λ b. b && on) there;
  other = file_has_is (other_attribute attribute) kind new user name ∙ ap (any_has (other_attribute attribute) user name) made.entries_are
      ∙ any_changed (λ e. is_of user name e && has (other_attribute attribute) e) (λ e. is_of user name e && has (other_attribute attribute) e) by (directory kind old) (λ j _.
      ap (λ b. b && has (other_attribute attribute) (by (at (directory kind old) j))) (same_file_of user name (at (directory kind old) j) (by (at (directory kind old) j)) (same (at (directory kind old) j)))
      ∙ ap (λ b. is_of user name (at (directory kind old) j) && b) (has_other_by user pattern attribute on (at (directory kind old) j)))
      ∙ sym (file_has_is (other_attribute attribute) kind old user name);
}
  where
    by : Entry → Entry
    by e = marked_by user pattern attribute on e

    same : (e : Entry) → IsSameButHigh e (marked_by user pattern attribute on e)
    same e = same_but_high user pattern attribute on e

    found : (number : ℕ) → find (is_extent_of user name number) (directory kind new) ≡ option_map (marked_by user pattern attribute on) (find (is_extent_of user name number) (directory kind old))
    found number = ap (find (is_extent_of user name number)) made.entries_are ∙ find_changed (is_extent_of user name number) (is_extent_of user name number) (marked_by user pattern attribute on) (directory kind old)
        (λ j _. (let e = at (directory kind old) j in
        ap (λ b. b && (extent_number (marked_by user pattern attribute on e) == number)) (same_file_of user name e (marked_by user pattern attribute on e) (same e)) ∙ ap (λ n. is_of user name e && (n == number)) (ap extent_number (same e).rest)))

    same_count : (o : Option Entry) → option_map (λ e. e.records) (option_map (marked_by user pattern attribute on) o) ≡ option_map (λ e. e.records) o
    same_count None = refl
    same_count (Some e) = ap (λ n. Some n) (ap (λ x. x.records) (same e).rest)

    stored_by : Image → List ℕ → ℕ → Option (List ℕ)
    stored_by image blocks i = if slice_index (block_numbers kind blocks) (i / block_records kind) == 0 then None else Some (disk_record kind image (place_in_block kind (slice_index (block_numbers kind blocks) (i / block_records kind)) i))

    same_bytes : (number i : ℕ) → i < 128 → (o : Option Entry) → find (is_extent_of user name number) (directory kind old) ≡ o → option_and_then (in_block kind new i) (option_map (marked_by user pattern attribute on) o) ≡ option_and_then (in_block kind old i) o
    same_bytes number i below None is_none = refl
    same_bytes number i below (Some e) is_e = ap (λ blocks. stored_by new blocks i) (ap (λ x. x.blocks) (same e).rest) ∙ same_stored kind old new e i (λ some.
        let (k, below_k, is_at, passes) = found_at (is_extent_of user name number) (directory kind old) e is_e in
        let user_is = (of_file user name e (and_parts (is_of user name e) (extent_number e == number) passes).0).0 in
        let range = range_of kind (directory kind old) k e sound is_at (omega arith) (i / block_records kind) some in
        let within = place_within kind (block kind e (i / block_records kind)) i range.0 range.1 in
        made.rest.records (place_on_disk kind e i) within.1 (outside_directory kind (place_on_disk kind e i) within.0))
