-- Files that a call does not name are as before.
use Rattle.std.proofs.Common.{◌≡◌, ◌<◌, ◌%◌, ◌==◌, ℕ, true, false, ◌&&◌, ◌||◌, List, [], ◌∷◌, Some, None, find, get_or, length, option_and_then, option_map, refl, sym, ap, ap₂, subst, ◌∙◌, true≢false, inl, inr, arith, if◌then◌else◌, eqb-true, eq-eqb}
use Rattle.std.specs.List.{list_any}
use Rattle.std.proofs.lemmas.Bool.{and_from, and_parts, cases_Bool, cases_eq, false_from_ne_true, or_cases, or_left, or_parts, or_right}
use Rattle.std.proofs.lemmas.List.{get_or_default, length-map}
use Rattle.std.proofs.lemmas.List.Folds.{list_any_none}
use Rattle.cpm_image.specs.Kind.{entry_count}
use Rattle.cpm_image.specs.declared.kind.DiskKind.{DiskKind}
use Rattle.cpm_image.proofs.EntryBytes.{letters-letters}
use Rattle.cpm_image.specs.declared.directory.entry.Entry.{Entry}
use Rattle.cpm_image.specs.Directory.Entries.{at, blank, extent_number, is_extent_of, is_match, is_of, is_read_only, is_system}
use Rattle.cpm_image.specs.Directory.Letters.{byte_matches, letters, name_matches}
use Rattle.cpm_image.specs.Directory.Searches.{is_file}
use Rattle.cpm_disk.proofs.Entries.{of_file}
use Rattle.cpm_disk.proofs.Attributes.{none_with}
use Rattle.cpm_disk.proofs.Places.{length_directory}
use Rattle.cpm_disk.specs.Files.{IsFile, IsMatched, IsNoFile, OthersAreSame, SameFile, in_block}
use Rattle.cpm_disk.specs.Image.{Image, directory}
use Rattle.z80dev_disk.specs.Private.{HaveNames}
use Rattle.z80dev_disk.specs.Words.{is_wild}

-- two changes, one after the other, that leave all files but the same ones as before
pub both : (kind : DiskKind) (first second third : Image) (named : ℕ → List ℕ → Type 0) → OthersAreSame kind first second named → OthersAreSame kind second third named → OthersAreSame kind first third named
both kind first second third named one two user name low apart =
    let a = one user name low apart in
    let b = two user name low apart in
    record {
      counts = λ n. b.counts n ∙ a.counts n;
      records = λ n i within. b.records n i within ∙ a.records n i within;
      read_only = b.read_only ∙ a.read_only;
      system = b.system ∙ a.system;
    }

-- no change leaves every file as before
pub neither : (kind : DiskKind) (image : Image) (named : ℕ → List ℕ → Type 0) → OthersAreSame kind image image named
neither kind image named user name low apart = record { counts = λ n. refl; records = λ n i within. refl; read_only = refl; system = refl }

-- ---- no file

-- a user has no file of a name if none of its extents has an entry
pub no_file : (user : ℕ) (name : List ℕ) (entries : List Entry) → ((number : ℕ) → find (is_extent_of user name number) entries ≡ None) → is_file user name entries ≡ false
no_file user name [] none = refl
no_file user name (x ∷ xs) none = elim (cases_Bool (is_of user name x)) as (λ _. is_file user name (x ∷ xs) ≡ false) [
  | inl is ↦ (
      let passes : is_extent_of user name (extent_number x) x ≡ true = ap₂ (λ a b. a && b) is (eq-eqb (extent_number x) (extent_number x) refl) in
      let found : Some x ≡ None = sym (ap (λ b. if b then Some x else find (is_extent_of user name (extent_number x)) xs) passes) ∙ none (extent_number x) in
      absurd cc)
  | inr other ↦ (
      let rest = no_file user name xs (λ number. sym (ap (λ b. if b && (extent_number x == number) then Some x else find (is_extent_of user name number) xs) other) ∙ none number) in
      ap (λ b. b || is_file user name xs) other ∙ rest)
]

-- if the user has no file of a name, no extent of it has an entry
pub no_extent : (user : ℕ) (name : List ℕ) (number : ℕ) (entries : List Entry) → is_file user name entries ≡ false → find (is_extent_of user name number) entries ≡ None
no_extent user name number [] none = refl
no_extent user name number (x ∷ xs) none =
    let (other, rest) = or_parts (is_of user name x) (is_file user name xs) none in
    ap (λ b. if b && (extent_number x == number) then Some x else find (is_extent_of user name number) xs) other ∙ no_extent user name number xs rest

-- a file that is neither on the old disk nor on the new one is as before
none_same : (kind : DiskKind) (old new : Image) (user : ℕ) (name : List ℕ) → is_file user name (directory kind old) ≡ false → is_file user name (directory kind new) ≡ false → SameFile kind old new user name
none_same kind old new user name before after = record {
  counts = λ n. ap (option_map (λ e. e.records)) (no_extent user name n (directory kind new) after ∙ sym (no_extent user name n (directory kind old) before));
  records = λ n i within. ap (option_and_then (in_block kind new i)) (no_extent user name n (directory kind new) after) ∙ sym (ap (option_and_then (in_block kind old i)) (no_extent user name n (directory kind old) before));
  read_only = none_with (is_of user name) is_read_only (directory kind new) after ∙ sym (none_with (is_of user name) is_read_only (directory kind old) before);
  system = none_with (is_of user name) is_system (directory kind new) after ∙ sym (none_with (is_of user name) is_system (directory kind old) before);
}

-- ---- a name as a pattern

-- a byte other than `?` matches only itself
same_byte : (p b : ℕ) → (p == 0x3F) ≡ false → p % 128 ≡ p → b % 128 ≡ b → byte_matches p b ≡ true → p ≡ b
same_byte p b plain low low_too matches = elim (or_cases (p == 0x3F) (p % 128 == b % 128) matches) as (λ _. p ≡ b) [
  | inl wild ↦ absurd (true≢false (sym wild ∙ plain))
  | inr same ↦ sym low ∙ eqb-true (p % 128) (b % 128) same ∙ low_too
]

-- a name without `?` matches only itself
pub same_name : (name other : List ℕ) → is_wild name ≡ false → letters name ≡ name → letters other ≡ other → length name ≡ length other → name_matches name other ≡ true → name ≡ other
same_name [] [] plain low low_too long matches = refl
same_name [] (b ∷ other) plain low low_too long matches = absurd (omega (arith, long))
same_name (a ∷ name) [] plain low low_too long matches = absurd (omega (arith, long))
same_name (a ∷ name) (b ∷ other) plain low low_too long matches =
    let (first, rest) = or_parts (a == 0x3F) (is_wild name) plain in
    let (here, there) = and_parts (byte_matches a b) (name_matches name other) matches in
    let a_low : a % 128 ≡ a = cc in
    let b_low : b % 128 ≡ b = cc in
    let name_low : letters name ≡ name = cc in
    let other_low : letters other ≡ other = cc in
    ap₂ (λ x xs. x ∷ xs) (same_byte a b first a_low b_low here) (same_name name other rest name_low other_low (omega (arith, long)) there)

-- each name matches itself
pub itself_matches : (name : List ℕ) → name_matches name name ≡ true
itself_matches [] = refl
itself_matches (b ∷ name) = and_from (byte_matches b b) (name_matches name name) (or_right (b == 0x3F) (b % 128 == b % 128) (eq-eqb (b % 128) (b % 128) refl)) (itself_matches name)

letters_match : (name : List ℕ) → name_matches (letters name) name ≡ true
letters_match [] = refl
letters_match (b ∷ name) =
    let low : b % 128 % 128 ≡ b % 128 = omega arith in
    and_from (byte_matches (b % 128) b) (name_matches (letters name) name) (or_right (b % 128 == 0x3F) (b % 128 % 128 == b % 128) (eq-eqb (b % 128 % 128) (b % 128) low)) (letters_match name)

-- So the name of a file matches an entry of it.
pub file_matches : (user : ℕ) (name : List ℕ) (entries : List Entry) → is_file user name entries ≡ true → list_any (is_match user name) entries ≡ true
file_matches user name [] some = absurd (true≢false (sym some))
file_matches user name (x ∷ xs) some = elim (or_cases (is_of user name x) (is_file user name xs) some) as (λ _. list_any (is_match user name) (x ∷ xs) ≡ true) [
  | inl of ↦ (
      let (user_is, name_is) = of_file user name x of in
      let named : name_matches name x.name ≡ true = ap (λ n. name_matches n x.name) (sym name_is) ∙ letters_match x.name in
      or_left (is_match user name x) (list_any (is_match user name) xs) (and_from (x.user == user) (name_matches name x.name) (eq-eqb x.user user user_is) named))
  | inr later ↦ or_right (is_match user name x) (list_any (is_match user name) xs) (file_matches user name xs later)
]

-- The user has no file of another name that this name matches as a pattern.
not_there : (kind : DiskKind) (image : Image) (user : ℕ) (name other : List ℕ) → is_wild name ≡ false → letters name ≡ name → length name ≡ 11 → HaveNames kind image
    → name_matches name other ≡ true → (other ≡ name → ⊥) → is_file user other (directory kind image) ≡ false
not_there kind image user name other plain low long named matches apart = list_any_none (is_of user other) (directory kind image) (λ k d below.
    false_from_ne_true (is_of user other (get_or (directory kind image) k d)) (λ is.
    let within : k < entry_count kind = omega (arith, below, length_directory kind image) in
    let here : get_or (directory kind image) k d ≡ at (directory kind image) k = get_or_default (directory kind image) k d blank below in
    let of : is_of user other (at (directory kind image) k) ≡ true = subst (λ e. is_of user other e ≡ true) here is in
    let name_is : letters (at (directory kind image) k).name ≡ other = (of_file user other (at (directory kind image) k) of).1 in
    let other_low : letters other ≡ other = sym (ap letters name_is) ∙ letters-letters (at (directory kind image) k).name ∙ name_is in
    let other_long : length other ≡ 11 = sym (ap length name_is) ∙ length-map (at (directory kind image) k).name (λ b. b % 128) ∙ named k within in
    apart (sym (same_name name other plain low other_low (long ∙ sym other_long) matches))))

-- Erasing with a name without `?` as the pattern leaves every other file as it was.
pub erased_alone : (kind : DiskKind) (old new : Image) (user : ℕ) (name : List ℕ) → is_wild name ≡ false → letters name ≡ name → length name ≡ 11 → HaveNames kind old
    → ((other : List ℕ) → name_matches name other ≡ true → IsNoFile kind new user other) → OthersAreSame kind old new (IsMatched user name) → OthersAreSame kind old new (IsFile user name)
erased_alone kind old new user name plain low long named gone others other_user other low_user apart = elim (cases_Bool (name_matches name other)) as (λ _. SameFile kind old new other_user other) [
  | inr differs ↦ others other_user other low_user (λ (_, matches). true≢false (sym matches ∙ differs))
  | inl matches ↦ elim (cases_eq other_user user) as (λ _. SameFile kind old new other_user other) [
    | inr not_his ↦ others other_user other low_user (λ (same, _). not_his same)
    | inl his ↦ none_same kind old new other_user other
        (not_there kind old other_user name other plain low long named matches (λ same. apart (his, same)))
        (subst (λ u. is_file u other (directory kind new) ≡ false) (sym his) (no_file user other (directory kind new) (gone other matches)))
  ]
]
