-- Each operation keeps the rules of a directory, even if a failing device stops it.
use Rattle.std.proofs.Common.{◌≡◌, ◌≢◌, ◌⊎◌, ◌<◌, ◌*◌, ◌%◌, ℕ, Bool, true, false, List, [], length, refl, sym, ap, subst, ◌∙◌, inl, inr, arith, slice_set, get_or-set_same, get_or-set_other, Some, true≢false, if◌then◌else◌}
use Rattle.std.proofs.lemmas.Bool.{cases_Bool, cases_eq}
use Rattle.std.proofs.lemmas.List.Quantifiers.{position-Some}
use Rattle.std.proofs.lemmas.List.{length-map}
use Rattle.cpm_image.specs.declared.directory.attribute.Attribute.{Attribute}
use Rattle.cpm_image.specs.declared.directory.entry.TheConstants.{USERS}
use Rattle.cpm_image.specs.Kind.{file_records}
use Rattle.cpm_image.specs.declared.kind.DiskKind.{DiskKind}
use Rattle.cpm_image.specs.declared.kind.DiskKind.TheVariants.{EightInch, Megabyte}
use Rattle.cpm_image.proofs.Words.{new_block}
use Rattle.cpm_image.specs.declared.directory.entry.Entry.{Entry}
use Rattle.cpm_image.specs.Directory.Entries.{at, blank, block, erased, extent_number, is_extent, is_free, is_match, is_of, new_extent, renamed}
use Rattle.cpm_image.specs.Directory.Letters.{letters}
use Rattle.cpm_image.specs.Directory.Rules.{AreBlocks, AreSameExtent, IsGood, IsSound}
use Rattle.cpm_image.specs.Directory.Searches.{free_entry, is_file}
use Rattle.cpm_disk.specs.Kept.{IsBetween, StaysSound}
use Rattle.cpm_disk.specs.Steps.{after_erasure, after_marking, after_renaming, erased_by, marked_by, renamed_by}
use Rattle.cpm_disk.proofs.Entries.{at_map, blank_is_not_of, is_of_file, letters_with, none_at, of_file, blank_is_no_match}
use Rattle.cpm_disk.proofs.HighBits.{letters_marked}
use Rattle.cpm_disk.proofs.Sound.{FitsAt, Stands, fewer, one_more}

-- what a failing device leaves if one entry was to be written
pub put : (before mixed : List Entry) (number : ℕ) (e : Entry) → number < length before → IsBetween before (slice_set before number e) mixed → (k : ℕ) → Stands before number e mixed k
put before mixed number e below between k = elim (between k) as (λ _. Stands before number e mixed k) [
  | inl same ↦ inl same
  | inr after ↦ elim (cases_eq k number) as (λ _. Stands before number e mixed k) [
    | inl here ↦ inr (here, after ∙ ap (λ n. at (slice_set before number e) n) here ∙ get_or-set_same before number e blank below)
    | inr other ↦ inl (after ∙ get_or-set_other before number k e blank other)
  ]
]

pub keeps_by_one : (kind : DiskKind) (before : List Entry) (number : ℕ) (e : Entry) → IsSound kind before → number < length before → FitsAt kind before number e → StaysSound kind before (slice_set before number e)
keeps_by_one kind before number e sound below fits mixed between = one_more kind before mixed number e sound fits (put before mixed number e below between)

-- a file can have a record 0
some_records : (kind : DiskKind) → 128 * 0 < file_records kind
some_records EightInch = omega arith
some_records Megabyte = omega arith

new_extent_good : (kind : DiskKind) (user : ℕ) (name : List ℕ) (extent : ℕ) → 128 * extent < file_records kind → IsGood kind (new_extent user name extent)
new_extent_good EightInch user name extent low = (omega arith, omega arith, omega arith)
new_extent_good Megabyte user name extent low = (omega arith, omega arith, omega arith)

-- the entry of a new extent has no blocks
pub new_extent_fits : (kind : DiskKind) (entries : List Entry) (number user : ℕ) (name : List ℕ) (extent : ℕ) → 128 * extent < file_records kind → ((k : ℕ) → k ≢ number → is_extent (at entries k) ≡ true → AreSameExtent (at entries k) (new_extent user name extent) → ⊥) → FitsAt kind entries number (new_extent user name extent)
new_extent_fits kind entries number user name extent low named = record {
  good = new_extent_good kind user name extent low;
  blocks = λ i. inl (new_block kind user extent i name);
  own = λ a b some. let none = new_block kind user extent a name in absurd (omega arith);
  apart = λ k a b _ _ some. let none = new_block kind user extent a name in absurd (omega arith);
  named = named;
}

pub creation_keeps : (kind : DiskKind) (user : ℕ) (name : List ℕ) (entries : List Entry) (k : ℕ) → user < USERS → letters name ≡ name → IsSound kind entries → is_file user name entries ≡ false → free_entry entries ≡ Some k → StaysSound kind entries (slice_set entries k (new_extent user name 0))
creation_keeps kind user name entries k low seven sound new_file free =
    keeps_by_one kind entries k (new_extent user name 0) sound (position-Some is_free entries k blank free).0
    (new_extent_fits kind entries k user name 0 (some_records kind)
    (λ j _ ext same. true≢false (sym (is_of_file user name (at entries j) same.0 (same.1 ∙ seven)) ∙ none_at (is_of user name) entries j (blank_is_not_of user name low) new_file)))

pub at_erasure : (user : ℕ) (pattern : List ℕ) (entries : List Entry) (k : ℕ) → user < USERS → at (after_erasure user pattern entries) k ≡ erased_by user pattern (at entries k)
at_erasure user pattern entries k low = at_map (erased_by user pattern) entries k (rw (blank_is_no_match user pattern low) refl)

pub erasure_keeps : (kind : DiskKind) (user : ℕ) (pattern : List ℕ) (entries : List Entry) → user < USERS → IsSound kind entries → StaysSound kind entries (after_erasure user pattern entries)
erasure_keeps kind user pattern entries low sound mixed between = fewer kind entries mixed sound same
  where
    same : (k : ℕ) → is_extent (at mixed k) ≡ true → at mixed k ≡ at entries k
    same k ext = elim (between k) as (λ _. at mixed k ≡ at entries k) [
      | inl kept ↦ kept
      | inr after ↦ (let changed : at mixed k ≡ erased_by user pattern (at entries k) = after ∙ at_erasure user pattern entries k low in
          elim (cases_Bool (is_match user pattern (at entries k))) as (λ _. at mixed k ≡ at entries k) [
            | inl matches ↦ (let gone : at mixed k ≡ erased (at entries k) = changed ∙ ap (λ b. if b then erased (at entries k) else at entries k) matches in
                absurd (true≢false (sym (subst (λ x. is_extent x ≡ true) gone ext))))
            | inr other ↦ changed ∙ ap (λ b. if b then erased (at entries k) else at entries k) other
          ])
    ]

pub at_renaming : (user : ℕ) (old new : List ℕ) (entries : List Entry) (k : ℕ) → user < USERS → at (after_renaming user old new entries) k ≡ renamed_by user old new (at entries k)
at_renaming user old new entries k low = at_map (renamed_by user old new) entries k (rw (blank_is_not_of user old low) refl)

-- what a failing device leaves of a file's entry: it is as it was, or renamed
abbrev IsRenamed : ℕ → List ℕ → List ℕ → Entry → Entry → Type 0
IsRenamed user old new e m = (m ≡ e) ⊎ ((is_of user old e ≡ true) × (m ≡ renamed new e))

renamed_at : (user : ℕ) (old new : List ℕ) (entries mixed : List Entry) → user < USERS → IsBetween entries (after_renaming user old new entries) mixed → (k : ℕ) → IsRenamed user old new (at entries k) (at mixed k)
renamed_at user old new entries mixed low between k = elim (between k) as (λ _. IsRenamed user old new (at entries k) (at mixed k)) [
  | inl kept ↦ inl kept
  | inr after ↦ (let changed : at mixed k ≡ renamed_by user old new (at entries k) = after ∙ at_renaming user old new entries k low in
      elim (cases_Bool (is_of user old (at entries k))) as (λ _. IsRenamed user old new (at entries k) (at mixed k)) [
        | inl of ↦ inr (of, changed ∙ ap (λ b. if b then renamed new (at entries k) else at entries k) of)
        | inr other ↦ inl (changed ∙ ap (λ b. if b then renamed new (at entries k) else at entries k) other)
      ])
]

-- an entry without its name
abbrev pub nameless : Entry → Entry
nameless e = record e { name = [] }

same_but_name : (user : ℕ) (old new : List ℕ) (e m : Entry) → IsRenamed user old new e m → nameless m ≡ nameless e
same_but_name user old new e m (inl same) = ap nameless same
same_but_name user old new e m (inr changed) = ap nameless changed.1

pub length_of_name : (user : ℕ) (name : List ℕ) (e : Entry) → is_of user name e ≡ true → length e.name ≡ length name
length_of_name user name e is = sym (length-map e.name (λ b. b % 128)) ∙ ap length (of_file user name e is).1

-- the letters of a renamed entry are the new name's
new_letters : (user : ℕ) (old new : List ℕ) (e m : Entry) → length old ≡ length new → letters new ≡ new → is_of user old e ≡ true → m ≡ renamed new e → letters m.name ≡ new
new_letters user old new e m same seven is changed = ap (λ x. letters x.name) changed ∙ letters_with e.name new (length_of_name user old e is ∙ same) seven

pub renaming_keeps : (kind : DiskKind) (user : ℕ) (old new : List ℕ) (entries : List Entry) → user < USERS → length old ≡ length new → letters new ≡ new → IsSound kind entries → is_file user new entries ≡ false → StaysSound kind entries (after_renaming user old new entries)
renaming_keeps kind user old new entries low same_length seven sound new_file mixed between = record {
  good = λ k ext. subst (IsGood kind) (sym (rest k)) (sound.good k (was k ext));
  blocks = λ k ext. subst (AreBlocks kind) (sym (rest k)) (sound.blocks k (was k ext));
  once = λ j k a b ej ek some equal. sound.once j k a b (was j ej) (was k ek) (subst (λ x. 0 < block kind x a) (rest j) some)
      (sym (ap (λ x. block kind x a) (rest j)) ∙ equal ∙ ap (λ x. block kind x b) (rest k));
  named = named;
}
  where
    rest : (k : ℕ) → nameless (at mixed k) ≡ nameless (at entries k)
    rest k = same_but_name user old new (at entries k) (at mixed k) (renamed_at user old new entries mixed low between k)

    was : (k : ℕ) → is_extent (at mixed k) ≡ true → is_extent (at entries k) ≡ true
    was k ext = subst (λ x. is_extent x ≡ true) (rest k) ext

    -- an entry that is as it was does not have the new name
    no_clash : (j k : ℕ) → at mixed j ≡ at entries j → is_of user old (at entries k) ≡ true → at mixed k ≡ renamed new (at entries k) → (at mixed j).user ≡ (at mixed k).user → letters (at mixed j).name ≡ letters (at mixed k).name → ⊥
    no_clash j k kept of changed same_user same_name =
        let user_is : (at entries j).user ≡ user = ap (λ x. x.user) (sym kept) ∙ same_user ∙ ap (λ x. x.user) (rest k) ∙ (of_file user old (at entries k) of).0 in
        let name_is : letters (at entries j).name ≡ new = ap (λ x. letters x.name) (sym kept) ∙ same_name ∙ new_letters user old new (at entries k) (at mixed k) same_length seven of changed in
        true≢false (sym (is_of_file user new (at entries j) user_is name_is) ∙ none_at (is_of user new) entries j (blank_is_not_of user new low) new_file)

    named : (j k : ℕ) → is_extent (at mixed j) ≡ true → is_extent (at mixed k) ≡ true → AreSameExtent (at mixed j) (at mixed k) → j ≡ k
    named j k ej ek (same_user, same_name, same_number) =
        let users : (at entries j).user ≡ (at entries k).user = ap (λ x. x.user) (sym (rest j)) ∙ same_user ∙ ap (λ x. x.user) (rest k) in
        let numbers : extent_number (at entries j) ≡ extent_number (at entries k) = ap extent_number (sym (rest j)) ∙ same_number ∙ ap extent_number (rest k) in
        elim (renamed_at user old new entries mixed low between j) as (λ _. j ≡ k) [
          | inl kept_j ↦ elim (renamed_at user old new entries mixed low between k) as (λ _. j ≡ k) [
            | inl kept_k ↦ sound.named j k (was j ej) (was k ek) (users, ap (λ x. letters x.name) (sym kept_j) ∙ same_name ∙ ap (λ x. letters x.name) kept_k, numbers)
            | inr new_k ↦ absurd (no_clash j k kept_j new_k.0 new_k.1 same_user same_name)
          ]
          | inr new_j ↦ elim (renamed_at user old new entries mixed low between k) as (λ _. j ≡ k) [
            | inl kept_k ↦ absurd (no_clash k j kept_k new_j.0 new_j.1 (sym same_user) (sym same_name))
            | inr new_k ↦ sound.named j k (was j ej) (was k ek) (users, (of_file user old (at entries j) new_j.0).1 ∙ sym (of_file user old (at entries k) new_k.0).1, numbers)
          ]
        ]

pub at_marking : (user : ℕ) (pattern : List ℕ) (attribute : Attribute) (on : Bool) (entries : List Entry) (k : ℕ) → user < USERS → at (after_marking user pattern attribute on entries) k ≡ marked_by user pattern attribute on (at entries k)
at_marking user pattern attribute on entries k low = at_map (marked_by user pattern attribute on) entries k (rw (blank_is_no_match user pattern low) refl)

-- two entries that differ at most in the high bits of their names
pub record IsSameButHigh (e m : Entry) : Type 0 where
  pub rest : nameless m ≡ nameless e
  pub name : letters m.name ≡ letters e.name

pub same_but_high : (user : ℕ) (pattern : List ℕ) (attribute : Attribute) (on : Bool) (e : Entry) → IsSameButHigh e (marked_by user pattern attribute on e)
same_but_high user pattern attribute on e = elim (cases_Bool (is_match user pattern e)) as (λ _. IsSameButHigh e (marked_by user pattern attribute on e)) [
  | inl matches ↦ rw matches record { rest = refl; name = letters_marked attribute on e }
  | inr other ↦ rw other record { rest = refl; name = refl }
]

pub marking_keeps : (kind : DiskKind) (user : ℕ) (pattern : List ℕ) (attribute : Attribute) (on : Bool) (entries : List Entry) → user < USERS → IsSound kind entries → StaysSound kind entries (after_marking user pattern attribute on entries)
marking_keeps kind user pattern attribute on entries low sound mixed between = record {
  good = λ k ext. subst (IsGood kind) (sym (rest k)) (sound.good k (was k ext));
  blocks = λ k ext. subst (AreBlocks kind) (sym (rest k)) (sound.blocks k (was k ext));
  once = λ j k a b ej ek some equal. sound.once j k a b (was j ej) (was k ek) (subst (λ x. 0 < block kind x a) (rest j) some)
      (sym (ap (λ x. block kind x a) (rest j)) ∙ equal ∙ ap (λ x. block kind x b) (rest k));
  named = λ j k ej ek (users, names, numbers). sound.named j k (was j ej) (was k ek) (
    ap (λ x. x.user) (sym (rest j)) ∙ users ∙ ap (λ x. x.user) (rest k),
    sym (same j).name ∙ names ∙ (same k).name,
    ap extent_number (sym (rest j)) ∙ numbers ∙ ap extent_number (rest k),
  );
}
  where
    same : (k : ℕ) → IsSameButHigh (at entries k) (at mixed k)
    same k = elim (between k) as (λ _. IsSameButHigh (at entries k) (at mixed k)) [
      | inl kept ↦ record { rest = ap nameless kept; name = ap (λ x. letters x.name) kept }
      | inr after ↦ (let changed = after ∙ at_marking user pattern attribute on entries k low in
          subst (IsSameButHigh (at entries k)) (sym changed) (same_but_high user pattern attribute on (at entries k)))
    ]

    rest : (k : ℕ) → nameless (at mixed k) ≡ nameless (at entries k)
    rest k = (same k).rest

    was : (k : ℕ) → is_extent (at mixed k) ≡ true → is_extent (at entries k) ≡ true
    was k ext = subst (λ x. is_extent x ≡ true) (rest k) ext
