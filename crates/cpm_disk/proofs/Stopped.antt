-- What a stopped write leaves of its file: its records are all as before, or all as after the write.
use Rattle.std.proofs.Common.{◌≡◌, ◌≢◌, ◌⊎◌, ◌<◌, ◌+◌, ◌*◌, ◌/◌, ◌%◌, ◌==◌, ℕ, max, true, false, ◌&&◌, not, List, find, replicate, slice_set, nat_lt, Option, Some, None, Ok, option_map, option_and_then, refl, sym, ap, subst, ◌∙◌, inl, inr, arith, if◌then◌else◌, true≢false, get_or-set_other, length-set, ltb-true}
use Rattle.cpm_image.specs.Kind.{block_records, entry_count}
use Rattle.cpm_image.specs.declared.kind.DiskKind.{DiskKind}
use Rattle.cpm_disk.proofs.Numbers.{same_record, slot_below, some_files}
use Rattle.std.proofs.lemmas.Bool.{and_parts, cases_Bool, cases_eq}
use Rattle.std.proofs.lemmas.List.{set-get_or}
use Rattle.std.specs.List.{list_any}
use Rattle.cpm_image.specs.declared.directory.entry.TheConstants.{USERS}
use Rattle.cpm_image.specs.declared.directory.entry.Entry.{Entry}
use Rattle.cpm_image.specs.Directory.Entries.{blocks_of, extent_number, at, blank, block, has_record, is_extent, is_extent_of, is_of, is_read_only, is_system}
use Rattle.cpm_image.specs.Directory.Rules.{IsSound}
use Rattle.cpm_disk.proofs.Entries.{below_extent, found_at, of_file}
use Rattle.cpm_disk.specs.declared.placement.Placement.{Placement}
use Rattle.cpm_disk.specs.Kept.{IsBetween, IsKeptBy}
use Rattle.cpm_disk.specs.Steps.{writing}
use Rattle.cpm_disk.specs.Calls.{HasWritten, PartlyWritten}
use Rattle.cpm_disk.specs.Files.{HasRecord, HasSameRecords, in_block}
use Rattle.cpm_disk.specs.Image.{Image, IsOfBlock, IsOfDirectory, SameBut, directory, disk_record}
use Rattle.cpm_disk.proofs.Files.{same_stored}
use Rattle.cpm_disk.proofs.Maps.{range_of}
use Rattle.cpm_disk.proofs.Others.{not_free}
use Rattle.cpm_disk.proofs.Places.{length_directory, same_entries, widened}
use Rattle.cpm_disk.proofs.Written.{Placed, other_block, placed_of, record_put, record_written, with_bytes}

-- the directory is as it was, and so is each record that the file has
same_records : (kind : DiskKind) (old new : Image) (user : ℕ) (name : List ℕ) → directory kind new ≡ directory kind old
    → ((number : ℕ) (e : Entry) → find (is_extent_of user name (number / 128)) (directory kind old) ≡ Some e → has_record kind e (number % 128) ≡ true → in_block kind new (number % 128) e ≡ in_block kind old (number % 128) e)
    → HasSameRecords kind old new user name
same_records kind old new user name same kept = record {
  counts = λ number. ap (λ es. option_map (λ (e : Entry). e.records) (find (is_extent_of user name number) es)) same;
  records = λ number. ap (λ es. option_and_then (there new number) (find (is_extent_of user name (number / 128)) es)) same ∙ by_entry number (find (is_extent_of user name (number / 128)) (directory kind old)) refl;
  read_only = ap (list_any (λ e. is_of user name e && is_read_only e)) same;
  system = ap (list_any (λ e. is_of user name e && is_system e)) same;
}
  where
    there : Image → ℕ → Entry → Option (List ℕ)
    there image number e = if has_record kind e (number % 128) then in_block kind image (number % 128) e else None

    by_entry : (number : ℕ) (o : Option Entry) → find (is_extent_of user name (number / 128)) (directory kind old) ≡ o → option_and_then (there new number) o ≡ option_and_then (there old number) o
    by_entry number None is = refl
    by_entry number (Some e) is = elim (cases_Bool (has_record kind e (number % 128))) as (λ _. there new number e ≡ there old number e) [
      | inl has ↦ ap (λ b. if b then in_block kind new (number % 128) e else None) has ∙ kept number e is has ∙ sym (ap (λ b. if b then in_block kind old (number % 128) e else None) has)
      | inr has_not ↦ ap (λ b. if b then in_block kind new (number % 128) e else None) has_not ∙ sym (ap (λ b. if b then in_block kind old (number % 128) e else None) has_not)
    ]

-- the block of a placement is in the file's entry only for this record, and it is there only if it is not new
record IsHolder (kind : DiskKind) (user number : ℕ) (p : Placement) (place : ℕ × Entry) (e : Entry) (group : ℕ) : Type 0 where
  entry : e ≡ place.1
  here : group ≡ number % 128 / block_records kind
  not_new : p.is_new ≡ false

holder : (kind : DiskKind) (old : Image) (user : ℕ) (name : List ℕ) (number : ℕ) (p : Placement) (placed : Placed kind (directory kind old) user name number p) → user < USERS → IsKeptBy kind user name (directory kind old) p
    → (m : ℕ) (e : Entry) (group : ℕ) → find (is_extent_of user name m) (directory kind old) ≡ Some e → block kind e group ≡ p.block → IsHolder kind user number p placed.place e group
holder kind old user name number p placed low kept m e group found holds =
    let (k, below, is_at, passes) = found_at (is_extent_of user name m) (directory kind old) e found in
    let of = (and_parts (is_of user name e) (extent_number e == m) passes).0 in
    let ext : is_extent (at (directory kind old) k) ≡ true = subst (λ x. is_extent x ≡ true) is_at (below_extent e (let user_is = (of_file user name e of).0 in omega arith)) in
    let here : k ≡ p.entry_number = elim (cases_eq k p.entry_number) as (λ _. k ≡ p.entry_number) [
      | inl same ↦ same
      | inr away ↦ absurd (kept.apart k group away ext (ap (λ x. block kind x group) (sym is_at) ∙ holds))
    ] in
    let there : e ≡ at (directory kind old) placed.place.0 = is_at ∙ ap (at (directory kind old)) (here ∙ placed.at_number) in
    elim placed.was as (λ _. IsHolder kind user number p placed.place e group) [
      | inl old_one ↦ (
          let entry : e ≡ placed.place.1 = there ∙ old_one.0 in
          let held : block kind placed.place.1 group ≡ p.block = ap (λ x. block kind x group) (sym entry) ∙ holds in
          let at_group : group ≡ number % 128 / block_records kind = elim (cases_eq group (number % 128 / block_records kind)) as (λ _. group ≡ number % 128 / block_records kind) [
            | inl same ↦ same
            | inr other ↦ absurd (placed.lone group other held)
          ] in
          elim placed.had as (λ _. IsHolder kind user number p placed.place e group) [
            | inl new ↦ (let none : p.block ≡ 0 = sym held ∙ ap (block kind placed.place.1) at_group ∙ new.1 in let some = kept.block_from in let files = some_files kind in absurd (omega arith))
            | inr had_it ↦ record { entry = entry; here = at_group; not_new = had_it.0 }
          ])
      | inr free ↦ absurd (true≢false (sym (subst (λ x. is_of user name x ≡ true) there of) ∙ not_free user name (at (directory kind old) placed.place.0) low free.0))
    ]

-- a record of the file outside the block
outside : (kind : DiskKind) (old new : Image) (user : ℕ) (name : List ℕ) (p : Placement) → user < USERS → IsSound kind (directory kind old) → SameBut kind (λ n. IsOfDirectory kind n ⊎ IsOfBlock kind p.block n) old new
    → (m : ℕ) (e : Entry) (i : ℕ) → find (is_extent_of user name m) (directory kind old) ≡ Some e → (block kind e (i / block_records kind) ≡ p.block → ⊥) → in_block kind new i e ≡ in_block kind old i e
outside kind old new user name p low sound rest m e i found apart =
    let (k, below, is_at, passes) = found_at (is_extent_of user name m) (directory kind old) e found in
    let user_is = (of_file user name e (and_parts (is_of user name e) (extent_number e == m) passes).0).0 in
    other_block kind old new e i p.block (λ some. range_of kind (directory kind old) k e sound is_at (omega arith) (i / block_records kind) some) apart rest

-- the block was new: no entry of the file has it
left_new : (kind : DiskKind) (old new : Image) (user : ℕ) (name : List ℕ) (number : ℕ) (p : Placement) → Placed kind (directory kind old) user name number p → user < USERS → IsSound kind (directory kind old) → IsKeptBy kind user name (directory kind old) p
    → p.is_new ≡ true → directory kind new ≡ directory kind old → SameBut kind (λ n. IsOfDirectory kind n ⊎ IsOfBlock kind p.block n) old new → HasSameRecords kind old new user name
left_new kind old new user name number p placed low sound kept is_new same rest = same_records kind old new user name same (λ m e found _.
    outside kind old new user name p low sound rest (m / 128) e (m % 128) found (λ holds. true≢false (sym is_new ∙ (holder kind old user name number p placed low kept (m / 128) e (m % 128 / block_records kind) found holds).not_new)))

-- the record was written to a block that was there, and its entry was not
left_old : (kind : DiskKind) (old new : Image) (user : ℕ) (name : List ℕ) (number : ℕ) (bytes : List ℕ) (p : Placement) → Placed kind (directory kind old) user name number p → user < USERS → IsSound kind (directory kind old) → IsSound kind (directory kind new) → IsKeptBy kind user name (directory kind old) p
    → block kind p.entry (number % 128 / block_records kind) ≡ p.block → writing kind user name number (directory kind old) ≡ Ok p
    → p.is_new ≡ false → directory kind new ≡ directory kind old → HasWritten kind old new p.block (number % block_records kind) p.is_new bytes → HasSameRecords kind old new user name ⊎ HasRecord kind old new user name number bytes
left_old kind old new user name number bytes p placed low sound sound_new kept at_block asked not_new same made =
    elim placed.had as (λ _. HasSameRecords kind old new user name ⊎ HasRecord kind old new user name number bytes) [
      | inl new_one ↦ absurd (true≢false (sym new_one.0 ∙ not_new))
      | inr had_it ↦ elim placed.was as (λ _. HasSameRecords kind old new user name ⊎ HasRecord kind old new user name number bytes) [
        | inr free ↦ (let none : block kind placed.place.1 (number % 128 / block_records kind) ≡ 0 = free.3 (number % 128 / block_records kind) in let some = had_it.2 in let there = had_it.1 in absurd (omega arith))
        | inl old_one ↦ elim (cases_Bool (has_record kind placed.place.1 (number % 128))) as (λ _. HasSameRecords kind old new user name ⊎ HasRecord kind old new user name number bytes) [
          | inl has ↦ inr (record_put kind old new user name number bytes placed.place p.block p.is_new placed.place.1.blocks
              (sym (ap (slice_set (blocks_of kind placed.place.1) (number % 128 / block_records kind)) (sym had_it.1) ∙ set-get_or (blocks_of kind placed.place.1) (number % 128 / block_records kind) 0))
              low sound sound_new placed.fits placed.was placed.had placed.lone kept.block_from kept.block_to (λ k group away. kept.apart k group (λ is. away (is ∙ placed.at_number)))
              had_it.1 (unchanged old_one.0 has) made)
          | inr has_not ↦ inl (same_records kind old new user name same (λ m e found has. by_block m e found has has_not))
        ]
      ]
    ]
  where
    -- if the entry already has the record, it does not change
    unchanged : at (directory kind old) placed.place.0 ≡ placed.place.1 → has_record kind placed.place.1 (number % 128) ≡ true → directory kind new ≡ slice_set (directory kind old) placed.place.0 (with_bytes placed.place.1 (number % 128) placed.place.1.blocks)
    unchanged here has =
        let counted = ltb-true (number % 128) placed.place.1.records (and_parts (nat_lt (number % 128) placed.place.1.records) (not (block kind placed.place.1 (number % 128 / block_records kind) == 0)) has).0 in
        let most : placed.place.1.records ≡ max placed.place.1.records (number % 128 + 1) = omega arith in
        let entry : placed.place.1 ≡ with_bytes placed.place.1 (number % 128) placed.place.1.blocks = ap (λ n. record placed.place.1 { records = n }) most in
        same ∙ sym (set-get_or (directory kind old) placed.place.0 blank) ∙ ap (slice_set (directory kind old) placed.place.0) (here ∙ entry)

    by_block : (m : ℕ) (e : Entry) → find (is_extent_of user name (m / 128)) (directory kind old) ≡ Some e → has_record kind e (m % 128) ≡ true → has_record kind placed.place.1 (number % 128) ≡ false → in_block kind new (m % 128) e ≡ in_block kind old (m % 128) e
    by_block m e found has has_not = elim (cases_eq (block kind e (m % 128 / block_records kind)) p.block) as (λ _. in_block kind new (m % 128) e ≡ in_block kind old (m % 128) e) [
      | inr apart ↦ outside kind old new user name p low sound made.rest (m / 128) e (m % 128) found apart
      | inl holds ↦ (
          let is = holder kind old user name number p placed low kept (m / 128) e (m % 128 / block_records kind) found holds in
          let other : m % 128 ≢ number % 128 = λ equal. true≢false (sym has ∙ ap (has_record kind e) equal ∙ ap (λ x. has_record kind x (number % 128)) is.entry ∙ has_not) in
          let group = is.here in
          let not_it : m % 128 % block_records kind ≢ number % block_records kind = λ equal. other (same_record kind (m % 128) number group equal) in
          same_stored kind old new e (m % 128) (λ some.
          ap (λ n. disk_record kind new (block_records kind * n + m % 128 % block_records kind)) holds
          ∙ made.beside (m % 128 % block_records kind) (slot_below kind (m % 128)) not_it ∙ ap (λ b. if b then replicate 128 0 else disk_record kind old (block_records kind * p.block + m % 128 % block_records kind)) not_new
          ∙ sym (ap (λ n. disk_record kind old (block_records kind * n + m % 128 % block_records kind)) holds)))
    ]

-- a directory in which one entry is as it was or as it was to be is the old or the new directory
between_one : (kind : DiskKind) (old new : Image) (p : Placement) → p.entry_number < entry_count kind → IsBetween (directory kind old) (slice_set (directory kind old) p.entry_number p.entry) (directory kind new) → (directory kind new ≡ directory kind old) ⊎ (directory kind new ≡ slice_set (directory kind old) p.entry_number p.entry)
between_one kind old new p within between = elim (between p.entry_number) as (λ _. (directory kind new ≡ directory kind old) ⊎ (directory kind new ≡ slice_set (directory kind old) p.entry_number p.entry)) [
  | inl was ↦ inl (same_entries kind (directory kind new) (directory kind old) (length_directory kind new) (length_directory kind old) (λ k _. elim (cases_eq k p.entry_number) as (λ _. at (directory kind new) k ≡ at (directory kind old) k) [
    | inl here ↦ ap (at (directory kind new)) here ∙ was ∙ ap (at (directory kind old)) (sym here)
    | inr away ↦ either k away
  ]))
  | inr now ↦ inr (same_entries kind (directory kind new) (slice_set (directory kind old) p.entry_number p.entry) (length_directory kind new) (length-set (directory kind old) p.entry_number p.entry ∙ length_directory kind old) (λ k _. elim (cases_eq k p.entry_number) as (λ _. at (directory kind new) k ≡ at (slice_set (directory kind old) p.entry_number p.entry) k) [
    | inl here ↦ ap (at (directory kind new)) here ∙ now ∙ ap (at (slice_set (directory kind old) p.entry_number p.entry)) (sym here)
    | inr away ↦ either k away ∙ sym (get_or-set_other (directory kind old) p.entry_number k p.entry blank away)
  ]))
]
  where
    either : (k : ℕ) → k ≢ p.entry_number → at (directory kind new) k ≡ at (directory kind old) k
    either k away = elim (between k) as (λ _. at (directory kind new) k ≡ at (directory kind old) k) [
      | inl same ↦ same
      | inr after ↦ after ∙ get_or-set_other (directory kind old) p.entry_number k p.entry blank away
    ]

pub write_left : (kind : DiskKind) (old new : Image) (user : ℕ) (name : List ℕ) (number : ℕ) (bytes : List ℕ) (p : Placement) → user < USERS → IsSound kind (directory kind old) → IsSound kind (directory kind new) → IsKeptBy kind user name (directory kind old) p
    → block kind p.entry (number % 128 / block_records kind) ≡ p.block → writing kind user name number (directory kind old) ≡ Ok p → PartlyWritten kind old new p (number % block_records kind) bytes → HasSameRecords kind old new user name ⊎ HasRecord kind old new user name number bytes
write_left kind old new user name number bytes p low sound sound_new kept at_block asked (inl (made, between)) =
    elim (between_one kind old new p (let long = length_directory kind old in let within = kept.within in omega arith) between) as (λ _. HasSameRecords kind old new user name ⊎ HasRecord kind old new user name number bytes) [
      | inr after ↦ inr (record_written kind old new user name number bytes p low sound sound_new kept at_block asked (record { data_are = made; entries_are = after }))
      | inl same ↦ elim (cases_Bool p.is_new) as (λ _. HasSameRecords kind old new user name ⊎ HasRecord kind old new user name number bytes) [
        | inl is_new ↦ inl (left_new kind old new user name number p (placed_of kind user name number (directory kind old) p low sound kept asked) low sound kept is_new same made.rest)
        | inr not_new ↦ left_old kind old new user name number bytes p (placed_of kind user name number (directory kind old) p low sound kept asked) low sound sound_new kept at_block asked not_new same made
      ]
    ]
write_left kind old new user name number bytes p low sound sound_new kept at_block asked (inr (same, rest, written)) =
    elim (cases_Bool p.is_new) as (λ _. HasSameRecords kind old new user name ⊎ HasRecord kind old new user name number bytes) [
      | inl is_new ↦ inl (left_new kind old new user name number p placed low sound kept is_new same wider)
      | inr not_new ↦ elim (written not_new (number % block_records kind) (slot_below kind number)) as (λ _. HasSameRecords kind old new user name ⊎ HasRecord kind old new user name number bytes) [
        | inl as_before ↦ inl (same_records kind old new user name same (λ m e found has. elim (cases_eq (block kind e (m % 128 / block_records kind)) p.block) as (λ _. in_block kind new (m % 128) e ≡ in_block kind old (m % 128) e) [
          | inr apart ↦ outside kind old new user name p low sound wider (m / 128) e (m % 128) found apart
          | inl holds ↦ same_stored kind old new e (m % 128) (λ some. ap (λ n. disk_record kind new (block_records kind * n + m % 128 % block_records kind)) holds ∙ all_same not_new as_before (m % 128 % block_records kind) (slot_below kind (m % 128)) ∙ sym (ap (λ n. disk_record kind old (block_records kind * n + m % 128 % block_records kind)) holds))
        ]))
        | inr put ↦ left_old kind old new user name number bytes p placed low sound sound_new kept at_block asked not_new same (record {
          here = put.1;
          beside = λ j below apart. elim (written not_new j below) as (λ _. disk_record kind new (block_records kind * p.block + j) ≡ (if p.is_new then replicate 128 0 else disk_record kind old (block_records kind * p.block + j))) [
            | inl kept_it ↦ kept_it ∙ sym (ap (λ b. if b then replicate 128 0 else disk_record kind old (block_records kind * p.block + j)) not_new)
            | inr it ↦ absurd (apart it.0)
          ];
          rest = wider;
        })
      ]
    ]
  where
    placed : Placed kind (directory kind old) user name number p
    placed = placed_of kind user name number (directory kind old) p low sound kept asked

    wider : SameBut kind (λ n. IsOfDirectory kind n ⊎ IsOfBlock kind p.block n) old new
    wider = widened kind (IsOfBlock kind p.block) (λ n. IsOfDirectory kind n ⊎ IsOfBlock kind p.block n) old new (λ n of. inr of) rest

    all_same : p.is_new ≡ false → disk_record kind new (block_records kind * p.block + number % block_records kind) ≡ disk_record kind old (block_records kind * p.block + number % block_records kind) → (j : ℕ) → j < block_records kind → disk_record kind new (block_records kind * p.block + j) ≡ disk_record kind old (block_records kind * p.block + j)
    all_same not_new as_before j below = elim (written not_new j below) as (λ _. disk_record kind new (block_records kind * p.block + j) ≡ disk_record kind old (block_records kind * p.block + j)) [
      | inl kept_it ↦ kept_it
      | inr it ↦ ap (λ n. disk_record kind new (block_records kind * p.block + n)) it.0 ∙ as_before ∙ ap (λ n. disk_record kind old (block_records kind * p.block + n)) (sym it.0)
    ]
