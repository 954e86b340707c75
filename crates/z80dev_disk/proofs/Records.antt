-- A file of a disk after its first records are written.
use Rattle.std.proofs.Common.{◌≡◌, ◌<◌, ◌≤◌, ◌+◌, ◌-◌, ◌*◌, ◌/◌, ◌%◌, ◌==◌, ◌⊎◌, ℕ, Bool, true, false, ◌&&◌, not, min, max, List, Option, Some, None, find, option_map, option_and_then, unwrap_or, nat_lt, replicate, refl, sym, ap, subst, ◌∙◌, inl, inr, arith, if◌then◌else◌, lt-ltb}
use Rattle.std.proofs.lemmas.Bool.{cases_eq, cases_lt, le-ltb}
use Rattle.cpm_image.specs.Kind.{block_records}
use Rattle.cpm_image.specs.declared.kind.DiskKind.{DiskKind}
use Rattle.cpm_image.specs.declared.directory.entry.Entry.{Entry}
use Rattle.cpm_image.specs.Directory.Entries.{block, has_record, is_extent_of, place_on_disk}
use Rattle.cpm_image.specs.Directory.Searches.{file_is_read_only, file_is_system}
use Rattle.cpm_disk.specs.Files.{HasRecord, IsNewFile, block_record, count_of, file_record, in_block}
use Rattle.cpm_disk.specs.Image.{Image, directory, disk_record}
use Rattle.z80dev_disk.specs.Put.{record_to_put}

-- The file has exactly the first n records of `file`: each extent has 128 records, except the last, and there are no others.
pub record HoldsFirst (kind : DiskKind) (image : Image) (user : ℕ) (name file : List ℕ) (n : ℕ) : Type 0 where
  pub counts : (extent : ℕ) → (extent ≡ 0) ⊎ (128 * extent < n) → count_of kind image user name extent ≡ Some (min 128 (n - 128 * extent))
  pub none : (extent : ℕ) → 0 < extent → n ≤ 128 * extent → count_of kind image user name extent ≡ None
  pub records : (k : ℕ) → k < n → block_record kind image user name (k / 128) (k % 128) ≡ Some (record_to_put file k)
  pub read_only : file_is_read_only user name (directory kind image) ≡ false
  pub system : file_is_system user name (directory kind image) ≡ false

-- a new file has no records
pub begins : (kind : DiskKind) (image : Image) (user : ℕ) (name file : List ℕ) → IsNewFile kind image user name → HoldsFirst kind image user name file 0
begins kind image user name file new = record {
  counts = λ extent which. elim which as (λ _. count_of kind image user name extent ≡ Some (min 128 (0 - 128 * extent))) [
    | inl first ↦ (let zero_is : 0 ≡ min 128 (0 - 128 * extent) = omega arith in subst (λ x. count_of kind image user name x ≡ Some (min 128 (0 - 128 * extent))) (sym first) (new.first ∙ ap Some zero_is))
    | inr less ↦ absurd (omega (arith, less))
  ];
  none = λ extent some _. new.others extent some;
  records = λ k less. absurd (omega (arith, less));
  read_only = new.read_only;
  system = new.system;
}

module _ (kind : DiskKind) (old new : Image) (user : ℕ) (name file : List ℕ) (n : ℕ) (was : HoldsFirst kind old user name file n) (has : HasRecord kind old new user name n (record_to_put file n)) where
  -- the number of records that the extent had before
  before : unwrap_or (count_of kind old user name (n / 128)) 0 ≡ n % 128
  before = elim (cases_lt (128 * (n / 128)) n) as (λ _. unwrap_or (count_of kind old user name (n / 128)) 0 ≡ n % 128) [
    | inl less ↦ (let left : min 128 (n - 128 * (n / 128)) ≡ n % 128 = omega arith in ap (λ o. unwrap_or o 0) (was.counts (n / 128) (inr less)) ∙ left)
    | inr full ↦ at_end (cases_eq (n / 128) 0) full
  ]
    where
      at_end : (n / 128 ≡ 0) ⊎ (n / 128 ≡ 0 → ⊥) → n ≤ 128 * (n / 128) → unwrap_or (count_of kind old user name (n / 128)) 0 ≡ n % 128
      at_end (inl first) full = let left : min 128 (n - 128 * (n / 128)) ≡ n % 128 = omega (arith, first, full) in ap (λ o. unwrap_or o 0) (was.counts (n / 128) (inl first)) ∙ left
      at_end (inr later) full =
          let some : 0 < n / 128 = elim (cases_lt 0 (n / 128)) [ inl less ↦ less | inr none ↦ absurd (later (omega (arith, none))) ] in
          let ends : 0 ≡ n % 128 = omega (arith, full) in
          ap (λ o. unwrap_or o 0) (was.none (n / 128) some full) ∙ ends

  counts_after : (extent : ℕ) → (extent ≡ 0) ⊎ (128 * extent < n + 1) → count_of kind new user name extent ≡ Some (min 128 (n + 1 - 128 * extent))
  counts_after extent which = elim (cases_eq extent (n / 128)) as (λ _. count_of kind new user name extent ≡ Some (min 128 (n + 1 - 128 * extent))) [
    | inl this ↦ (
        let grown : max (unwrap_or (count_of kind old user name (n / 128)) 0) (n % 128 + 1) ≡ min 128 (n + 1 - 128 * (n / 128)) = omega (arith, before) in
        subst (λ x. count_of kind new user name x ≡ Some (min 128 (n + 1 - 128 * x))) (sym this) (has.count ∙ ap Some grown))
    | inr other ↦ has.counts extent other ∙ kept which other
  ]
    where
      kept : (extent ≡ 0) ⊎ (128 * extent < n + 1) → (extent ≡ n / 128 → ⊥) → count_of kind old user name extent ≡ Some (min 128 (n + 1 - 128 * extent))
      kept (inl first) other =
          let long : 128 ≤ n = elim (cases_lt n 128) [ inl short ↦ absurd (other (omega (arith, first, short))) | inr long ↦ long ] in
          let same : min 128 (n - 128 * extent) ≡ min 128 (n + 1 - 128 * extent) = omega (arith, first, long) in
          was.counts extent (inl first) ∙ ap Some same
      kept (inr less) other =
          let within : 128 * extent + 128 ≤ n = elim (cases_lt n (128 * extent + 128)) [ inl short ↦ absurd (other (omega (arith, less, short))) | inr long ↦ long ] in
          let same : min 128 (n - 128 * extent) ≡ min 128 (n + 1 - 128 * extent) = omega (arith, within) in
          was.counts extent (inr (omega (arith, within))) ∙ ap Some same

  records_after : (k : ℕ) → k < n + 1 → block_record kind new user name (k / 128) (k % 128) ≡ Some (record_to_put file k)
  records_after k below = elim (cases_eq k n) as (λ _. block_record kind new user name (k / 128) (k % 128) ≡ Some (record_to_put file k)) [
    | inl this ↦ subst (λ x. block_record kind new user name (x / 128) (x % 128) ≡ Some (record_to_put file x)) (sym this) has.here
    | inr other ↦ (
        let less : k < n = elim (cases_lt k n) [ inl less ↦ less | inr more ↦ absurd (other (omega (arith, below, more))) ] in
        beside less other (was.records k less) (cases_eq (k / 128) (n / 128)) (cases_eq (k % 128 / block_records kind) (n % 128 / block_records kind)))
  ]
    where
      beside : k < n → (k ≡ n → ⊥) → block_record kind old user name (k / 128) (k % 128) ≡ Some (record_to_put file k) → (k / 128 ≡ n / 128) ⊎ (k / 128 ≡ n / 128 → ⊥)
          → (k % 128 / block_records kind ≡ n % 128 / block_records kind) ⊎ (k % 128 / block_records kind ≡ n % 128 / block_records kind → ⊥)
          → block_record kind new user name (k / 128) (k % 128) ≡ Some (record_to_put file k)
      beside less other held (inl extent) (inl group) =
          let here : block_record kind old user name (n / 128) (k % 128) ≡ Some (record_to_put file k) = subst (λ x. block_record kind old user name x (k % 128) ≡ Some (record_to_put file k)) extent held in
          let apart : k % 128 ≡ n % 128 → ⊥ = λ same. other (omega (arith, extent, same)) in
          subst (λ x. block_record kind new user name x (k % 128) ≡ Some (record_to_put file k)) (sym extent) (has.block (k % 128) (omega arith) apart group ∙ ap (λ o. Some (unwrap_or o (replicate 128 0))) here)
      beside less other held (inl extent) (inr group) =
          let here : block_record kind old user name (n / 128) (k % 128) ≡ Some (record_to_put file k) = subst (λ x. block_record kind old user name x (k % 128) ≡ Some (record_to_put file k)) extent held in
          subst (λ x. block_record kind new user name x (k % 128) ≡ Some (record_to_put file k)) (sym extent) (has.extent (k % 128) (omega arith) group ∙ here)
      beside less other held (inr extent) group = has.records (k / 128) (k % 128) extent (omega arith) ∙ held

  -- the file has one more record
  pub goes_on : HoldsFirst kind new user name file (n + 1)
  goes_on = record {
    counts = counts_after;
    none = λ extent some past. has.counts extent (λ same. let h = same in absurd (omega (arith, past, h))) ∙ was.none extent some (omega (arith, past));
    records = records_after;
    read_only = has.read_only ∙ was.read_only;
    system = has.system ∙ was.system;
  }

-- A record is in the file if its number in the extent is below the extent's count.
there : (kind : DiskKind) (image : Image) (i c : ℕ) (o : Option Entry) → option_map (λ e. e.records) o ≡ Some c
    → option_and_then (λ e. if has_record kind e i then in_block kind image i e else None) o ≡ (if nat_lt i c then option_and_then (in_block kind image i) o else None)
there kind image i c None e = absurd cc
there kind image i c (Some e) is =
    let count : e.records ≡ c = cc in
    subst (λ r. (if has_record kind e i then in_block kind image i e else None) ≡ (if nat_lt i r then in_block kind image i e else None)) count
    (chosen (nat_lt i e.records) (block kind e (i / block_records kind) == 0) (disk_record kind image (place_on_disk kind e i)))
  where
    chosen : (within empty : Bool) (bytes : List ℕ) → (if within && not empty then (if empty then None else Some bytes) else None) ≡ (if within then (if empty then None else Some bytes) else None)
    chosen true true bytes = refl
    chosen true false bytes = refl
    chosen false empty bytes = refl

-- It is not in the file if there is no entry for the extent.
not_there : {A : Type 0} (f : Entry → Option A) (o : Option Entry) → option_map (λ e. e.records) o ≡ None → option_and_then f o ≡ None
not_there f None e = refl
not_there f (Some e) is = absurd cc

-- the file has the first n records of `file` and no others
pub all_records : (kind : DiskKind) (image : Image) (user : ℕ) (name file : List ℕ) (n : ℕ) → HoldsFirst kind image user name file n → (k : ℕ) → file_record kind image user name k ≡ (if nat_lt k n then Some (record_to_put file k) else None)
all_records kind image user name file n holds k = elim (cases_lt k n) as (λ _. file_record kind image user name k ≡ (if nat_lt k n then Some (record_to_put file k) else None)) [
  | inl less ↦ (
      let within : k % 128 < min 128 (n - 128 * (k / 128)) = omega (arith, less) in
      there kind image (k % 128) (min 128 (n - 128 * (k / 128))) found (holds.counts (k / 128) (inr (omega (arith, less))))
      ∙ ap (λ b. if b then block_record kind image user name (k / 128) (k % 128) else None) (lt-ltb (k % 128) (min 128 (n - 128 * (k / 128))) within)
      ∙ holds.records k less ∙ ap (λ b. if b then Some (record_to_put file k) else None) (sym (lt-ltb k n less)))
  | inr past ↦ beyond past (cases_eq (k / 128) 0) (cases_lt (128 * (k / 128)) n) ∙ ap (λ b. if b then Some (record_to_put file k) else None) (sym (le-ltb k n past))
]
  where
    found : Option Entry
    found = find (is_extent_of user name (k / 128)) (directory kind image)

    short : n ≤ k → count_of kind image user name (k / 128) ≡ Some (min 128 (n - 128 * (k / 128))) → file_record kind image user name k ≡ None
    short past count =
        there kind image (k % 128) (min 128 (n - 128 * (k / 128))) found count
        ∙ ap (λ b. if b then block_record kind image user name (k / 128) (k % 128) else None) (le-ltb (k % 128) (min 128 (n - 128 * (k / 128))) (omega (arith, past)))

    beyond : n ≤ k → (k / 128 ≡ 0) ⊎ (k / 128 ≡ 0 → ⊥) → (128 * (k / 128) < n) ⊎ (n ≤ 128 * (k / 128)) → file_record kind image user name k ≡ None
    beyond past (inl first) which = short past (holds.counts (k / 128) (inl first))
    beyond past (inr later) (inl less) = short past (holds.counts (k / 128) (inr less))
    beyond past (inr later) (inr full) =
        let some : 0 < k / 128 = elim (cases_lt 0 (k / 128)) [ inl less ↦ less | inr none ↦ absurd (later (omega (arith, none))) ] in
        not_there _ found (holds.none (k / 128) some full)
