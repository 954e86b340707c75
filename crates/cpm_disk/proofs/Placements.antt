-- A record is written to a place that keeps the rules.
use Rattle.std.proofs.Common.{◌≡◌, ◌≢◌, ◌⊎◌, ◌<◌, ◌≤◌, ◌+◌, ◌-◌, ◌*◌, ◌/◌, ◌%◌, ◌==◌, ℕ, Bool, true, false, ◌&&◌, not, List, length, refl, sym, ap, subst, ◌∙◌, inl, inr, arith, get_or, set, nat_lt, nat_eq, Option, Some, None, Ok, position, find, true≢false, eq-eqb, ltb-false, ltb-true}
use Rattle.std.proofs.lemmas.Bool.{eqb-false, not-true, not-false, and_parts, and_from, cases_Bool, cases_lt}
use Rattle.std.proofs.lemmas.List.{get_or_past}
use Rattle.std.proofs.lemmas.List.Quantifiers.{position-Some}
use Rattle.std.proofs.lemmas.List.Sums.{fails_before_first}
use Rattle.std.specs.List.{list_any, position_or_len}
use Rattle.cpm_image.specs.declared.directory.entry.TheConstants.{USERS}
use Rattle.cpm_image.specs.Kind.{block_count, block_records, file_records, first_block}
use Rattle.cpm_image.specs.declared.kind.DiskKind.{DiskKind}
use Rattle.cpm_image.specs.declared.kind.DiskKind.TheVariants.{EightInch, Megabyte}
use Rattle.cpm_image.proofs.Words.{new_block, number_of_new, numbers-with_block}
use Rattle.cpm_image.specs.declared.directory.entry.Entry.{Entry}
use Rattle.cpm_image.specs.declared.directory.fault.DiskFault.TheVariants as fault
use Rattle.cpm_image.specs.Directory.Entries.{at, blank, block, blocks_of, extent_number, is_extent, is_free, is_of, is_extent_of, new_extent, with_record}
use Rattle.cpm_image.specs.Directory.Rules.{AreBlocks, AreSameExtent, IsBlock, IsSound}
use Rattle.cpm_image.specs.Directory.Searches.{free_block, free_entry, file_is_read_only, is_file, is_taken}
use Rattle.cpm_disk.specs.declared.placement.Placement.{Placement}
use Rattle.cpm_disk.specs.Kept.{IsKeptBy}
use Rattle.cpm_disk.specs.Steps.{block_place, extent_place, found_or_new, some_or, placing, unless, writing}
use Rattle.cpm_disk.proofs.Entries.{blank_is_not_of, below_extent, found_at, found_in_range, is_of_file, none_at, of_file, set_cases, stands_in}
use Rattle.cpm_disk.proofs.Results.{bind_ok, given_ok, unless_ok}
use Rattle.cpm_disk.proofs.Sound.{FitsAt}
use Rattle.cpm_disk.proofs.Kept.{keeps_by_one, new_extent_fits}

-- the first block for files is not block 0
files_from : (kind : DiskKind) → 0 < first_block kind
files_from EightInch = omega arith
files_from Megabyte = omega arith

files_to : (kind : DiskKind) (b : ℕ) → b < first_block kind + (block_count kind - first_block kind) → b < block_count kind
files_to EightInch b below = omega arith
files_to Megabyte b below = omega arith

number_below : (kind : DiskKind) (number : ℕ) → 128 * number < file_records kind → number < 2048
number_below EightInch number small = omega arith
number_below Megabyte number small = omega arith

-- a block that is set changes at most the number of its group
block_cases : (kind : DiskKind) (e : Entry) (i b a : ℕ) → (block kind (with_record kind e i b) a ≡ block kind e a) ⊎ ((a ≡ i / block_records kind) × (block kind (with_record kind e i b) a ≡ b))
block_cases kind e i b a =
    let put : block kind (with_record kind e i b) a ≡ get_or (set (blocks_of kind e) (i / block_records kind) b) a 0 = ap (λ bs. get_or bs a 0) (numbers-with_block kind e.blocks (i / block_records kind) b) in
    elim (set_cases (blocks_of kind e) (i / block_records kind) b a) as (λ _. (block kind (with_record kind e i b) a ≡ block kind e a) ⊎ ((a ≡ i / block_records kind) × (block kind (with_record kind e i b) a ≡ b))) [
      | inl same ↦ inl (put ∙ same)
      | inr here ↦ inr (here.0, put ∙ here.1)
    ]

-- if no entry passes a test, none does at any number
pub none_placed : (p : Entry → Bool) (entries : List Entry) (k : ℕ) → p blank ≡ false → position p entries ≡ None → p (at entries k) ≡ false
none_placed p entries k blank_not none = elim (cases_lt k (length entries)) as (λ _. p (at entries k) ≡ false) [
  | inl below ↦ elim (cases_Bool (nat_lt (position_or_len p entries) (length entries))) as (λ _. p (at entries k) ≡ false) [
    | inl found ↦ (let some = rw found at none in absurd cc)
    | inr past ↦ (let far = ltb-false (position_or_len p entries) (length entries) past in fails_before_first p entries k blank (omega arith))
  ]
  | inr past ↦ rw (get_or_past entries k blank past) blank_not
]

-- an entry of a directory that keeps the rules fits at its number
present_fits : (kind : DiskKind) (entries : List Entry) (k : ℕ) → IsSound kind entries → is_extent (at entries k) ≡ true → FitsAt kind entries k (at entries k)
present_fits kind entries k sound ext = record {
  good = sound.good k ext;
  blocks = sound.blocks k ext;
  own = λ a b some same. (sound.once k k a b ext ext some same).1;
  apart = λ j a b other ext_j some same. other (sym (sound.once k j a b ext ext_j some (sym same)).0);
  named = λ j other ext_j same. other (sound.named j k ext_j ext same);
}

-- the block of a record: the one that the entry has, or one that no entry has
abbrev pub IsBlockFor : (kind : DiskKind) → List Entry → Entry → ℕ → ℕ → Type 0
IsBlockFor kind entries e group b = ((0 < b) × (block kind e group ≡ b))
    ⊎ ((first_block kind ≤ b) × (b < block_count kind) × ((a : ℕ) → block kind e a ≡ b → ⊥) × ((k a : ℕ) → is_extent (at entries k) ≡ true → block kind (at entries k) a ≡ b → ⊥))

record_fits : (kind : DiskKind) (entries : List Entry) (k : ℕ) (e : Entry) (i b : ℕ) → i < 128 → FitsAt kind entries k e → IsBlockFor kind entries e (i / block_records kind) b → FitsAt kind entries k (with_record kind e i b)
record_fits kind entries k e i b low fits place = record {
  good = (let counted = fits.good.0 in omega arith, fits.good.1, fits.good.2);
  blocks = blocks;
  own = own;
  apart = apart;
  named = λ j other ext same. fits.named j other ext same;
}
  where
    blocks : AreBlocks kind (with_record kind e i b)
    blocks a = elim (block_cases kind e i b a) as (λ _. IsBlock kind (block kind (with_record kind e i b) a)) [
      | inl same ↦ subst (IsBlock kind) (sym same) (fits.blocks a)
      | inr put ↦ elim place as (λ _. IsBlock kind (block kind (with_record kind e i b) a)) [
        | inl old ↦ subst (IsBlock kind) (old.1 ∙ sym put.1) (fits.blocks (i / block_records kind))
        | inr new ↦ subst (IsBlock kind) (sym put.1) (inr (new.0, new.1))
      ]
    ]

    own : (a c : ℕ) → 0 < block kind (with_record kind e i b) a → block kind (with_record kind e i b) a ≡ block kind (with_record kind e i b) c → a ≡ c
    own a c some same = elim (block_cases kind e i b a) as (λ _. a ≡ c) [
      | inl kept_a ↦ elim (block_cases kind e i b c) as (λ _. a ≡ c) [
        | inl kept_c ↦ fits.own a c (subst (λ n. 0 < n) kept_a some) (sym kept_a ∙ same ∙ kept_c)
        | inr put_c ↦ elim place as (λ _. a ≡ c) [
          | inl old ↦ fits.own a (i / block_records kind) (subst (λ n. 0 < n) kept_a some) (sym kept_a ∙ same ∙ put_c.1 ∙ sym old.1) ∙ sym put_c.0
          | inr new ↦ absurd (new.2 a (sym kept_a ∙ same ∙ put_c.1))
        ]
      ]
      | inr put_a ↦ elim (block_cases kind e i b c) as (λ _. a ≡ c) [
        | inl kept_c ↦ elim place as (λ _. a ≡ c) [
          | inl old ↦ put_a.0 ∙ fits.own (i / block_records kind) c (subst (λ n. 0 < n) (put_a.1 ∙ sym old.1) some) (old.1 ∙ sym put_a.1 ∙ same ∙ kept_c)
          | inr new ↦ absurd (new.2 c (sym kept_c ∙ sym same ∙ put_a.1))
        ]
        | inr put_c ↦ put_a.0 ∙ sym put_c.0
      ]
    ]

    apart : (j a c : ℕ) → j ≢ k → is_extent (at entries j) ≡ true → 0 < block kind (with_record kind e i b) a → block kind (at entries j) c ≡ block kind (with_record kind e i b) a → ⊥
    apart j a c other ext some same = elim (block_cases kind e i b a) as (λ _. ⊥) [
      | inl kept ↦ fits.apart j a c other ext (subst (λ n. 0 < n) kept some) (same ∙ kept)
      | inr put ↦ elim place as (λ _. ⊥) [
        | inl old ↦ fits.apart j (i / block_records kind) c other ext (subst (λ n. 0 < n) (put.1 ∙ sym old.1) some) (same ∙ put.1 ∙ sym old.1)
        | inr new ↦ new.3 j c ext (same ∙ put.1)
      ]
    ]

-- a free block is in no entry of a file
pub not_taken : (kind : DiskKind) (entries : List Entry) (b : ℕ) → first_block kind ≤ b → is_taken kind entries b ≡ false → (k a : ℕ) → is_extent (at entries k) ≡ true → block kind (at entries k) a ≡ b → ⊥
not_taken kind entries b some free k a ext here =
    let files = files_from kind in
    let p : Entry → Bool = λ e. is_extent e && list_any (λ c. nat_eq c b) (blocks_of kind e) in
    true≢false (sym (and_from (is_extent (at entries k)) (list_any (λ c. nat_eq c b) (blocks_of kind (at entries k))) ext (stands_in (blocks_of kind (at entries k)) a b (omega arith) here)) ∙ none_at p entries k refl free)

-- the place of an extent's entry: the entry fits there, belongs to the file, and has no free block
pub record IsPlace (kind : DiskKind) (user : ℕ) (name : List ℕ) (entries : List Entry) (place : ℕ × Entry) : Type 0 where
  pub within : place.0 < length entries
  pub fits : FitsAt kind entries place.0 place.1
  pub full : (b a : ℕ) → first_block kind ≤ b → is_taken kind entries b ≡ false → block kind place.1 a ≡ b → ⊥
  pub was : (is_of user name (at entries place.0) ≡ true) ⊎ (is_free (at entries place.0) ≡ true)
  pub of_file : is_of user name place.1 ≡ true

pub extent_of_file : (user : ℕ) (name : List ℕ) (number : ℕ) (e : Entry) → user < USERS → is_extent_of user name number e ≡ true → is_extent e ≡ true
extent_of_file user name number e low is =
    let user_is = (of_file user name e (and_parts (is_of user name e) (extent_number e == number) is).0).0 in
    below_extent e (omega arith)

pub place_found : (kind : DiskKind) (user : ℕ) (name : List ℕ) (number : ℕ) (entries : List Entry) (o : Option ℕ) (place : ℕ × Entry) → user < USERS → 128 * number < file_records kind → IsSound kind entries → position (is_extent_of user name number) entries ≡ o → found_or_new user name number entries o ≡ Ok place → IsPlace kind user name entries place
place_found kind user name number entries (Some k) place low small sound found is =
    let here = position-Some (is_extent_of user name number) entries k blank found in
    let same : ◌≡◌ {A = ℕ × Entry} (k, at entries k) place = cc in
    let ext = extent_of_file user name number (at entries k) low here.1 in
    let of = (and_parts (is_of user name (at entries k)) (extent_number (at entries k) == number) here.1).0 in
    subst (IsPlace kind user name entries) same (record { within = here.0; fits = present_fits kind entries k sound ext; full = λ b a some free. not_taken kind entries b some free k a ext; was = inl of; of_file = of })
place_found kind user name number entries None place low small sound none is =
    let (k, free, rest) = bind_ok (some_or (free_entry entries) fault.DirectoryFull) _ place is in
    let (e, first, last) = bind_ok (some_or (find (is_of user name) entries) fault.NotFound) _ place rest in
    let here = position-Some is_free entries k blank (given_ok (free_entry entries) fault.DirectoryFull k free) in
    let named = (of_file user name e (found_at (is_of user name) entries e (given_ok (find (is_of user name) entries) fault.NotFound e first)).3).1 in
    let same : ◌≡◌ {A = ℕ × Entry} (k, new_extent user e.name number) place = cc in
    let apart : (j : ℕ) → j ≢ k → is_extent (at entries j) ≡ true → AreSameExtent (at entries j) (new_extent user e.name number) → ⊥ =
    λ j other ext (same_user, same_name, same_number). true≢false (
    sym (and_from (is_of user name (at entries j)) (extent_number (at entries j) == number) (is_of_file user name (at entries j) same_user (same_name ∙ named)) (eq-eqb (extent_number (at entries j)) number (same_number ∙ number_of_new user number e.name (number_below kind number small))))
    ∙ none_placed (is_extent_of user name number) entries j (rw (blank_is_not_of user name low) refl) none) in
    subst (IsPlace kind user name entries) same (record {
      within = here.0;
      fits = new_extent_fits kind entries k user e.name number small apart;
      full = λ b a some _ is. let none = new_block kind user number a e.name in let files = files_from kind in absurd (omega arith);
      was = inr here.1;
      of_file = is_of_file user name (new_extent user e.name number) refl named;
    })

pub block_found : (kind : DiskKind) (user : ℕ) (name : List ℕ) (entries : List Entry) (place : ℕ × Entry) (group : ℕ) (found : ℕ × Bool) → IsPlace kind user name entries place → block_place kind place.1 group entries ≡ Ok found → (first_block kind ≤ found.0) × (found.0 < block_count kind) × IsBlockFor kind entries place.1 group found.0
unfolding free_block
block_found kind user name entries place group found fits is = elim (cases_Bool (block kind place.1 group == 0)) as (λ _. (first_block kind ≤ found.0) × (found.0 < block_count kind) × IsBlockFor kind entries place.1 group found.0) [
  | inl none ↦ (let (b, given_b, last) = bind_ok (some_or (free_block kind entries) fault.DiskFull) _ found (rw none at is) in
      let same : b ≡ found.0 = ap (λ (p : ℕ × Bool). p.0) (let e : ◌≡◌ {A = ℕ × Bool} (b, true) found = cc in e) in
      let range = found_in_range (λ n. not (is_taken kind entries n)) (first_block kind) (block_count kind - first_block kind) b (given_ok (free_block kind entries) fault.DiskFull b given_b) in
      let free = not-true (is_taken kind entries b) range.2 in
      subst (λ n. (first_block kind ≤ n) × (n < block_count kind) × IsBlockFor kind entries place.1 group n) same
      (range.0, files_to kind b range.1, inr (range.0, files_to kind b range.1, (λ a here. fits.full b a range.0 free here), not_taken kind entries b range.0 free)))
  | inr some ↦ (let e : ◌≡◌ {A = ℕ × Bool} (block kind place.1 group, false) found = (let found_is = rw some at is in cc) in
      let same : block kind place.1 group ≡ found.0 = ap (λ (p : ℕ × Bool). p.0) e in
      let present : block kind place.1 group ≡ 0 → ⊥ = eqb-false (block kind place.1 group) 0 some in
      let range : (first_block kind ≤ block kind place.1 group) × (block kind place.1 group < block_count kind) = elim (fits.fits.blocks group) as (λ _. (first_block kind ≤ block kind place.1 group) × (block kind place.1 group < block_count kind)) [ inl zero_block ↦ absurd (present zero_block) | inr within ↦ within ] in
      subst (λ n. (first_block kind ≤ n) × (n < block_count kind) × IsBlockFor kind entries place.1 group n) same (range.0, range.1, inl ((let files = files_from kind in omega (arith, range.0)), refl)))
]

-- no other entry has the block
apart_from : (kind : DiskKind) (entries : List Entry) (number : ℕ) (e : Entry) (group b : ℕ) → FitsAt kind entries number e → IsBlockFor kind entries e group b → (k g : ℕ) → k ≢ number → is_extent (at entries k) ≡ true → block kind (at entries k) g ≡ b → ⊥
apart_from kind entries number e group b fits (inl old) k g other ext here = fits.apart k group g other ext (subst (λ n. 0 < n) (sym old.1) old.0) (here ∙ sym old.1)
apart_from kind entries number e group b fits (inr new) k g other ext here = new.3 k g ext here

pub writing_keeps : (kind : DiskKind) (user : ℕ) (name : List ℕ) (number : ℕ) (entries : List Entry) (p : Placement) → user < USERS → IsSound kind entries → writing kind user name number entries ≡ Ok p → IsKeptBy kind user name entries p
writing_keeps kind user name number entries p low sound is =
    let (there, is_1) = unless_ok (not (is_file user name entries)) fault.NotFound (unless (file_is_read_only user name entries) fault.ReadOnly (unless (not (nat_lt number (file_records kind))) fault.TooFar (placing kind user name number entries))) p is in
    let (open_to, is_2) = unless_ok (file_is_read_only user name entries) fault.ReadOnly (unless (not (nat_lt number (file_records kind))) fault.TooFar (placing kind user name number entries)) p is_1 in
    let (near, is_3) = unless_ok (not (nat_lt number (file_records kind))) fault.TooFar (placing kind user name number entries) p is_2 in
    let (place, placed, is_4) = bind_ok (extent_place user name (number / 128) entries) _ p is_3 in
    let (found, in_block, is_5) = bind_ok (block_place kind place.1 (number % 128 / block_records kind) entries) _ p is_4 in
    let small = ltb-true number (file_records kind) (not-false (nat_lt number (file_records kind)) near) in
    let fits = place_found kind user name (number / 128) entries (position (is_extent_of user name (number / 128)) entries) place low (omega arith) sound refl placed in
    let blocks = block_found kind user name entries place (number % 128 / block_records kind) found fits in_block in
    let same : ◌≡◌ {A = Placement} (record { entry_number = place.0; entry = with_record kind place.1 (number % 128) found.0; block = found.0; is_new = found.1 }) p = cc in
    subst (IsKeptBy kind user name entries) same (record {
      within = fits.within;
      was = fits.was;
      of_file = fits.of_file;
      block_from = blocks.0;
      block_to = blocks.1;
      sound = keeps_by_one kind entries place.0 (with_record kind place.1 (number % 128) found.0) sound fits.within (record_fits kind entries place.0 place.1 (number % 128) found.0 (omega arith) fits.fits blocks.2);
      apart = λ k group other ext here. apart_from kind entries place.0 place.1 (number % 128 / block_records kind) found.0 fits.fits blocks.2 k group other ext here;
    })
