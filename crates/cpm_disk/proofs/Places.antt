-- Writing logical records, and the directory among them.
use Rattle.std.proofs.Common.{◌≡◌, ◌<◌, ◌/◌, ◌%◌, ◌*◌, ◌+◌, ℕ, List, [], length, take, drop, refl, sym, ap, subst, ◌∙◌, inl, inr, arith, slice_set, get_or-set_same, get_or-set_other, ext_get_or, length-set}
use Rattle.cpm_image.specs.Kind.{directory_records, entry_count, record_count}
use Rattle.cpm_image.specs.declared.kind.DiskKind.{DiskKind}
use Rattle.cpm_disk.proofs.Numbers.{directory_within, record_of_entry}
use Rattle.std.proofs.lemmas.Bool.{cases_eq}
use Rattle.std.proofs.lemmas.List.FromFn.{get_or-map-range_with_len, length-map-range_with_len}
use Rattle.cpm_image.specs.Skew.{sector_of}
use Rattle.cpm_image.specs.declared.directory.entry.Entry.{Entry}
use Rattle.cpm_image.specs.Directory.Entries.{at, blank, entry_of}
use Rattle.cpm_disk.specs.Calls.{Changed}
use Rattle.cpm_disk.specs.Image.{Image, IsOfDirectory, SameBut, Wrote, directory, entry_at, disk_record}

pub at_directory : (kind : DiskKind) (image : Image) (k : ℕ) → k < entry_count kind → at (directory kind image) k ≡ entry_at kind image k
unfolding directory
at_directory kind image k below = get_or-map-range_with_len (entry_at kind image) 0 (entry_count kind) k k blank below (omega arith)

pub length_directory : (kind : DiskKind) (image : Image) → length (directory kind image) ≡ entry_count kind
unfolding directory
length_directory kind image = length-map-range_with_len (entry_at kind image) 0 (entry_count kind)

-- two directories of the same format are equal if all their entries are
pub same_entries : (kind : DiskKind) (xs ys : List Entry) → length xs ≡ entry_count kind → length ys ≡ entry_count kind → ((k : ℕ) → k < entry_count kind → at xs k ≡ at ys k) → xs ≡ ys
same_entries kind xs ys long too each = ext_get_or blank xs ys (long ∙ sym too) (λ k below. each k (omega arith))

pub same_directory : (kind : DiskKind) (old new : Image) → ((n : ℕ) → n < directory_records kind → disk_record kind new n ≡ disk_record kind old n) → directory kind new ≡ directory kind old
same_directory kind old new same = same_entries kind (directory kind new) (directory kind old) (length_directory kind new) (length_directory kind old)
    (λ k below. at_directory kind new k below ∙ ap (λ bytes. entry_of (take 32 (drop (32 * (k % 4)) bytes))) (same (k / 4) (record_of_entry kind k below)) ∙ sym (at_directory kind old k below))

pub same_all : (kind : DiskKind) (P : ℕ → Type 0) (image : Image) → SameBut kind P image image
same_all kind P image = record { count = refl; records = λ n below no_p. refl; system = λ s none. refl }

-- one change after another
pub then_same : (kind : DiskKind) (P Q : ℕ → Type 0) (a b c : Image) → ((n : ℕ) → Q n → P n) → SameBut kind P a b → SameBut kind Q b c → SameBut kind P a c
then_same kind P Q a b c within first second = record {
  count = second.count ∙ first.count;
  records = λ n below no_p. second.records n below (λ q. no_p (within n q)) ∙ first.records n below no_p;
  system = λ s none. second.system s none ∙ first.system s none;
}

pub widened : (kind : DiskKind) (P Q : ℕ → Type 0) (a b : Image) → ((n : ℕ) → P n → Q n) → SameBut kind P a b → SameBut kind Q a b
widened kind P Q a b within same = record {
  count = same.count;
  records = λ n below no_q. same.records n below (λ p. no_q (within n p));
  system = same.system;
}

-- a change that leaves the directory's records
pub directory_kept : (kind : DiskKind) (P : ℕ → Type 0) (old new : Image) → ((n : ℕ) → n < directory_records kind → P n → ⊥) → SameBut kind P old new → directory kind new ≡ directory kind old
directory_kept kind P old new apart same = same_directory kind old new (λ n below. same.records n (directory_within kind n below) (apart n below))

pub wrote : (kind : DiskKind) (old : Image) (n : ℕ) (bytes : List ℕ) → sector_of kind n < length old → ((m : ℕ) → m < record_count kind → sector_of kind m ≡ sector_of kind n → m ≡ n) → n < record_count kind → Wrote kind old (slice_set old (sector_of kind n) bytes) n bytes
wrote kind old n bytes within distinct below = record {
  here = get_or-set_same old (sector_of kind n) bytes [] within;
  rest = record {
    count = length-set old (sector_of kind n) bytes;
    records = λ m below_m apart. get_or-set_other old (sector_of kind n) (sector_of kind m) bytes [] (λ same. apart (distinct m below_m same));
    system = λ s none. get_or-set_other old (sector_of kind n) s bytes [] (λ same. none n below (sym same));
  };
}

-- a record of the directory with one entry changed
pub entry_put : (kind : DiskKind) (old new : Image) (entries : List Entry) (number : ℕ) (e : Entry) (bytes : List ℕ) → directory kind old ≡ entries → number < entry_count kind → Wrote kind old new (number / 4) bytes
    → ((i : ℕ) → i < 4 → entry_of (take 32 (drop (32 * i) bytes)) ≡ at (slice_set entries number e) (4 * (number / 4) + i))
    → directory kind new ≡ slice_set entries number e
entry_put kind old new entries number e bytes was below wrote_it holds = same_entries kind (directory kind new) (slice_set entries number e) (length_directory kind new) (length-set entries number e ∙ ap length (sym was) ∙ length_directory kind old) each
  where
    each : (k : ℕ) → k < entry_count kind → at (directory kind new) k ≡ at (slice_set entries number e) k
    each k below_k = elim (cases_eq (k / 4) (number / 4)) as (λ _. at (directory kind new) k ≡ at (slice_set entries number e) k) [
      | inl here ↦ (let place : 4 * (number / 4) + k % 4 ≡ k = omega arith in
          at_directory kind new k below_k ∙ ap (λ b. entry_of (take 32 (drop (32 * (k % 4)) b))) (ap (disk_record kind new) here ∙ wrote_it.here)
          ∙ holds (k % 4) (omega arith) ∙ ap (at (slice_set entries number e)) place)
      | inr other ↦ at_directory kind new k below_k ∙ ap (λ b. entry_of (take 32 (drop (32 * (k % 4)) b))) (wrote_it.rest.records (k / 4) (directory_within kind (k / 4) (record_of_entry kind k below_k)) other)
          ∙ sym (at_directory kind old k below_k) ∙ ap (λ es. at es k) was ∙ sym (get_or-set_other entries number k e blank (λ same. other (ap (λ n. n / 4) same)))
    ]

pub changed_by : (kind : DiskKind) (old new : Image) (entries : List Entry) (number : ℕ) (e : Entry) (bytes : List ℕ) → directory kind old ≡ entries → number < entry_count kind → Wrote kind old new (number / 4) bytes
    → ((i : ℕ) → i < 4 → entry_of (take 32 (drop (32 * i) bytes)) ≡ at (slice_set entries number e) (4 * (number / 4) + i))
    → Changed kind old new (slice_set entries number e)
changed_by kind old new entries number e bytes was below wrote_it holds = record {
  entries_are = entry_put kind old new entries number e bytes was below wrote_it holds;
  rest = widened kind (λ n. n ≡ number / 4) (IsOfDirectory kind) old new (λ n same. subst (λ m. m < directory_records kind) (sym same) (record_of_entry kind number below)) wrote_it.rest;
}

-- the same, with the numbers as the code computes them
pub changed_as : (kind : DiskKind) (old new : Image) (entries : List Entry) (number index group place : ℕ) (e : Entry) (bytes : List ℕ) → index ≡ number → group ≡ number / 4 → place ≡ number / 4 → directory kind old ≡ entries → number < entry_count kind
    → ((i : ℕ) → i < 4 → entry_of (take 32 (drop (32 * i) bytes)) ≡ at (slice_set entries index e) (4 * group + i))
    → Wrote kind old new place bytes → Changed kind old new (slice_set entries index e)
changed_as kind old new entries number index group place e bytes same_index same_group same_place was below holds wrote_it =
    subst (λ n. Changed kind old new (slice_set entries n e)) (sym same_index)
    (changed_by kind old new entries number e bytes was below (subst (λ n. Wrote kind old new n bytes) same_place wrote_it)
    (λ i low. holds i low ∙ ap (λ n. at (slice_set entries n e) (4 * group + i)) same_index ∙ ap (λ n. at (slice_set entries number e) (4 * n + i)) same_group))
