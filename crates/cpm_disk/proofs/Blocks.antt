-- A block while one of its records is being written.
use Rattle.std.proofs.Common.{◌≡◌, ◌≢◌, ◌⊎◌, ◌<◌, ◌≤◌, ◌*◌, ◌+◌, ℕ, Bool, true, false, List, replicate, refl, sym, ap, subst, ◌∙◌, inl, inr, arith, if◌then◌else◌, slice_set, true≢false}
use Rattle.cpm_image.specs.Kind.{block_count, block_records, first_block}
use Rattle.cpm_image.specs.declared.kind.DiskKind.{DiskKind}
use Rattle.cpm_disk.proofs.Numbers.{beside_directory, of_block, record_below, one_slot}
use Rattle.std.proofs.lemmas.Bool.{cases_eq}
use Rattle.cpm_image.specs.declared.directory.entry.Entry.{Entry}
use Rattle.cpm_image.specs.Directory.Entries.{at}
use Rattle.cpm_disk.specs.declared.placement.Placement.{Placement}
use Rattle.cpm_disk.specs.Private.Blocks.{Cleared, Prepared}
use Rattle.cpm_disk.specs.Calls.{Changed, HasWritten, PartlyWritten, Written}
use Rattle.cpm_disk.specs.Image.{Image, IsOfBlock, IsOfDirectory, SameBut, Wrote, directory, disk_record}
use Rattle.cpm_disk.proofs.Places.{directory_kept, same_all, then_same, widened}

-- writing a record of the block leaves all other blocks
pub in_block : (kind : DiskKind) (old new : Image) (block i : ℕ) (bytes : List ℕ) → i < block_records kind → Wrote kind old new (block_records kind * block + i) bytes → SameBut kind (IsOfBlock kind block) old new
in_block kind old new block i bytes low made = widened kind (λ n. n ≡ block_records kind * block + i) (IsOfBlock kind block) old new (λ n same. subst (IsOfBlock kind block) (sym same) (of_block kind block i low)) made.rest

pub one_of : (kind : DiskKind) (old new : Image) (block i : ℕ) (bytes : List ℕ) → i < block_records kind → (new ≡ old) ⊎ Wrote kind old new (block_records kind * block + i) bytes → SameBut kind (IsOfBlock kind block) old new
one_of kind old new block i bytes low (inl same) = subst (λ image. SameBut kind (IsOfBlock kind block) old image) (sym same) (same_all kind (IsOfBlock kind block) old)
one_of kind old new block i bytes low (inr made) = in_block kind old new block i bytes low made

pub after_all : (kind : DiskKind) (first old new : Image) (block : ℕ) → SameBut kind (IsOfBlock kind block) first old → SameBut kind (IsOfBlock kind block) old new → SameBut kind (IsOfBlock kind block) first new
after_all kind first old new block so_far more = then_same kind (IsOfBlock kind block) (IsOfBlock kind block) first old new (λ n of. of) so_far more

-- a record is written to a block whose other records are already as they are to be
pub written_over : (kind : DiskKind) (first old new : Image) (block i : ℕ) (is_new : Bool) (bytes : List ℕ) → block < block_count kind → i < block_records kind
    → ((j : ℕ) → j < block_records kind → j ≢ i → disk_record kind old (block_records kind * block + j) ≡ (if is_new then replicate 128 0 else disk_record kind first (block_records kind * block + j)))
    → SameBut kind (IsOfBlock kind block) first old → Wrote kind old new (block_records kind * block + i) bytes → HasWritten kind first new block i is_new bytes
written_over kind first old new block i is_new bytes small low others so_far made = record {
  here = made.here;
  beside = λ j below apart. made.rest.records (block_records kind * block + j) (record_below kind block j small below) (λ same. apart (one_slot kind block i j same)) ∙ others j below apart;
  rest = widened kind (IsOfBlock kind block) (λ n. IsOfDirectory kind n ⊎ IsOfBlock kind block n) first new (λ n of. inr of) (after_all kind first old new block so_far (in_block kind old new block i bytes low made));
}

-- if the write is stopped, at most this record of the block is written
pub stopped_over : (kind : DiskKind) (old new : Image) (block i : ℕ) (bytes : List ℕ) → block < block_count kind → i < block_records kind → (new ≡ old) ⊎ Wrote kind old new (block_records kind * block + i) bytes
    → (j : ℕ) → j < block_records kind → (disk_record kind new (block_records kind * block + j) ≡ disk_record kind old (block_records kind * block + j)) ⊎ ((j ≡ i) × (disk_record kind new (block_records kind * block + j) ≡ bytes))
stopped_over kind old new block i bytes small low (inl same) j below = inl (ap (λ image. disk_record kind image (block_records kind * block + j)) same)
stopped_over kind old new block i bytes small low (inr made) j below = elim (cases_eq j i) as (λ _. (disk_record kind new (block_records kind * block + j) ≡ disk_record kind old (block_records kind * block + j)) ⊎ ((j ≡ i) × (disk_record kind new (block_records kind * block + j) ≡ bytes))) [
  | inl here ↦ inr (here, ap (λ n. disk_record kind new (block_records kind * block + n)) here ∙ made.here)
  | inr apart ↦ inl (made.rest.records (block_records kind * block + j) (record_below kind block j small below) (λ same. apart (one_slot kind block i j same)))
]

-- the directory is not in a block for files
pub directory_beside : (kind : DiskKind) (old new : Image) (block : ℕ) → first_block kind ≤ block → SameBut kind (IsOfBlock kind block) old new → directory kind new ≡ directory kind old
directory_beside kind old new block files same = directory_kept kind (IsOfBlock kind block) old new (λ n low of. beside_directory kind block n files of low) same

-- writing the entry leaves what was written to the block
pub then_entry : (kind : DiskKind) (first old new : Image) (block i : ℕ) (is_new : Bool) (bytes : List ℕ) (entries : List Entry) → first_block kind ≤ block → block < block_count kind → i < block_records kind → HasWritten kind first old block i is_new bytes → Changed kind old new entries → HasWritten kind first new block i is_new bytes
then_entry kind first old new block i is_new bytes entries files small low put made = record {
  here = made.rest.records (block_records kind * block + i) (record_below kind block i small low) (beside_directory kind block (block_records kind * block + i) files (of_block kind block i low)) ∙ put.here;
  beside = λ j below apart. made.rest.records (block_records kind * block + j) (record_below kind block j small below) (beside_directory kind block (block_records kind * block + j) files (of_block kind block j below)) ∙ put.beside j below apart;
  rest = then_same kind (λ n. IsOfDirectory kind n ⊎ IsOfBlock kind block n) (IsOfDirectory kind) first old new (λ n of. inl of) put.rest made.rest;
}

-- one more record of the block is zeros, or is the one that is kept
pub cleared_more : (kind : DiskKind) (first old new : Image) (block kept i n : ℕ) (zeros : List ℕ) → block < block_count kind → i < block_records kind → zeros ≡ replicate 128 0 → n ≡ block_records kind * block + i → Cleared kind first old block kept i → Wrote kind old new n zeros → Cleared kind first new block kept (i + 1)
cleared_more kind first old new block kept i n zeros small low are place so_far made =
    let here : Wrote kind old new (block_records kind * block + i) zeros = subst (λ m. Wrote kind old new m zeros) place made in
    record {
      zeros = λ j below apart. elim (cases_eq j i) as (λ _. disk_record kind new (block_records kind * block + j) ≡ replicate 128 0) [
        | inl last ↦ ap (λ m. disk_record kind new (block_records kind * block + m)) last ∙ here.here ∙ are
        | inr before ↦ here.rest.records (block_records kind * block + j) (record_below kind block j small (omega arith)) (λ same. before (one_slot kind block i j same)) ∙ so_far.zeros j (omega arith) apart
      ];
      rest = after_all kind first old new block so_far.rest (in_block kind old new block i zeros low here);
    }

pub cleared_past : (kind : DiskKind) (first old : Image) (block kept i : ℕ) → i ≡ kept → Cleared kind first old block kept i → Cleared kind first old block kept (i + 1)
cleared_past kind first old block kept i same so_far = record { zeros = λ j below apart. so_far.zeros j (omega arith) apart; rest = so_far.rest }

pub prepared_new : (kind : DiskKind) (old new : Image) (p : Placement) (i : ℕ) → p.is_new ≡ true → Cleared kind old new p.block i (block_records kind) → Prepared kind old new p i
prepared_new kind old new p i new_is cleared = record {
  others = λ j below apart. cleared.zeros j below apart ∙ ap (λ b. if b then replicate 128 0 else disk_record kind old (block_records kind * p.block + j)) (sym new_is);
  rest = cleared.rest;
  kept = λ not_new. absurd (true≢false (sym new_is ∙ not_new));
}

pub prepared_old : (kind : DiskKind) (image : Image) (p : Placement) (i : ℕ) → p.is_new ≡ false → Prepared kind image image p i
prepared_old kind image p i old_is = record {
  others = λ j below apart. ap (λ b. if b then replicate 128 0 else disk_record kind image (block_records kind * p.block + j)) (sym old_is);
  rest = same_all kind (IsOfBlock kind p.block) image;
  kept = λ _. refl;
}

-- the record is written into a prepared block
pub filled : (kind : DiskKind) (first old new : Image) (p : Placement) (i n : ℕ) (bytes : List ℕ) → n ≡ block_records kind * p.block + i → p.block < block_count kind → i < block_records kind → Prepared kind first old p i → Wrote kind old new n bytes → HasWritten kind first new p.block i p.is_new bytes
filled kind first old new p i n bytes same small low prepared made =
    written_over kind first old new p.block i p.is_new bytes small low prepared.others prepared.rest (subst (λ m. Wrote kind old new m bytes) same made)

pub filled_rest : (kind : DiskKind) (first old new : Image) (p : Placement) (i n : ℕ) (bytes : List ℕ) → n ≡ block_records kind * p.block + i → i < block_records kind → Prepared kind first old p i → (new ≡ old) ⊎ Wrote kind old new n bytes → SameBut kind (IsOfBlock kind p.block) first new
filled_rest kind first old new p i n bytes same low prepared made =
    after_all kind first old new p.block prepared.rest (one_of kind old new p.block i bytes low (subst (λ m. (new ≡ old) ⊎ Wrote kind old new m bytes) same made))

pub filled_partly : (kind : DiskKind) (first old new : Image) (p : Placement) (i n : ℕ) (bytes : List ℕ) → n ≡ block_records kind * p.block + i → p.block < block_count kind → i < block_records kind → Prepared kind first old p i → (new ≡ old) ⊎ Wrote kind old new n bytes → p.is_new ≡ false
    → (j : ℕ) → j < block_records kind → (disk_record kind new (block_records kind * p.block + j) ≡ disk_record kind first (block_records kind * p.block + j)) ⊎ ((j ≡ i) × (disk_record kind new (block_records kind * p.block + j) ≡ bytes))
filled_partly kind first old new p i n bytes same small low prepared made old_is j below =
    subst (λ image. (disk_record kind new (block_records kind * p.block + j) ≡ disk_record kind image (block_records kind * p.block + j)) ⊎ ((j ≡ i) × (disk_record kind new (block_records kind * p.block + j) ≡ bytes))) (prepared.kept old_is)
    (stopped_over kind old new p.block i bytes small low (subst (λ m. (new ≡ old) ⊎ Wrote kind old new m bytes) same made) j below)

-- and then the entry is written, or it is not
pub written_whole : (kind : DiskKind) (first old new : Image) (p : Placement) (i : ℕ) (bytes : List ℕ) (entries put : List Entry) → first_block kind ≤ p.block → p.block < block_count kind → i < block_records kind → directory kind first ≡ entries → HasWritten kind first old p.block i p.is_new bytes → put ≡ slice_set entries p.entry_number p.entry → Changed kind old new put → Written kind first new p i bytes
written_whole kind first old new p i bytes entries put files small low was wrote_it is_put made = record {
  data_are = then_entry kind first old new p.block i p.is_new bytes put files small low wrote_it made;
  entries_are = made.entries_are ∙ is_put ∙ ap (λ es. slice_set es p.entry_number p.entry) (sym was);
}

pub written_partly : (kind : DiskKind) (first old new : Image) (p : Placement) (i : ℕ) (bytes : List ℕ) (entries put : List Entry) → first_block kind ≤ p.block → p.block < block_count kind → i < block_records kind → directory kind first ≡ entries → directory kind old ≡ entries → HasWritten kind first old p.block i p.is_new bytes → put ≡ slice_set entries p.entry_number p.entry → (new ≡ old) ⊎ Changed kind old new put → PartlyWritten kind first new p i bytes
written_partly kind first old new p i bytes entries put files small low was still wrote_it is_put (inl same) =
    inl (subst (λ image. HasWritten kind first image p.block i p.is_new bytes) (sym same) wrote_it, λ k. inl (ap (λ image. at (directory kind image) k) same ∙ ap (λ es. at es k) (still ∙ sym was)))
written_partly kind first old new p i bytes entries put files small low was still wrote_it is_put (inr made) =
    inl (then_entry kind first old new p.block i p.is_new bytes put files small low wrote_it made, λ k. inr (ap (λ es. at es k) (made.entries_are ∙ is_put ∙ ap (λ es. slice_set es p.entry_number p.entry) (sym was))))
