-- A disk is still mounted after each call.
use Rattle.std.proofs.Common.{◌≡◌, ◌⊎◌, ℕ, Bool, true, false, List, None, Option, Some, ◌++◌, drop, length, slice_set, take, sym, ap, subst, ◌∙◌, inl, inr, take_at, true≢false}
use Rattle.cpm_image.specs.Kind.{entry_count}
use Rattle.cpm_image.specs.declared.kind.DiskKind.{DiskKind}
use Rattle.cpm_image.specs.declared.directory.entry.Entry.{Entry}
use Rattle.cpm_image.specs.Directory.Entries.{at}
use Rattle.cpm_image.specs.Directory.Searches.{file_is_read_only}
use Rattle.cpm_disk.specs.declared.placement.Placement.{Placement}
use Rattle.cpm_disk.specs.Kept.{IsBetween, IsKeptBy, StaysSound}
use Rattle.cpm_disk.specs.Calls.{Changed, PartlyChanged, PartlyWritten, Written}
use Rattle.cpm_disk.specs.Image.{Image, IsOfDirectory, SameBut, directory}
use Rattle.cpm_disk.specs.Private.State.{IsMounted}
use Rattle.cpm_disk.specs.declared.writable.Writable.{Writable}
use Rattle.cpm_disk.proofs.Places.{same_all}

pub partly : (kind : DiskKind) (old new : Image) (entries : List Entry) → (new ≡ old) ⊎ Changed kind old new entries → PartlyChanged kind old new entries
partly kind old new entries (inl same) = record {
  between = λ k. inl (ap (λ i. at (directory kind i) k) same);
  rest = subst (λ i. SameBut kind (IsOfDirectory kind) old i) (sym same) (same_all kind (IsOfDirectory kind) old);
}
partly kind old new entries (inr made) = record { between = λ k. inr (ap (λ es. at es k) made.entries_are); rest = made.rest }

-- the items of a vector after all of them were lent are the new ones
pub whole : (n : ℕ) (new items : List Entry) → length new ≡ n → take n (new ++ drop (length new) items) ≡ new
whole n new items long = take_at new (drop (length new) items) n long

-- after its entries changed, a disk is still mounted
pub mounted_changed : (kind : DiskKind) (image new : Image) (entries changed items : List Entry) (failed : Bool) (known : Option Writable) → IsMounted kind image entries failed known → StaysSound kind (directory kind image) changed → Changed kind image new changed → items ≡ changed → length changed ≡ entry_count kind → IsMounted kind new items failed None
mounted_changed kind image new entries changed items failed known was kept made same long = record {
  count = made.rest.count ∙ was.count;
  sound = kept (directory kind new) (λ k. inr (ap (λ es. at es k) made.entries_are));
  size = ap length same ∙ long;
  entries_are = λ _. same ∙ sym made.entries_are;
  may_write = λ _. tt;
}

-- and after a stopped change it still keeps the rules
pub mounted_partly : (kind : DiskKind) (image new : Image) (entries changed items : List Entry) (failed : Bool) (known now : Option Writable) → IsMounted kind image entries failed known → StaysSound kind (directory kind image) changed → PartlyChanged kind image new changed → length items ≡ entry_count kind → IsMounted kind new items true now
mounted_partly kind image new entries changed items failed known now was kept left long = record {
  count = left.rest.count ∙ was.count;
  sound = kept (directory kind new) left.between;
  size = long;
  entries_are = λ failed_is. absurd (true≢false failed_is);
  may_write = λ failed_is. absurd (true≢false failed_is);
}

-- what a stopped write leaves of the directory
pub write_between : (kind : DiskKind) (old new : Image) (p : Placement) (i : ℕ) (bytes : List ℕ) → PartlyWritten kind old new p i bytes → IsBetween (directory kind old) (slice_set (directory kind old) p.entry_number p.entry) (directory kind new)
write_between kind old new p i bytes (inl put) = put.1
write_between kind old new p i bytes (inr none) = λ k. inl (ap (λ es. at es k) none.0)

write_count : (kind : DiskKind) (old new : Image) (p : Placement) (i : ℕ) (bytes : List ℕ) → PartlyWritten kind old new p i bytes → length new ≡ length old
write_count kind old new p i bytes (inl put) = put.0.rest.count
write_count kind old new p i bytes (inr none) = none.1.count

pub mounted_written : (kind : DiskKind) (image new : Image) (entries items : List Entry) (failed : Bool) (known : Option Writable) (user : ℕ) (name : List ℕ) (p : Placement) (i : ℕ) (bytes : List ℕ) → IsMounted kind image entries failed known → IsKeptBy kind user name (directory kind image) p → Written kind image new p i bytes → items ≡ slice_set (directory kind image) p.entry_number p.entry → length items ≡ entry_count kind → file_is_read_only user name (directory kind new) ≡ false → IsMounted kind new items failed (Some (record { user = user; name = name }))
mounted_written kind image new entries items failed known user name p i bytes was kept made same long free = record {
  count = made.data_are.rest.count ∙ was.count;
  sound = kept.sound (directory kind new) (λ k. inr (ap (λ es. at es k) made.entries_are));
  size = long;
  entries_are = λ _. same ∙ sym made.entries_are;
  may_write = λ _. ap (file_is_read_only user name) (same ∙ sym made.entries_are) ∙ free;
}

pub mounted_partly_written : (kind : DiskKind) (image new : Image) (entries items : List Entry) (failed : Bool) (known : Option Writable) (user : ℕ) (name : List ℕ) (p : Placement) (i : ℕ) (bytes : List ℕ) → IsMounted kind image entries failed known → IsKeptBy kind user name (directory kind image) p → PartlyWritten kind image new p i bytes → length items ≡ entry_count kind → IsMounted kind new items true known
mounted_partly_written kind image new entries items failed known user name p i bytes was kept left long = record {
  count = write_count kind image new p i bytes left ∙ was.count;
  sound = kept.sound (directory kind new) (write_between kind image new p i bytes left);
  size = long;
  entries_are = λ failed_is. absurd (true≢false failed_is);
  may_write = λ failed_is. absurd (true≢false failed_is);
}
