-- A file that was written is not read-only.
use Rattle.std.proofs.Common.{◌≡◌, ◌<◌, ◌/◌, ◌%◌, ℕ, false, not, nat_lt, List, Ok, ◌∙◌}
use Rattle.cpm_image.specs.declared.directory.entry.TheConstants.{USERS}
use Rattle.cpm_image.specs.Kind.{block_records, file_records}
use Rattle.cpm_image.specs.declared.kind.DiskKind.{DiskKind}
use Rattle.cpm_image.specs.declared.directory.entry.Entry.{Entry}
use Rattle.cpm_image.specs.declared.directory.fault.DiskFault.TheVariants as fault
use Rattle.cpm_image.specs.Directory.Entries.{block}
use Rattle.cpm_image.specs.Directory.Rules.{IsSound}
use Rattle.cpm_image.specs.Directory.Searches.{file_is_read_only, is_file}
use Rattle.cpm_disk.specs.declared.placement.Placement.{Placement}
use Rattle.cpm_disk.specs.Kept.{IsKeptBy}
use Rattle.cpm_disk.specs.Steps.{placing, unless, writing}
use Rattle.cpm_disk.proofs.Results.{unless_ok}
use Rattle.cpm_disk.specs.Calls.{Written}
use Rattle.cpm_disk.specs.Image.{Image, directory}
use Rattle.cpm_disk.proofs.Written.{record_written}

not_read_only : (kind : DiskKind) (user : ℕ) (name : List ℕ) (number : ℕ) (entries : List Entry) (p : Placement) → writing kind user name number entries ≡ Ok p → file_is_read_only user name entries ≡ false
not_read_only kind user name number entries p is =
    let (there, is_1) = unless_ok (not (is_file user name entries)) fault.NotFound (unless (file_is_read_only user name entries) fault.ReadOnly (unless (not (nat_lt number (file_records kind))) fault.TooFar (placing kind user name number entries))) p is in
    (unless_ok (file_is_read_only user name entries) fault.ReadOnly (unless (not (nat_lt number (file_records kind))) fault.TooFar (placing kind user name number entries)) p is_1).0

pub still_writable : (kind : DiskKind) (old new : Image) (user : ℕ) (name : List ℕ) (number : ℕ) (bytes : List ℕ) (p : Placement) → user < USERS → IsSound kind (directory kind old) → IsSound kind (directory kind new) → IsKeptBy kind user name (directory kind old) p
    → block kind p.entry (number % 128 / block_records kind) ≡ p.block → writing kind user name number (directory kind old) ≡ Ok p → Written kind old new p (number % block_records kind) bytes → file_is_read_only user name (directory kind new) ≡ false
still_writable kind old new user name number bytes p low sound sound_new kept placed asked made =
    (record_written kind old new user name number bytes p low sound sound_new kept placed asked made).read_only ∙ not_read_only kind user name number (directory kind old) p asked
