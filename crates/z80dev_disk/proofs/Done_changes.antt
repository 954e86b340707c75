-- Files that are erased, renamed and marked.
use Rattle.std.proofs.Common.{◌≡◌, ℕ, Bool, true, false, ◌&&◌, not, List, Result, Ok, Err, count_by, subst, sym, ap, ◌∙◌}
use Rattle.std.specs.List.{list_any}
use Rattle.std.proofs.lemmas.Bool.{and_parts}
use Rattle.cpm_image.specs.declared.directory.attribute.Attribute.{Attribute}
use Rattle.cpm_image.specs.declared.directory.entry.Entry.{Entry}
use Rattle.cpm_image.specs.declared.directory.fault.DiskFault.{DiskFault}
use Rattle.cpm_image.specs.declared.directory.fault.DiskFault.TheVariants as fault
use Rattle.cpm_image.specs.Directory.Entries.{is_match, is_read_only}
use Rattle.cpm_image.specs.Directory.Letters.{name_matches}
use Rattle.cpm_image.specs.Directory.Rules.{IsSound}
use Rattle.cpm_image.specs.Directory.Searches.{is_file}
use Rattle.cpm_disk.specs.Steps.{erasure, unless}
use Rattle.cpm_disk.specs.Calls.{Mounted}
use Rattle.cpm_disk.specs.Files.{IsMarkedFile, IsMatched, IsNoFile, OthersAreSame}
use Rattle.cpm_disk.specs.Image.{Image, directory}
use Rattle.cpm_disk.specs.Operations as disk
use Rattle.z80dev_disk.specs.Changes.{Erases, Marks}
use Rattle.z80dev_disk.specs.Put.{is_replaced}
use Rattle.z80dev_disk.proofs.Memory.{itself, never, refused_by}
use Rattle.z80dev_disk.proofs.Others.{file_matches}

-- what `erase` of the disk answers and leaves makes `Erases` hold
pub erased : (old new : Mounted Image) (user : ℕ) (asked pattern : List ℕ) (number : ℕ) → asked ≡ pattern → disk.IsErased itself never old new user asked (Ok number)
    → ((name : List ℕ) → name_matches asked name ≡ true → IsNoFile new.kind new.device user name) → OthersAreSame old.kind old.device new.device (IsMatched user asked) → IsSound new.kind (directory new.kind new.device)
    → Erases old.kind user pattern old.device new.device
erased old new user asked pattern number is (was, sound, same, calm, count, may, (number_is, changed)) gone others rules = subst (λ p. Erases old.kind user p old.device new.device) is (record {
  count = count;
  may = may;
  changed = changed;
  gone = λ name matches. subst (λ k. IsNoFile k new.device user name) same (gone name matches);
  others = others;
  sound = subst (λ k. IsSound k (directory k new.device)) same rules;
})

-- what `mark` of the disk answers and leaves makes `Marks` hold
pub marked : (old new : Mounted Image) (user : ℕ) (attribute : Attribute) (on : Bool) (asked pattern : List ℕ) (number : ℕ) → asked ≡ pattern → disk.IsMarked itself never old new user asked attribute on (Ok number)
    → ((name : List ℕ) → name_matches asked name ≡ true → IsMarkedFile old.kind old.device new.device user name attribute on) → OthersAreSame old.kind old.device new.device (IsMatched user asked) → IsSound new.kind (directory new.kind new.device)
    → Marks old.kind user attribute on pattern old.device new.device
marked old new user attribute on asked pattern number is (was, sound, same, calm, count, may, (number_is, changed)) each others rules = subst (λ p. Marks old.kind user attribute on p old.device new.device) is (record {
  count = count;
  may = may;
  changed = changed;
  marked = each;
  others = others;
  sound = subst (λ k. IsSound k (directory k new.device)) same rules;
})

-- If the user has the file, being read-only is the only reason for which it is not erased.
read_only : (user : ℕ) (name : List ℕ) (entries : List Entry) (why : DiskFault) → is_file user name entries ≡ true → erasure user name entries ≡ Err why → why ≡ fault.ReadOnly
read_only user name entries why is asked = by_test (list_any (λ e. is_match user name e && is_read_only e) entries) (sym (ap (λ b. unless (not b) fault.NotFound rest) (file_matches user name entries is)) ∙ asked)
  where
    rest : Result ℕ DiskFault
    rest = unless (list_any (λ e. is_match user name e && is_read_only e) entries) fault.ReadOnly (Ok (count_by (is_match user name) entries))

    by_test : (b : Bool) → unless b fault.ReadOnly (Ok (count_by (is_match user name) entries)) ≡ Err why → why ≡ fault.ReadOnly
    by_test true refused = cc
    by_test false refused = absurd cc

pub lacks : (old new : Mounted Image) (user : ℕ) (replaces : Bool) (asked name : List ℕ) (why : DiskFault) → old.failed ≡ false → asked ≡ name → is_replaced user replaces name (directory old.kind old.device) ≡ true
    → disk.IsErased itself never old new user asked (Err why) → (why ≡ fault.ReadOnly) × (erasure user name (directory old.kind old.device) ≡ Err why)
lacks old new user replaces asked name why sound is replaced done =
    let refused = subst (λ p. erasure user p (directory old.kind old.device) ≡ Err why) is (refused_by old new _ _ why sound done).0 in
    (read_only user name (directory old.kind old.device) why (and_parts replaces (is_file user name (directory old.kind old.device)) replaced).1 refused, refused)
