use Rattle.std.proofs.Common.{All, Some, subst, sym}
use Rattle.z80dev_disk.proofs.Files_found.{IsListed, are_listed}
use Rattle.z80dev_disk.proofs.getting.get_all.Goals as goal

pub files_for_host-requires-clause-listed : goal.files_for_host-requires-clause-listed
files_for_host-requires-clause-listed c =
    let kind = c.in_ok-disk.disk.kind in
    let image = c.in_ok-disk.disk.device in
    subst (All (IsListed kind image)) (sym c.deref-2.ensures.value) (are_listed kind image (Some c.args.user) (Some c.args.pattern.now) c.in_ok-files.files.items c.in_ok-files.ensures.files)
