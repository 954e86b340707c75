use Rattle.std.proofs.Common.{refl, ap, ◌∙◌}
use Rattle.cpm_image.proofs.directory.entry.Entry.to_bytes.Goals as goal
use Rattle.std.proofs.lemmas.List.{append-nil}
use Rattle.cpm_image.specs.Directory.Entries.{entry_of}
use Rattle.cpm_image.proofs.EntryBytes.{eleven, entry_of-bytes}

pub returns-clause-bytes : goal.returns-clause-bytes
returns-clause-bytes c =
    let e = eleven c.copy_from_slice.new.self c.copy_from_slice.ensures.len in
    rw (← c.copy_from_slice.ensures.after, ← c.copy_from_slice-2.ensures.after, e, append-nil) refl

pub returns-clause-again : goal.returns-clause-again
returns-clause-again c =
    let long = rw c.copy_from_slice.ensures.after at c.copy_from_slice.ensures.len in
    ap entry_of (returns-clause-bytes c) ∙ entry_of-bytes c.args.self.now.name long
