-- What a change of a file's entries leaves of an entry.
use Rattle.cpm_image.specs.declared.directory.entry.Entry.{Entry}
use Rattle.cpm_disk.specs.Steps.{erased_by, marked_by, renamed_by}
use Rattle.cpm_disk.specs.declared.change.Change.{Change}
use Rattle.cpm_disk.specs.declared.change.Change.TheVariants.{Erase, Mark, Rename}

abbrev pub after : Change → Entry → Entry
after (Erase user pattern) e = erased_by user pattern e
after (Mark user pattern attribute on) e = marked_by user pattern attribute on e
after (Rename user old new) e = renamed_by user old new e
