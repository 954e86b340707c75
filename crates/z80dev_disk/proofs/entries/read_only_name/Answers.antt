use Rattle.std.proofs.Common.{◌≡◌, ◌<◌, ◌≤◌, ◌&&◌, ◌∙◌, Bool, None, ap, ap₂, arith, find, length, option_map, sym, unwrap_or}
use Rattle.std.proofs.lemmas.List.{drop_all}
use Rattle.cpm_image.specs.Kind.{entry_count}
use Rattle.cpm_image.specs.declared.directory.entry.Entry.{Entry}
use Rattle.cpm_image.specs.Directory.Entries.{is_match, is_read_only}
use Rattle.cpm_image.specs.Directory.Letters.{letters}
use Rattle.cpm_disk.proofs.Places.{length_directory}
use Rattle.cpm_disk.specs.Image.{directory}
use Rattle.z80dev_disk.proofs.Entry_bytes.{found_here}
use Rattle.z80dev_disk.proofs.entries.read_only_name.Goals as goal

pub returns-then-is_read_only : goal.returns-then-is_read_only
returns-then-is_read_only c =
    let entries = directory c.args.disk.now.kind c.args.disk.now.device in
    let p : Entry → Bool = λ e. is_match c.args.user c.args.pattern.now e && is_read_only e in
    let passes = ap₂ (λ a b. a && b) (sym c.is_match.ensures ∙ c.if-is_match.true) (sym c.is_read_only.ensures ∙ c.if-is_read_only.true) in
    let below : c.loop-number.number < length entries = omega (arith, c.loop-number-test.true, c.entry_count-number-end.ensures, ap entry_count c.kind.ensures.kind, length_directory c.args.disk.now.kind c.args.disk.now.device) in
    let found = found_here p entries c.loop-number.number c.entry_at-entry.result below (sym c.entry_at-entry.ensures) passes c.loop-number.invariant in
    c.bytes.ensures.value ∙ c.new.ensures ∙ sym (ap (λ o. unwrap_or (option_map (λ e. letters e.name) o) c.args.pattern.now) found)

pub returns : goal.returns
returns c =
    let entries = directory c.args.disk.now.kind c.args.disk.now.device in
    let p : Entry → Bool = λ e. is_match c.args.user c.args.pattern.now e && is_read_only e in
    let past : length entries ≤ c.loop-number.number = omega (arith, c.loop-number-test.false, c.entry_count-number-end.ensures, ap entry_count c.kind.ensures.kind, length_directory c.args.disk.now.kind c.args.disk.now.device) in
    let none : find p entries ≡ None = c.loop-number.invariant ∙ ap (find p) (drop_all c.loop-number.number entries past) in
    sym (ap (λ o. unwrap_or (option_map (λ e. letters e.name) o) c.args.pattern.now) none)
