use Rattle.std.proofs.Common.{◌≡◌, ◌&&◌, ◌==◌, ◌∙◌, true, false, ap, drop, length, sym, take}
use Rattle.z80dev_disk.specs.Names.{trimmed}
use Rattle.z80dev_disk.proofs.Lists.{last_three}
use Rattle.z80dev_disk.proofs.Shown_names.{is_blank}
use Rattle.z80dev_disk.proofs.shown.is_blank.Goals as goal

pub returns-then-is_empty : goal.returns-then-is_empty
returns-then-is_empty c =
    let name = c.args.name.now in
    let first : (length (trimmed (take 8 name)) == 0) ≡ true = ap (λ xs. length xs == 0) (sym c.trimmed.ensures) ∙ sym c.is_empty.ensures ∙ c.if-is_empty.true in
    let kind_is = c.trimmed-then-is_empty.ensures ∙ ap trimmed (last_three name c.told-name) in
    c.is_empty-then-is_empty.ensures ∙ ap (λ xs. length xs == 0) kind_is ∙ sym (is_blank name ∙ ap (λ t. t && (length (trimmed (drop 8 name)) == 0)) first)

pub returns-else-is_empty : goal.returns-else-is_empty
returns-else-is_empty c =
    let name = c.args.name.now in
    let first : (length (trimmed (take 8 name)) == 0) ≡ false = ap (λ xs. length xs == 0) (sym c.trimmed.ensures) ∙ sym c.is_empty.ensures ∙ c.if-is_empty.false in
    c.if-is_empty.false ∙ sym (is_blank name ∙ ap (λ t. t && (length (trimmed (drop 8 name)) == 0)) first)
