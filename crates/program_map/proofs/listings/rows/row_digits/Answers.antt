use Rattle.std.proofs.Common.{◌≤◌, sym, map, length}
use Rattle.std.proofs.lemmas.List.{length-map}
use Rattle.program_map.specs.declared.listings.cells.Cell.{Cell}
use Rattle.program_map.proofs.Listed.Digits.{address_before, row_taken}
use Rattle.program_map.proofs.listings.rows.row_digits.Goals as goal

pub returns : goal.returns
returns c =
    let values = map (λ (cell : Cell). cell.value) c.args.row.now in
    let few : length values ≤ 4 = rw (length-map c.args.row.now (λ (cell : Cell). cell.value)) c.requires in
    let shown = rw (c.value_at.ensures, c.value_at-2.ensures, c.value_at-3.ensures, c.value_at-4.ensures, sym (length-map c.args.row.now (λ (cell : Cell). cell.value)), row_taken _ _ values few, c.address_of-high.ensures.high, c.address_of-high.ensures.low, address_before) at c.encode_upper.ensures in
    shown
