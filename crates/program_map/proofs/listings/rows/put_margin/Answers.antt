use Rattle.std.proofs.Common.{◌≡◌, ◌∙◌, ◌+◌, ap, map, take, drop}
use Rattle.std.proofs.lemmas.Result.{on_ok_weaker}
use Rattle.common.specs.declared.limits.TheConstants.{FIRST_PLACE}
use Rattle.hex.specs.Hex.{encode_upper}
use Rattle.program_map.specs.declared.listings.cells.Cell.{Cell}
use Rattle.program_map.specs.Listings.Printed.{address_text}
use Rattle.program_map.proofs.Listed.Digits.{address_behind, address_front, address_long, margin_put}
use Rattle.program_map.proofs.listings.rows.put_margin.Goals as goal

pub split_at-requires : goal.split_at-requires
split_at-requires c = rw (c.as_bytes.ensures.value, c.in_ok-digits.ensures) (address_long _ _)

pub returns : goal.returns
returns c =
    let digits = c.as_bytes.ensures.value ∙ c.in_ok-digits.ensures in
    let front : c.split_at.result.0.now ≡ address_text (FIRST_PLACE + c.in-Some.first.now.number) = c.split_at.ensures.front ∙ ap (take 4) digits ∙ address_front _ _ in
    let back : c.split_at.result.1.now ≡ encode_upper (map (λ (cell : Cell). cell.value) c.args.row.now) = c.split_at.ensures.back ∙ ap (drop 4) digits ∙ address_behind _ _ in
    on_ok_weaker c.put_blanks-4.result
    (margin_put c.in-Some.first.now c.in-Some.field-0-1.now c.args.row.now c.args.out.now.items _ _ _ _ _ _ _ _ c.in-Some.ensures.cases.0 front back
    c.in_ok-extend_from_slice.ensures.items c.in_ok-put_blanks.ensures c.in_ok-extend_from_slice-2.ensures.items c.saturating_sub.ensures c.in_ok-put_blanks-2.ensures)
    c.put_blanks-4.ensures
