use Rattle.std.proofs.Common.{◌∙◌, ◌+◌, ◌++◌, ap, arith, false, map}
use Rattle.std.specs.List.{slice_index_or}
use Rattle.std.specs.Option.{option_to_list}
use Rattle.asm_macro.specs.Views.{lines_seen}
use Rattle.source_errors.specs.Findings.{finding_of}
use Rattle.source_errors.specs.Found.{scan_error}
use Rattle.source_errors.proofs.Fronts.{numbered_more}
use Rattle.source_errors.proofs.scanning.put_scan_errors.Goals as goal

pub loop-at-preserved : goal.loop-at-preserved
loop-at-preserved c =
    let count = c.len-at-end.ensures in
    let test = c.loop-at-test.true in
    let lines = lines_seen c.args.expanded.now in
    let read = ap (λ flags. slice_index_or flags (c.loop-at.at + 1) false) c.deref.ensures.value ∙ c.in_ok-flags.ensures.each (c.loop-at.at + 1) (omega (arith, count, test)) in
    numbered_more (scan_error c.args.other lines) c.args.lines.now c.loop-at.at (map finding_of c.loop-at.findings.items) _ _ (omega (arith, count, test))
    (c.in_ok-put_scan_error.ensures lines read ∙ ap (λ text. map finding_of c.loop-at.findings.items ++ option_to_list (scan_error c.args.other lines (record { number = c.loop-at.at + 1; text = text }))) c.line.ensures)
    c.loop-at.invariant
