use Rattle.std.proofs.Common.{ℕ, rules, subst}
use Rattle.std.proofs.lemmas.List.Sorted.{answers_always}
use Rattle.program_map.specs.declared.listings.cells.Cell.{Cell}
use Rattle.program_map.specs.Private.Runs.{HasLines}
use Rattle.program_map.proofs.Listed.ByLine.{sorted_has}
use Rattle.program_map.proofs.listings.cells.cells_by_line.Goals as goal

pub returns : goal.returns
returns c =
    let line : Cell → ℕ × ℕ = λ cell. (cell.source, cell.line) in
    let sorted = c.in_ok-sort_by_key.ensures.sorted line (answers_always _ _ _ (λ f a r g h. search rules)) in
    let stable = c.in_ok-sort_by_key.ensures.stable line (answers_always _ _ _ (λ f a r g h. search rules)) in
    subst (λ all. HasLines (λ _ _. Unit {0}) c.sort_by_key.new.self.items all) c.in_ok-cells.ensures (sorted_has _ _ sorted stable)
