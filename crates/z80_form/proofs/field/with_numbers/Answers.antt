use Rattle.std.proofs.Common.{◌≡◌, ℕ, ◌+◌, List, ◌∙◌, ap, sym, length, drop}
use Rattle.std.proofs.lemmas.List.{drop_more, drop_all}
use Rattle.z80_instr.specs.Table.{canonical}
use Rattle.z80_form.specs.Types.{Field}
use Rattle.z80_form.specs.Rows.{row}
use Rattle.z80_form.specs.Numbers.{with_numbers}
use Rattle.z80_form.proofs.Kept.{rows_steady, sizes_steady}
use Rattle.z80_form.proofs.field.with_numbers.Goals as goal

pub loop-field-preserved : goal.loop-field-preserved
loop-field-preserved c =
    ap (with_numbers (drop (c.loop-field.field-index + 1) c.args.numbers.now)) c.filled-instr.ensures
    ∙ sym (ap (λ (ns : List (Field × ℕ)). with_numbers ns c.loop-field.instr) (drop_more c.args.numbers.now c.loop-field.field-index _ c.loop-field-test.true))
    ∙ c.loop-field.invariant

whole : (c : goal.After-loop-field) → c.loop-field.instr ≡ with_numbers c.args.numbers.now c.args.instr
whole c = sym (ap (λ (ns : List (Field × ℕ)). with_numbers ns c.loop-field.instr) (drop_all c.loop-field.field-index c.args.numbers.now c.loop-field-test.false)) ∙ c.loop-field.invariant

pub returns-clause-numbers : goal.returns-clause-numbers
returns-clause-numbers c = whole c

pub returns-clause-row : goal.returns-clause-row
returns-clause-row c = ap row (whole c) ∙ rows_steady c.args.numbers.now c.args.instr

pub returns-clause-size : goal.returns-clause-size
returns-clause-size c = ap (λ i. length (canonical i)) (whole c) ∙ sizes_steady c.args.numbers.now c.args.instr
