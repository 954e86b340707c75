use Rattle.std.proofs.Common.{◌≡◌, ◌∙◌, ◌+◌, ◌-◌, ap, sym, subst, arith, length}
use Rattle.std.specs.List.{slice_get}
use Rattle.asm_text.specs.Prepared.{said}
use Rattle.asm_text.specs.Sections.Onward.{behind}
use Rattle.asm_text.specs.Sections.Views.{next_of, onward_seen}
use Rattle.asm_macro.specs.Private.Frames.{innermost}
use Rattle.asm_macro.specs.Parts.{onward_part}
use Rattle.asm_macro.specs.Private.Going.{Fits, texts_opened, turns_opened}
use Rattle.asm_macro.specs.Private.Moves.{Resumes, moved, rest_of, state_of, tables_in}
use Rattle.asm_macro.proofs.Onwards.{behind_opens, fits_behind, one_text}
use Rattle.asm_macro.proofs.Stacks.{all_ok, last_table, so_ok}
use Rattle.asm_macro.proofs.expansion.Expansion.go_behind.Goals as goal

pub go_with-requires-clause-fits : goal.go_with-requires-clause-fits
go_with-requires-clause-fits c =
    let x = c.args.self.now in
    let onward = c.in_ok-onward.onward in
    let names = last_table (λ n. said n) x.calls.items c.last.result (c.last.ensures.value ∙ ap (λ xs. slice_get xs (length xs - 1)) c.deref.ensures.value) in
    let seen = subst (λ n. onward_seen x.lines n onward ≡ behind (next_of x.lines n c.args.following)) names c.in_ok-onward.ensures in
    let many = length x.calls.items + x.turns in
    subst (Fits many) (sym seen) (fits_behind many x.lines (innermost (tables_in x)) c.args.following c.requires.shallow)

pub returns-clause-count : goal.returns-clause-count
returns-clause-count c = so_ok c.go_with.result (λ is. omega (arith, is)) c.go_with.ensures.count

pub returns-clause-around : goal.returns-clause-around
returns-clause-around c =
    let x = c.args.self.now in
    let one = one_text (onward_seen x.lines (innermost (tables_in x)) c.in_ok-onward.onward) in
    so_ok c.go_with.result (λ is. omega (arith, is, one)) c.go_with.ensures.around

pub returns-clause-less : goal.returns-clause-less
returns-clause-less c =
    let x = c.args.self.now in
    let onward = c.in_ok-onward.onward in
    let names = last_table (λ n. said n) x.calls.items c.last.result (c.last.ensures.value ∙ ap (λ xs. slice_get xs (length xs - 1)) c.deref.ensures.value) in
    let seen = subst (λ n. onward_seen x.lines n onward ≡ behind (next_of x.lines n c.args.following)) names c.in_ok-onward.ensures in
    let same = ap texts_opened seen ∙ behind_opens (next_of x.lines (innermost (tables_in x)) c.args.following) ∙ sym (ap turns_opened seen) in
    let one = one_text (onward_seen x.lines (innermost (tables_in x)) onward) in
    all_ok c.go_with.result (λ sound count around. omega (arith, sound.few, count, around, same, one)) c.go_with.ensures.sound c.go_with.ensures.count c.go_with.ensures.around

pub returns-clause-resumed : goal.returns-clause-resumed
returns-clause-resumed c =
    let x = c.args.self.now in
    let onward = c.in_ok-onward.onward in
    let names = last_table (λ n. said n) x.calls.items c.last.result (c.last.ensures.value ∙ ap (λ xs. slice_get xs (length xs - 1)) c.deref.ensures.value) in
    let seen = subst (λ n. onward_seen x.lines n onward ≡ behind (next_of x.lines n c.args.following)) names c.in_ok-onward.ensures in
    let is = ap (onward_part (rest_of x).depth (state_of x)) seen in
    subst (λ p. Resumes c.go_with.result (rest_of c.go_with.new.self) (moved (rest_of x).depth (rest_of x).around p)) is c.go_with.ensures.gone
