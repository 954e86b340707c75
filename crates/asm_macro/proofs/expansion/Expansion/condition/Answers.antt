use Rattle.std.proofs.Common.{◌≡◌, ◌∙◌, ap, sym, subst, Some, Err}
use Rattle.std.specs.Option.{option_map}
use Rattle.asm_line.specs.Tokens.{lexemes}
use Rattle.asm_text.specs.Sections.Blocks.{branches_of}
use Rattle.asm_text.specs.Sections.Sections.{branches_seen}
use Rattle.asm_macro.specs.State as state
use Rattle.asm_macro.specs.Values.{value_of_tokens}
use Rattle.asm_macro.specs.Ahead.{seen}
use Rattle.asm_macro.specs.Private.Stopped.{stopped}
use Rattle.asm_macro.specs.Private.Frames.{innermost}
use Rattle.asm_macro.specs.Private.Moves.{Resumes, moved, rest_of, state_of, tables_in}
use Rattle.asm_macro.specs.Parts.{conditional}
use Rattle.asm_macro.proofs.Taken.{value_is, value_fails, conditional_ok, conditional_err}
use Rattle.asm_macro.proofs.expansion.Expansion.condition.Goals as goal

pub returns-in-Ok-clause-taken : goal.returns-in-Ok-clause-taken
returns-in-Ok-clause-taken c =
    let x = c.args.self.now in
    let y = c.branches.new.self in
    let kept = c.in_ok-found.ensures.kept in
    let l = seen c.args.line in
    let w = value_of_tokens (state.constant_table (state_of y)) (lexemes c.args.tokens.now) in
    let found = subst (λ z. branches_of (rest_of z).text ≡ Some (branches_seen z.lines (innermost (tables_in z)) c.in-Some.choice)) (sym kept)
    (sym c.in_ok-found.ensures.branches ∙ ap (option_map (branches_seen x.lines (innermost (tables_in x)))) c.in-Some.is) in
    let value = value_is w c.in-Ok.value c.in-Ok.ensures in
    subst (λ z. Resumes c.go_in.result (rest_of c.go_in.new.self) (moved (rest_of z).depth (rest_of z).around (conditional (rest_of z).depth (state_of z) l (branches_of (rest_of z).text) (value_of_tokens (state.constant_table (state_of z)) (lexemes c.args.tokens.now))))) kept
    (subst (λ p. Resumes c.go_in.result (rest_of c.go_in.new.self) (moved (rest_of y).depth (rest_of y).around p))
    (sym (conditional_ok (rest_of y).depth (state_of y) l (branches_of (rest_of y).text) w (branches_seen y.lines (innermost (tables_in y)) c.in-Some.choice) c.in-Ok.value found value)) c.go_in.ensures.chosen)

pub returns-in-Err-clause-taken : goal.returns-in-Err-clause-taken
returns-in-Err-clause-taken c =
    let x = c.args.self.now in
    let y = c.branches.new.self in
    let kept = c.in_ok-found.ensures.kept in
    let l = seen c.args.line in
    let w = value_of_tokens (state.constant_table (state_of y)) (lexemes c.args.tokens.now) in
    let found = subst (λ z. branches_of (rest_of z).text ≡ Some (branches_seen z.lines (innermost (tables_in z)) c.in-Some.choice)) (sym kept)
    (sym c.in_ok-found.ensures.branches ∙ ap (option_map (branches_seen x.lines (innermost (tables_in x)))) c.in-Some.is) in
    rw c.stopped.ensures (subst (λ z. Resumes (Err (stopped c.args.line.number c.in-Err.why)) (rest_of y) (moved (rest_of z).depth (rest_of z).around (conditional (rest_of z).depth (state_of z) l (branches_of (rest_of z).text) (value_of_tokens (state.constant_table (state_of z)) (lexemes c.args.tokens.now))))) kept
    (value_fails w c.args.line.number c.in-Err.why (rest_of y) (moved (rest_of y).depth (rest_of y).around (conditional (rest_of y).depth (state_of y) l (branches_of (rest_of y).text) w)) c.in-Err.ensures
    (λ v. conditional_err (rest_of y).depth (rest_of y).around (state_of y) l (branches_of (rest_of y).text) w (branches_seen y.lines (innermost (tables_in y)) c.in-Some.choice) c.in-Err.why found v)))
