use Rattle.std.proofs.Common.{◌≡◌, ◌∙◌, ap, sym, subst, Some, Err, arith}
use Rattle.std.specs.Option.{option_map}
use Rattle.asm_line.specs.Tokens.{lexemes}
use Rattle.asm_text.specs.Sections.Blocks.{block_body}
use Rattle.asm_text.specs.Sections.Sections.{body_seen}
use Rattle.asm_macro.specs.State as state
use Rattle.asm_macro.specs.Values.{value_of_tokens}
use Rattle.asm_macro.specs.Ahead.{seen}
use Rattle.asm_macro.specs.Private.Stopped.{stopped}
use Rattle.asm_macro.specs.Private.Frames.{innermost}
use Rattle.asm_macro.specs.Private.Moves.{Resumes, moved, rest_of, state_of, tables_in}
use Rattle.asm_macro.specs.Parts.{repeated}
use Rattle.asm_macro.proofs.Stacks.{depth_is}
use Rattle.asm_macro.proofs.Taken.{value_is, value_fails, repeated_ok, repeated_err}
use Rattle.asm_macro.proofs.expansion.Expansion.repetition.Goals as goal

pub returns-else-len-self-ge-MOST_NESTED-clause-taken : goal.returns-else-len-self-ge-MOST_NESTED-clause-taken
returns-else-len-self-ge-MOST_NESTED-clause-taken c =
    let x = c.args.self.now in
    let y = c.body.new.self in
    let kept = c.in_ok-found.ensures.kept in
    let l = seen c.args.line in
    let w = value_of_tokens (state.constant_table (state_of y)) (lexemes c.args.tokens.now) in
    let found = subst (λ z. block_body (rest_of z).text ≡ Some (body_seen z.lines (innermost (tables_in z)) c.in-Some.body)) (sym kept)
    (sym c.in_ok-found.ensures.body ∙ ap (option_map (body_seen x.lines (innermost (tables_in x)))) c.in-Some.is) in
    let value = value_is w c.in-Ok.value c.in-Ok.ensures in
    subst (λ z. Resumes c.go_behind.result (rest_of c.go_behind.new.self) (moved (rest_of z).depth (rest_of z).around (repeated (rest_of z).depth (state_of z) l (block_body (rest_of z).text) (value_of_tokens (state.constant_table (state_of z)) (lexemes c.args.tokens.now))))) kept
    (subst (λ p. Resumes c.go_behind.result (rest_of c.go_behind.new.self) (moved (rest_of y).depth (rest_of y).around p))
    (sym (repeated_ok (rest_of y).depth (state_of y) l (block_body (rest_of y).text) w (body_seen y.lines (innermost (tables_in y)) c.in-Some.body) c.in-Ok.value found value
    (omega (arith, c.if-len-self-ge-MOST_NESTED.false, c.len.ensures, depth_is y)))) c.go_behind.ensures.resumed)

pub returns-in-Err-clause-taken : goal.returns-in-Err-clause-taken
returns-in-Err-clause-taken c =
    let x = c.args.self.now in
    let y = c.body.new.self in
    let kept = c.in_ok-found.ensures.kept in
    let l = seen c.args.line in
    let w = value_of_tokens (state.constant_table (state_of y)) (lexemes c.args.tokens.now) in
    let found = subst (λ z. block_body (rest_of z).text ≡ Some (body_seen z.lines (innermost (tables_in z)) c.in-Some.body)) (sym kept)
    (sym c.in_ok-found.ensures.body ∙ ap (option_map (body_seen x.lines (innermost (tables_in x)))) c.in-Some.is) in
    rw c.stopped.ensures (subst (λ z. Resumes (Err (stopped c.args.line.number c.in-Err.why)) (rest_of y) (moved (rest_of z).depth (rest_of z).around (repeated (rest_of z).depth (state_of z) l (block_body (rest_of z).text) (value_of_tokens (state.constant_table (state_of z)) (lexemes c.args.tokens.now))))) kept
    (value_fails w c.args.line.number c.in-Err.why (rest_of y) (moved (rest_of y).depth (rest_of y).around (repeated (rest_of y).depth (state_of y) l (block_body (rest_of y).text) w)) c.in-Err.ensures
    (λ v. repeated_err (rest_of y).depth (rest_of y).around (state_of y) l (block_body (rest_of y).text) w (body_seen y.lines (innermost (tables_in y)) c.in-Some.body) c.in-Err.why found v)))
