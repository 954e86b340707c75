use Rattle.std.proofs.Common.{◌+◌, [], ◌∷◌, ◌++◌, Ok, drop, sym, ap, subst, ◌∙◌}
use Rattle.std.proofs.lemmas.List.{drop_more}
use Rattle.common.specs.Results.{◌>>=◌}
use Rattle.asm_stmt.specs.Made.{number_filled}
use Rattle.asm_stmt.proofs.Each.{Numbered, step}
use Rattle.asm_stmt.proofs.code.code.Goals as goal

pub loop-field-preserved : goal.loop-field-preserved
loop-field-preserved c =
    let t = c.args.names.now in
    let xs = c.args.numbers.now in
    let i = c.loop-field.field-index in
    let x = c.loop-field-item.result in
    let s : Numbered t c.args.instr xs (x ∷ drop (i + 1) xs) c.loop-field.coded =
    subst (λ ys. Numbered t c.args.instr xs ys c.loop-field.coded) (drop_more xs i x c.loop-field-test.true ∙ ap (λ y. y ∷ drop (i + 1) xs) (sym c.loop-field-item.is)) c.loop-field.invariant in
    record {
      done = s.done ++ (x.0, c.in_ok-fill.field-0) ∷ [];
      goes = step (number_filled t) xs (drop (i + 1) xs) s.done x (x.0, c.in_ok-fill.field-0) (ap (λ r. r >>= λ f. Ok (x.0, f)) c.in_ok-fill.ensures.filled) s.goes;
      codes = c.in_ok-put.ensures c.args.instr s.done s.codes;
    }
