use Rattle.std.proofs.Common.{rules, ◌≡◌, ◌∙◌, ◌∷◌, [], ℕ, List, Bor, ap, length, map, sym}
use Rattle.std.specs.Vec.{vec_len}
use Rattle.std.proofs.lemmas.List.{map-append}
use Rattle.debugger.proofs.Listed.{further_row, rows_after, some_rows}
use Rattle.debugger.proofs.text.rows_from.Goals as goal

pub loop-line-preserved : goal.loop-line-preserved
loop-line-preserved c =
    let bytes_of : Bor (List ℕ) → List ℕ = λ row. row.now in
    let rows = map bytes_of c.loop-line.rows.items in
    let len : vec_len c.loop-line.rows ≡ length c.loop-line.rows.items = search rules in
    let some = some_rows bytes_of c.loop-line.rows.items (vec_len c.loop-line.rows) len (sym c.is_empty.ensures ∙ c.if-is_empty.false) in
    let pushed = ap (map bytes_of) c.in_ok-push-2.ensures.items ∙ map-append bytes_of c.loop-line.rows.items (c.in-Some.line ∷ []) in
    record {
      can_next = tt;
      finite = tt;
      rest =
          ap (λ all. rows_after c.args.digits.now all c.next.new.self) pushed
          ∙ further_row c.args.digits.now c.in-Some.line.now rows c.next.new.self some (sym c.is_further_row.ensures ∙ c.if-is_further_row.true)
          ∙ sym (ap (rows_after c.args.digits.now rows) c.in-Some.ensures.steps) ∙ c.loop-line.invariant.rest;
    }
