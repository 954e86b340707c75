use Rattle.std.proofs.Common.{◌≡◌, ◌∙◌, ◌+◌, ◌∷◌, ◌++◌, [], ap, sym, arith, drop, map}
use Rattle.zmo_object.specs.Modules.{statement_of}
use Rattle.program_map.proofs.Parting.{front_of}
use Rattle.program_map.proofs.Told.{told_other, told_space}
use Rattle.program_map.proofs.maps.kinds.put_told.Goals as goal
use Rattle.program_map.proofs.maps.kinds.put_told.Goals.{then-is_space+in_ok-push, else-is_space+in_ok-push-2}

pub loop-statement-preserved : goal.loop-statement-preserved
loop-statement-preserved c =
    let i = c.loop-statement.statement-index in
    let before = c.loop-statement.invariant in
    let left : map statement_of (drop i c.args.statements.now) ≡ statement_of c.statement-item.result ∷ map statement_of (drop (i + 1) c.args.statements.now) =
    ap (map statement_of) (front_of c.args.statements.now i c.statement-item.result c.loop-statement-test.true c.statement-item.is) in
    elim c.if-is_space.branch [
      | then-is_space+in_ok-push w ↦ record {
        few = omega (arith, w.next-is);
        all = rw w.next-is (told_space _ _ _ _ _ _ _ left (sym c.is_space.ensures ∙ w.if-is_space.true) (ap (λ v. v.items) w.kinds-is ∙ w.in_ok-push.ensures.items) before.all);
      }
      | else-is_space+in_ok-push-2 w ↦ record {
        few = omega (arith, w.next-is);
        all = told_other _ _ _ _ _ _ _ _ _ left (sym c.is_space.ensures ∙ w.if-is_space.false) (ap (λ v. v.items) w.kinds-is ∙ w.in_ok-push-2.ensures.items ∙ ap (λ k. c.loop-statement.kinds.items ++ k ∷ []) w.said_at.ensures) w.next-is before.all;
      }
    ]
