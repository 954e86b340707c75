use Rattle.std.proofs.Common.{◌∙◌, ◌++◌, ◌∷◌, [], ap, sym, append_assoc}
use Rattle.program_map.specs.Reasons.Programs.{sites_of}
use Rattle.program_map.proofs.Reasoned.Sites.{sites-more}
use Rattle.program_map.proofs.reasons.program.put_sites.Goals as goal

pub loop-statement-preserved : goal.loop-statement-preserved
loop-statement-preserved c =
    let k = c.loop-statement.statement in
    let old = c.args.sites.now.items in
    c.in_ok-push.ensures.items ∙ (ap (λ l. l ++ record { «module» = c.args.number; statement = k } ∷ []) c.loop-statement.invariant ∙ (append_assoc old (sites_of c.args.number k) _ ∙ ap (λ l. old ++ l) (sym (sites-more c.args.number k))))
