use Rattle.std.proofs.Common.{◌≡◌, ◌∷◌, ◌++◌, [], sym, ap, subst, ◌∙◌}
use Rattle.indexmap.proofs.CallerLemmas.{insert_entry-new}
use Rattle.asm_expr.specs.declared.names.Entry.{Entry}
use Rattle.asm_expr.specs.Names.{AreCounted, found, with_meaning}
use Rattle.asm_expr.specs.Private.Entries.{AreKnown, Knows, table_of}
use Rattle.asm_expr.proofs.Entries.{counted_after, known_after, lookup-meant, none_meant, table_after}
use Rattle.asm_expr.proofs.names.Names.define.Goals as goal

abbrev entry : (c : goal.Joined-branch-2) → Entry
entry c = record { meaning = c.args.meaning; left_at = c.left_at-left_at.result }

inserted : (c : goal.Joined-branch-2) → c.insert.new.self.entries ≡ c.self.inside.entries.entries ++ (c.args.name, entry c) ∷ []
inserted c =
    let absent = sym (lookup-meant c.self.inside.entries.entries c.args.name.items) ∙ ap (λ t. found t c.args.name.items) c.self.view_is ∙ c.requires.new in
    c.in_ok-insert.ensures.entries ∙ insert_entry-new _ c.self.inside.entries c.args.name (entry c) (none_meant _ absent)

defined : (c : goal.Joined-branch-2) → table_of c.insert.new.self.entries c.self.inside.here c.self.inside.statements
    ≡ with_meaning c.args.name.items c.args.meaning (table_of c.self.inside.entries.entries c.self.inside.here c.self.inside.statements)
defined c = table_after _ _ c.args.name (entry c) c.self.inside.here c.self.inside.statements (inserted c)

pub returns-clause-ok : goal.returns-clause-ok
returns-clause-ok c = defined c ∙ ap (with_meaning c.args.name.items c.args.meaning) c.self.view_is

pub invariant_of-self-2 : goal.invariant_of-self-2
invariant_of-self-2 c = (
  subst AreCounted (sym (defined c)) (counted_after (table_of c.self.inside.entries.entries c.self.inside.here c.self.inside.statements) c.args.name.items c.args.meaning c.self.invariant.0 c.requires.counted),
  known_after c.self.inside.statements c.self.inside.entries.entries c.insert.new.self.entries c.args.name (entry c) (inserted c) c.self.invariant.1
      (subst (λ t. Knows t.statements c.args.meaning c.left_at-left_at.result) (sym c.self.view_is) c.left_at-left_at.ensures),
)

pub invariant_of-self : goal.invariant_of-self
invariant_of-self c =
    let same = c.in_err-insert.ensures.err in
    (subst (λ es. AreCounted (table_of es c.self.inside.here c.self.inside.statements)) (sym same) c.self.invariant.0, subst (AreKnown c.self.inside.statements) (sym same) c.self.invariant.1)
