use Rattle.std.proofs.Common.{◌+◌, ◌∷◌, ◌++◌, ◌≡◌, ◌∙◌, List, [], sym, subst, length}
use Rattle.zlink.specs.declared.program.joining.Links.{Links}
use Rattle.zlink.specs.Program.Faults.{unresolved}
use Rattle.zlink.proofs.Programs.Going_on.{Links_so_far, all_links, ends, more_links}
use Rattle.zlink.proofs.program.joining.all_links.Goals as goal

pub loop-number-preserved : goal.loop-number-preserved
loop-number-preserved c =
    let m = c.index-modules-number.result in
    let modules = c.args.modules.now in
    let names = c.args.names.now in
    let at = c.loop-number.number in
    let base = c.loop-number.base in
    let own = c.in_ok-links_of.ensures in
    let counted : length m.statements.items ≡ c.len.result = sym (c.len.ensures ∙ m.statements.ok.0) in
    subst (Links_so_far modules names (unresolved names) (at + 1) (base + c.len.result)) (sym {A = List Links} c.in_ok-push.ensures.items)
    (subst (λ n. Links_so_far modules names (unresolved names) (at + 1) (base + n) (c.loop-number.links.items ++ c.in_ok-links_of.field-0 ∷ [])) counted
    (more_links modules names (unresolved names) at base m c.loop-number.links.items c.in_ok-links_of.field-0 c.loop-number-test.true c.index-modules-number.is own.0 own.1 c.loop-number.invariant))

pub returns : goal.returns
returns c =
    let modules = c.args.modules.now in
    let names = c.args.names.now in (
      ends (unresolved names) modules c.loop-number.number c.loop-number.base c.loop-number-test.false c.loop-number.invariant.judging,
      all_links modules names (unresolved names) c.loop-number.number c.loop-number.base c.loop-number.links.items c.loop-number-test.false c.loop-number.invariant,
    )
