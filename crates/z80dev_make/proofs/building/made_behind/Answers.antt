use Rattle.std.proofs.Common.{[], ◌≡◌, length, arith, sym, subst, ◌∙◌}
use Rattle.std.specs.List.{AllZip}
use Rattle.std.proofs.lemmas.Bool.Decides.{nat_tests}
use Rattle.std.proofs.lemmas.List.{nil_from_length}
use Rattle.report_texts.specs.Behind.{IsBehind}
use Rattle.report_texts.specs.Front.{front_text}
use Rattle.report_texts.proofs.Named.{alone_behind}
use Rattle.z80dev_make.proofs.building.made_behind.Goals as goal

pub built-requires : goal.built-requires
built-requires c =
    let empty : length c.in_ok-before.before.items ≡ 0 = grind (arith, nat_tests, c.is_empty.ensures, c.if-is_empty.true, c.in_ok-before.before.ok) in
    let none : front_text c.args.front ≡ [] = sym c.in_ok-before.ensures ∙ nil_from_length c.in_ok-before.before.items empty in
    subst (AllZip (IsBehind c.args.front) c.args.files.now) (sym c.deref.ensures.value) (alone_behind c.args.front none c.args.files.now c.in_ok-sources.sources.items c.in_ok-sources.ensures)
