use Rattle.std.proofs.Common.{◌≡◌, ◌<◌, ℕ, Option, None, length, sym, subst, ◌∙◌, arith}
use Rattle.std.proofs.lemmas.Bool.Decides.{nat_tests}
use Rattle.std.specs.Option.{option_map}
use Rattle.report_texts.specs.Faults.Refusals.{told_text}
use Rattle.report_texts.specs.Shared.{IsFaultOfText, IsOwnFault, unshared_in}
use Rattle.report_texts.proofs.Faulty.{faulty}
use Rattle.report_texts.proofs.sharing.fault_of_front.Goals as goal

pub returns-in_ok-told-in-None : goal.returns-in_ok-told-in-None
returns-in_ok-told-in-None c =
    let front = c.args.front in
    let text = c.args.text.now in
    let said = option_map told_text c.in_ok-told-in-None.told in
    let read = c.in_ok-line.ensures in
    let none : ◌≡◌ {A = Option ℕ} None (unshared_in front read.0) = sym c.in-None.is ∙ read.2 in
    let own = subst (λ line. IsOwnFault front line text said) none c.in_ok-told-in-None.ensures in
    let some : 0 < length text = grind (arith, nat_tests, c.is_empty.ensures, c.if-is_empty.false) in
    subst (λ t. IsFaultOfText front t said) c.requires (faulty front text said some read.0 read.1 own)
