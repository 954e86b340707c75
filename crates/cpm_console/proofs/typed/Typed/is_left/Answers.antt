use Rattle.std.proofs.Common.{◌≡◌, length, arith, ◌∙◌, sym, rules}
use Rattle.std.proofs.lemmas.Bool.{ltb-true, lt-ltb}
use Rattle.cpm_console.proofs.Input.{some_left, place_within}
use Rattle.cpm_console.proofs.typed.Typed.is_left.Goals as goal

pub returns : goal.returns
returns c =
    let at = c.self.inside.at in
    let items = c.self.inside.bytes.items in
    let size : c.len.result ≡ length items = search rules in
    (λ t e. some_left at items (omega (arith, ltb-true at c.len.result t)) (c.self.view_is ∙ e), λ h. lt-ltb at c.len.result (omega (arith, place_within at items (λ e. h (sym c.self.view_is ∙ e)))))
