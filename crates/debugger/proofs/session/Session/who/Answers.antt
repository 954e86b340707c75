use Rattle.std.proofs.Common.{ℕ, List, ◌++◌, ap, ◌∙◌}
use Rattle.debugger.specs.Text.{who_text}
use Rattle.debugger.proofs.session.Session.who.Goals as goal

pub returns : goal.returns
returns c =
    let known = c.in_ok-last.ensures in
    let said = c.in_ok-put_who.ensures ∙ ap (λ (bs : List ℕ). bs ++ who_text c.args.self.now.labels c.args.address c.in_ok-last.last) c.new-text.ensures.items in
    (known.0, c.in_ok-last.last, known.1, known.2, said)
