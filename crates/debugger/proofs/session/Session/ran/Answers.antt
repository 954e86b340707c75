use Rattle.std.proofs.Common.{◌++◌, ◌∙◌, IfOk, List, ℕ, ap, subst}
use Rattle.debugger.specs.Text.{SaysWhere, missed_text}
use Rattle.debugger.proofs.session.Session.ran.Goals as goal

pub returns : goal.returns
returns c = λ old before printed count.
    let missed = missed_text c.args.self.now.labels c.args.address in
    let is = c.deref.ensures.value ∙ c.in_ok-put_missed.ensures ∙ ap (λ (xs : List ℕ). xs ++ missed) c.new-missed.ensures.items in
    subst (λ (none : List ℕ). IfOk c.moved.result (λ text. SaysWhere none c.args.told old c.args.self.now.history c.args.self.now.labels text.items)) is (c.moved.ensures old before printed count)
