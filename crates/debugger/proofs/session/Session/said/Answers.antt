use Rattle.std.proofs.Common.{sym, subst, IfOk}
use Rattle.debugger.specs.Text.{Says}
use Rattle.debugger_commands.specs.declared.command.Command.{Command}
use Rattle.debugger.proofs.session.Session.said.Goals as goal

pub returns-in-Step : goal.returns-in-Step
returns-in-Step c = λ stops old before listed printed count.
    subst (λ (it : Command). IfOk c.moved.result (λ text. Says it stops c.args.told old c.args.self.now.history c.args.self.now.labels c.args.self.now.listing.now text.items)) (sym c.in-Step.is) (c.moved.ensures old before printed count)

pub returns-in-Back : goal.returns-in-Back
returns-in-Back c = λ stops old before listed printed count.
    subst (λ (it : Command). IfOk c.moved-in-Back.result (λ text. Says it stops c.args.told old c.args.self.now.history c.args.self.now.labels c.args.self.now.listing.now text.items)) (sym c.in-Back.is) (c.moved-in-Back.ensures old before printed count)

pub returns-in-Turn : goal.returns-in-Turn
returns-in-Turn c = λ stops old before listed printed count.
    subst (λ (it : Command). IfOk c.moved-in-Turn.result (λ text. Says it stops c.args.told old c.args.self.now.history c.args.self.now.labels c.args.self.now.listing.now text.items)) (sym c.in-Turn.is) (c.moved-in-Turn.ensures old before printed count)

pub returns-in-Run : goal.returns-in-Run
returns-in-Run c = λ stops old before listed printed count.
    subst (λ (it : Command). IfOk c.ran.result (λ text. Says it stops c.args.told old c.args.self.now.history c.args.self.now.labels c.args.self.now.listing.now text.items)) (sym c.in-Run.is) (c.ran.ensures old before printed count)

pub returns-in-Next : goal.returns-in-Next
returns-in-Next c = λ stops old before listed printed count.
    subst (λ (it : Command). IfOk c.moved-in-Next.result (λ text. Says it stops c.args.told old c.args.self.now.history c.args.self.now.labels c.args.self.now.listing.now text.items)) (sym c.in-Next.is) (c.moved-in-Next.ensures old before printed count)

pub returns-in-Finish : goal.returns-in-Finish
returns-in-Finish c = λ stops old before listed printed count.
    subst (λ (it : Command). IfOk c.moved-in-Finish.result (λ text. Says it stops c.args.told old c.args.self.now.history c.args.self.now.labels c.args.self.now.listing.now text.items)) (sym c.in-Finish.is) (c.moved-in-Finish.ensures old before printed count)

pub returns-in-BackRun : goal.returns-in-BackRun
returns-in-BackRun c = λ stops old before listed printed count.
    subst (λ (it : Command). IfOk c.moved-in-BackRun.result (λ text. Says it stops c.args.told old c.args.self.now.history c.args.self.now.labels c.args.self.now.listing.now text.items)) (sym c.in-BackRun.is) (c.moved-in-BackRun.ensures old before printed count)

pub returns-in-BackNext : goal.returns-in-BackNext
returns-in-BackNext c = λ stops old before listed printed count.
    subst (λ (it : Command). IfOk c.moved-in-BackNext.result (λ text. Says it stops c.args.told old c.args.self.now.history c.args.self.now.labels c.args.self.now.listing.now text.items)) (sym c.in-BackNext.is) (c.moved-in-BackNext.ensures old before printed count)
