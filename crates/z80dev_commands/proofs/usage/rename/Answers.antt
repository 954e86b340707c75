use Rattle.std.proofs.Common.{codes}
use Rattle.std.proofs.lemmas.Result.{IfOk-weaker}
use Rattle.clap.specs.Words.{new_app}
use Rattle.z80dev_commands.specs.Commands.{path_rule}
use Rattle.z80dev_commands.proofs.Builders.{with_argument, with_image}
use Rattle.z80dev_commands.proofs.usage.rename.Goals as goal

pub returns : goal.returns
returns c =
    let one = with_image _ _ (new_app (codes "rename")) c.in_ok-with_target.ensures.app c.in_ok-with_target.ensures.local (c.titled-command.ensures.app, c.titled-command.ensures.local) in
    let two = with_argument _ _ _ _ (path_rule (codes "OLD")) c.in_ok-arg.ensures c.path.ensures.rule c.path.ensures.local one in
    record {
      app = IfOk-weaker c.arg-2.result _ _ (λ new adds. (with_argument _ new _ _ (path_rule (codes "NEW")) adds c.path-2.ensures.rule c.path-2.ensures.local two).0) c.arg-2.ensures;
      local = IfOk-weaker c.arg-2.result _ _ (λ new adds. (with_argument _ new _ _ (path_rule (codes "NEW")) adds c.path-2.ensures.rule c.path-2.ensures.local two).1) c.arg-2.ensures;
    }
