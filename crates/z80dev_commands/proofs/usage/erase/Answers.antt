use Rattle.std.proofs.Common.{codes}
use Rattle.std.proofs.lemmas.Result.{IfOk-weaker}
use Rattle.clap.specs.Words.{new_app}
use Rattle.z80dev_commands.specs.Commands.{paths_rule}
use Rattle.z80dev_commands.proofs.Builders.{with_argument, with_image}
use Rattle.z80dev_commands.proofs.usage.erase.Goals as goal

pub returns : goal.returns
returns c =
    let one = with_image _ _ (new_app (codes "erase")) c.in_ok-with_target.ensures.app c.in_ok-with_target.ensures.local (c.titled-command.ensures.app, c.titled-command.ensures.local) in
    record {
      app = IfOk-weaker c.arg.result _ _ (λ new adds. (with_argument _ new _ _ (paths_rule (codes "NAME")) adds c.names.ensures.rule c.names.ensures.local one).0) c.arg.ensures;
      local = IfOk-weaker c.arg.result _ _ (λ new adds. (with_argument _ new _ _ (paths_rule (codes "NAME")) adds c.names.ensures.rule c.names.ensures.local one).1) c.arg.ensures;
    }
