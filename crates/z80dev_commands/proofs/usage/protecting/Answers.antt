use Rattle.std.proofs.Common.{codes}
use Rattle.std.proofs.lemmas.Result.{IfOk-weaker}
use Rattle.clap.specs.Words.{new_app}
use Rattle.z80dev_commands.specs.Commands.{flag_rule, paths_rule}
use Rattle.z80dev_commands.proofs.Builders.{with_argument, with_image}
use Rattle.z80dev_commands.proofs.usage.protecting.Goals as goal

pub returns : goal.returns
returns c =
    let one = with_argument _ _ _ (new_app c.args.name.now) (flag_rule (codes "system")) c.in_ok-command.ensures c.flag.ensures.rule c.flag.ensures.local (c.titled.ensures.app, c.titled.ensures.local) in
    let two = with_image _ _ _ c.in_ok-with_target.ensures.app c.in_ok-with_target.ensures.local one in
    record {
      app = IfOk-weaker c.arg-2.result _ _ (λ new adds. (with_argument _ new _ _ (paths_rule (codes "NAME")) adds c.names.ensures.rule c.names.ensures.local two).0) c.arg-2.ensures;
      local = IfOk-weaker c.arg-2.result _ _ (λ new adds. (with_argument _ new _ _ (paths_rule (codes "NAME")) adds c.names.ensures.rule c.names.ensures.local two).1) c.arg-2.ensures;
    }
