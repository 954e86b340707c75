use Rattle.std.proofs.Common.{codes}
use Rattle.std.proofs.lemmas.Result.{IfOk-weaker}
use Rattle.clap.specs.Words.{new_app}
use Rattle.z80dev_commands.specs.Commands.{flag_rule, name_rule, path_rule, user_rule}
use Rattle.z80dev_commands.proofs.Builders.{with_argument}
use Rattle.z80dev_commands.proofs.usage.dir.Goals as goal

pub returns : goal.returns
returns c =
    let one = with_argument _ _ _ (new_app (codes "dir")) user_rule c.in_ok-arg.ensures c.user.ensures.rule c.user.ensures.local (c.titled.ensures.app, c.titled.ensures.local) in
    let two = with_argument _ _ _ _ (flag_rule (codes "long")) c.in_ok-arg-2.ensures c.flag.ensures.rule c.flag.ensures.local one in
    let three = with_argument _ _ _ _ (path_rule (codes "IMG")) c.in_ok-arg-3.ensures c.image.ensures.rule c.image.ensures.local two in
    record {
      app = IfOk-weaker c.arg-4.result _ _ (λ new adds. (with_argument _ new _ _ (name_rule (codes "NAME")) adds c.name_if_given.ensures.rule c.name_if_given.ensures.local three).0) c.arg-4.ensures;
      local = IfOk-weaker c.arg-4.result _ _ (λ new adds. (with_argument _ new _ _ (name_rule (codes "NAME")) adds c.name_if_given.ensures.rule c.name_if_given.ensures.local three).1) c.arg-4.ensures;
    }
