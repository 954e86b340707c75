use Rattle.std.proofs.Common.{codes}
use Rattle.std.proofs.lemmas.Result.{IfOk-weaker}
use Rattle.clap.specs.Words.{new_app}
use Rattle.z80dev_commands.specs.Commands.{flag_rule, path_rule}
use Rattle.z80dev_commands.proofs.Builders.{with_argument}
use Rattle.z80dev_commands.proofs.usage.blank.Goals as goal

pub returns : goal.returns
returns c =
    let one = with_argument _ _ _ (new_app (codes "blank")) (flag_rule (codes "mega")) c.in_ok-arg.ensures c.flag.ensures.rule c.flag.ensures.local (c.titled.ensures.app, c.titled.ensures.local) in
    let two = with_argument _ _ _ _ (flag_rule (codes "keep")) c.in_ok-arg-2.ensures c.flag-2.ensures.rule c.flag-2.ensures.local one in
    let three = with_argument _ _ _ _ (flag_rule (codes "no-lock")) c.in_ok-arg-3.ensures c.no_lock.ensures.rule c.no_lock.ensures.local two in
    record {
      app = IfOk-weaker c.arg-4.result _ _ (λ new adds. (with_argument _ new _ _ (path_rule (codes "IMG")) adds c.image.ensures.rule c.image.ensures.local three).0) c.arg-4.ensures;
      local = IfOk-weaker c.arg-4.result _ _ (λ new adds. (with_argument _ new _ _ (path_rule (codes "IMG")) adds c.image.ensures.rule c.image.ensures.local three).1) c.arg-4.ensures;
    }
