use Rattle.std.proofs.Common.{codes, refl}
use Rattle.std.proofs.lemmas.Result.{IfOk-weaker}
use Rattle.clap.specs.Words.{app_of}
use Rattle.z80dev_commands.specs.Commands.{flag_rule, path_rule, user_rule}
use Rattle.z80dev_commands.proofs.Builders.{with_argument}
use Rattle.z80dev_commands.proofs.usage.arguments.with_target.Goals as goal

pub returns : goal.returns
returns c =
    let one = with_argument _ _ _ (app_of c.args.command) user_rule c.in_ok-arg.ensures c.user_or_zero.ensures.rule c.user_or_zero.ensures.local (refl, c.requires) in
    let two = with_argument _ _ _ _ (flag_rule (codes "no-lock")) c.in_ok-arg-2.ensures c.no_lock.ensures.rule c.no_lock.ensures.local one in
    record {
      app = IfOk-weaker c.arg-3.result _ _ (λ new adds. (with_argument _ new _ _ (path_rule (codes "IMG")) adds c.image.ensures.rule c.image.ensures.local two).0) c.arg-3.ensures;
      local = IfOk-weaker c.arg-3.result _ _ (λ new adds. (with_argument _ new _ _ (path_rule (codes "IMG")) adds c.image.ensures.rule c.image.ensures.local two).1) c.arg-3.ensures;
    }
