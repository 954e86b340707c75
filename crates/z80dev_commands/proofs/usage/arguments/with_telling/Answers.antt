use Rattle.std.proofs.Common.{codes, refl}
use Rattle.std.proofs.lemmas.Result.{IfOk-weaker}
use Rattle.clap.specs.Words.{app_of}
use Rattle.z80dev_commands.specs.Commands.{flag_rule, labels_rule, last_rule, option_rule}
use Rattle.z80dev_commands.proofs.Builders.{with_argument}
use Rattle.z80dev_commands.proofs.usage.arguments.with_telling.Goals as goal

pub returns : goal.returns
returns c =
    let one = with_argument _ _ _ (app_of c.args.command) labels_rule c.in_ok-arg.ensures c.labels.ensures.rule c.labels.ensures.local (refl, c.requires) in
    let two = with_argument _ _ _ _ (flag_rule (codes "regs")) c.in_ok-arg-2.ensures c.flag.ensures.rule c.flag.ensures.local one in
    let three = with_argument _ _ _ _ last_rule c.in_ok-arg-3.ensures c.last.ensures.rule c.last.ensures.local two in
    let four = with_argument _ _ _ _ (option_rule (codes "trace") (codes "TRC")) c.in_ok-arg-4.ensures c.option.ensures.rule c.option.ensures.local three in
    let five = with_argument _ _ _ _ (option_rule (codes "profile") (codes "PRF")) c.in_ok-arg-5.ensures c.option-2.ensures.rule c.option-2.ensures.local four in
    record {
      app = IfOk-weaker c.arg-6.result _ _ (λ new adds. (with_argument _ new _ _ (option_rule (codes "list") (codes "LST")) adds c.option-3.ensures.rule c.option-3.ensures.local five).0) c.arg-6.ensures;
      local = IfOk-weaker c.arg-6.result _ _ (λ new adds. (with_argument _ new _ _ (option_rule (codes "list") (codes "LST")) adds c.option-3.ensures.rule c.option-3.ensures.local five).1) c.arg-6.ensures;
    }
