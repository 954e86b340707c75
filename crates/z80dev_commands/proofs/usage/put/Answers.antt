use Rattle.std.proofs.Common.{codes}
use Rattle.std.proofs.lemmas.Result.{IfOk-weaker}
use Rattle.clap.specs.Words.{new_app}
use Rattle.z80dev_commands.specs.Commands.{flag_rule, path_rule, words_rule}
use Rattle.z80dev_commands.proofs.Builders.{with_argument, with_image}
use Rattle.z80dev_commands.proofs.usage.put.Goals as goal

pub returns : goal.returns
returns c =
    let one = with_argument _ _ _ (new_app (codes "put")) (flag_rule (codes "to")) c.in_ok-arg.ensures c.flag.ensures.rule c.flag.ensures.local (c.of_two_forms.ensures.app, c.of_two_forms.ensures.local) in
    let two = with_argument _ _ _ _ (flag_rule (codes "replace")) c.in_ok-arg-2.ensures c.flag-2.ensures.rule c.flag-2.ensures.local one in
    let three = with_argument _ _ _ _ (flag_rule (codes "text")) c.in_ok-command.ensures c.flag-3.ensures.rule c.flag-3.ensures.local two in
    let four = with_image _ _ _ c.in_ok-with_target.ensures.app c.in_ok-with_target.ensures.local three in
    let five = with_argument _ _ _ _ (path_rule (codes "FILE")) c.in_ok-arg-3.ensures c.path.ensures.rule c.path.ensures.local four in
    record {
      app = IfOk-weaker c.arg-5.result _ _ (λ new adds. (with_argument _ new _ _ (words_rule (codes "NAME")) adds c.words.ensures.rule c.words.ensures.local five).0) c.arg-5.ensures;
      local = IfOk-weaker c.arg-5.result _ _ (λ new adds. (with_argument _ new _ _ (words_rule (codes "NAME")) adds c.words.ensures.rule c.words.ensures.local five).1) c.arg-5.ensures;
    }
