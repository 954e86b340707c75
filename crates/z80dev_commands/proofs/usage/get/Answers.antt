use Rattle.std.proofs.Common.{codes}
use Rattle.std.proofs.lemmas.Result.{IfOk-weaker}
use Rattle.clap.specs.Words.{new_app}
use Rattle.z80dev_commands.specs.Commands.{flag_rule, path_rule, user_rule, words_rule}
use Rattle.z80dev_commands.proofs.Builders.{with_argument}
use Rattle.z80dev_commands.proofs.usage.get.Goals as goal

pub returns : goal.returns
returns c =
    let one = with_argument _ _ _ (new_app (codes "get")) (flag_rule (codes "all")) c.in_ok-arg.ensures c.flag.ensures.rule c.flag.ensures.local (c.of_two_forms.ensures.app, c.of_two_forms.ensures.local) in
    let two = with_argument _ _ _ _ (flag_rule (codes "text")) c.in_ok-arg-2.ensures c.flag-2.ensures.rule c.flag-2.ensures.local one in
    let three = with_argument _ _ _ _ user_rule c.in_ok-arg-3.ensures c.user_or_zero.ensures.rule c.user_or_zero.ensures.local two in
    let four = with_argument _ _ _ _ (path_rule (codes "IMG")) c.in_ok-arg-4.ensures c.image.ensures.rule c.image.ensures.local three in
    let five = with_argument _ _ _ _ (path_rule (codes "NAME")) c.in_ok-arg-5.ensures c.path.ensures.rule c.path.ensures.local four in
    record {
      app = IfOk-weaker c.arg-6.result _ _ (λ new adds. (with_argument _ new _ _ (words_rule (codes "FILE")) adds c.words.ensures.rule c.words.ensures.local five).0) c.arg-6.ensures;
      local = IfOk-weaker c.arg-6.result _ _ (λ new adds. (with_argument _ new _ _ (words_rule (codes "FILE")) adds c.words.ensures.rule c.words.ensures.local five).1) c.arg-6.ensures;
    }
