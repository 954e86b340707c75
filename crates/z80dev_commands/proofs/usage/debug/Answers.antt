use Rattle.std.proofs.Common.{codes}
use Rattle.std.proofs.lemmas.Result.{IfOk-weaker}
use Rattle.clap.specs.Words.{new_app}
use Rattle.z80dev_commands.specs.Commands.{labels_rule, option_rule, path_rule, words_rule}
use Rattle.z80dev_commands.proofs.Builders.{with_argument}
use Rattle.z80dev_commands.proofs.usage.debug.Goals as goal

pub returns : goal.returns
returns c =
    let one = with_argument _ _ _ (new_app (codes "debug")) (option_rule (codes "disk") (codes "IMG")) c.in_ok-arg.ensures c.option.ensures.rule c.option.ensures.local (c.titled.ensures.app, c.titled.ensures.local) in
    let two = with_argument _ _ _ _ (option_rule (codes "input") (codes "FILE")) c.in_ok-arg-2.ensures c.option-2.ensures.rule c.option-2.ensures.local one in
    let three = with_argument _ _ _ _ (option_rule (codes "replay") (codes "REC")) c.in_ok-arg-3.ensures c.option-3.ensures.rule c.option-3.ensures.local two in
    let four = with_argument _ _ _ _ labels_rule c.in_ok-arg-4.ensures c.labels.ensures.rule c.labels.ensures.local three in
    let five = with_argument _ _ _ _ (option_rule (codes "list") (codes "LST")) c.in_ok-arg-5.ensures c.option-4.ensures.rule c.option-4.ensures.local four in
    let six = with_argument _ _ _ _ (path_rule (codes "COM")) c.in_ok-arg-6.ensures c.path.ensures.rule c.path.ensures.local five in
    record {
      app = IfOk-weaker c.arg-7.result _ _ (λ new adds. (with_argument _ new _ _ (words_rule (codes "WORD")) adds c.words.ensures.rule c.words.ensures.local six).0) c.arg-7.ensures;
      local = IfOk-weaker c.arg-7.result _ _ (λ new adds. (with_argument _ new _ _ (words_rule (codes "WORD")) adds c.words.ensures.rule c.words.ensures.local six).1) c.arg-7.ensures;
    }
