use Rattle.std.proofs.Common.{codes}
use Rattle.std.proofs.lemmas.Result.{IfOk-weaker}
use Rattle.clap.specs.Words.{new_app}
use Rattle.z80dev_commands.specs.Commands.{flag_rule, option_rule, path_rule, steps_rule, words_rule}
use Rattle.z80dev_commands.proofs.Builders.{with_argument}
use Rattle.z80dev_commands.proofs.usage.play.Goals as goal

pub returns : goal.returns
returns c =
    let one = with_argument _ _ _ (new_app (codes "play")) (option_rule (codes "disk") (codes "IMG")) c.in_ok-arg.ensures c.option.ensures.rule c.option.ensures.local (c.titled.ensures.app, c.titled.ensures.local) in
    let two = with_argument _ _ _ _ (flag_rule (codes "no-lock")) c.in_ok-arg-2.ensures c.no_lock.ensures.rule c.no_lock.ensures.local one in
    let three = with_argument _ _ _ _ steps_rule c.in_ok-arg-3.ensures c.any_steps.ensures.rule c.any_steps.ensures.local two in
    let four = with_argument _ _ _ _ (flag_rule (codes "raw")) c.in_ok-arg-4.ensures c.raw.ensures.rule c.raw.ensures.local three in
    let five = with_argument _ _ _ _ (option_rule (codes "terminal") (codes "CODES")) c.in_ok-arg-5.ensures c.option-2.ensures.rule c.option-2.ensures.local four in
    let six = with_argument _ _ _ _ (option_rule (codes "record") (codes "FILE")) c.in_ok-arg-6.ensures c.option-3.ensures.rule c.option-3.ensures.local five in
    let seven = with_argument _ _ _ _ (option_rule (codes "replay") (codes "REC")) c.in_ok-arg-7.ensures c.option-4.ensures.rule c.option-4.ensures.local six in
    let eight = with_argument _ _ _ _ (path_rule (codes "COM")) c.in_ok-arg-8.ensures c.path.ensures.rule c.path.ensures.local seven in
    record {
      app = IfOk-weaker c.arg-9.result _ _ (λ new adds. (with_argument _ new _ _ (words_rule (codes "WORD")) adds c.words.ensures.rule c.words.ensures.local eight).0) c.arg-9.ensures;
      local = IfOk-weaker c.arg-9.result _ _ (λ new adds. (with_argument _ new _ _ (words_rule (codes "WORD")) adds c.words.ensures.rule c.words.ensures.local eight).1) c.arg-9.ensures;
    }
