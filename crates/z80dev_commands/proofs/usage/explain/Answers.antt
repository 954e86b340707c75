use Rattle.std.proofs.Common.{codes}
use Rattle.std.proofs.lemmas.Result.{IfOk-weaker}
use Rattle.clap.specs.Words.{new_app}
use Rattle.z80dev_commands.specs.Commands.{color_rule, define_rule, flag_rule, paths_rule, with_file_rule}
use Rattle.z80dev_commands.proofs.Builders.{with_argument}
use Rattle.z80dev_commands.proofs.usage.explain.Goals as goal

pub returns : goal.returns
returns c =
    let one = with_argument _ _ _ (new_app (codes "explain")) (flag_rule (codes "grow")) c.in_ok-arg.ensures c.grow.ensures.rule c.grow.ensures.local (c.titled.ensures.app, c.titled.ensures.local) in
    let two = with_argument _ _ _ _ (flag_rule (codes "jumps")) c.in_ok-arg-2.ensures c.jumps.ensures.rule c.jumps.ensures.local one in
    let three = with_argument _ _ _ _ (flag_rule (codes "json")) c.in_ok-arg-3.ensures c.json.ensures.rule c.json.ensures.local two in
    let four = with_argument _ _ _ _ color_rule c.in_ok-arg-4.ensures c.color.ensures.rule c.color.ensures.local three in
    let five = with_argument _ _ _ _ define_rule c.in_ok-arg-5.ensures c.define.ensures.rule c.define.ensures.local four in
    let six = with_argument _ _ _ _ with_file_rule c.in_ok-arg-6.ensures c.with_file.ensures.rule c.with_file.ensures.local five in
    record {
      app = IfOk-weaker c.arg-7.result _ _ (λ new adds. (with_argument _ new _ _ (paths_rule (codes "SRC")) adds c.paths.ensures.rule c.paths.ensures.local six).0) c.arg-7.ensures;
      local = IfOk-weaker c.arg-7.result _ _ (λ new adds. (with_argument _ new _ _ (paths_rule (codes "SRC")) adds c.paths.ensures.rule c.paths.ensures.local six).1) c.arg-7.ensures;
    }
