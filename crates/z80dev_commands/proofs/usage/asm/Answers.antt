use Rattle.std.proofs.Common.{codes}
use Rattle.std.proofs.lemmas.Result.{IfOk-weaker}
use Rattle.clap.specs.Words.{new_app}
use Rattle.z80dev_commands.specs.Commands.{base_rule, define_rule, flag_rule, path_rule, with_file_rule}
use Rattle.z80dev_commands.proofs.Builders.{with_argument}
use Rattle.z80dev_commands.proofs.usage.asm.Goals as goal

pub returns : goal.returns
returns c =
    let one = with_argument _ _ _ (new_app (codes "asm")) base_rule c.in_ok-arg.ensures c.base.ensures.rule c.base.ensures.local (c.titled.ensures.app, c.titled.ensures.local) in
    let two = with_argument _ _ _ _ (flag_rule (codes "grow")) c.in_ok-arg-2.ensures c.grow.ensures.rule c.grow.ensures.local one in
    let quiet = with_argument _ _ _ _ (flag_rule (codes "no-warn")) c.in_ok-arg-3.ensures c.no_warn.ensures.rule c.no_warn.ensures.local two in
    let three = with_argument _ _ _ _ define_rule c.in_ok-arg-4.ensures c.define.ensures.rule c.define.ensures.local quiet in
    let four = with_argument _ _ _ _ with_file_rule c.in_ok-arg-5.ensures c.with_file.ensures.rule c.with_file.ensures.local three in
    record {
      app = IfOk-weaker c.arg-6.result _ _ (λ new adds. (with_argument _ new _ _ (path_rule (codes "SRC")) adds c.path.ensures.rule c.path.ensures.local four).0) c.arg-6.ensures;
      local = IfOk-weaker c.arg-6.result _ _ (λ new adds. (with_argument _ new _ _ (path_rule (codes "SRC")) adds c.path.ensures.rule c.path.ensures.local four).1) c.arg-6.ensures;
    }
