use Rattle.std.proofs.Common.{codes}
use Rattle.std.proofs.lemmas.Result.{IfOk-weaker}
use Rattle.clap.specs.Words.{new_app}
use Rattle.z80dev_commands.specs.Commands.{base_rule, define_rule, flag_rule, paths_rule, symbols_rule, verbose_rule, with_file_rule}
use Rattle.z80dev_commands.proofs.Builders.{with_argument}
use Rattle.z80dev_commands.proofs.usage.build.Goals as goal

pub returns : goal.returns
returns c =
    let one = with_argument _ _ _ (new_app (codes "build")) base_rule c.in_ok-arg.ensures c.base.ensures.rule c.base.ensures.local (c.titled.ensures.app, c.titled.ensures.local) in
    let two = with_argument _ _ _ _ (flag_rule (codes "grow")) c.in_ok-arg-2.ensures c.grow.ensures.rule c.grow.ensures.local one in
    let three = with_argument _ _ _ _ (flag_rule (codes "list")) c.in_ok-arg-3.ensures c.flag.ensures.rule c.flag.ensures.local two in
    let four = with_argument _ _ _ _ (flag_rule (codes "map")) c.in_ok-arg-4.ensures c.map.ensures.rule c.map.ensures.local three in
    let five = with_argument _ _ _ _ symbols_rule c.in_ok-arg-5.ensures c.symbols.ensures.rule c.symbols.ensures.local four in
    let six = with_argument _ _ _ _ verbose_rule c.in_ok-arg-6.ensures c.verbose.ensures.rule c.verbose.ensures.local five in
    let seven = with_argument _ _ _ _ (flag_rule (codes "no-warn")) c.in_ok-arg-7.ensures c.no_warn.ensures.rule c.no_warn.ensures.local six in
    let eight = with_argument _ _ _ _ define_rule c.in_ok-arg-8.ensures c.define.ensures.rule c.define.ensures.local seven in
    let nine = with_argument _ _ _ _ with_file_rule c.in_ok-arg-9.ensures c.with_file.ensures.rule c.with_file.ensures.local eight in
    record {
      app = IfOk-weaker c.arg-10.result _ _ (λ new adds. (with_argument _ new _ _ (paths_rule (codes "SRC")) adds c.paths.ensures.rule c.paths.ensures.local nine).0) c.arg-10.ensures;
      local = IfOk-weaker c.arg-10.result _ _ (λ new adds. (with_argument _ new _ _ (paths_rule (codes "SRC")) adds c.paths.ensures.rule c.paths.ensures.local nine).1) c.arg-10.ensures;
    }
