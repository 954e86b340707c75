use Rattle.std.proofs.Common.{codes}
use Rattle.std.proofs.lemmas.Result.{IfOk-weaker}
use Rattle.clap.specs.Words.{new_app}
use Rattle.z80dev_commands.specs.Commands.{data_rule, labels_rule, list_rule, path_rule}
use Rattle.z80dev_commands.proofs.Builders.{with_argument}
use Rattle.z80dev_commands.proofs.usage.dis.Goals as goal

pub returns : goal.returns
returns c =
    let one = with_argument _ _ _ (new_app (codes "dis")) labels_rule c.in_ok-arg.ensures c.labels.ensures.rule c.labels.ensures.local (c.titled.ensures.app, c.titled.ensures.local) in
    let two = with_argument _ _ _ _ (list_rule (codes "entry") (codes "ADDR")) c.in_ok-arg-2.ensures c.list.ensures.rule c.list.ensures.local one in
    let three = with_argument _ _ _ _ data_rule c.in_ok-arg-3.ensures c.data.ensures.rule c.data.ensures.local two in
    record {
      app = IfOk-weaker c.arg-4.result _ _ (λ new adds. (with_argument _ new _ _ (path_rule (codes "COM")) adds c.path.ensures.rule c.path.ensures.local three).0) c.arg-4.ensures;
      local = IfOk-weaker c.arg-4.result _ _ (λ new adds. (with_argument _ new _ _ (path_rule (codes "COM")) adds c.path.ensures.rule c.path.ensures.local three).1) c.arg-4.ensures;
    }
