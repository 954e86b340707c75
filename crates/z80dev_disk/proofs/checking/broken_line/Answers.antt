use Rattle.std.proofs.Common.{◌∙◌, ap, drop, length, take}
use Rattle.std.proofs.lemmas.Result.{IfOk-weaker}
use Rattle.z80dev_disk.specs.Names.{trimmed}
use Rattle.z80dev_disk.proofs.Lists.{broken_is, last_three}
use Rattle.z80dev_disk.proofs.checking.broken_line.Goals as goal

pub returns : goal.returns
returns c =
    let bytes_are = c.bytes-name.ensures.value ∙ c.new.ensures in
    let eleven = ap length c.bytes-name.ensures.value ∙ c.bytes-name.ensures.eleven in
    let number_is = c.as_bytes.ensures.value ∙ c.in_ok-number.ensures.ok in
    let user_is = c.as_bytes-2.ensures.value ∙ c.in_ok-user.ensures.ok in
    let name_is = c.trimmed.ensures ∙ ap (λ n. trimmed (take 8 n)) bytes_are in
    let kind_is = c.trimmed-2.ensures ∙ ap trimmed (last_three _ eleven) ∙ ap (λ n. trimmed (drop 8 n)) bytes_are in
    let rule_is = c.as_bytes-3.ensures.value ∙ c.disk_name.ensures in
    IfOk-weaker c.joined.result _ _ (λ line is. is ∙ broken_is _ _ _ _ _ _ _ _ _ _ number_is user_is name_is kind_is rule_is) c.joined.ensures
