use Rattle.std.proofs.Common.{◌∙◌, ap, drop, if◌then◌else◌, length, take}
use Rattle.std.proofs.lemmas.Result.{IfOk-weaker}
use Rattle.cpm_image.specs.Directory.Searches.{no_usage, usage_of}
use Rattle.cpm_disk.specs.Image.{directory}
use Rattle.z80dev_disk.specs.Dir.{usage_text}
use Rattle.z80dev_disk.specs.Names.{trimmed, when}
use Rattle.z80dev_disk.proofs.Lists.{last_three, line_is}
use Rattle.z80dev_disk.proofs.listing.line_of.Goals as goal

pub returns : goal.returns
returns c =
    let file = c.args.file.now in
    let kind = c.args.disk.now.kind in
    let entries = directory kind c.args.disk.now.device in
    let user_is = c.as_bytes.ensures.value ∙ c.in_ok-user.ensures.ok in
    let name_is = c.trimmed.ensures ∙ ap (λ n. trimmed (take 8 n)) c.bytes-name.ensures.value in
    let kind_is = c.trimmed-2.ensures ∙ ap trimmed (last_three _ (ap length c.bytes-name.ensures.value ∙ c.bytes-name.ensures.eleven)) ∙ ap (λ n. trimmed (drop 8 n)) c.bytes-name.ensures.value in
    let records_are = c.as_bytes-2.ensures.value ∙ c.in_ok-records.ensures.ok in
    let taken = c.usage.ensures.usage ∙ ap (λ b. if b then no_usage else usage_of kind file.user file.name entries) c.requires in
    let usage_is = c.when.ensures ∙ ap (when c.args.long) (c.as_bytes-3.ensures.value ∙ c.in_ok-usage.ensures ∙ ap (usage_text file) taken) in
    IfOk-weaker c.joined.result _ _ (λ line is. is ∙ line_is _ _ _ _ _ _ _ _ _ _ _ _ _ _ user_is name_is kind_is records_are usage_is c.when-2.ensures c.when-3.ensures) c.joined.ensures
