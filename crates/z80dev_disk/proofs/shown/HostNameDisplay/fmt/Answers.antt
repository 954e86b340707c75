use Rattle.std.proofs.Common.{IsAscii, ◌++◌, ◌==◌, ◌∙◌, ap, ap₂, codes, drop, length, not, subst, sym, take}
use Rattle.std.specs.Fmt.{HasWritten}
use Rattle.cpm_image.specs.Directory.Letters.{letters}
use Rattle.z80dev_disk.specs.Names.{trimmed, when}
use Rattle.z80dev_disk.proofs.Lists.{last_three}
use Rattle.z80dev_disk.proofs.Shown_names.{ascii_front, ascii_kind}
use Rattle.z80dev_disk.proofs.shown.HostNameDisplay.fmt.Goals as goal

pub text_of-name-requires : goal.text_of-name-requires
text_of-name-requires g c =
    let bytes_are = c.bytes-bytes.ensures.value in
    subst IsAscii (sym c.trimmed.ensures) (ascii_front c.bytes-bytes.result (ap letters bytes_are ∙ c.bytes-bytes.ensures.seven ∙ sym bytes_are))

pub text_of-kind-requires : goal.text_of-kind-requires
text_of-kind-requires g c =
    let bytes_are = c.bytes-bytes.ensures.value in
    let kind_is = c.trimmed-2.ensures ∙ ap trimmed (last_three c.bytes-bytes.result (ap length bytes_are ∙ c.bytes-bytes.ensures.eleven)) in
    subst IsAscii (sym kind_is) (ascii_kind c.bytes-bytes.result (ap letters bytes_are ∙ c.bytes-bytes.ensures.seven ∙ sym bytes_are))

pub returns-clause-writes : goal.returns-clause-writes
returns-clause-writes g c = λ plain ok.
    let bytes_are = c.bytes-bytes.ensures.value ∙ c.new.ensures in
    let eleven = ap length c.bytes-bytes.ensures.value ∙ c.bytes-bytes.ensures.eleven in
    let name_is = c.text_of-name.ensures ∙ c.trimmed.ensures ∙ ap (λ n. trimmed (take 8 n)) bytes_are in
    let kind_is = c.text_of-kind.ensures ∙ c.trimmed-2.ensures ∙ ap trimmed (last_three c.bytes-bytes.result eleven) ∙ ap (λ n. trimmed (drop 8 n)) bytes_are in
    let point_is = c.point_before.ensures ∙ ap (λ k. when (not (length k == 0)) (codes ".")) kind_is in
    subst (λ bs. HasWritten g.W.Write.write_str_gives c.args.f.now bs c.write.new.self) (ap₂ (λ a rest. a ++ rest) name_is (ap₂ (λ p k. p ++ k) point_is kind_is)) (c.write.ensures.writes plain ok)
