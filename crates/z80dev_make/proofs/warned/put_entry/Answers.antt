use Rattle.std.proofs.Common.{◌++◌, ◌∙◌, ap, codes, map}
use Rattle.std.proofs.lemmas.List.{append_assoc}
use Rattle.std.proofs.lemmas.Result.{on_ok_weaker}
use Rattle.z80dev_make.specs.Private.Shown.{shown_of}
use Rattle.z80dev_make.specs.Warned.{fixed_text}
use Rattle.z80dev_make.proofs.warned.put_entry.Goals as goal

pub returns : goal.returns
returns c =
    let old = c.args.out.now.items in
    let said = codes "only a computed jump reaches this jump, whose length may change: write " in
    let fixed = fixed_text (map shown_of c.args.sources.now) c.args.site in
    let end = codes " to keep 3 bytes" in
    on_ok_weaker c.put-2.result
    (λ is. is ∙ ap (λ l. l ++ end) (c.in_ok-put_fixed.ensures ∙ ap (λ l. l ++ fixed) c.in_ok-put.ensures ∙ append_assoc old said fixed) ∙ append_assoc old (said ++ fixed) end)
    c.put-2.ensures
