use Rattle.std.proofs.Common.{◌∙◌, ◌++◌, append-nil, ap, drop, inl, inr, map, sym}
use Rattle.std.proofs.lemmas.List.{drop_all}
use Rattle.z80dev_make.specs.Private.Shown.{shown_of}
use Rattle.z80dev_make.proofs.Held.{none_left}
use Rattle.z80dev_make.proofs.warning.shown.Goals as goal

pub returns-in_default : goal.returns-in_default
returns-in_default c =
    let n = c.loop-number.number in
    let so_far = map shown_of c.loop-number.shown.items in
    let none = none_left (drop n c.args.files.now) (drop n c.args.lines.now) (drop n c.args.modules.now) (inl (drop_all n c.args.lines.now c.in_default.ensures.lookup.3)) in
    sym (append-nil so_far) ∙ ap (λ rest. so_far ++ rest) (sym none) ∙ c.loop-number.invariant

pub returns-in_default-get : goal.returns-in_default-get
returns-in_default-get c =
    let n = c.loop-number.number in
    let so_far = map shown_of c.loop-number.shown.items in
    let none = none_left (drop n c.args.files.now) (drop n c.args.lines.now) (drop n c.args.modules.now) (inr (drop_all n c.args.modules.now c.in_default-get.ensures.lookup.3)) in
    sym (append-nil so_far) ∙ ap (λ rest. so_far ++ rest) (sym none) ∙ c.loop-number.invariant
