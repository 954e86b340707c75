use Rattle.std.proofs.Common.{ap, map, subst, sym, ◌++◌, ◌∙◌}
use Rattle.std.specs.List.{AllZip}
use Rattle.report_texts.specs.Behind.{IsBehind}
use Rattle.z80dev_make.proofs.building.built_behind.Goals as goal

pub sources_behind-requires : goal.sources_behind-requires
sources_behind-requires c =
    let files = c.args.files.now in
    ap (map (λ text. text.items)) c.deref.ensures.value ∙ c.in_ok-texts.ensures ∙ ap (λ before. map (λ file. before ++ file.text.now) files) c.requires

pub built-requires : goal.built-requires
built-requires c = subst (AllZip (IsBehind c.args.front) c.args.files.now) (sym c.deref-2.ensures.value) c.in_ok-behind.ensures
