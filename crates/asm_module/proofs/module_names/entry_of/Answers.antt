use Rattle.std.proofs.Common.{rules, tests, ◌≡◌, ◌∙◌, ℕ, List, Some, ap, map, sym}
use Rattle.std.specs.List.{position_from}
use Rattle.std.specs.Option.{option_and_then}
use Rattle.std.specs.Str.{bytes_eq}
use Rattle.std.proofs.lemmas.Iterator.{YieldsList-from_slice}
use Rattle.std.proofs.lemmas.Iterator.Adapters.{position_from-zero}
use Rattle.std.proofs.lemmas.Iterator.Search.{position_from_yields_List}
use Rattle.asm_names.specs.Lines.{Taken, lines_of}
use Rattle.zmo_object.specs.declared.module.Label.{Label}
use Rattle.zmo_object.specs.Modules.{label_of}
use Rattle.asm_module.specs.Holding.{entry, entry_name, label_number}
use Rattle.asm_module.proofs.Holding.Collected.{position_map}
use Rattle.asm_module.proofs.module_names.entry_of.Goals as goal

-- the entry is the position of END's name among the labels
at_name : (labels : List Label) (lines : List Taken) (name : List ℕ) → Some name ≡ entry_name lines → position_from (λ l. bytes_eq name l.name.items) 0 labels ≡ entry (map label_of labels) lines
at_name labels lines name is = sym (position_map (λ l. bytes_eq name l.name) label_of 0 labels) ∙ ap (option_and_then (label_number (map label_of labels))) is

pub returns-in_err-number : goal.returns-in_err-number
returns-in_err-number c =
    let name = c.in_ok-name.name.now in
    let labels = c.args.labels.now in
    let here = position_from_yields_List (λ l. bytes_eq name l.name.items) c.position.new.self _ c.position.result c.position.ensures.ran (YieldsList-from_slice labels cc) (λ x b q k. search (rules, tests)) in
    c.from_residual-in_err-number.ensures ∙ sym c.in_err-number.was ∙ (here ∙ position_from-zero (λ l. bytes_eq name l.name.items) labels) ∙ at_name labels (lines_of c.args.lines.now) name c.in_ok-name.ensures

pub returns : goal.returns
returns c =
    let name = c.in_ok-name.name.now in
    let labels = c.args.labels.now in
    let here = position_from_yields_List (λ l. bytes_eq name l.name.items) c.position.new.self _ c.position.result c.position.ensures.ran (YieldsList-from_slice labels cc) (λ x b q k. search (rules, tests)) in
    sym c.in_ok-number.was ∙ (here ∙ position_from-zero (λ l. bytes_eq name l.name.items) labels) ∙ at_name labels (lines_of c.args.lines.now) name c.in_ok-name.ensures
