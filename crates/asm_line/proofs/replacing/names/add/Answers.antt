use Rattle.std.proofs.Common.{◌∙◌, ap, sym, ◌∷◌, [], is_some}
use Rattle.std.specs.Map.{lookup}
use Rattle.std.specs.Option.{option_map}
use Rattle.std.specs.Str.{bytes_eq}
use Rattle.std.proofs.lemmas.List.{map-append}
use Rattle.indexmap.proofs.CallerLemmas.{insert_entry-new}
use Rattle.asm_line.specs.Replacing.Views.{names_seen}
use Rattle.asm_line.proofs.Replaced.Places.{added_none, lookup-seen, none_copied, same_some}
use Rattle.asm_line.proofs.replacing.names.add.Goals as goal

pub returns : goal.returns
returns c = λ f key.
    let entries = c.args.places.now.entries in
    let absent = ap (λ n. lookup (λ k. bytes_eq n k.items) entries) (sym c.as_slice.ensures.value) ∙ sym c.get.ensures.value ∙ none_copied c.get.result (sym c.is_some.ensures ∙ c.if-is_some.false) in
    ap (λ es. lookup (bytes_eq key) (names_seen f es)) (c.in_ok-insert.ensures.entries ∙ insert_entry-new _ c.args.places.now c.args.name c.args.place absent)
    ∙ ap (lookup (bytes_eq key)) (map-append (λ e. (e.0.items, f e.1)) entries ((c.args.name, c.args.place) ∷ []))

pub returns-then-is_some : goal.returns-then-is_some
returns-then-is_some c = λ f.
    let entries = c.args.places.now.entries in
    let found = c.get.ensures.value ∙ ap (λ n. lookup (λ k. bytes_eq n k.items) entries) c.as_slice.ensures.value in
    added_none (names_seen f entries) c.args.name.items (f c.args.place)
    (ap is_some (lookup-seen f entries c.args.name.items ∙ ap (option_map f) (sym found)) ∙ sym (same_some f c.get.result) ∙ sym c.is_some.ensures ∙ c.if-is_some.true)
