-- What a module has: the number of its labels is within the limit, and its parts make the whole.
use Rattle.std.proofs.Common.{◌≡◌, ◌≤◌, ◌∙◌, sym, ap, refl, ℕ, Bool, List, Option, length, map, take, arith}
use Rattle.std.proofs.lemmas.List.{length-map}
use Rattle.asm_names.specs.Layout.{Layout}
use Rattle.asm_names.specs.Meanings.{externals}
use Rattle.asm_module.specs.Holding.{begins, entry, labels, listed, publics}
use Rattle.asm_names.specs.Lines.{Taken}
use Rattle.asm_names.specs.Names.{Names, names}
use Rattle.zmo_object.specs.declared.module.Label as label
use Rattle.zmo_object.specs.declared.module.Module as whole
use Rattle.zmo_object.specs.Modules.{Label, Module, label_of, module_of, statement_of}
use Rattle.asm_module.specs.Private.Steps.{held}
use Rattle.asm_module.proofs.Holding.Keeping.{few_kept}

pub few_labels : (layout : Layout) (given : Names) (all : List label.Label) → length given ≤ 40000 → map label_of all ≡ labels layout given → length all ≤ 40000
few_labels layout given all most are =
    let count : length all ≡ length (labels layout given) = sym (length-map all label_of) ∙ ap length are in
    let le = few_kept layout given in
    omega (arith, count, le, most)

-- A module with these parts is the one that its lines make.
pub parts_held : (name : List ℕ) (grow : Bool) (lines : List Taken) (layout : Layout) (given : Names) (m : whole.Module) → given ≡ names lines → m.name.items ≡ take 255 name → m.begins ≡ begins lines
    → m.entry ≡ entry (map label_of m.labels.items) lines → map label_of m.labels.items ≡ labels layout given → m.publics.items ≡ publics (map label_of m.labels.items) (listed lines)
    → map (λ one. one.items) m.externals.items ≡ externals given → module_of m ≡ held name m.grow lines layout (map statement_of m.statements.items)
parts_held name grow lines layout given m is name_is begins_is entry_is labels_are publics_are externals_are =
    let ls : map label_of m.labels.items ≡ labels layout (names lines) = labels_are ∙ ap (labels layout) is in
    record_is m.name.items (take 255 name) m.begins (begins lines) m.entry (entry (labels layout (names lines)) lines) (map label_of m.labels.items) (labels layout (names lines)) m.publics.items
    (publics (labels layout (names lines)) (listed lines)) (map (λ one. one.items) m.externals.items) (externals (names lines))
    name_is begins_is (entry_is ∙ ap (λ l. entry l lines) ls) ls (publics_are ∙ ap (λ l. publics l (listed lines)) ls) (externals_are ∙ ap externals is)
  where
    made : List ℕ → Bool → Option ℕ → List Label → List ℕ → List (List ℕ) → Module
    made n b e l p x = record { name = n; begins = b; entry = e; grow = m.grow; statements = map statement_of m.statements.items; labels = l; publics = p; externals = x }

    record_is : (n n-2 : List ℕ) (b b-2 : Bool) (e e-2 : Option ℕ) (l l-2 : List Label) (p p-2 : List ℕ) (x x-2 : List (List ℕ))
        → n ≡ n-2 → b ≡ b-2 → e ≡ e-2 → l ≡ l-2 → p ≡ p-2 → x ≡ x-2 → made n b e l p x ≡ made n-2 b-2 e-2 l-2 p-2 x-2
    record_is n n-2 b b-2 e e-2 l l-2 p p-2 x x-2 name_is begins_is entry_is labels_are publics_are externals_are =
        rw (name_is, begins_is, entry_is, labels_are, publics_are, externals_are) refl
