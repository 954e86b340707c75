-- The labels of modules, one module after the other.
use Rattle.std.proofs.Common.{◌≡◌, ◌+◌, ◌<◌, ◌≤◌, ℕ, List, [], ◌∷◌, ◌++◌, Some, All, length, map, get_or, take, refl, sym, ap, subst, ◌∙◌, arith}
use Rattle.std.specs.List.{AllByRecursion, flat_map, slice_get}
use Rattle.std.proofs.lemmas.List.Concat.{flat_map-cons}
use Rattle.std.proofs.lemmas.List.Elements.{All-head, All-tail, recursion_from_All}
use Rattle.std.proofs.lemmas.Grind.{flat_map-append}
use Rattle.std.proofs.lemmas.List.{append-nil, get_or-map, length-map, take_more}
use Rattle.std.proofs.lemmas.Option.{get_or_from_slice_get, slice_get_within}
use Rattle.zmo_object.specs.declared.module.Label.{Label}
use Rattle.zmo_object.specs.Modules as object
use Rattle.zmo_object.specs.Modules.{Module, label_of}
use Rattle.zmo_object.specs.Rules.{IsLabel, IsModule}
use Rattle.zlink.specs.Program.Laws.{statement_count}
use Rattle.zlink.specs.Program.Parts.{ModulePart, parts, parts_from}
use Rattle.zlink.proofs.Programs.Laid_end_to_end.{count-cons}
use Rattle.zlink.specs.Linked.{Symbol, all_symbols, symbols_in}

-- Mapping f and then g is mapping both at once.
pub mapped : {A B C : Type 0} (f : A → B) (g : B → C) (xs : List A) → map g (map f xs) ≡ map (λ x. g (f x)) xs
mapped f g [] = refl
mapped f g (x ∷ xs) = ap (λ ys. g (f x) ∷ ys) (mapped f g xs)

-- one more part adds its own elements
pub parts_next : {A : Type 0} (f : ModulePart → List A) (modules : List Module) (k : ℕ) (p : ModulePart) → slice_get (parts modules) k ≡ Some p → flat_map f (take (k + 1) (parts modules)) ≡ flat_map f (take k (parts modules)) ++ f p
parts_next f modules k p there =
    let longer = take_more (parts modules) k p (slice_get_within (parts modules) k p there) ∙ ap (λ x. take k (parts modules) ++ x ∷ []) (get_or_from_slice_get (parts modules) k p p there) in
    ap (flat_map f) longer ∙ flat_map-append f (take k (parts modules)) (p ∷ []) ∙ ap (λ l. flat_map f (take k (parts modules)) ++ l) (append-nil (f p))

-- a label stands for a statement of its module, or for the end
pub label_within : (count : ℕ) (labels : List Label) (k : ℕ) (d : Label) → k < length labels → All (IsLabel count) (map label_of labels) → (get_or labels k d).statement < count + 1
label_within count labels k d lt all =
    let one = (subst (IsLabel count) (get_or-map label_of labels k d (label_of d) lt) (all k (label_of d) (omega (arith, length-map labels label_of)))).0 in
    omega (arith, one)

abbrev symbol_at : (ℕ → ℕ) → ℕ → Module → object.Label → Symbol
symbol_at places base m l = record { name = l.name; module_name = m.name; place = places (base + l.statement) }

-- If two lists of addresses agree up to the end, the symbols are the same.
symbols_alike : (f g : ℕ → ℕ) (base count : ℕ) (m : Module) (labels : List object.Label) → ((k : ℕ) → k ≤ base + count → f k ≡ g k) → AllByRecursion (IsLabel count) labels
    → map (symbol_at f base m) labels ≡ map (symbol_at g base m) labels
symbols_alike f g base count m [] same within = refl
symbols_alike f g base count m (l ∷ ls) same within =
    ap (λ n. record { name = l.name; module_name = m.name; place = n } ∷ map (symbol_at f base m) ls) (same (base + l.statement) (omega (arith, within.0.0)))
    ∙ ap (λ rest. symbol_at g base m l ∷ rest) (symbols_alike f g base count m ls same within.1)

symbols_from : (f g : ℕ → ℕ) (number base count : ℕ) (modules : List Module) → base + statement_count modules ≤ count → ((k : ℕ) → k ≤ count → f k ≡ g k) → All IsModule modules
    → flat_map (λ p. symbols_in f p.base p.holds) (parts_from number base modules) ≡ flat_map (λ p. symbols_in g p.base p.holds) (parts_from number base modules)
symbols_from f g number base count [] le same rules = refl
symbols_from f g number base count (m ∷ ms) le same rules =
    let size = count-cons m ms in
    let p : ModulePart = record { number = number; base = base; holds = m } in
    let rest : List ModulePart = parts_from (number + 1) (base + length m.statements) ms in
    let own : IsModule m = All-head IsModule m ms rules in
    flat_map-cons (λ p. symbols_in f p.base p.holds) p rest
    ∙ ap (λ xs. xs ++ flat_map (λ p. symbols_in f p.base p.holds) rest) (symbols_alike f g base (length m.statements) m m.labels (λ k within. same k (omega (arith, size, le))) (recursion_from_All (IsLabel (length m.statements)) m.labels own.labels))
    ∙ ap (λ xs. symbols_in g base m ++ xs) (symbols_from f g (number + 1) (base + length m.statements) count ms (omega (arith, size)) same (All-tail IsModule m ms rules))
    ∙ sym (flat_map-cons (λ p. symbols_in g p.base p.holds) p rest)

pub symbols_same : (f g : ℕ → ℕ) (count : ℕ) (modules : List Module) → statement_count modules ≤ count → ((k : ℕ) → k ≤ count → f k ≡ g k) → All IsModule modules → all_symbols f modules ≡ all_symbols g modules
symbols_same f g count modules le same rules = symbols_from f g 0 0 count modules (omega arith) same rules
