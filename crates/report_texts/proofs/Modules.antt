-- The lines of modules that are changed one by one.
use Rattle.std.proofs.Common.{◌≡◌, ℕ, ◌+◌, ◌<◌, List, [], ◌∷◌, length, get_or, map, set, refl, sym, ap, ap₂, ◌∙◌, arith}
use Rattle.std.proofs.lemmas.List.{get_or-map, length-map, map-set}
use Rattle.asm_module.specs.declared.assembling.Lines.{Lines}
use Rattle.report_texts.specs.Behind.{earlier_lines}
use Rattle.report_texts.specs.Front.{earlier}
use Rattle.report_texts.proofs.Numbers.{front_changed, next_changed}

-- the lines of the statements of a module, and its last line
abbrev pub own_pair : Lines → List ℕ × ℕ
own_pair l = (l.each.items, l.last)

abbrev pub with_earlier : ℕ → List ℕ × ℕ → List ℕ × ℕ
with_earlier all p = (map (earlier all) p.0, earlier all p.1)

pub next_module : (all : ℕ) (xs ys : List Lines) (i : ℕ) (d y : Lines) → i < length ys → map own_pair ys ≡ front_changed (with_earlier all) (map own_pair xs) i → i < length xs
    → own_pair y ≡ earlier_lines all (get_or ys i d) → map own_pair (set ys i y) ≡ front_changed (with_earlier all) (map own_pair xs) (i + 1)
next_module all xs ys i d y lt so_far left is =
    map-set own_pair ys i y
    ∙ next_changed (with_earlier all) (map own_pair xs) (map own_pair ys) i (own_pair d) (own_pair y) (omega (arith, length-map xs own_pair, left)) so_far
    (is ∙ sym (ap (with_earlier all) (get_or-map own_pair ys i d (own_pair d) lt)))

pub all_modules : (all : ℕ) (xs : List Lines) → map (with_earlier all) (map own_pair xs) ≡ map (earlier_lines all) xs
all_modules all [] = refl
all_modules all (x ∷ xs) = ap (λ ps. earlier_lines all x ∷ ps) (all_modules all xs)
