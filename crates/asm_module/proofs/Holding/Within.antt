-- The numbers of public labels and of the entry: below the number of labels, and ascending.
use Rattle.std.proofs.Common.{◌≡◌, ◌≤◌, ◌<◌, ◌+◌, ℕ, zero, suc, Bool, true, false, cond, All, List, [], ◌∷◌, Some, None, length, arith}
use Rattle.std.specs.List.{enumerate_from, filter_map, list_any, position_from, cons_option}
use Rattle.std.specs.List.Sorted.{IsStrictlyIncreasing}
use Rattle.std.specs.Option.{IfSome, option_and_then}
use Rattle.std.specs.Str.{bytes_eq}
use Rattle.std.proofs.lemmas.List.Elements.{All-cons, All-nil}
use Rattle.asm_names.specs.Lines.{Taken}
use Rattle.zmo_object.specs.Modules.{Label}
use Rattle.asm_module.specs.Holding.{entry, entry_name, label_number, public_by, publics}

-- the number is in this range
abbrev Lies : ℕ → ℕ → ℕ → Type 0
Lies least most p = (least ≤ p) × (p < most)

abbrev publics_from : ℕ → List (List ℕ) → List Label → List ℕ
publics_from n listed ls = filter_map (public_by listed) (enumerate_from n ls)

wider : (least most : ℕ) (ps : List ℕ) → All (Lies (least + 1) most) ps → All (Lies least most) ps
wider least most ps all = λ k d lt. (let one = all k d lt in (omega (arith, one.0), one.1))

lie_within : (n most : ℕ) (listed : List (List ℕ)) (ls : List Label) → n + length ls ≤ most → All (Lies n most) (publics_from n listed ls)
lie_within n most listed [] few = All-nil (Lies n most)
lie_within n most listed (l ∷ ls) few =
    let others : All (Lies (n + 1) most) (publics_from (n + 1) listed ls) = lie_within (n + 1) most listed ls (omega (arith, few)) in
    let rest = wider n most (publics_from (n + 1) listed ls) others in
    elim (list_any (bytes_eq l.name) listed) as (λ b. All (Lies n most) (cons_option (cond b (Some n) None) (publics_from (n + 1) listed ls))) [
      | true ↦ All-cons (Lies n most) n (publics_from (n + 1) listed ls) (omega arith, omega (arith, few)) rest
      | false ↦ rest
    ]

pub publics_within : (labels : List Label) (listed : List (List ℕ)) → All (λ p. p < length labels) (publics labels listed)
publics_within labels listed = λ k d lt. (lie_within 0 (length labels) listed labels (omega arith) k d lt).1

ascends : (n most : ℕ) (ps : List ℕ) → All (Lies (n + 1) most) ps → IsStrictlyIncreasing ps → IsStrictlyIncreasing (n ∷ ps)
ascends n most ps all up zero lt = (let one = all 0 0 (omega (arith, lt)) in omega (arith, one.0))
ascends n most ps all up (suc k) lt = (let e : suc k + 1 ≡ suc (k + 1) = omega arith in rw e (up k (omega (arith, lt))))

publics_up : (n : ℕ) (listed : List (List ℕ)) (ls : List Label) → IsStrictlyIncreasing (publics_from n listed ls)
publics_up n listed [] = λ k lt. absurd (omega (arith, lt))
publics_up n listed (l ∷ ls) =
    let others : IsStrictlyIncreasing (publics_from (n + 1) listed ls) = publics_up (n + 1) listed ls in
    elim (list_any (bytes_eq l.name) listed) as (λ b. IsStrictlyIncreasing (cons_option (cond b (Some n) None) (publics_from (n + 1) listed ls))) [
      | true ↦ ascends n ((n + 1) + length ls) (publics_from (n + 1) listed ls) (lie_within (n + 1) ((n + 1) + length ls) listed ls (omega arith)) others
      | false ↦ others
    ]

pub publics_ascend : (labels : List Label) (listed : List (List ℕ)) → IsStrictlyIncreasing (publics labels listed)
publics_ascend labels listed = publics_up 0 listed labels

position_within : {K : Type 0} (t : K → Bool) (n most : ℕ) (xs : List K) → n + length xs ≤ most → IfSome (position_from t n xs) (λ e. e < most)
position_within t n most [] few = tt
position_within t n most (x ∷ xs) few =
    let others : IfSome (position_from t (n + 1) xs) (λ e. e < most) = position_within t (n + 1) most xs (omega (arith, few)) in
    elim (t x) as (λ b. IfSome (cond b (Some n) (position_from t (n + 1) xs)) (λ e. e < most)) [
      | true ↦ omega (arith, few)
      | false ↦ others
    ]

pub entry_within : (labels : List Label) (lines : List Taken) → IfSome (entry labels lines) (λ e. e < length labels)
entry_within labels lines =
    elim (entry_name lines) as (λ n. IfSome (option_and_then (label_number labels) n) (λ e. e < length labels)) [
      | Some name ↦ position_within (λ l. bytes_eq name l.name) 0 (length labels) labels (omega arith)
      | None ↦ tt
    ]
