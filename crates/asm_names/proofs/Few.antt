-- How many names and statements there are in lines without an error.
use Rattle.std.proofs.Common.{◌≡◌, ◌≤◌, ◌<◌, ◌+◌, ◌∙◌, ◌&&◌, sym, ap, refl, subst, ℕ, zero, suc, Bool, true, false, cond, List, [], ◌∷◌, ◌++◌, Option, Some, None, length, count_by, arith}
use Rattle.std.specs.Prelude.{nat_le, nat_lt}
use Rattle.std.proofs.lemmas.Bool.{ltb-false, leb-false}
use Rattle.std.proofs.lemmas.List.Sums.{sum_by-append}
use Rattle.std.proofs.lemmas.List.{append-nil, append_assoc}
use Rattle.std.specs.Option.{option_map}
use Rattle.common.specs.declared.limits.TheConstants.{MOST_NAMES, MOST_STATEMENTS}
use Rattle.asm_names.specs.declared.fault.NameFault.{NameFault}
use Rattle.asm_names.specs.Faults.{at_line, duplicate, name_faults, first, first_name_fault, if_so, name_fault, too_many_names, too_many_statements}
use Rattle.asm_names.specs.Lines.{Taken, has_statement}
use Rattle.asm_names.specs.Names.{names}

-- The lines have no more names and statements than a module may have.
record AreFew (lines : List Taken) : Type 0 where
  pub names : length (names lines) ≤ MOST_NAMES
  pub statements : count_by (λ l. has_statement l.line) lines ≤ MOST_STATEMENTS

sound_line : (d s n : Bool) → first (if_so NameFault.Duplicate d ∷ if_so NameFault.TooManyStatements s ∷ if_so NameFault.TooManyNames n ∷ []) ≡ None → (s ≡ false) × (n ≡ false)
sound_line true s n e = absurd cc
sound_line false true n e = absurd cc
sound_line false false true e = absurd cc
sound_line false false false e = (refl, refl)

counts_on : (has : Bool) (count : ℕ) → count ≤ MOST_STATEMENTS → (has && nat_le MOST_STATEMENTS count) ≡ false → count + cond has 1 0 ≤ MOST_STATEMENTS
counts_on false count le is = omega (arith, le)
counts_on true count le is = (let lt : count < MOST_STATEMENTS = leb-false MOST_STATEMENTS count is in omega (arith, lt))

few_line : (before : List Taken) (l : Taken) → name_fault before l ≡ None → AreFew before → AreFew (before ++ l ∷ [])
few_line before l none few =
    let sound = sound_line _ _ _ none in record {
      names = ltb-false MOST_NAMES (length (names (before ++ l ∷ []))) sound.1;
      statements = subst (λ n. n ≤ MOST_STATEMENTS)
          (sym (sum_by-append (λ b. cond (has_statement b.line) 1 0) before (l ∷ []) ∙ ap (λ n. count_by (λ b. has_statement b.line) before + n) (omega arith)))
          (counts_on (has_statement l.line) (count_by (λ b. has_statement b.line) before) few.statements sound.0);
    }

-- If none of some lines has an error, neither the first has one nor those after it.
pub sound_front : (before : List Taken) (l : Taken) (rest : List Taken) → first (name_faults before (l ∷ rest)) ≡ None → (name_fault before l ≡ None) × (first (name_faults (before ++ l ∷ []) rest) ≡ None)
sound_front before l rest none =
    elim (name_fault before l) as (λ f. first (option_map (λ why. (l.number, why)) f ∷ name_faults (before ++ l ∷ []) rest) ≡ None → (f ≡ None) × (first (name_faults (before ++ l ∷ []) rest) ≡ None)) [
      | None ↦ λ others. (refl, others)
      | Some why ↦ λ bad. absurd cc
    ] none

few_behind : (before rest : List Taken) → first (name_faults before rest) ≡ None → AreFew before → AreFew (before ++ rest)
few_behind before [] none few = subst AreFew (sym (append-nil before)) few
few_behind before (l ∷ rest) none few =
    let sound = sound_front before l rest none in
    subst AreFew (append_assoc before (l ∷ []) rest) (few_behind (before ++ l ∷ []) rest sound.1 (few_line before l sound.0 few))

all_few : (lines : List Taken) → first_name_fault lines ≡ None → AreFew lines
all_few lines none = few_behind [] lines none (record { names = omega arith; statements = omega arith })

pub few_names : (lines : List Taken) → first_name_fault lines ≡ None → length (names lines) ≤ MOST_NAMES
few_names lines none = (all_few lines none).names

pub few_statements : (lines : List Taken) → first_name_fault lines ≡ None → count_by (λ l. has_statement l.line) lines ≤ MOST_STATEMENTS
few_statements lines none = (all_few lines none).statements
