-- One file more is kept in memory.
use Rattle.std.proofs.Common.{◌≡◌, ◌∙◌, ◌++◌, ◌∷◌, List, [], ap, cond, false, map, not, true}
use Rattle.std.specs.List.{filter}
use Rattle.std.proofs.lemmas.List.{append-nil, map-append}
use Rattle.std.proofs.lemmas.List.Elements.{filter-append}
use Rattle.host.specs.Memory.{stored_files, written_file}
use Rattle.host.specs.declared.memory.Written.{Written}

more : (xs : List Written) (w : Written) → stored_files (xs ++ w ∷ []) ≡ stored_files xs ++ stored_files (w ∷ [])
more xs w = ap (map written_file) (filter-append (λ w. not w.is_part) xs (w ∷ [])) ∙ map-append written_file (filter (λ w. not w.is_part) xs) (filter (λ w. not w.is_part) (w ∷ []))

-- it is written otherwise than beside another
pub one_more_stored : (xs : List Written) (w : Written) → w.is_part ≡ false → stored_files (xs ++ w ∷ []) ≡ stored_files xs ++ written_file w ∷ []
one_more_stored xs w is = more xs w ∙ ap (λ b. stored_files xs ++ map written_file (cond (not b) (w ∷ []) [])) is

-- it took the place of another
pub no_more_stored : (xs : List Written) (w : Written) → w.is_part ≡ true → stored_files (xs ++ w ∷ []) ≡ stored_files xs
no_more_stored xs w is = more xs w ∙ ap (λ b. stored_files xs ++ map written_file (cond (not b) (w ∷ []) [])) is ∙ append-nil (stored_files xs)
