-- What one statement more is.
use Rattle.std.proofs.Common.{◌≡◌, ◌∙◌, ◌+◌, ℕ, Bool, true, false, cond, List, [], ◌∷◌, ◌++◌, drop, ap, sym, arith, append_assoc}
use Rattle.std.specs.List.{slice_index_or}
use Rattle.std.proofs.lemmas.List.{drop-drop, get_or-drop}
use Rattle.zmo_object.specs.Modules.{ModuleStatement}
use Rattle.program_map.specs.declared.maps.kind.Kind.{Kind}
use Rattle.program_map.specs.Private.Telling.{is_space_statement, told}

pub told_space : (kinds new all said : List Kind) (s : ModuleStatement) (left rest : List ModuleStatement) → left ≡ s ∷ rest → is_space_statement s ≡ true → new ≡ kinds ++ Kind.Space ∷ []
    → kinds ++ told left said ≡ all → new ++ told rest said ≡ all
told_space kinds new all said s left rest e is n h = rw (n, append_assoc) (rw (e, is) at h)

pub told_other : (kinds new all said : List Kind) (next next' : ℕ) (s : ModuleStatement) (left rest : List ModuleStatement) → left ≡ s ∷ rest → is_space_statement s ≡ false
    → new ≡ kinds ++ slice_index_or said next Kind.Code ∷ [] → next' ≡ next + 1 → kinds ++ told left (drop next said) ≡ all → new ++ told rest (drop next' said) ≡ all
told_other kinds new all said next next' s left rest e is n m h =
    let first : slice_index_or (drop next said) 0 Kind.Code ≡ slice_index_or said next Kind.Code = get_or-drop next said 0 Kind.Code ∙ ap (λ k. slice_index_or said k Kind.Code) (omega arith) in
    let after : drop 1 (drop next said) ≡ drop next' said = drop-drop 1 next said ∙ ap (λ k. drop k said) (sym m) in
    rw (n, append_assoc, ← after) (rw (e, is, first) at h)
