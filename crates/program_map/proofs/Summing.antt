-- The figures of a map add up.
use Rattle.std.proofs.Common.{◌≡◌, ◌∙◌, ◌+◌, ◌-◌, ◌≤◌, ◌<◌, ◌⊎◌, inl, inr, ℕ, zero, suc, Bool, true, false, cond, List, [], ◌∷◌, ◌++◌, Option, Some, None, drop, length, map, take, refl, ap, sym, subst, arith, get_or, slice_index, add-one}
use Rattle.std.specs.Prelude.{◌==◌, ◌&&◌, All, slice_get}
use Rattle.std.specs.List.{sum_by}
use Rattle.std.proofs.lemmas.Bool.Decides.{nat_tests}
use Rattle.std.proofs.lemmas.List.{get_or-drop, length-drop, length-take-le, take_all, take_more}
use Rattle.std.proofs.lemmas.List.Elements.{All-cons, All-nil}
use Rattle.std.proofs.lemmas.List.Sums.{sum_by-cons}
use Rattle.zmo_object.specs.Modules as object
use Rattle.zmo_object.specs.Modules.{Module, ModuleStatement}
use Rattle.program_map.specs.declared.maps.figures.Figures.{Figures}
use Rattle.program_map.specs.declared.maps.kind.Kind.{Kind}
use Rattle.zlink.specs.Program.Laws.{statement_count}
use Rattle.zlink.specs.Program.Parts.{parts_from}
use Rattle.program_map.specs.Figures.{Ascend, CountedStatement, all_counted, counted_statement, figures, is_relaxable_statement}
use Rattle.program_map.specs.Map.{mapped_part, summed}
use Rattle.program_map.specs.Mapped.{MappedModule}
use Rattle.program_map.specs.Private.Adding.{added}
use Rattle.program_map.specs.Sums.{AddsUp, figure_bytes}
use Rattle.program_map.proofs.Figuring.{added_bytes, figures_more}
use Rattle.program_map.proofs.Parting.{count_front, summed_cons}

-- a relaxable jump has two bytes or three
abbrev pub IsSizedJump : List ℕ → ℕ → ModuleStatement → Type 0
IsSizedJump places i s = is_relaxable_statement s ≡ true → (slice_index places (i + 1) ≡ slice_index places i + 2) ⊎ (slice_index places (i + 1) ≡ slice_index places i + 3)

abbrev pub AreSizedJumps : List ℕ → List ModuleStatement → Type 0
AreSizedJumps places ss = (i : ℕ) (d : ModuleStatement) → i < length ss → IsSizedJump places i (get_or ss i d)

added_split : (f : Figures) (s : CountedStatement) → f.jumps ≡ f.short + f.long → (s.relaxable ≡ true → (s.bytes ≡ 2) ⊎ (s.bytes ≡ 3)) → (added f s).jumps ≡ (added f s).short + (added f s).long
added_split f s h each = go s.relaxable each
  where
    go : (r : Bool) → (r ≡ true → (s.bytes ≡ 2) ⊎ (s.bytes ≡ 3)) → f.jumps + cond r 1 0 ≡ (f.short + cond (r && (s.bytes == 2)) 1 0) + (f.long + cond (r && (s.bytes == 3)) 1 0)
    go false each = omega arith
    go true each = elim (each refl) [ inl e ↦ rw e (omega arith) | inr e ↦ rw e (omega arith) ]

-- what holds of the figures of the statements up to one
pub record SoFar (places : List ℕ) (i : ℕ) (f : Figures) : Type 0 where
  pub bytes : slice_index places 0 + figure_bytes f ≡ slice_index places i
  pub jumps : f.jumps ≡ f.short + f.long

module _ (kinds : Option (List Kind)) (places : List ℕ) (ss : List ModuleStatement) (ascend : Ascend places) (long : length ss < length places) (sized : AreSizedJumps places ss) where
  abbrev upto : ℕ → Figures
  upto i = figures (all_counted kinds places (take i ss))

  one_more : (i : ℕ) → i < length ss → SoFar places i (upto i) → SoFar places (i + 1) (upto (i + 1))
  one_more i h before =
      let d : ModuleStatement = object.Space 0 0 in
      let s : ModuleStatement = get_or ss i d in
      let e = figures_more kinds places (take i ss) i s (length-take-le i ss (omega arith)) in
      let front = take_more ss i d h in
      let up = ascend i (omega arith) in
      let all = ap (λ xs. figures (all_counted kinds places xs)) front ∙ e in
      let own : CountedStatement = counted_statement kinds places (i, s) in
      let more = added_bytes (upto i) own in
      let b = before.bytes in
      subst (SoFar places (i + 1)) (sym all) (record {
        bytes = omega arith;
        jumps = added_split (upto i) own before.jumps (λ r. elim (sized i d h r) [ inl e ↦ inl (omega arith) | inr e ↦ inr (omega arith) ]);
      })

  so_far : (i : ℕ) → i ≤ length ss → SoFar places i (upto i)
  so_far zero h = record { bytes = omega arith; jumps = refl }
  so_far (suc i) h = rw (← add-one) (one_more i (omega arith) (so_far i (omega arith)))

  pub whole : SoFar places (length ss) (figures (all_counted kinds places ss))
  whole = subst (λ xs. SoFar places (length ss) (figures (all_counted kinds places xs))) (take_all (length ss) ss (omega arith)) (so_far (length ss) (omega arith))
