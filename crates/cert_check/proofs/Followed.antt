-- A forcing order, followed member by member.
use Rattle.std.proofs.Common.{◌≡◌, ℕ, ◌+◌, ◌<◌, ◌≤◌, Bool, true, false, List, [], ◌∷◌, ◌++◌, length, refl, ap, sym, subst, ◌∙◌, arith, inl, inr, get_or, take, eqb, ◌||◌, get_or-set_same, get_or-set_other, sum}
use Rattle.std.specs.Prelude.{slice_set as set}
use Rattle.std.proofs.lemmas.Bool.{cases_lt, cases_eq, eq-eqb, ne_eqb}
use Rattle.std.proofs.lemmas.List.{take_all, take-append-le, take_more, length_push, length-set, get_or_push, get_or_append_left}
use Rattle.std.proofs.lemmas.List.Folds.{list_any_more}
use Rattle.std.proofs.lemmas.Option.{slice_get_within, get_or_from_slice_get}
use Rattle.std.proofs.Math.Bool.{or-true, or-false}
use Rattle.std.proofs.Math.Path.{fun_ext}
use Rattle.cert_check.specs.declared.shape.Statement.{Statement}
use Rattle.cert_check.specs.declared.shape.Statement.TheVariants.{Jump}
use Rattle.cert_check.specs.Choice.{chosen, IsAnyJump, IsJump, IsNear, IsShape, Fits, Reaches}
use Rattle.cert_check.specs.Forcing.{after, Misses, IsForcing}
use Rattle.cert_check.specs.Private.Following.{FailsAt, Follows, IsLayout}
use Rattle.cert_check.proofs.Bytes.{reached, reaches}

-- one more member
after_more : (order : List ℕ) (i k : ℕ) → i < length order → after (take (i + 1) order) k ≡ (after (take i order) k || eqb (get_or order i 0) k)
after_more order i k lt = list_any_more (λ j. eqb j k) order i 0 lt

-- a fact about each member of a list, given those before it, still holds once one more member is appended
each_push : (P : List ℕ → ℕ → Type 0) (order : List ℕ) (j : ℕ) → ((i : ℕ) → i < length order → P (take i order) (get_or order i 0)) → P order j → (i : ℕ) → i < length (order ++ j ∷ []) → P (take i (order ++ j ∷ [])) (get_or (order ++ j ∷ []) i 0)
each_push P order j each here i lt =
    elim (cases_lt i (length order)) [
      | inl early ↦ (let le : i ≤ length order = omega arith in
          rw (take-append-le i order (j ∷ []) le, get_or_append_left order (j ∷ []) 0 i early) (each i early))
      | inr last ↦ (let e : i ≡ length order = omega (arith, length_push order j) in
          rw (e, take-append-le (length order) order (j ∷ []) (omega arith), take_all (length order) order (omega arith), get_or_push order j 0 (length order) refl) here)
    ]

forcing_more : (shape : List Statement) (order : List ℕ) (i : ℕ) → i < length order → IsForcing shape (take i order) → Misses (after (take i order)) shape (get_or order i 0) → IsForcing shape (take (i + 1) order)
forcing_more shape order i lt forcing here =
    subst (IsForcing shape) (sym (take_more order i 0 lt)) (each_push (λ before k. Misses (after before) shape k) (take i order) (get_or order i 0) forcing here)

flags_more : (long : List Bool) (order : List ℕ) (i : ℕ) → i < length order → get_or order i 0 < length long → ((k : ℕ) → chosen long k ≡ after (take i order) k) → (k : ℕ) → chosen (set long (get_or order i 0) true) k ≡ after (take (i + 1) order) k
flags_more long order i lt within flags k =
    let j : ℕ = get_or order i 0 in
    let more = after_more order i k lt in
    elim (cases_eq k j) [
      | inl e ↦ ap (λ x. get_or (set long j true) x false) e ∙ get_or-set_same long j true false within ∙ sym (more ∙ ap (λ b. after (take i order) k || b) (eq-eqb j k (sym e)) ∙ or-true (after (take i order) k))
      | inr ne ↦ get_or-set_other long j k true false ne ∙ flags k ∙ sym (more ∙ ap (λ b. after (take i order) k || b) (ne_eqb j k (λ e. ne (sym e))) ∙ or-false (after (take i order) k))
    ]

-- a jump of a shape goes to one of its statements or to the end
target_within : (shape : List Statement) (k t : ℕ) → IsShape shape → IsJump shape k t → t ≤ length shape
target_within shape k t is_shape jump =
    let here : get_or shape k (Jump t) ≡ Jump t = get_or_from_slice_get shape k (Jump t) (Jump t) jump in
    rw here at (is_shape.each k (Jump t) (slice_get_within shape k (Jump t) jump))

pub more : (shape : List Statement) (order : List ℕ) (long : List Bool) (sizes : List ℕ) (i t : ℕ) → i < length order → Follows shape (take i order) long → IsLayout shape long sizes → IsJump shape (get_or order i 0) t → chosen long (get_or order i 0) ≡ false → ¬ IsNear (sum (take (get_or order i 0) sizes)) (sum (take t sizes)) → Follows shape (take (i + 1) order) (set long (get_or order i 0) true)
more shape order long sizes i t lt was layout jump short far =
    let same : chosen long ≡ after (take i order) = fun_ext was.flags in
    let len = was.len in
    let within = slice_get_within shape (get_or order i 0) (Jump t) jump in
    let misses : ¬ Reaches (chosen long) shape (get_or order i 0) t = λ near. far (reached shape long sizes layout (get_or order i 0) t within (target_within shape (get_or order i 0) t layout.is_shape jump) near) in
    record {
      forcing = forcing_more shape order i lt was.forcing (record { target = t; jump = jump; short = sym (was.flags (get_or order i 0)) ∙ short; misses = subst (λ c. ¬ Reaches c shape (get_or order i 0) t) same misses });
      len = length-set long (get_or order i 0) true ∙ was.len;
      flags = flags_more long order i lt (omega arith) was.flags;
    }

-- a member that reaches its target is not forced
pub not_forced : (shape : List Statement) (order : List ℕ) (long : List Bool) (sizes : List ℕ) (i t : ℕ) → i < length order → Follows shape (take i order) long → IsLayout shape long sizes → IsJump shape (get_or order i 0) t → chosen long (get_or order i 0) ≡ false → IsNear (sum (take (get_or order i 0) sizes)) (sum (take t sizes)) → FailsAt (λ before k. IsAnyJump shape k × (after before k ≡ false) × Fits (after before) shape k) shape order (i + 2)
not_forced shape order long sizes i t lt was layout jump short near =
    let k = get_or order i 0 in
    let within = slice_get_within shape k (Jump t) jump in
    let target = target_within shape k t layout.is_shape jump in
    record {
      index = i;
      within = lt;
      number = refl;
      forcing = was.forcing;
      wrong = (
        (t, jump),
        sym (was.flags k) ∙ short,
        λ u named. (
            let same : u ≡ t = cc in
            subst (λ c. Reaches c shape k u) (fun_ext was.flags) (rw same (reaches shape long sizes layout k t within target near))),
      );
    }
