-- A definition that has been seen stays seen.
use Rattle.std.proofs.Common.{◌≡◌, ◌≢◌, ◌∙◌, sym, ap, inl, inr, length, ◌≤◌, ℕ, Bool, List, slice_set, arith}
use Rattle.std.proofs.lemmas.List.{get_or_past}
use Rattle.std.proofs.lemmas.Bool.{cases_eq, cases_lt}
use Rattle.asm_names.specs.declared.walk.Seen.{Seen}
use Rattle.asm_names.specs.declared.walk.Walk.{Walk}
use Rattle.asm_names.specs.Private.Standing.{Keeps, Turned, seen_at}
use Rattle.asm_names.proofs.Orders.Opened.{seen_same, seen_other}

pub keeps_set : (seen : List Seen) (d : ℕ) (s : Seen) → s ≢ Seen.Not → Keeps seen (slice_set seen d s)
keeps_set seen d s ne k e = elim (cases_eq k d) [
  | inl same ↦ elim (cases_lt d (length seen)) [
    | inl room ↦ absurd (ne (sym (seen_same seen d s room) ∙ ap (seen_at (slice_set seen d s)) (sym same) ∙ e))
    | inr past ↦ get_or_past seen k Seen.Not (omega (arith, same))
  ]
  | inr other ↦ sym (seen_other seen d k s other) ∙ e
]

done_is : ◌≡◌ {A = Seen} Seen.Done Seen.Not → ⊥
done_is e = cc

pub keeps_turned : (b : Bool) (old new : Walk) (first : List Seen) → Turned b old new → Keeps first old.seen.items → Keeps first new.seen.items
keeps_turned b old new first t was k e = was k (keeps_set old.seen.items t.definition Seen.Done done_is k (rw t.seen at e))
