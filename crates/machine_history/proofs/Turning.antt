-- One turn, with the bytes that are due or without.
use Rattle.std.proofs.Common.{◌≡◌, ◌+◌, [], ℕ, List, Option, drop, length, refl, sym, ap, subst, ◌∙◌, append-nil, inl}
use Rattle.cpm_run.specs.Play.{on_console}
use Rattle.cpm_run.specs.Turns.{IsTurn, RunState}
use Rattle.cpm_run.specs.declared.arriving.Arrival.{Arrival}
use Rattle.cpm_run.specs.declared.ending.Why.{Why}
use Rattle.cpm_console.specs.Dialog.{Dialog}
use Rattle.cpm_disk.specs.Image.{Image}
use Rattle.machine_history.specs.Private.Typing.{HasTyped}
use Rattle.machine_history.specs.Walk.{MakesTurn, MemoryState, due_in, run_of, with_typed}

abbrev pub Steps : RunState Image Dialog → Option Why → RunState Image Dialog → Type 0
Steps old end new = IsTurn (λ image. image) (λ image. 0) (λ dialog. dialog) old end new

-- nothing is typed
pub typed_nothing : (s : MemoryState) (arrivals : List Arrival) → arrivals ≡ [] → with_typed arrivals s ≡ run_of s
typed_nothing s arrivals none =
    ap (λ (l : List Arrival). with_typed l s) none
    ∙ ap (λ (input : List ℕ). on_console (record s.system.terminal.console { input = input }) (run_of s)) (append-nil s.system.terminal.console.input)

pub nothing_due : (s : MemoryState) → due_in s ≡ [] → HasTyped s s
nothing_due s none = record {
  run = sym (typed_nothing s (due_in s) none);
  turns = refl;
  coming = sym (ap (λ (l : List Arrival). drop (length l) s.coming) none);
}

-- the step of the program after the bytes were typed
pub stepped : (old mid new : MemoryState) (end : Option Why) → HasTyped old mid → Steps (run_of mid) end (run_of new) → new.turns ≡ mid.turns + 1 → new.coming ≡ mid.coming → MakesTurn old end new
stepped old mid new end typed step turns coming = inl (record {
  step = subst (λ (r : RunState Image Dialog). Steps r end (run_of new)) typed.run step;
  turns = turns ∙ ap (λ (n : ℕ). n + 1) typed.turns;
  coming = coming ∙ typed.coming;
})
