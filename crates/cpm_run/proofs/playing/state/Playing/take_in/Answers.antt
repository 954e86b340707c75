use Rattle.std.proofs.Common.{◌≡◌, ◌∙◌, ◌++◌, ◌∷◌, [], ap, append-nil, length, refl, sym, List, ℕ}
use Rattle.std.proofs.lemmas.Bool.{eqb-true}
use Rattle.cpm_console.specs.Dialog.{Dialog, typed_in}
use Rattle.cpm_bdos.specs.System.{System, with_console}
use Rattle.cpm_run.specs.Play.{arrived}
use Rattle.cpm_run.specs.declared.arriving.Arrival.{Arrival}
use Rattle.cpm_run.specs.Private.Playing.{state_of}
use Rattle.cpm_run.proofs.Sitting.{came_in}
use Rattle.cpm_run.proofs.playing.state.Playing.take_in.Goals as goal

-- no bytes came
no_bytes : (bytes : List ℕ) → length bytes ≡ 0 → bytes ≡ []
no_bytes [] is = refl
no_bytes (byte ∷ bytes) is = absurd cc

nothing_typed : {S : Type 0} (system : System S Dialog) (bytes : List ℕ) → bytes ≡ [] → system ≡ with_console (typed_in bytes system.terminal.console) system
nothing_typed system bytes none =
    ap (λ (l : List ℕ). with_console (record system.terminal.console { input = l }) system) (sym (append-nil system.terminal.console.input) ∙ ap (λ (l : List ℕ). system.terminal.console.input ++ l) (sym none))

pub returns-then-is_empty-clause-typed : goal.returns-then-is_empty-clause-typed
returns-then-is_empty-clause-typed g c = nothing_typed c.args.self.now.bdos c.args.bytes.now (no_bytes c.args.bytes.now (eqb-true (length c.args.bytes.now) 0 (sym c.is_empty.ensures ∙ c.if-is_empty.true)))

pub returns-then-is_empty-clause-arrivals : goal.returns-then-is_empty-clause-arrivals
returns-then-is_empty-clause-arrivals g c =
    let none = no_bytes c.args.bytes.now (eqb-true (length c.args.bytes.now) 0 (sym c.is_empty.ensures ∙ c.if-is_empty.true)) in
    sym (append-nil c.args.self.now.arrivals.items) ∙ ap (λ (l : List ℕ). c.args.self.now.arrivals.items ++ arrived c.args.self.now.turns l) (sym none)

pub returns-in-Ok-clause-came : goal.returns-in-Ok-clause-came
returns-in-Ok-clause-came g c = λ start shown before. came_in _ _ c.args.bytes.now start (state_of c.args.self.now shown) _ _ c.in-Ok.ensures (c.in_ok-extend_from_slice.ensures.items ∙ ap (λ (l : List Arrival). c.args.self.now.arrivals.items ++ l) (c.deref.ensures.value ∙ c.in_ok-list.ensures)) before
