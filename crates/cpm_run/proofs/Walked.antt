-- The steps of a run, one by one, and their number.
use Rattle.std.proofs.Common.{◌≡◌, ◌≢◌, ◌^◌, ◌<◌, ◌≤◌, ◌+◌, ◌++◌, ◌∷◌, [], ℕ, false, List, Option, None, Some, length, length-append, ap, subst, sym, refl, ◌∙◌, inl, inr, arith}
use Rattle.z80_machine.specs.Turn.{bytes_at_pc}
use Rattle.cpm_console.specs.Dialog.{Dialog}
use Rattle.cpm_disk.specs.Image.{Image}
use Rattle.z80_cpu.specs.State.{Machine}
use Rattle.cpm_bdos.specs.System.{System}
use Rattle.cpm_run.proofs.Going.{at}
use Rattle.cpm_run.specs.declared.ending.Why.{Why}
use Rattle.cpm_run.specs.declared.recording.Record.{Record}
use Rattle.cpm_run.specs.declared.recording.TraceStep.{TraceStep}
use Rattle.cpm_run.specs.declared.recording.Wish.{Wish}
use Rattle.cpm_run.specs.Records.{Keeps}
use Rattle.cpm_run.specs.Run.{TurnsEnd}
use Rattle.cpm_run.specs.Turns.{Goes, IsTurn, RunState, is_finished}
use Rattle.cpm_run.specs.Turns.Goes.{none as no_turns, more as one_more}
use Rattle.cpm_run.specs.Walks.{KeepsWalk, WalkEnds, WalksTo, trace_step}
use Rattle.cpm_run.specs.Walks.WalksTo.{none, more}

module _ {S C : Type 0} (sectors : S → Image) (faults : S → ℕ) (dialog : C → Dialog) where
  -- the steps of a walk are that number of steps
  pub walk_goes : {steps : List TraceStep} {old new : RunState S C} → WalksTo sectors faults dialog steps old new → Goes sectors faults dialog (length steps) old new
  walk_goes (none s) = no_turns s
  walk_goes (more steps old mid new before going turn) =
      let size : length steps + 1 ≡ length (steps ++ trace_step (length steps + 1) mid new ∷ []) = sym (length-append steps (trace_step (length steps + 1) mid new ∷ [])) in
      subst (λ n. Goes sectors faults dialog n old new) size (one_more (length steps) old mid new (walk_goes before) going turn)

  -- a walk ends as a run of that number of steps does
  pub walk_ends : (limit : ℕ) (old new : RunState S C) (end : Why) (steps : List TraceStep) (turns : ℕ) → turns ≡ length steps
      → WalkEnds sectors faults dialog limit old end steps new → TurnsEnd sectors faults dialog limit old end turns new
  walk_ends limit old new end steps turns is (inl h) =
      let most = h.1 in
      inl (subst (λ n. Goes sectors faults dialog n old new) (sym is) (walk_goes h.0), omega (arith, is, most), h.2, h.3)
  walk_ends limit old new end steps turns is (inr (inl h)) = inr (inl (subst (λ n. Goes sectors faults dialog n old new) (sym is) (walk_goes h.0), is ∙ h.1, h.2, h.3))
  walk_ends limit old new end steps turns is (inr (inr (before, last, all, below, walk, going, turn))) =
      let size : length (before ++ trace_step (length before + 1) last new ∷ []) ≡ length before + 1 = length-append before (trace_step (length before + 1) last new ∷ []) in
      let same : length steps ≡ length (before ++ trace_step (length before + 1) last new ∷ []) = ap length all in
      inr (inr (length before, last, is ∙ same ∙ size, below, walk_goes walk, going, turn))

  pub kept_ends : (limit : ℕ) (wish : Wish) (old new : RunState S C) (end : Why) (turns : ℕ) (kept : Option Record)
      → KeepsWalk sectors faults dialog limit wish old end turns new kept → TurnsEnd sectors faults dialog limit old end turns new
  kept_ends limit wish old new end turns kept (steps, ends, is, keeps) = walk_ends limit old new end steps turns is ends

  -- how far a run has come: its steps, their number, and what is kept of them
  abbrev pub Walked : ℕ → Wish → RunState S C → RunState S C → Option Record → ℕ → Type 0
  Walked limit wish start now kept turns = (steps : List TraceStep) × (turns ≡ length steps) × (turns ≤ limit) × Keeps wish steps kept × WalksTo sectors faults dialog steps start now

  -- the step that the code makes is kept
  abbrev pub Notes : Wish → RunState S C → RunState S C → Option Record → Option Record → ℕ → List ℕ → Type 0
  Notes wish mid new old kept turns bytes = (steps : List TraceStep) → length steps + 1 < 2 ^ 64 → Keeps wish steps old
      → Keeps wish (steps ++ record { number = turns + 1; before = mid.machine.cpu; bytes = bytes; after = new.machine.cpu } ∷ []) kept

  same_step : (mid new : RunState S C) (turns n : ℕ) (bytes : List ℕ) → turns ≡ n → bytes ≡ bytes_at_pc mid.machine
      → ◌≡◌ {A = TraceStep} (record { number = turns + 1; before = mid.machine.cpu; bytes = bytes; after = new.machine.cpu }) (trace_step (n + 1) mid new)
  same_step mid new turns n bytes e f =
      ap (λ (k : ℕ). record { number = k + 1; before = mid.machine.cpu; bytes = bytes; after = new.machine.cpu }) e
      ∙ ap (λ (bs : List ℕ). record { number = n + 1; before = mid.machine.cpu; bytes = bs; after = new.machine.cpu }) f

  noted_step : (limit : ℕ) (wish : Wish) (mid new : RunState S C) (old kept : Option Record) (turns : ℕ) (steps : List TraceStep) (bytes : List ℕ) → limit < 2 ^ 64 → turns < limit → turns ≡ length steps
      → bytes ≡ bytes_at_pc mid.machine → Notes wish mid new old kept turns bytes → Keeps wish steps old → Keeps wish (steps ++ trace_step (length steps + 1) mid new ∷ []) kept
  noted_step limit wish mid new old kept turns steps bytes fits below is read notes keeps =
      let room : length steps + 1 < 2 ^ 64 = omega (arith, fits, below, is) in
      subst (λ (s : TraceStep). Keeps wish (steps ++ s ∷ []) kept) (same_step mid new turns (length steps) bytes is read) (notes steps room keeps)

  -- one more step
  pub walked_on : (limit : ℕ) (wish : Wish) (start mid new : RunState S C) (old kept : Option Record) (turns : ℕ) (bytes : List ℕ) → limit < 2 ^ 64 → turns ≢ limit → is_finished mid.machine.cpu.pc ≡ false
      → bytes ≡ bytes_at_pc mid.machine → IsTurn sectors faults dialog mid None new → Notes wish mid new old kept turns bytes → Walked limit wish start mid old turns → Walked limit wish start new kept (turns + 1)
  walked_on limit wish start mid new old kept turns bytes fits other going read turn notes (steps, is, le, keeps, walk) =
      let below : turns < limit = omega (arith, other, le) in
      let size = length-append steps (trace_step (length steps + 1) mid new ∷ []) in (
        steps ++ trace_step (length steps + 1) mid new ∷ [],
        omega (arith, is, size),
        omega (arith, below),
        noted_step limit wish mid new old kept turns steps bytes fits below is read notes keeps,
        more steps start mid new walk going turn,
      )

  -- the last step
  pub walk_stops : (limit : ℕ) (wish : Wish) (start mid new : RunState S C) (old kept : Option Record) (turns : ℕ) (bytes : List ℕ) (end : Why) → limit < 2 ^ 64 → turns ≢ limit → is_finished mid.machine.cpu.pc ≡ false
      → bytes ≡ bytes_at_pc mid.machine → IsTurn sectors faults dialog mid (Some end) new → Notes wish mid new old kept turns bytes → Walked limit wish start mid old turns
      → KeepsWalk sectors faults dialog limit wish start end (turns + 1) new kept
  walk_stops limit wish start mid new old kept turns bytes end fits other going read turn notes (steps, is, le, keeps, walk) =
      let below : turns < limit = omega (arith, other, le) in
      let size = length-append steps (trace_step (length steps + 1) mid new ∷ []) in (
        steps ++ trace_step (length steps + 1) mid new ∷ [],
        inr (inr (steps, mid, refl, omega (arith, below, is), walk, going, turn)),
        omega (arith, is, size),
        noted_step limit wish mid new old kept turns steps bytes fits below is read notes keeps,
      )

  -- the same, for a system that is equal at the start
  pub walk_from : (limit : ℕ) (wish : Wish) (m : Machine) (a b : System S C) (end : Why) (turns : ℕ) (new : RunState S C) (kept : Option Record) → a ≡ b
      → KeepsWalk sectors faults dialog limit wish (at m a) end turns new kept → KeepsWalk sectors faults dialog limit wish (at m b) end turns new kept
  walk_from limit wish m a b end turns new kept e walk = subst (λ (s : System S C). KeepsWalk sectors faults dialog limit wish (at m s) end turns new kept) e walk
