-- A step by the table's own reading is the step of the instruction at PC. By a law, the table reads exactly the encodings.
use Rattle.std.proofs.Common.{◌≡◌, ◌≤◌, ℕ, List, ◌++◌, length, take, sym, ◌∙◌, ap, subst, refl, Result, Ok, Err}
use Rattle.z80_instr.specs.Codes.{Codes}
use Rattle.z80_table.specs.Reading.{read}
use Rattle.z80_table.specs.declared.DecodeFault.{DecodeFault}
use Rattle.z80_machine.specs.Types.{Instr, Step}
use Rattle.z80_cpu.specs.State.{Machine}
use Rattle.z80_machine.specs.Turn.{bytes_at_pc, StandsAtPc, IsTurnOf, IsStep}
use Rattle.z80_machine.specs.Private.Opcodes.{AreBytes, IsTurnBy}
use Rattle.z80_machine.proofs.AtPc.{stands}
use Rattle.z80_machine.proofs.OneTurn.{is_its}

abbrev pub Found : Type 0
Found = (bytes : List ℕ) (instr : Instr) (size : ℕ) → AreBytes bytes → read bytes ≡ Ok (instr, size) → (size ≤ length bytes) × Codes instr (take size bytes)

abbrev pub Only : Type 0
Only = (instr : Instr) (spelling rest : List ℕ) → Codes instr spelling → read (spelling ++ rest) ≡ Ok (instr, length spelling)

-- the instruction at PC is read
reads : Only → (m : Machine) (instr : Instr) (size : ℕ) → StandsAtPc m instr size → read (bytes_at_pc m) ≡ Ok (instr, size)
reads only m instr size s = ap read s.there ∙ only instr s.spelling s.rest s.codes ∙ ap (λ n. Ok (instr, n)) (sym s.sized)

-- and the step is the step of that instruction
pub known : Only → (m new : Machine) (step : Step) → IsTurnBy (read (bytes_at_pc m)) step m new →
    (instr : Instr) (size : ℕ) → StandsAtPc m instr size → IsTurnOf instr size step m new
known only m new step turn instr size there = subst (λ (r : Result (Instr × ℕ) DecodeFault). IsTurnBy r step m new) (reads only m instr size there) turn

unread : (instr : Instr) (size : ℕ) (fault : DecodeFault) → ◌≡◌ {A = Result (Instr × ℕ) DecodeFault} (Ok (instr, size)) (Err fault) → ⊥
unread instr size fault e = cc

pub is_turn : Found → Only → (m new : Machine) (step : Step) → AreBytes (bytes_at_pc m) → IsTurnBy (read (bytes_at_pc m)) step m new → IsStep step m new
is_turn found only m new step bytes turn = by_cases found only m new step bytes (read (bytes_at_pc m)) refl turn
  where
    by_cases : Found → Only → (m new : Machine) (step : Step) → AreBytes (bytes_at_pc m) → (r : Result (Instr × ℕ) DecodeFault) → read (bytes_at_pc m) ≡ r →
        IsTurnBy r step m new → IsStep step m new
    by_cases found only m new step bytes (Ok (instr, size)) e turn =
        let at = found (bytes_at_pc m) instr size bytes e in
        is_its instr size step m new (stands m instr size at.0 at.1) turn
    by_cases found only m new step bytes (Err fault) e turn =
        let none : (instr : Instr) (size : ℕ) → StandsAtPc m instr size → ⊥ = λ instr size there. unread instr size fault (sym (reads only m instr size there) ∙ e) in
        subst (λ (s : Step). IsStep s m new) (sym turn.0) (none, turn.1)

-- a step of the instruction that was read; if none was read, there is no step
pub turn_read : (m new : Machine) (step : Step) (x : Instr × ℕ) (r : Result (Instr × ℕ) DecodeFault) → r ≡ read (bytes_at_pc m) → r ≡ Ok x →
    IsTurnOf x.0 x.1 step m new → IsTurnBy (read (bytes_at_pc m)) step m new
turn_read m new step x r same e turn = subst (λ (r : Result (Instr × ℕ) DecodeFault). IsTurnBy r step m new) (sym e ∙ same) turn

pub turn_unread : (m : Machine) (fault : DecodeFault) (r : Result (Instr × ℕ) DecodeFault) → r ≡ read (bytes_at_pc m) → r ≡ Err fault →
    IsTurnBy (read (bytes_at_pc m)) Step.Undocumented m m
turn_unread m fault r same e = subst (λ (r : Result (Instr × ℕ) DecodeFault). IsTurnBy r Step.Undocumented m m) (sym e ∙ same) (refl, refl)
