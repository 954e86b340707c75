-- No encoding is the beginning of another, so only one instruction is at PC, and a machine has only one step.
use Rattle.std.proofs.Common.{◌≡◌, ℕ, ◌≤◌, List, [], ◌++◌, refl, sym, ap, ◌∙◌, subst, inl, inr, length, take, drop, arith}
use Rattle.std.proofs.lemmas.List.{take-append-drop, take-append-le, take_all, append-nil}
use Rattle.std.proofs.lemmas.Bool.{cases_lt}
use Rattle.z80_instr.specs.Codes.{Codes}
use Rattle.z80_machine.specs.Types.{Instr, Step}
use Rattle.z80_cpu.specs.State.{Machine}
use Rattle.z80_machine.specs.Turn.{StandsAtPc, IsTurnOf, IsStep}

abbrev pub Prefix : Type 0
Prefix = (first second : Instr) (spelling rest : List ℕ) → Codes first spelling → Codes second (spelling ++ rest) → (rest ≡ []) × (first ≡ second)

abbrev pub One : Type 0
One = (m : Machine) (first second : Instr) (size length : ℕ) → StandsAtPc m first size → StandsAtPc m second length → (first ≡ second) × (size ≡ length)

-- if two lists begin the same bytes, the shorter one begins the longer one
begins : (b d r q : List ℕ) → b ++ r ≡ d ++ q → length b ≤ length d → d ≡ b ++ drop (length b) d
begins b d r q e le =
    let same : b ≡ take (length b) d = sym (take_all (length b) b (omega arith)) ∙ sym (take-append-le (length b) b r (omega arith)) ∙ ap (take (length b)) e ∙ take-append-le (length b) d q le in
    sym (take-append-drop (length b) d) ∙ ap (λ l. l ++ drop (length b) d) (sym same)

shorter : Prefix → (i j : Instr) (b d r q : List ℕ) → Codes i b → Codes j d → b ++ r ≡ d ++ q → length b ≤ length d → (i ≡ j) × (length b ≡ length d)
shorter prefix i j b d r q codes other e le =
    let long = begins b d r q e le in
    let law = prefix i j b (drop (length b) d) codes (subst (λ x. Codes j x) long other) in
    (law.1, sym (ap length (long ∙ ap (λ l. b ++ l) law.0 ∙ append-nil b)))

pub one_by_prefix : Prefix → One
one_by_prefix prefix m i j n l first second =
    let e : first.spelling ++ first.rest ≡ second.spelling ++ second.rest = sym first.there ∙ second.there in
    elim (cases_lt (length second.spelling) (length first.spelling)) as (λ _. (i ≡ j) × (n ≡ l)) [
      | inl lt ↦ (let same = shorter prefix j i second.spelling first.spelling second.rest first.rest second.codes first.codes (sym e) (omega arith) in (sym same.0, omega (arith, same.1, first.sized, second.sized)))
      | inr ge ↦ (let same = shorter prefix i j first.spelling second.spelling first.rest second.rest first.codes second.codes e ge in (same.0, omega (arith, same.1, first.sized, second.sized)))
    ]

pair_of : (i j : Instr) (n l : ℕ) → i ≡ j → n ≡ l → ◌≡◌ {A = Instr × ℕ} (i, n) (j, l)
pair_of i j n l e f = cc

-- a step is the step of the instruction at PC
pub its_turn : One → (instr : Instr) (size : ℕ) (step : Step) (old new : Machine) → StandsAtPc old instr size → IsStep step old new → IsTurnOf instr size step old new
its_turn one instr size Step.Undocumented old new s turn = absurd (turn.0 instr size s)
its_turn one instr size Step.Done old new s (i, n, at, turn) =
    let same = one old i instr n size at s in
    subst (λ (p : Instr × ℕ). IsTurnOf p.0 p.1 Step.Done old new) (pair_of i instr n size same.0 same.1) turn
its_turn one instr size Step.Halted old new s (i, n, at, turn) =
    let same = one old i instr n size at s in
    subst (λ (p : Instr × ℕ). IsTurnOf p.0 p.1 Step.Halted old new) (pair_of i instr n size same.0 same.1) turn

never_undocumented : (instr : Instr) (size : ℕ) (old new : Machine) → ¬ IsTurnOf instr size Step.Undocumented old new
never_undocumented Instr.Halt size old new turn = let no = turn.0 in cc
never_undocumented instr size old new turn = let no = turn.0 in cc

-- and the step of the instruction at PC is a step
pub is_its : (instr : Instr) (size : ℕ) (step : Step) (old new : Machine) → StandsAtPc old instr size → IsTurnOf instr size step old new → IsStep step old new
is_its instr size Step.Undocumented old new there turn = absurd (never_undocumented instr size old new turn)
is_its instr size Step.Done old new there turn = (instr, size, there, turn)
is_its instr size Step.Halted old new there turn = (instr, size, there, turn)

-- an instruction has one step
of_one : (instr : Instr) (size : ℕ) (first second : Step) (old new other : Machine) → IsTurnOf instr size first old new → IsTurnOf instr size second old other → (first ≡ second) × (new ≡ other)
of_one Instr.Halt size first second old new other a b = (a.0 ∙ sym b.0, a.1 ∙ sym b.1)
of_one instr size first second old new other a b = (a.0 ∙ sym b.0, a.1 ∙ sym b.1)

pub same_turn : One → (first second : Step) (old new other : Machine) → IsStep first old new → IsStep second old other → (first ≡ second) × (new ≡ other)
same_turn one Step.Undocumented Step.Undocumented old new other a b = (refl, a.1 ∙ sym b.1)
same_turn one Step.Undocumented Step.Done old new other a (i, n, s, t) = absurd (a.0 i n s)
same_turn one Step.Undocumented Step.Halted old new other a (i, n, s, t) = absurd (a.0 i n s)
same_turn one Step.Done second old new other (i, n, s, t) b = of_one i n Step.Done second old new other t (its_turn one i n second old other s b)
same_turn one Step.Halted second old new other (i, n, s, t) b = of_one i n Step.Halted second old new other t (its_turn one i n second old other s b)
