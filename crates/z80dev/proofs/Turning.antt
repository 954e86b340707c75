-- A step of the machine, and a step by statements.
use Rattle.std.proofs.Common.{◌≡◌, ℕ, zero, suc, ◌+◌, ◌-◌, ◌%◌, ◌<◌, ◌≤◌, ◌↔◌, Bool, true, false, if◌then◌else◌, List, Option, Some, None, length, refl, sym, ap, ◌∙◌, subst, arith, ℤ, pos, negsuc}
use Rattle.std.specs.Prelude.{◌+ℤ◌, not, nat_eq}
use Rattle.std.specs.List.{slice_range}
use Rattle.std.proofs.lemmas.Int.{ints}
use Rattle.std.proofs.lemmas.Bool.Decides.{nat_tests}
use Rattle.z80_instr.specs.declared.Instr.{Instr}
use Rattle.z80_instr.specs.declared.ShortCond.{ShortCond}
use Rattle.z80_instr.specs.Codes.{is_signed_byte, in_range}
use Rattle.z80_instr.specs.Table.{canonical}
use Rattle.z80_cpu.specs.declared.alu.flags.Flags.{Flags}
use Rattle.z80_cpu.specs.declared.registers.Cpu.{Cpu}
use Rattle.z80_machine.specs.Types.{Step}
use Rattle.z80_cpu.specs.State.{Machine, on_cpu, machine, with_main, with_pc, one_less, up_by, displaced}
use Rattle.z80_cpu.specs.Operands.{condition_holds, short_condition_holds}
use Rattle.z80_cpu.specs.Jumps.{jumped_if}
use Rattle.z80_cpu.specs.Effect.{instruction_effect}
use Rattle.z80_machine.specs.Turn.{StandsAtPc, carried_out, IsTurnOf, IsStep}
use Rattle.relax.specs.Choice.{Choice, IsValid, size_of, bytes_before, place}
use Rattle.z80_instr.specs.declared.Branch.{Branch}
use Rattle.z80_instr.specs.declared.Branch.TheVariants.{Relative, CountDown}
use Rattle.asm_module.specs.Program.Statement.{Statement, Code, Data, Space, Jump, Short}
use Rattle.asm_parse.specs.Expression.{Expression}
use Rattle.asm_parse.specs.declared.values.atom.Atom.{Atom}
use Rattle.asm_stmt.specs.Made.{widened, long_jump}
use Rattle.asm_module.specs.Program.Pieces.{short_jump, IsShortJump, IsPiece, valued}
use Rattle.z80_form.specs.declared.field.Field.{Field}
use Rattle.z80_form.specs.Numbers.{with_numbers}
use Rattle.zlink.specs.Reads.{Reads, shape, sized_as}
use Rattle.z80dev.specs.Turns.{IsAtStatement, jumped, branched, IsExecuted, IsTurnBy, Walks, MakesSteps}
use Rattle.z80dev.proofs.Standing.{IsThere, is_there, stands, next_place}

-- The laws of the machine: if an instruction is at PC, the step is that of this instruction; and a machine has only one step.
abbrev pub TurnOf : Type 0
TurnOf = (instr : Instr) (size : ℕ) (step : Step) (old new : Machine) → StandsAtPc old instr size → IsStep step old new ↔ IsTurnOf instr size step old new

abbrev pub OneTurn : Type 0
OneTurn = (first second : Step) (old new other : Machine) → IsStep first old new → IsStep second old other → (first ≡ second) × (new ≡ other)

-- no encoding has more than four bytes
abbrev pub Most : Type 0
Most = (instr : Instr) → length (canonical instr) ≤ 4

-- What the step of an instruction at PC leads to.
abbrev Comes : Step → Machine → Machine → Type 0
Comes step new to = (step ≡ Step.Done) × (new ≡ to)

pub comes : TurnOf → (instr : Instr) (size : ℕ) (step : Step) (old new to : Machine) → StandsAtPc old instr size → (IsTurnOf instr size step old new ≡ Comes step new (carried_out instr size old)) → carried_out instr size old ≡ to
    → IsStep step old new ↔ Comes step new to
comes turn_of instr size step old new to s is e = (
  λ turn. let t : Comes step new (carried_out instr size old) = subst (λ T. T) is ((turn_of instr size step old new s).0 turn) in (t.0, t.1 ∙ e),
  λ t. (turn_of instr size step old new s).1 (subst (λ T. T) (sym is) (t.0, t.1 ∙ sym e)),
)

-- PC after an instruction
behind : (pc n next : ℕ) → next ≡ pc + n → next < 65536 → up_by n pc ≡ next
behind pc n next e small = omega arith

-- a short jump leads to its target
leads : (at to : ℕ) (e : ℤ) → at + 2 < 65400 → pos (at + 2) +ℤ e ≡ pos to → is_signed_byte e ≡ true → displaced (at + 2) e ≡ to
leads at to (pos n) small e byte =
    let near : n < 128 = grind (arith, nat_tests) in
    let sum : at + 2 + n ≡ to = omega (arith, ints) in
    let whole : (at + 2 + n) % 65536 ≡ to = omega arith in
    whole
leads at to (negsuc n) small e byte =
    let near : n < 128 = grind (arith, nat_tests) in
    let sum : at + 2 ≡ to + suc n = omega (arith, ints) in
    let whole : (at + 2 + (65536 - suc n)) % 65536 ≡ to = omega arith in
    whole

-- a jump on a condition, with PC at the next address
chosen_by : (b : Bool) (to next : ℕ) (cpu : Cpu) → jumped_if b to (with_pc next cpu) ≡ with_pc (if b then to else next) cpu
chosen_by true to next cpu = refl
chosen_by false to next cpu = refl

if_not : (b : Bool) (x y : ℕ) → (if not b then x else y) ≡ (if b then y else x)
if_not true x y = refl
if_not false x y = refl

long_effect : (condition : Option ShortCond) (to n next : ℕ) (m : Machine) → up_by n m.cpu.pc ≡ next → carried_out (long_jump condition to) n m ≡ on_cpu (jumped condition to next) m
long_effect None to n next m e = refl
long_effect (Some condition) to n next m e =
    ap (λ a. instruction_effect (Instr.JumpIf (widened condition) to) (on_cpu (with_pc a) m)) e
    ∙ ap (λ b. machine (jumped_if b to (with_pc next m.cpu)) m.memory) (same condition m.cpu.main.flags)
    ∙ ap (λ cpu. machine cpu m.memory) (chosen_by (short_condition_holds condition m.cpu.main.flags) to next m.cpu)
  where
    same : (condition : ShortCond) (flags : Flags) → condition_holds (widened condition) flags ≡ short_condition_holds condition flags
    same ShortCond.NotZero flags = refl
    same ShortCond.Zero flags = refl
    same ShortCond.NotCarry flags = refl
    same ShortCond.Carry flags = refl

long_is : (condition : Option ShortCond) (to n : ℕ) (step : Step) (old new : Machine) → IsTurnOf (long_jump condition to) n step old new ≡ Comes step new (carried_out (long_jump condition to) n old)
long_is None to n step old new = refl
long_is (Some condition) to n step old new = refl

short_effect : (branch : Branch) (e : ℤ) (to n next : ℕ) (m : Machine) → up_by n m.cpu.pc ≡ next → displaced next e ≡ to → carried_out (short_jump branch e) n m ≡ on_cpu (branched branch to next) m
short_effect (Relative None) e to n next m here there = ap (λ a. on_cpu (with_pc a) m) (ap (λ a. displaced a e) here ∙ there)
short_effect (Relative (Some condition)) e to n next m here there =
    ap (λ a. instruction_effect (Instr.JumpRelativeIf condition e) (on_cpu (with_pc a) m)) here
    ∙ ap (λ a. machine (jumped_if (short_condition_holds condition m.cpu.main.flags) a (with_pc next m.cpu)) m.memory) there
    ∙ ap (λ cpu. machine cpu m.memory) (chosen_by (short_condition_holds condition m.cpu.main.flags) to next m.cpu)
short_effect CountDown e to n next m here there =
    let count : ℕ = one_less m.cpu.main.b in
    let cpu : Cpu = with_main (record m.cpu.main { b = count }) m.cpu in
    ap (λ a. instruction_effect (Instr.Djnz e) (on_cpu (with_pc a) m)) here
    ∙ ap (λ a. machine (jumped_if (not (nat_eq count 0)) a (with_pc next cpu)) m.memory) there
    ∙ ap (λ x. machine x m.memory) (chosen_by (not (nat_eq count 0)) to next cpu)
    ∙ ap (λ a. machine (with_pc a cpu) m.memory) (if_not (nat_eq count 0) to next)

short_is : (branch : Branch) (e : ℤ) (n : ℕ) (step : Step) (old new : Machine) → IsTurnOf (short_jump branch e) n step old new ≡ Comes step new (carried_out (short_jump branch e) n old)
short_is (Relative None) e n step old new = refl
short_is (Relative (Some condition)) e n step old new = refl
short_is CountDown e n step old new = refl

signed_of : (branch : Branch) (e : ℤ) → in_range (short_jump branch e) ≡ true → is_signed_byte e ≡ true
signed_of (Relative None) e h = h
signed_of (Relative (Some condition)) e h = h
signed_of CountDown e h = h

-- PC after the statement is the next address
pub moves : (file : List ℕ) (program : List Statement) (c : Choice) (k : ℕ) (s : Statement) (m : Machine) → IsThere file program c k s m →
    (up_by (size_of (c k) (sized_as s)) m.cpu.pc ≡ place c (shape program) (k + 1)) × (place c (shape program) (k + 1) ≡ place c (shape program) k + size_of (c k) (sized_as s)) × (place c (shape program) (k + 1) ≤ 64768)
moves file program c k s m is =
    let next = next_place file program c k s m is in
    let pc : m.cpu.pc ≡ place c (shape program) k = is.pc in (
      behind m.cpu.pc (size_of (c k) (sized_as s)) (place c (shape program) (k + 1)) (omega (arith, next, pc)) (omega (arith, next)),
      omega (arith, next),
      omega (arith, next),
    )

-- the bytes of statement k in the file
abbrev piece_of : List ℕ → List Statement → Choice → ℕ → List ℕ
piece_of file program c k = slice_range file (bytes_before c (shape program) k) (bytes_before c (shape program) (k + 1))

-- the step of a short jump
short_turn : TurnOf → (file : List ℕ) (program : List Statement) (c : Choice) (k : ℕ) (s : Statement) (branch : Branch) (to : ℕ) (step : Step) (old new : Machine) → IsThere file program c k s old
    → size_of (c k) (sized_as s) ≡ 2 → IsShortJump (place c (shape program) k) to branch (piece_of file program c k)
    → IsStep step old new ↔ Comes step new (on_cpu (branched branch to (place c (shape program) (k + 1))) old)
short_turn turn_of file program c k s branch to step old new is two (e, lead, codes) =
    let move = moves file program c k s old is in
    let next : place c (shape program) (k + 1) ≡ place c (shape program) k + 2 = omega (arith, move.1, two) in
    let way : displaced (place c (shape program) (k + 1)) e ≡ to = ap (λ a. displaced a e) next ∙ leads (place c (shape program) k) to e (omega (arith, move.2, next)) lead (signed_of branch e codes.numbers) in
    comes turn_of (short_jump branch e) (size_of (c k) (sized_as s)) step old new (on_cpu (branched branch to (place c (shape program) (k + 1))) old)
    (stands file program c k s old (short_jump branch e) is (omega (arith, two)) codes)
    (short_is branch e (size_of (c k) (sized_as s)) step old new)
    (short_effect branch e to (size_of (c k) (sized_as s)) (place c (shape program) (k + 1)) old move.0 way)

pub shorts : TurnOf → (file : List ℕ) (program : List Statement) (c : Choice) (k target : ℕ) (branch : Branch) (step : Step) (old new : Machine) → Reads file program c → IsValid c (shape program) → IsAtStatement file program c k (Short branch target) old
    → IsStep step old new ↔ Comes step new (on_cpu (branched branch (place c (shape program) target) (place c (shape program) (k + 1))) old)
shorts turn_of file program c k target branch step old new reads valid at =
    let is = is_there file program c k (Short branch target) old reads valid at in
    short_turn turn_of file program c k (Short branch target) branch (place c (shape program) target) step old new is refl (is.reads.pieces k (Short branch target) is.statement)

pub jumps : TurnOf → (file : List ℕ) (program : List Statement) (c : Choice) (k target : ℕ) (condition : Option ShortCond) (step : Step) (old new : Machine) → Reads file program c → IsValid c (shape program) → IsAtStatement file program c k (Jump condition target) old
    → IsStep step old new ↔ Comes step new (on_cpu (jumped condition (place c (shape program) target) (place c (shape program) (k + 1))) old)
jumps turn_of file program c k target condition step old new reads valid at = by (c k) refl (reads.pieces k (Jump condition target) at.statement)
  where
    is : IsThere file program c k (Jump condition target) old
    is = is_there file program c k (Jump condition target) old reads valid at

    by : (b : Bool) → c k ≡ b → IsPiece (place c (shape program) k) b (place c (shape program)) (Jump condition target) (piece_of file program c k)
        → IsStep step old new ↔ Comes step new (on_cpu (jumped condition (place c (shape program) target) (place c (shape program) (k + 1))) old)
    by true e codes =
        let three : size_of (c k) (sized_as (Jump condition target)) ≡ 3 = ap (λ b. size_of b (sized_as (Jump condition target))) e in
        let to : ℕ = place c (shape program) target in
        comes turn_of (long_jump condition to) (size_of (c k) (sized_as (Jump condition target))) step old new (on_cpu (jumped condition to (place c (shape program) (k + 1))) old)
        (stands file program c k (Jump condition target) old (long_jump condition to) is (omega (arith, three)) codes)
        (long_is condition to (size_of (c k) (sized_as (Jump condition target))) step old new)
        (long_effect condition to (size_of (c k) (sized_as (Jump condition target))) (place c (shape program) (k + 1)) old (moves file program c k (Jump condition target) old is).0)
    by false e lead =
        let two : size_of (c k) (sized_as (Jump condition target)) ≡ 2 = ap (λ b. size_of b (sized_as (Jump condition target))) e in
        short_turn turn_of file program c k (Jump condition target) (Relative condition) (place c (shape program) target) step old new is two lead

-- the step of an instruction, by the address of the next one
carried : (instr : Instr) (n next : ℕ) (step : Step) (old new : Machine) → up_by n old.cpu.pc ≡ next → IsTurnOf instr n step old new ↔ IsExecuted instr next step old new
carried Instr.Halt n next step old new e = (λ t. t, λ t. t)
carried instr n next step old new e = (λ t. (t.0, t.1 ∙ ap (λ a. instruction_effect instr (on_cpu (with_pc a) old)) e), λ t. (t.0, t.1 ∙ sym (ap (λ a. instruction_effect instr (on_cpu (with_pc a) old)) e)))

pub codes : TurnOf → Most → (file : List ℕ) (program : List Statement) (c : Choice) (k : ℕ) (instr : Instr) (numbers : List (Field × Expression Atom)) (step : Step) (old new : Machine) → Reads file program c → IsValid c (shape program) → IsAtStatement file program c k (Code instr numbers) old
    → IsStep step old new ↔ IsExecuted (with_numbers (valued (place c (shape program)) numbers) instr) (place c (shape program) (k + 1)) step old new
codes turn_of most file program c k instr numbers step old new reads valid at =
    let is = is_there file program c k (Code instr numbers) old reads valid at in
    let given : Instr = with_numbers (valued (place c (shape program)) numbers) instr in
    let n : ℕ = size_of (c k) (sized_as (Code instr numbers)) in
    let s = stands file program c k (Code instr numbers) old given is (most instr) (reads.pieces k (Code instr numbers) at.statement) in
    let same = carried given n (place c (shape program) (k + 1)) step old new (moves file program c k (Code instr numbers) old is).0 in
    (λ turn. same.0 ((turn_of given n step old new s).0 turn), λ by. (turn_of given n step old new s).1 (same.1 by))

-- a step by a statement is a step of the machine
pub turned : TurnOf → Most → (file : List ℕ) (program : List Statement) (c : Choice) (k : ℕ) (s : Statement) (step : Step) (old new : Machine) → Reads file program c → IsValid c (shape program) → IsAtStatement file program c k s old
    → IsTurnBy (place c (shape program)) k s step old new → IsStep step old new
turned turn_of most file program c k (Code instr numbers) step old new reads valid at by = (codes turn_of most file program c k instr numbers step old new reads valid at).1 by
turned turn_of most file program c k (Data items) step old new reads valid at by = absurd by
turned turn_of most file program c k (Space size fill) step old new reads valid at by = absurd by
turned turn_of most file program c k (Jump condition target) step old new reads valid at by = (jumps turn_of file program c k target condition step old new reads valid at).1 by
turned turn_of most file program c k (Short branch target) step old new reads valid at by = (shorts turn_of file program c k target branch step old new reads valid at).1 by

pub walks : TurnOf → Most → (file : List ℕ) (program : List Statement) (c : Choice) (n : ℕ) (old new : Machine) → Reads file program c → IsValid c (shape program) → Walks file program c n old new → MakesSteps n old new
walks turn_of most file program c zero old new reads valid w = w
walks turn_of most file program c (suc n) old new reads valid (k, s, step, next, at, by, rest) =
    (step, next, turned turn_of most file program c k s step old next reads valid at by, walks turn_of most file program c n next new reads valid rest)

-- after n steps the machine has only one state
pub one_run : OneTurn → (n : ℕ) (old new other : Machine) → MakesSteps n old new → MakesSteps n old other → new ≡ other
one_run one_turn zero old new other a b = a ∙ sym b
one_run one_turn (suc n) old new other (step, next, turn, rest) (step', next', turn', rest') =
    let same = one_turn step step' old next next' turn turn' in
    one_run one_turn n next new other rest (subst (λ m. MakesSteps n m other) (sym same.1) rest')
