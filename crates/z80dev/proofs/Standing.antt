-- What is at PC if memory has a file.
use Rattle.std.proofs.Common.{◌≡◌, ℕ, zero, suc, ◌+◌, ◌-◌, ◌<◌, ◌≤◌, List, Some, length, take, drop, get_or, sym, ap, ◌∙◌, subst, arith, length-drop}
use Rattle.std.specs.List.{slice_get, slice_range}
use Rattle.std.proofs.lemmas.List.{ext_get_or, get_or-take, get_or-drop, length-take-le, take-append-drop, length-map}
use Rattle.std.specs.Option.{option_map}
use Rattle.std.proofs.lemmas.Option.{slice_get-map, slice_get_within}
use Rattle.z80_instr.specs.declared.Instr.{Instr}
use Rattle.z80_instr.specs.Codes.{Codes}
use Rattle.z80_cpu.specs.State.{Machine}
use Rattle.z80_machine.specs.Turn.{bytes_at_pc, StandsAtPc}
use Rattle.relax.specs.Choice.{Choice, size_of, IsValid, bytes_before, place}
use Rattle.asm_module.specs.Program.Statement.{Statement}
use Rattle.zlink.specs.Reads.{Reads, shape, sized_as}
use Rattle.relax.proofs.Places.{bytes-next, bytes-le, size-there}
use Rattle.z80dev.specs.Turns.{HoldsFile, IsAtStatement}

-- a byte of a part of a list
range-at : (xs : List ℕ) (a n i : ℕ) → i < n → get_or (slice_range xs a (a + n)) i 0 ≡ get_or xs (a + i) 0
range-at xs a n i lt = get_or-take ((a + n) - a) (drop a xs) i 0 (omega arith) ∙ get_or-drop a xs i 0

-- a byte of the file in memory
pub held : (memory file : List ℕ) (at i : ℕ) → slice_range memory at (at + length file) ≡ file → i < length file → get_or memory (at + i) 0 ≡ get_or file i 0
held memory file at i h lt = sym (range-at memory at (length file) i lt) ∙ ap (λ l. get_or l i 0) h

-- memory has the file if each byte of the file is there
pub all_held : (memory file : List ℕ) (at : ℕ) → at + length file ≤ length memory → ((i : ℕ) → i < length file → get_or memory (at + i) 0 ≡ get_or file i 0) → slice_range memory at (at + length file) ≡ file
all_held memory file at room each =
    let len : length (slice_range memory at (at + length file)) ≡ length file = length-take-le ((at + length file) - at) (drop at memory) (omega (arith, length-drop at memory)) ∙ omega arith in
    ext_get_or 0 (slice_range memory at (at + length file)) file len (λ i lt. range-at memory at (length file) i (omega (arith, len)) ∙ each i (omega (arith, len)))

-- a byte at PC
at_pc : (m : Machine) (i : ℕ) → i < 4 → m.cpu.pc + i < 65536 → get_or (bytes_at_pc m) i 0 ≡ get_or m.memory (m.cpu.pc + i) 0
at_pc m zero lt small = ap (λ a. get_or m.memory a 0) (omega arith)
at_pc m (suc zero) lt small = ap (λ a. get_or m.memory a 0) (omega arith)
at_pc m (suc (suc zero)) lt small = ap (λ a. get_or m.memory a 0) (omega arith)
at_pc m (suc (suc (suc zero))) lt small = ap (λ a. get_or m.memory a 0) (omega arith)
at_pc m (suc (suc (suc (suc i)))) lt small = absurd (omega arith)

-- the bytes at PC begin with a part of the file
front : (m : Machine) (file : List ℕ) (at a n : ℕ) → slice_range m.memory at (at + length file) ≡ file → m.cpu.pc ≡ at + a → n ≤ 4 → a + n ≤ length file → at + length file ≤ 65536
    → take n (bytes_at_pc m) ≡ slice_range file a (a + n)
front m file at a n h pc small within fits =
    let len : length (take n (bytes_at_pc m)) ≡ n = length-take-le n (bytes_at_pc m) small in
    let other : length (slice_range file a (a + n)) ≡ n = length-take-le ((a + n) - a) (drop a file) (omega (arith, length-drop a file)) ∙ omega arith in
    ext_get_or 0 (take n (bytes_at_pc m)) (slice_range file a (a + n)) (len ∙ sym other) (λ i lt.
    let below : i < n = omega (arith, len) in
    let address : m.cpu.pc + i ≡ at + (a + i) = omega (arith, pc) in
    get_or-take n (bytes_at_pc m) i 0 below ∙ at_pc m i (omega arith) (omega (arith, pc)) ∙ ap (λ x. get_or m.memory x 0) address
    ∙ held m.memory file at (a + i) h (omega arith) ∙ sym (range-at file a n i below))

-- a statement of a program is also one of its shape
shape-at : (program : List Statement) (k : ℕ) (s : Statement) → slice_get program k ≡ Some s → slice_get (shape program) k ≡ Some (sized_as s)
shape-at program k s e = slice_get-map sized_as program k ∙ ap (option_map sized_as) e

-- memory has the file of a program, and PC is at a statement of it
pub record IsThere (file : List ℕ) (program : List Statement) (c : Choice) (k : ℕ) (s : Statement) (m : Machine) : Type 0 where
  pub reads : Reads file program c
  pub valid : IsValid c (shape program)
  pub held : HoldsFile m.memory file
  pub statement : slice_get program k ≡ Some s
  pub pc : m.cpu.pc ≡ place c (shape program) k

pub is_there : (file : List ℕ) (program : List Statement) (c : Choice) (k : ℕ) (s : Statement) (m : Machine) → Reads file program c → IsValid c (shape program) → IsAtStatement file program c k s m → IsThere file program c k s m
is_there file program c k s m reads valid at = record { reads = reads; valid = valid; held = at.held; statement = at.statement; pc = at.pc }

-- the address of the next statement
pub next_place : (file : List ℕ) (program : List Statement) (c : Choice) (k : ℕ) (s : Statement) (m : Machine) → IsThere file program c k s m →
    (bytes_before c (shape program) (k + 1) ≡ bytes_before c (shape program) k + size_of (c k) (sized_as s)) × (bytes_before c (shape program) (k + 1) ≤ length file) × (length file ≤ 64512)
next_place file program c k s m is =
    let next = bytes-next c (shape program) k in
    let size = size-there c (shape program) k (sized_as s) (shape-at program k s is.statement) in
    let within : k + 1 ≤ length (shape program) = omega (arith, slice_get_within program k s is.statement, length-map program sized_as) in
    (omega (arith, next, size), omega (arith, is.reads.length_is, bytes-le c (shape program) (k + 1) (length (shape program)) within), omega (arith, is.reads.length_is, is.valid.fits))

-- a statement whose bytes are an encoding of an instruction: this instruction is at PC
pub stands : (file : List ℕ) (program : List Statement) (c : Choice) (k : ℕ) (s : Statement) (m : Machine) (instr : Instr) → IsThere file program c k s m → size_of (c k) (sized_as s) ≤ 4
    → Codes instr (slice_range file (bytes_before c (shape program) k) (bytes_before c (shape program) (k + 1))) → StandsAtPc m instr (size_of (c k) (sized_as s))
stands file program c k s m instr is small codes =
    let a : ℕ = bytes_before c (shape program) k in
    let n : ℕ = size_of (c k) (sized_as s) in
    let next = next_place file program c k s m is in
    let piece : take n (bytes_at_pc m) ≡ slice_range file a (bytes_before c (shape program) (k + 1)) =
    front m file 256 a n is.held is.pc small (omega (arith, next)) (omega (arith, next)) ∙ ap (slice_range file a) (sym next.0) in
    record {
      spelling = take n (bytes_at_pc m);
      rest = drop n (bytes_at_pc m);
      codes = subst (λ x. Codes instr x) (sym piece) codes;
      there = sym (take-append-drop n (bytes_at_pc m));
      sized = sym (length-take-le n (bytes_at_pc m) small);
    }
