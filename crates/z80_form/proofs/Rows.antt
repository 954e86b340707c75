-- Each instruction is read from its row, with (IX+d) and with (IX): one test for each row of the table.
use Rattle.std.proofs.Common.{◌≡◌, ◌⊎◌, ◌++◌, inl, inr, List, Option, Some, refl, ap, sym, ◌∙◌, map}
use Rattle.z80_instr.proofs.Finite.{Finite, ◌⊗◌, registers, indexes, pairs, addends, conditions, short_conditions, operations, rotations, octals, block_operations, block_steps}
use Rattle.z80_form.specs.Types.{Memory, Operand, Pointer, WordRegister, HlOrIndex, StackOperand, InterruptMode, Instr, Form, Field, Mnemonic}
use Rattle.z80_form.specs.Rows.{row}
use Rattle.z80_form.specs.Spelling.{without_displacement, Spells}
use Rattle.z80_form.specs.Numbers.{with_zeros, fields, fields_of, displacement_fields, number_fields}
use Rattle.z80_form.specs.Private.Reading.{instruction_read}

-- the fields of an instruction in the order of its operands: a bit comes before the displacement, a byte after it
abbrev ordered : Instr → List Field
ordered (Instr.Bit b m) = number_fields (Instr.Bit b m) ++ displacement_fields (Instr.Bit b m)
ordered (Instr.Set b m) = number_fields (Instr.Set b m) ++ displacement_fields (Instr.Set b m)
ordered (Instr.Res b m) = number_fields (Instr.Res b m) ++ displacement_fields (Instr.Res b m)
ordered instr = displacement_fields instr ++ number_fields instr

-- what both source forms of an instruction are read as, and which fields their expressions fill; and what these should be
abbrev Texts : Type 0
Texts = Option Instr × Option Instr × List Field × List Field

abbrev short : Instr → List Form
short instr = map without_displacement (row instr).operands

abbrev reading : Instr → Texts
reading instr = (instruction_read (row instr).mnemonic (row instr).operands, instruction_read (row instr).mnemonic (short instr), fields instr, fields_of instr (short instr))

abbrev answer : Instr → Texts
answer instr = (Some (with_zeros instr), Some (with_zeros instr), ordered instr, number_fields instr)

-- the rows of a family over a finite type
over : {A : Type 0} (V : Finite A) (f : A → Instr) → V.values _ (λ a. reading (f a)) ≡ V.values _ (λ a. answer (f a)) → (a : A) → reading (f a) ≡ answer (f a)
over V f e a = V.agree _ (λ a. reading (f a)) (λ a. answer (f a)) e a

both : (instr : Instr) → reading instr ≡ answer instr
both (Instr.Load a (Operand.Register b)) = over (registers ⊗ registers) (λ p. Instr.Load p.0 (Operand.Register p.1)) refl (a, b)
both (Instr.Load a (Operand.Memory Memory.Hl)) = over registers (λ a. Instr.Load a (Operand.Memory Memory.Hl)) refl a
both (Instr.Load a (Operand.Memory (Memory.Indexed b d))) = over (registers ⊗ indexes) (λ p. Instr.Load p.0 (Operand.Memory (Memory.Indexed p.1 d))) refl (a, b)
both (Instr.Store Memory.Hl a) = over registers (λ a. Instr.Store Memory.Hl a) refl a
both (Instr.Store (Memory.Indexed a d) b) = over (indexes ⊗ registers) (λ p. Instr.Store (Memory.Indexed p.0 d) p.1) refl (a, b)
both (Instr.LoadByte (Operand.Register a) n) = over registers (λ a. Instr.LoadByte (Operand.Register a) n) refl a
both (Instr.LoadByte (Operand.Memory Memory.Hl) n) = refl
both (Instr.LoadByte (Operand.Memory (Memory.Indexed a d)) n) = over indexes (λ a. Instr.LoadByte (Operand.Memory (Memory.Indexed a d)) n) refl a
both (Instr.LoadA Pointer.Bc) = refl
both (Instr.LoadA Pointer.De) = refl
both (Instr.LoadA (Pointer.Address nn)) = refl
both (Instr.StoreA Pointer.Bc) = refl
both (Instr.StoreA Pointer.De) = refl
both (Instr.StoreA (Pointer.Address nn)) = refl
both Instr.LoadAFromI = refl
both Instr.LoadAFromR = refl
both Instr.LoadIFromA = refl
both Instr.LoadRFromA = refl
both (Instr.LoadWord (WordRegister.Pair a) nn) = over pairs (λ a. Instr.LoadWord (WordRegister.Pair a) nn) refl a
both (Instr.LoadWord (WordRegister.Index a) nn) = over indexes (λ a. Instr.LoadWord (WordRegister.Index a) nn) refl a
both (Instr.LoadWordFrom (WordRegister.Pair a) nn) = over pairs (λ a. Instr.LoadWordFrom (WordRegister.Pair a) nn) refl a
both (Instr.LoadWordFrom (WordRegister.Index a) nn) = over indexes (λ a. Instr.LoadWordFrom (WordRegister.Index a) nn) refl a
both (Instr.StoreWord (WordRegister.Pair a) nn) = over pairs (λ a. Instr.StoreWord (WordRegister.Pair a) nn) refl a
both (Instr.StoreWord (WordRegister.Index a) nn) = over indexes (λ a. Instr.StoreWord (WordRegister.Index a) nn) refl a
both (Instr.LoadSp HlOrIndex.Hl) = refl
both (Instr.LoadSp (HlOrIndex.Index a)) = over indexes (λ a. Instr.LoadSp (HlOrIndex.Index a)) refl a
both (Instr.Push StackOperand.Bc) = refl
both (Instr.Push StackOperand.De) = refl
both (Instr.Push StackOperand.Hl) = refl
both (Instr.Push StackOperand.Af) = refl
both (Instr.Push (StackOperand.Index a)) = over indexes (λ a. Instr.Push (StackOperand.Index a)) refl a
both (Instr.Pop StackOperand.Bc) = refl
both (Instr.Pop StackOperand.De) = refl
both (Instr.Pop StackOperand.Hl) = refl
both (Instr.Pop StackOperand.Af) = refl
both (Instr.Pop (StackOperand.Index a)) = over indexes (λ a. Instr.Pop (StackOperand.Index a)) refl a
both Instr.ExDeHl = refl
both Instr.ExAf = refl
both Instr.Exx = refl
both (Instr.ExSp HlOrIndex.Hl) = refl
both (Instr.ExSp (HlOrIndex.Index a)) = over indexes (λ a. Instr.ExSp (HlOrIndex.Index a)) refl a
both (Instr.Block a b) = over (block_operations ⊗ block_steps) (λ p. Instr.Block p.0 p.1) refl (a, b)
both (Instr.Alu a (Operand.Register b)) = over (operations ⊗ registers) (λ p. Instr.Alu p.0 (Operand.Register p.1)) refl (a, b)
both (Instr.Alu a (Operand.Memory Memory.Hl)) = over operations (λ a. Instr.Alu a (Operand.Memory Memory.Hl)) refl a
both (Instr.Alu a (Operand.Memory (Memory.Indexed b d))) = over (operations ⊗ indexes) (λ p. Instr.Alu p.0 (Operand.Memory (Memory.Indexed p.1 d))) refl (a, b)
both (Instr.AluByte a n) = over operations (λ a. Instr.AluByte a n) refl a
both (Instr.Inc (Operand.Register a)) = over registers (λ a. Instr.Inc (Operand.Register a)) refl a
both (Instr.Inc (Operand.Memory Memory.Hl)) = refl
both (Instr.Inc (Operand.Memory (Memory.Indexed a d))) = over indexes (λ a. Instr.Inc (Operand.Memory (Memory.Indexed a d))) refl a
both (Instr.Dec (Operand.Register a)) = over registers (λ a. Instr.Dec (Operand.Register a)) refl a
both (Instr.Dec (Operand.Memory Memory.Hl)) = refl
both (Instr.Dec (Operand.Memory (Memory.Indexed a d))) = over indexes (λ a. Instr.Dec (Operand.Memory (Memory.Indexed a d))) refl a
both Instr.Daa = refl
both Instr.Cpl = refl
both Instr.Neg = refl
both Instr.Ccf = refl
both Instr.Scf = refl
both Instr.Nop = refl
both Instr.Halt = refl
both Instr.Di = refl
both Instr.Ei = refl
both (Instr.Im InterruptMode.Zero) = refl
both (Instr.Im InterruptMode.One) = refl
both (Instr.Im InterruptMode.Two) = refl
both (Instr.AddHl a) = over pairs (λ a. Instr.AddHl a) refl a
both (Instr.AdcHl a) = over pairs (λ a. Instr.AdcHl a) refl a
both (Instr.SbcHl a) = over pairs (λ a. Instr.SbcHl a) refl a
both (Instr.AddIndex a b) = over (indexes ⊗ addends) (λ p. Instr.AddIndex p.0 p.1) refl (a, b)
both (Instr.IncWord (WordRegister.Pair a)) = over pairs (λ a. Instr.IncWord (WordRegister.Pair a)) refl a
both (Instr.IncWord (WordRegister.Index a)) = over indexes (λ a. Instr.IncWord (WordRegister.Index a)) refl a
both (Instr.DecWord (WordRegister.Pair a)) = over pairs (λ a. Instr.DecWord (WordRegister.Pair a)) refl a
both (Instr.DecWord (WordRegister.Index a)) = over indexes (λ a. Instr.DecWord (WordRegister.Index a)) refl a
both Instr.Rlca = refl
both Instr.Rla = refl
both Instr.Rrca = refl
both Instr.Rra = refl
both (Instr.Rotate a (Operand.Register b)) = over (rotations ⊗ registers) (λ p. Instr.Rotate p.0 (Operand.Register p.1)) refl (a, b)
both (Instr.Rotate a (Operand.Memory Memory.Hl)) = over rotations (λ a. Instr.Rotate a (Operand.Memory Memory.Hl)) refl a
both (Instr.Rotate a (Operand.Memory (Memory.Indexed b d))) = over (rotations ⊗ indexes) (λ p. Instr.Rotate p.0 (Operand.Memory (Memory.Indexed p.1 d))) refl (a, b)
both Instr.Rld = refl
both Instr.Rrd = refl
both (Instr.Bit a (Operand.Register b)) = over (octals ⊗ registers) (λ p. Instr.Bit p.0 (Operand.Register p.1)) refl (a, b)
both (Instr.Bit a (Operand.Memory Memory.Hl)) = over octals (λ a. Instr.Bit a (Operand.Memory Memory.Hl)) refl a
both (Instr.Bit a (Operand.Memory (Memory.Indexed b d))) = over (octals ⊗ indexes) (λ p. Instr.Bit p.0 (Operand.Memory (Memory.Indexed p.1 d))) refl (a, b)
both (Instr.Set a (Operand.Register b)) = over (octals ⊗ registers) (λ p. Instr.Set p.0 (Operand.Register p.1)) refl (a, b)
both (Instr.Set a (Operand.Memory Memory.Hl)) = over octals (λ a. Instr.Set a (Operand.Memory Memory.Hl)) refl a
both (Instr.Set a (Operand.Memory (Memory.Indexed b d))) = over (octals ⊗ indexes) (λ p. Instr.Set p.0 (Operand.Memory (Memory.Indexed p.1 d))) refl (a, b)
both (Instr.Res a (Operand.Register b)) = over (octals ⊗ registers) (λ p. Instr.Res p.0 (Operand.Register p.1)) refl (a, b)
both (Instr.Res a (Operand.Memory Memory.Hl)) = over octals (λ a. Instr.Res a (Operand.Memory Memory.Hl)) refl a
both (Instr.Res a (Operand.Memory (Memory.Indexed b d))) = over (octals ⊗ indexes) (λ p. Instr.Res p.0 (Operand.Memory (Memory.Indexed p.1 d))) refl (a, b)
both (Instr.Jump nn) = refl
both (Instr.JumpIf a nn) = over conditions (λ a. Instr.JumpIf a nn) refl a
both (Instr.JumpRelative e) = refl
both (Instr.JumpRelativeIf a e) = over short_conditions (λ a. Instr.JumpRelativeIf a e) refl a
both (Instr.JumpIndirect HlOrIndex.Hl) = refl
both (Instr.JumpIndirect (HlOrIndex.Index a)) = over indexes (λ a. Instr.JumpIndirect (HlOrIndex.Index a)) refl a
both (Instr.Djnz e) = refl
both (Instr.Call nn) = refl
both (Instr.CallIf a nn) = over conditions (λ a. Instr.CallIf a nn) refl a
both Instr.Ret = refl
both (Instr.RetIf a) = over conditions (λ a. Instr.RetIf a) refl a
both Instr.Reti = refl
both Instr.Retn = refl
both (Instr.Restart a) = over octals (λ a. Instr.Restart a) refl a
both (Instr.InA n) = refl
both (Instr.InC a) = over registers (λ a. Instr.InC a) refl a
both (Instr.OutA n) = refl
both (Instr.OutC a) = over registers (λ a. Instr.OutC a) refl a

-- A source form of an instruction is read as that instruction.
pub found : (m : Mnemonic) (operands : List Form) (instr : Instr) → Spells m operands instr → instruction_read m operands ≡ Some (with_zeros instr)
found m operands instr spells =
    let word : instruction_read m operands ≡ instruction_read (row instr).mnemonic operands = ap (λ w. instruction_read w operands) (sym spells.mnemonic_is) in
    elim spells.operands_are as (λ _. instruction_read m operands ≡ Some (with_zeros instr)) [
      | inl long ↦ word ∙ ap (instruction_read (row instr).mnemonic) long ∙ ap (λ (p : Texts). p.0) (both instr)
      | inr flat ↦ word ∙ ap (instruction_read (row instr).mnemonic) flat.0 ∙ ap (λ (p : Texts). p.1) (both instr)
    ]

-- The fields that the expressions of both source forms fill.
either_order : (instr : Instr) → (ordered instr ≡ displacement_fields instr ++ number_fields instr) ⊎ (ordered instr ≡ number_fields instr ++ displacement_fields instr)
either_order (Instr.Bit b m) = inr refl
either_order (Instr.Set b m) = inr refl
either_order (Instr.Res b m) = inr refl
either_order _ = inl refl

pub row_fields : (instr : Instr) → (fields instr ≡ displacement_fields instr ++ number_fields instr) ⊎ (fields instr ≡ number_fields instr ++ displacement_fields instr)
row_fields instr =
    let are : fields instr ≡ ordered instr = ap (λ (p : Texts). p.2) (both instr) in
    elim (either_order instr) [ inl e ↦ inl (are ∙ e) | inr e ↦ inr (are ∙ e) ]

pub spelled_fields : (m : Mnemonic) (operands : List Form) (instr : Instr) → Spells m operands instr → (fields_of instr operands ≡ fields instr) ⊎ (fields_of instr operands ≡ number_fields instr)
spelled_fields m operands instr spells = elim spells.operands_are [
  | inl long ↦ inl (ap (fields_of instr) long)
  | inr flat ↦ inr (ap (fields_of instr) flat.0 ∙ ap (λ (p : Texts). p.3) (both instr))
]
