-- What the public definition says of lines for which some wrong bodies would say something else.
use Rattle.std.proofs.Common.{◌≡◌, ℕ, List, [], ◌∷◌, None, Some, Ok, refl, codes}
use Rattle.asm_line.specs.declared.token.Kind.{Kind}
use Rattle.asm_line.specs.declared.token.Mark.{Mark}
use Rattle.asm_line.specs.Tokens.{Lexeme}
use Rattle.asm_parse.specs.declared.item.Item.{Item}
use Rattle.asm_parse.specs.declared.operator.Binary.{Binary}
use Rattle.asm_parse.specs.Source.{Name, Number}
use Rattle.z80_instr.specs.declared.Cond.{Cond}
use Rattle.z80_instr.specs.declared.Instr.{Instr}
use Rattle.z80_instr.specs.declared.Operand.{Operand}
use Rattle.z80_instr.specs.declared.Register.{Register}
use Rattle.z80_instr.specs.declared.ShortCond.{ShortCond}
use Rattle.z80_form.specs.Named.{mnemonic_named, name_named}
use Rattle.z80_form.specs.declared.field.Field.{Field}
use Rattle.z80_form.specs.Spelling.{instruction_of}
use Rattle.z80_instr.specs.declared.Branch.{Branch}
use Rattle.asm_spell.specs.Line.{Code, Short, Statement}
use Rattle.asm_spell.specs.Spelling.{spelled}

abbrev name : List ℕ → Lexeme
name text = record { kind = Kind.Name; text = text }

abbrev mark : Mark → Lexeme
mark m = record { kind = Kind.Mark m; text = [] }

abbrev number : ℕ → Lexeme
number n = record { kind = Kind.Number n; text = [] }

-- JP PE,X is no relaxable jump
pub jump_on_pe : spelled (name (codes "JP") ∷ name (codes "PE") ∷ mark Mark.Comma ∷ name (codes "X") ∷ []) ≡ Ok (Statement None (Some (Code (Instr.JumpIf Cond.ParityEven 0) ((Field.Word, Item.Leaf (Name (codes "X")) ∷ []) ∷ []))))
unfolding mnemonic_named name_named instruction_of
jump_on_pe = refl

-- nor is JP X+1
pub jump_to_offset : spelled (name (codes "JP") ∷ name (codes "X") ∷ mark Mark.Plus ∷ number 1 ∷ []) ≡ Ok (Statement None (Some (Code (Instr.Jump 0) ((Field.Word, Item.Leaf (Name (codes "X")) ∷ Item.Leaf (Number 1) ∷ Item.Binary Binary.Add ∷ []) ∷ []))))
unfolding mnemonic_named name_named instruction_of
jump_to_offset = refl

-- JR NZ,X jumps on NZ
pub branch_on_nz : spelled (name (codes "JR") ∷ name (codes "NZ") ∷ mark Mark.Comma ∷ name (codes "X") ∷ []) ≡ Ok (Statement None (Some (Short (Branch.Relative (Some ShortCond.NotZero)) (codes "X"))))
unfolding mnemonic_named name_named instruction_of
branch_on_nz = refl

-- LD B,5 has the number 5
pub load_number : spelled (name (codes "LD") ∷ name (codes "B") ∷ mark Mark.Comma ∷ number 5 ∷ []) ≡ Ok (Statement None (Some (Code (Instr.LoadByte (Operand.Register Register.B) 0) ((Field.Byte, Item.Leaf (Number 5) ∷ []) ∷ []))))
unfolding mnemonic_named name_named instruction_of
load_number = refl
