-- An example for which the conditions of the laws hold: `LD A,LOW $` in an empty module whose end is at 1234H.
use Rattle.std.proofs.Common.{◌≡◌, ◌<◌, [], ◌∷◌, List, None, Ok, refl, arith}
use Rattle.std.specs.Prelude.{codes}
use Rattle.asm_parse.specs.declared.item.Item.{Item}
use Rattle.asm_parse.specs.declared.operator.Unary.{Unary}
use Rattle.asm_parse.specs.Source.{Here}
use Rattle.asm_expr.specs.Below.{Atom}
use Rattle.asm_expr.specs.Names.{AreCounted, empty}
use Rattle.asm_expr.specs.Origins.{AllBring}
use Rattle.z80_instr.specs.declared.Instr.{Instr}
use Rattle.z80_instr.specs.declared.Operand.{Operand}
use Rattle.z80_instr.specs.declared.Register.{Register}
use Rattle.z80_form.specs.declared.field.Field.{Field}
use Rattle.asm_spell.specs.Line as line
use Rattle.zmo_object.specs.declared.module.hole.Hole.{Hole}
use Rattle.zmo_object.specs.declared.module.hole.Width.{Width}
use Rattle.asm_stmt.specs.Made as made
use Rattle.asm_line.specs.declared.token.Kind.{Kind}
use Rattle.asm_line.specs.declared.token.Mark.{Mark}
use Rattle.asm_line.specs.Tokens.{Lexeme}
use Rattle.z80_form.specs.Named.{mnemonic_named, name_named}
use Rattle.z80_form.specs.Spelling.{instruction_of}
use Rattle.asm_module.specs.Program.Linked.{filled}
use Rattle.asm_module.specs.Program.Spelled.{IsSpelled}

abbrev spelled : line.Body
spelled = line.Code (Instr.LoadByte (Operand.Register Register.A) 0) ((Field.Byte, Item.Leaf Here ∷ Item.Unary Unary.Low ∷ []) ∷ [])

-- the tokens of the line
abbrev tokens : List Lexeme
tokens = record { kind = Kind.Name; text = codes "LD" } ∷ record { kind = Kind.Name; text = codes "A" } ∷ record { kind = Kind.Mark Mark.Comma; text = [] }
    ∷ record { kind = Kind.Name; text = codes "LOW" } ∷ record { kind = Kind.Mark Mark.Dollar; text = [] } ∷ []

pub is_spelled : IsSpelled spelled
unfolding mnemonic_named name_named instruction_of
is_spelled = record { tokens = tokens; label = None; is = refl }

abbrev hole : Hole
hole = record { offset = 1; width = Width.Byte; value = Item.Leaf (Atom.Ref 0) ∷ Item.Unary Unary.Low ∷ [] }

pub makes : made.made empty spelled ≡ Ok (made.Some_piece (made.Bytes (0x3E ∷ 0 ∷ []) (hole ∷ [])))
makes = refl

pub is_filled : filled (λ r. 0x1234) (0x3E ∷ 0 ∷ []) (hole ∷ []) ≡ 0x3E ∷ 0x34 ∷ []
is_filled = refl

-- The module has one ref, its end.
pub counted : AreCounted empty
counted name what is = cc

pub brings : AllBring (λ r. r < 1) empty
brings = record { here = omega arith; names = λ name what is. cc }
