-- How the code cuts tokens into operands.
use Rattle.std.specs.Prelude.{ℕ, suc, ◌==◌, ◌&&◌, ◌++◌, List, [], ◌∷◌, Option, Some, None, Result, Ok, Err, if◌then◌else◌}
use Rattle.std.specs.Borrow.{Bor}
use Rattle.asm_line.specs.declared.token.Token.{Token}
use Rattle.asm_line.specs.Tokens.{Lexeme, lexemes}
use Rattle.asm_line.specs.Commas.{open_behind}
use Rattle.asm_line.specs.Single.{is_comma}
use Rattle.asm_spell.specs.declared.fault.StmtFault.{StmtFault}
use Rattle.asm_spell.specs.declared.operand.Written as written
use Rattle.z80_form.specs.declared.mnemonic.Mnemonic.{Mnemonic}
use Rattle.asm_spell.specs.Line.{Body}
use Rattle.asm_spell.specs.Operands.{pieces, WrittenOperand}
use Rattle.asm_spell.specs.Spelling.{instruction_by}

-- how many tokens come before the first comma outside of parentheses
abbrev pub first_len : ℕ → List Lexeme → ℕ
first_len depth [] = 0
first_len depth (t ∷ ts) = if (depth == 0) && is_comma t then 0 else suc (first_len (open_behind depth t.kind) ts)

-- the operands that are left, if any are
abbrev pub left : Option (Bor (List Token)) → List (List Lexeme)
left None = []
left (Some rest) = pieces 0 (lexemes rest.now)

abbrev pub holds : written.Written → WrittenOperand
holds w = record { form = w.form; expression = w.expression; is_name = w.is_name }

-- a mnemonic with its first operand, given the others as they were read
abbrev pub with_others : Mnemonic → WrittenOperand → Result (List WrittenOperand) StmtFault → Result Body StmtFault
with_others m first (Ok others) = instruction_by m (first ∷ others)
with_others m first (Err fault) = Err fault

-- the operands read so far, and then the others
abbrev pub behind : {B : Type 0} → List B → Result (List B) StmtFault → Result (List B) StmtFault
behind xs (Ok ys) = Ok (xs ++ ys)
behind xs (Err fault) = Err fault
