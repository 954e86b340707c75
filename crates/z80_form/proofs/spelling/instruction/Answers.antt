use Rattle.std.proofs.Common.{◌≡◌, ◌∙◌, sym, refl}
use Rattle.z80_form.specs.Spelling.{instruction_of}
use Rattle.z80_form.proofs.spelling.instruction.Goals as goal
use Rattle.z80_form.proofs.Texts.{found_is_read, found_is, found_none, fields_filled}

found : (c : goal.After-read) → c.read.result ≡ instruction_of c.args.mnemonic c.args.operands.now
found c = c.read.ensures ∙ sym (found_is_read c.args.mnemonic c.args.operands.now)

pub returns-clause-spelled : goal.returns-clause-spelled
returns-clause-spelled c = λ instr. rw (found c) (found_is c.args.mnemonic c.args.operands.now instr)

pub returns-clause-fields : goal.returns-clause-fields
returns-clause-fields c = rw c.read.ensures (fields_filled c.args.mnemonic c.args.operands.now _ refl)

pub returns-clause-none : goal.returns-clause-none
returns-clause-none c = rw (found c) (found_none c.args.mnemonic c.args.operands.now)

pub returns-clause-found : goal.returns-clause-found
returns-clause-found c = found c
