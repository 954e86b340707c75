use Rattle.std.proofs.Common.{◌∷◌, [], List, codes, refl, ℕ}
use Rattle.bstr.specs.Text.{line_len, lines_from}
use Rattle.debugger_commands.specs.declared.verb.Verb.{Verb}
use Rattle.debugger_commands.specs.declared.verb.Verb.TheVariants as verb
use Rattle.debugger.proofs.laws.help_is_in_order.Goals as goal

entries : List (List Verb × List ℕ)
entries =
    (verb.Step ∷ verb.Next ∷ [], codes "N turns (1); one turn, or all of a call") ∷
    (verb.Finish ∷ [], codes "run to the first return with SP higher after it") ∷
    (verb.Run ∷ [], codes "run to ADDR, a breakpoint, a watched byte, or the end") ∷
    (verb.Back ∷ verb.BackNext ∷ [], codes "N turns back (1); one turn back, or all of a call") ∷
    (verb.BackRun ∷ [], codes "go back to the last breakpoint or watched change") ∷
    (verb.Turn ∷ [], codes "go to the state after N turns from the start") ∷
    (verb.Where ∷ verb.Registers ∷ [], codes "PC with its line of the listing; registers, DMA, user") ∷
    (verb.Memory ∷ [], codes "N bytes of memory (16)") ∷
    (verb.Disassemble ∷ [], codes "N instructions (8)") ∷
    (verb.Stack ∷ verb.Output ∷ [], codes "the top of the stack; what the program has printed") ∷
    (verb.Who ∷ [], codes "the last turn that changed this byte") ∷
    (verb.Break ∷ [], codes "stop when PC is ADDR, and REG has this value") ∷
    (verb.Watch ∷ [], codes "stop at a turn that changes this byte, or one of N") ∷
    (verb.Info ∷ [], codes "list the breakpoints and the watched bytes") ∷
    (verb.Delete ∷ [], codes "forget those at ADDR, or all of them, and list them") ∷
    (verb.Files ∷ [], codes "the files of the disk: user, name and records") ∷
    (verb.Help ∷ verb.Quit ∷ [], codes "this list, or the line of a command; end the session") ∷
    []

notes : List (List ℕ)
notes =
    codes "A word may be shortened. It stands for the first command above, line by line," ∷
    codes "left to right, that begins so: s is step, br is break. ADDR is a label, or PC," ∷
    codes "SP, AF, BC, DE, HL, IX or IY, each also with a number as in TEXT+1 or SP-2; or" ∷
    codes "four hexadecimal digits as they are printed; or a number of the assembler, as" ∷
    codes "125H or 293. VALUE is the same, but no register: write the byte BC as 0BCH. A" ∷
    codes "turn that writes the same value does not change a byte." ∷
    []

pub returns-clause-order : goal.returns-clause-order
unfolding entries notes
returns-clause-order c = (entries, notes, refl, refl, refl, refl)

pub returns-clause-fits : goal.returns-clause-fits
unfolding line_len lines_from
returns-clause-fits c = (refl, refl)

pub returns-clause-each : goal.returns-clause-each
unfolding line_len lines_from
returns-clause-each c = refl
