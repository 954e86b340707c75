use Rattle.std.proofs.Common.{◌≡◌, ◌++◌, ◌==◌, ◌∙◌, ℕ, Bool, true, false, Option, Some, OnOk, ap, refl, subst, sym}
use Rattle.std.proofs.lemmas.Bool.{ne_eqb}
use Rattle.std.specs.Bool.{if◌then◌else◌}
use Rattle.cpm_run.specs.Turns.{Call, bdos, bios_entry, entry_or_program, place_at_pc}
use Rattle.state_text.specs.Labelled.{Known}
use Rattle.z80_cpu.specs.State.{word_at}
use Rattle.z80dev_run.specs.Registers.{return_line, return_text}
use Rattle.z80dev_run.proofs.registers.put_return_line.Goals as goal

at_call : (pc : ℕ) (known : Known) (a b : ℕ) → (pc == bdos) ≡ true → a ≡ b → return_text known a ≡ return_line (place_at_pc pc) known b
at_call pc known a b is same = ap (return_text known) same ∙ sym (ap (λ c. return_line (if c then Call else entry_or_program (bios_entry pc)) known b) is)

at_entry : (pc : ℕ) (known : Known) (a b n : ℕ) → (pc == bdos) ≡ false → bios_entry pc ≡ Some n → a ≡ b → return_text known a ≡ return_line (place_at_pc pc) known b
at_entry pc known a b n not some same =
    ap (return_text known) same
    ∙ sym (ap (λ c. return_line (if c then Call else entry_or_program (bios_entry pc)) known b) not ∙ ap (λ o. return_line (entry_or_program o) known b) some)

pub returns-then-cpu : goal.returns-then-cpu
returns-then-cpu c =
    subst (λ line. OnOk c.put_return.result (c.put_return.new.out.items ≡ c.args.out.now.items ++ line))
    (at_call c.args.cpu.now.pc c.args.labels.now c.word-address.result (word_at c.args.cpu.now.sp c.args.memory.now) (subst (λ pc. (pc == bdos) ≡ true) (sym c.if-cpu.true) refl) c.word-address.ensures) c.put_return.ensures

pub returns-in-Some : goal.returns-in-Some
returns-in-Some c =
    subst (λ line. OnOk c.put_return-in-Some.result (c.put_return-in-Some.new.out.items ≡ c.args.out.now.items ++ line))
    (at_entry c.args.cpu.now.pc c.args.labels.now c.word-address.result (word_at c.args.cpu.now.sp c.args.memory.now) c.in-Some.field-0 (ne_eqb c.args.cpu.now.pc bdos c.if-cpu.false) (sym c.in-Some.ensures) c.word-address.ensures) c.put_return-in-Some.ensures
