use Rattle.std.proofs.Common.{◌≡◌, ◌∙◌, ◌+◌, ◌-◌, ◌++◌, suc, ap, append-nil, append_assoc, arith, sym}
use Rattle.z80_cpu.specs.State.{up_by}
use Rattle.debugger.specs.Instructions.{code_text, decoded_at, instruction_line, instruction_size}
use Rattle.debugger.proofs.text.put_instructions.Goals as goal

pub loop-preserved : goal.loop-preserved
loop-preserved c =
    let before = c.loop.invariant in
    let test = c.loop-test.true in
    let known = c.args.labels.now in
    let m = c.args.snapshot.now.machine in
    let address = c.loop.address in
    let line = instruction_line known m address in
    let left = c.args.count - (c.loop.counter + 1) in
    let one : c.args.count - c.loop.counter ≡ suc left = omega (arith, test) in
    let size = c.instruction_size-address.ensures ∙ ap (λ bytes. instruction_size (decoded_at bytes address)) c.memory.ensures in
    let rest = code_text known m (up_by (instruction_size (decoded_at m.memory address)) address) left in (
      omega (arith, test),
      ap (λ n. c.put_instruction_line.new.text.items ++ code_text known m (up_by n address) left) size
          ∙ ap (λ t. t ++ rest) c.in_ok-put_instruction_line.ensures
          ∙ append_assoc c.loop.text.items line rest
          ∙ sym (ap (λ n. c.loop.text.items ++ code_text known m address n) one)
          ∙ before.1,
    )

pub returns : goal.returns
returns c =
    let test = c.loop-test.false in
    let count = c.loop.invariant.0 in
    let known = c.args.labels.now in
    let m = c.args.snapshot.now.machine in
    let end : c.args.count - c.loop.counter ≡ 0 = omega (arith, test, count) in
    sym (append-nil c.loop.text.items) ∙ sym (ap (λ n. c.loop.text.items ++ code_text known m c.loop.address n) end) ∙ c.loop.invariant.1
