use Rattle.z80_cpu.proofs.memory.Memory.new.Goals as goal

pub returns : goal.returns
returns c = c.in_ok-vec.ensures.items_if_clones_equal (λ y e. e)
