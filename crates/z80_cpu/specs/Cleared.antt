-- Registers that are all 0.
use Rattle.std.specs.Prelude.{false}
use Rattle.z80_cpu.specs.Types.{Registers, Cpu, InterruptMode}
use Rattle.z80_cpu.specs.Alu.Flags.{flags_of}

abbrev pub cleared_set : Registers
cleared_set = record { a = 0; flags = flags_of 0; b = 0; c = 0; d = 0; e = 0; h = 0; l = 0 }

abbrev pub cleared : Cpu
cleared = record {
  main = cleared_set;
  shadow = cleared_set;
  ix = 0;
  iy = 0;
  sp = 0;
  pc = 0;
  i = 0;
  r = 0;
  iff1 = false;
  iff2 = false;
  mode = InterruptMode.Zero;
}
