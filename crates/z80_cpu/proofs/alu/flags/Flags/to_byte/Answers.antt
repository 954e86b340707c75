use Rattle.z80_cpu.proofs.Masks.{from_bool_le}
use Rattle.z80_cpu.proofs.FlagByte.{packed}
use Rattle.z80_cpu.proofs.alu.flags.Flags.to_byte.Goals as goal

pub returns : goal.returns
returns c = packed _ _ _ _ _ _ _ _ (from_bool_le _) (from_bool_le _) (from_bool_le _) (from_bool_le _) (from_bool_le _) (from_bool_le _) (from_bool_le _) (from_bool_le _)
