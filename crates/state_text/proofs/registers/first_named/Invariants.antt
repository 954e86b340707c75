use Rattle.std.proofs.Common.{◌≡◌, drop}
use Rattle.std.specs.Prelude.{find}
use Rattle.std.specs.Str.{str_eq_ignore_ascii_case}
use Rattle.state_text.specs.RegisterNames.{register_name}
use Rattle.state_text.proofs.registers.first_named.Given as goal

abbrev pub invariant-loop-register : goal.invariant-loop-register
invariant-loop-register l =
    find (λ it. str_eq_ignore_ascii_case (register_name it) l.word) l.registers
    ≡ find (λ it. str_eq_ignore_ascii_case (register_name it) l.word) (drop l.register-index l.registers)
