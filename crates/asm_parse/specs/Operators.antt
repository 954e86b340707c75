-- Which operators divide.
-- In words: docs/LANGUAGE.md, section 'Expressions'.
use Rattle.std.specs.Prelude.{Bool, true, false}
use Rattle.asm_parse.specs.declared.operator.Binary.{Binary}

abbrev pub divides : Binary → Bool
divides Binary.Divide = true
divides Binary.Modulo = true
divides _ = false
