-- A list that mostly has one element.
use Rattle.std.specs.Prelude.{List}
use Rattle.asm_parse.specs.declared.few.Few.{Few}

abbrev pub all : {T : Type 0} → Few T → List T
all (Few.One alone) = alone
all (Few.Many things) = things.items
