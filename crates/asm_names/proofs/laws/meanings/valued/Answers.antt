use Rattle.std.proofs.Common.{refl}
use Rattle.asm_names.specs.Names.{names}
use Rattle.asm_names.proofs.Valued.{holds, numbered, valued}
use Rattle.asm_names.proofs.laws.meanings.valued.Goals as goal

pub returns-clause-constants : goal.returns-clause-constants
returns-clause-constants c lines turns layout sound order none =
    holds _ (names lines) lines layout turns (record { order = order; by = c.given.ensures.by lines; each = λ at l name e there is. c.given.ensures.each lines at l name e sound there is }) none
    (λ s bad. cc) (λ r bad. cc) (numbered c.number_of_numbers.ensures layout)

pub returns-clause-all : goal.returns-clause-all
returns-clause-all c lines turns layout sound order none sized =
    holds _ (names lines) lines layout turns (record { order = order; by = c.given.ensures.by lines; each = λ at l name e there is. c.given.ensures.each lines at l name e sound there is }) none
    (λ s. refl) (λ r. refl) (valued c.valued.ensures layout sized)
