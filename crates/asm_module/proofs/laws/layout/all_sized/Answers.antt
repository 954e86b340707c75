use Rattle.asm_module.proofs.Layouts.Sizing.{sizes_known}
use Rattle.asm_module.proofs.laws.layout.all_sized.Goals as goal

pub returns : goal.returns
returns c = λ grow names t u layout lines like there numbers. sizes_known c.number_of_numbers.ensures c.sizes.ensures.like grow names t u layout like there numbers lines
