use Rattle.asm_stmt.proofs.Likes.{like}
use Rattle.asm_stmt.proofs.Sizes.{nothing, piece}
use Rattle.asm_stmt.proofs.laws.sizes.Goals as goal

pub returns-clause-piece : goal.returns-clause-piece
returns-clause-piece c = piece c.kept.ensures.size

pub returns-clause-nothing : goal.returns-clause-nothing
returns-clause-nothing c = nothing

pub returns-clause-like : goal.returns-clause-like
returns-clause-like c = like (record { names = c.by_names.ensures.settled; anywhere = c.constant_anywhere.ensures.settled })
