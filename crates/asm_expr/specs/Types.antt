-- The public types, in one module for this crate and those above it.
pub use Rattle.asm_parse.specs.declared.fault.ExprFault.{ExprFault}
pub use Rattle.asm_parse.specs.declared.operator.Unary.{Unary}
pub use Rattle.asm_parse.specs.declared.operator.Binary.{Binary}
pub use Rattle.asm_parse.specs.declared.item.Item.{Item}
pub use Rattle.asm_parse.specs.declared.item.Term.{Term}
pub use Rattle.asm_parse.specs.declared.values.atom.Atom.{Atom}
pub use Rattle.asm_parse.specs.declared.values.worth.Worth.{Worth}
pub use Rattle.asm_parse.specs.declared.values.statement.Statement.{Statement}
pub use Rattle.asm_expr.specs.declared.unknown.Unknown.{Unknown}
pub use Rattle.asm_expr.specs.declared.answer.Settled.{Settled}
pub use Rattle.asm_expr.specs.declared.meaning.Meaning.{Meaning}
