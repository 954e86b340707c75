-- The types of items and of statements, in one module for this crate.
pub use Rattle.asm_parse.specs.declared.operator.Unary.{Unary}
pub use Rattle.asm_parse.specs.declared.operator.Binary.{Binary}
pub use Rattle.asm_parse.specs.declared.item.Item.{Item}
pub use Rattle.asm_parse.specs.declared.values.atom.Atom.{Atom}
pub use Rattle.asm_parse.specs.declared.values.statement.Statement.{Statement}
pub use Rattle.asm_parse.specs.declared.values.worth.Worth.{Worth}
