-- Definitions of `asm_parse`, passed on to the crates above.
pub use Rattle.asm_parse.specs.declared.values.atom.Atom.{Atom}
pub use Rattle.asm_parse.specs.Values.Arithmetic.{modulus, unary, binary}
pub use Rattle.asm_parse.specs.Values.Items.{IsExpr, refs, value}
pub use Rattle.asm_parse.specs.Values.Postfix.{only, run, source_tree, tree}
