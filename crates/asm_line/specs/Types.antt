-- The public types, in one module for this crate and those above it.
pub use Rattle.asm_line.specs.declared.fault.ScanFault.{ScanFault}
pub use Rattle.asm_line.specs.declared.token.Kind.{Kind}
pub use Rattle.asm_line.specs.declared.token.Mark.{Mark}
pub use Rattle.asm_line.specs.declared.token.Token.{Token}
