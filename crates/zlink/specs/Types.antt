-- The error type of the crate that assembles a source, for crates that use this one.
pub use Rattle.asm_module.specs.declared.fault.AsmFault.{AsmFault}
pub use Rattle.asm_module.specs.declared.fault.Why.{Why}
