-- The type of the errors of a check, in one place for definitions of this crate.
pub use Rattle.cert_check.specs.declared.fault.CheckFault.{CheckFault}
