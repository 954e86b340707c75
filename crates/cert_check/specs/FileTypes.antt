-- The types of the two files, in one place for definitions of this crate.
pub use Rattle.cert_check.specs.declared.shape.Statement.{Statement}
pub use Rattle.cert_check.specs.declared.cert.Verdict.{Verdict}
pub use Rattle.cert_check.specs.declared.cert.Cert.{Cert}
pub use Rattle.cert_check.specs.declared.text_fault.TextFault.{TextFault}
