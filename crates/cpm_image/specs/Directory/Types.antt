-- The public types, collected for this crate and those above it.
pub use Rattle.cpm_image.specs.declared.directory.attribute.Attribute.{Attribute}
pub use Rattle.cpm_image.specs.declared.directory.broken.Broken.{Broken}
pub use Rattle.cpm_image.specs.declared.directory.count.Space.{Space}
pub use Rattle.cpm_image.specs.declared.directory.count.Usage.{Usage}
pub use Rattle.cpm_image.specs.declared.directory.entry.Entry.{Entry}
pub use Rattle.cpm_image.specs.declared.directory.fault.DiskFault.{DiskFault}
pub use Rattle.cpm_image.specs.declared.directory.pattern.Pattern.{Pattern}
pub use Rattle.cpm_image.specs.declared.directory.listing.Listed.{Listed}
