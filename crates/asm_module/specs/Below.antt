-- Words from the crates below, passed on to the crates above.
pub use Rattle.asm_module.specs.Program.Lines.{AreAt, IsLinkedAs}
pub use Rattle.asm_module.specs.Layouts.Sizes.{size_in_module, sizes}
pub use Rattle.asm_module.specs.Module.Stated.{numbered_statements}
pub use Rattle.asm_module.specs.Outlines.{layout, source_table}
