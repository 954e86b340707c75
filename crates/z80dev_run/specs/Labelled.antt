-- The label of an address, as a debugger finds it.
pub use Rattle.state_text.specs.Labelled.{Known, is_in_program, nearest_label, nearest_text, offset_text}
