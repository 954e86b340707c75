-- What is kept of an error of the front, to find those that repeat it.
use Rattle.std.specs.Prelude.{string_bytes}
use Rattle.report_texts.specs.Repeats.{FrontError}
use Rattle.report_texts.specs.declared.repeats.Kept.{Kept}

abbrev pub error_of : Kept → FrontError
error_of kept = record { line = kept.line; name = string_bytes kept.name; text = string_bytes kept.text }
