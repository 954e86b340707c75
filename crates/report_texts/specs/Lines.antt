-- How many lines a file has.
use Rattle.std.specs.Prelude.{ℕ, length}
use Rattle.asm_macro.specs.Texts.{source_lines}
use Rattle.report_texts.specs.declared.front.SourceFile.{SourceFile}

abbrev pub line_count : SourceFile → ℕ
line_count file = length (source_lines file.text.now)
