-- Sources after a front, and their program with the numbers that lines have in their own source.
use Rattle.std.specs.Prelude.{◌≡◌, ℕ, List, ◌++◌, map}
use Rattle.asm_module.specs.declared.assembling.Lines.{Lines}
use Rattle.zlink.specs.declared.building.Built.{Built}
use Rattle.zlink.specs.declared.origins.Origin.{Origin}
use Rattle.zlink.specs.declared.source.Source.{Source}
use Rattle.report_texts.specs.Front.{earlier, front_lines, front_text}
use Rattle.report_texts.specs.declared.front.SourceFile.{SourceFile}
use Rattle.report_texts.specs.declared.front.Front.{Front}

-- the source is the file's text, and its name is the file's path
abbrev pub IsSource : SourceFile → Source → Type 0
IsSource file source = (source.name.now ≡ file.path.now) × (source.text.now ≡ file.text.now)

-- the source is the file's text after the text of the front, and its name is the file's path
abbrev pub IsBehind : Front → SourceFile → Source → Type 0
IsBehind front file source = (source.name.now ≡ file.path.now) × (source.text.now ≡ front_text front ++ file.text.now)

-- the origin of a statement without this many lines before it
abbrev pub earlier_origin : ℕ → Origin → Origin
earlier_origin lines from = record from { line = earlier lines from.line }

-- the lines of a module's statements and its last line, without this many lines before them
abbrev pub earlier_lines : ℕ → Lines → List ℕ × ℕ
earlier_lines lines l = (map (earlier lines) l.each.items, earlier lines l.last)

-- The same program, but its lines have their own numbers.
pub record HasOwnLines (front : Front) (b own : Built) : Type 0 where
  pub file : own.com ≡ b.com
  pub sizes : own.sizes ≡ b.sizes
  pub cert : own.cert ≡ b.cert
  pub symbols : own.symbols ≡ b.symbols
  pub grown : own.grown ≡ b.grown
  pub modules : own.modules ≡ b.modules
  pub lines : map (λ l. (l.each.items, l.last)) own.lines.items ≡ map (earlier_lines (front_lines front)) b.lines.items
  pub statements : own.statements.items ≡ map (earlier_origin (front_lines front)) b.statements.items
  pub last : own.last.items ≡ map (earlier (front_lines front)) b.last.items
