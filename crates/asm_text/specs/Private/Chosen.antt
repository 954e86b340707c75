-- The book that has the lines of a span: that of the source, or that of the call.
use Rattle.std.specs.Prelude.{◌≡◌, ◌-◌, Bool, true, false, List}
use Rattle.asm_text.specs.declared.matching.Role.{Role}
use Rattle.asm_text.specs.Nesting.Blocks.{between}
use Rattle.asm_text.specs.declared.book.Book.{Book}
use Rattle.asm_text.specs.declared.span.Span.{Span}

abbrev pub opened : Bool → Book → Book → Book
opened true source book = source
opened false source book = book

-- The book has these roles for the lines of the span.
abbrev pub Has : List Role → Span → Book → Type 0
Has roles s b = between (s.at - b.at) (s.end - b.at) b.links ≡ roles
