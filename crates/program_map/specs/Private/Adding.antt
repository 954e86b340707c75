-- Figures with one more statement.
use Rattle.std.specs.Prelude.{◌+◌, ◌==◌, ◌&&◌, List, Option, Some, None, if◌then◌else◌}
use Rattle.std.specs.Borrow.{Bor}
use Rattle.program_map.specs.declared.maps.figures.Figures.{Figures}
use Rattle.program_map.specs.declared.maps.kind.Kind.{Kind}
use Rattle.program_map.specs.Figures.{CountedStatement, is_code_kind, is_data_kind, is_space_kind}

abbrev pub added : Figures → CountedStatement → Figures
added f s = record {
  code = f.code + (if is_code_kind s.kind then s.bytes else 0);
  «data» = f.data + (if is_data_kind s.kind then s.bytes else 0);
  space = f.space + (if is_space_kind s.kind then s.bytes else 0);
  jumps = f.jumps + (if s.relaxable then 1 else 0);
  short = f.short + (if s.relaxable && (s.bytes == 2) then 1 else 0);
  long = f.long + (if s.relaxable && (s.bytes == 3) then 1 else 0);
}

-- the sums of two modules
abbrev pub joined_figures : Figures → Figures → Figures
joined_figures a b = record {
  code = a.code + b.code;
  «data» = a.«data» + b.«data»;
  space = a.space + b.space;
  jumps = a.jumps + b.jumps;
  short = a.short + b.short;
  long = a.long + b.long;
}

-- the list that a reference leads to
abbrev pub seen_kinds : Option (Bor (List Kind)) → Option (List Kind)
seen_kinds None = None
seen_kinds (Some kinds) = Some kinds.now
