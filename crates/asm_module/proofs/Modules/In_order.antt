-- Some lines were read: the result for them, followed by that for the rest, is the result for all lines.
use Rattle.std.proofs.Common.{◌≡◌, ◌≤◌, ◌<◌, ℕ, ◌+◌, Bool, List, [], ◌∷◌, ◌++◌, Option, Some, None, Ok, Err, map, length, drop, get_or, refl, sym, ap, subst, ◌∙◌, append_assoc, append-nil}
use Rattle.std.specs.List.{cons_option, enumerate_from, filter_map}
use Rattle.std.specs.Option.{option_map, option_to_list}
use Rattle.std.proofs.lemmas.List.{drop_all, drop_more, map-append}
use Rattle.asm_expr.specs.Names.{Table}
use Rattle.asm_names.specs.declared.kind.SourceLine.{SourceLine}
use Rattle.asm_names.specs.Faults.{first}
use Rattle.asm_names.specs.Lines.{Taken, lines_of, taken_of}
use Rattle.asm_names.specs.Names.{Names}
use Rattle.asm_names.specs.Layout.{Layout, next_at}
use Rattle.zmo_object.specs.Modules.{ModuleStatement, statement_of}
use Rattle.asm_module.specs.declared.statements.fault.StateFault.{StateFault}
use Rattle.asm_module.specs.declared.statements.stating.Stated.{Stated}
use Rattle.asm_module.specs.Module.Stated.{AreStated, table_at_line, first_statement_fault, statement_fault, numbered_statements}
use Rattle.asm_module.specs.Module.Statements.{line_statement}
use Rattle.asm_module.specs.Private.Statements.{Takes, stated}

-- the first error and the statements of the lines from number `at` on
abbrev pub fault_from : Names → Table → Layout → ℕ → List Taken → Option (ℕ × StateFault)
fault_from names t layout at lines = first (map (λ l. option_map (λ why. (l.1.number, why)) (statement_fault names (table_at_line layout t l.0) l.1.line)) (enumerate_from at lines))

abbrev pub numbered_from : Bool → Table → Layout → ℕ → List Taken → List (ℕ × ModuleStatement)
numbered_from grow t layout at lines = filter_map (λ l. option_map (λ s. (l.1.number, s)) (line_statement grow (table_at_line layout t l.0) l.1.line)) (enumerate_from at lines)

-- The lines up to `at` were read, and `now` is the table of names at that line.
pub record Goes (grow : Bool) (names : Names) (t : Table) (layout : Layout) (lines : List SourceLine) (at : ℕ) (now : Table) (s : Stated) : Type 0 where
  pub table : now ≡ record t { here = now.here }
  pub fault : fault_from names t layout at (lines_of (drop at lines)) ≡ first_statement_fault names t layout (lines_of lines)
  pub statements : map statement_of s.statements.items ++ map (λ n. n.1) (numbered_from grow t layout at (lines_of (drop at lines))) ≡ map (λ n. n.1) (numbered_statements grow t layout (lines_of lines))
  pub numbers : s.lines.items ++ map (λ n. n.0) (numbered_from grow t layout at (lines_of (drop at lines))) ≡ map (λ n. n.0) (numbered_statements grow t layout (lines_of lines))

-- the table of names with `$` at another statement
abbrev moved : Table → ℕ → Table
moved t n = record t { here = n }

module _ (grow : Bool) (names : Names) (t : Table) (layout : Layout) (lines : List SourceLine) (at : ℕ) (l : SourceLine) (lt : at < length lines) (is : l ≡ get_or lines at l) where
  rest : lines_of (drop at lines) ≡ taken_of l ∷ lines_of (drop (at + 1) lines)
  rest = ap lines_of (drop_more lines at l lt) ∙ ap (λ m. taken_of m ∷ lines_of (drop (at + 1) lines)) (sym is)

  first_by : (f : Option StateFault) → statement_fault names (table_at_line layout t at) (taken_of l).line ≡ f
      → fault_from names t layout at (lines_of (drop at lines)) ≡ first (option_map (λ why. (l.number, why)) f ∷ map (λ m. option_map (λ why. (m.1.number, why)) (statement_fault names (table_at_line layout t m.0) m.1.line)) (enumerate_from (at + 1) (lines_of (drop (at + 1) lines))))
  first_by f so = ap (fault_from names t layout at) rest
      ∙ ap (λ g. first (option_map (λ why. (l.number, why)) g ∷ map (λ m. option_map (λ why. (m.1.number, why)) (statement_fault names (table_at_line layout t m.0) m.1.line)) (enumerate_from (at + 1) (lines_of (drop (at + 1) lines))))) so

  -- the table of names at this line
  here_is : (now next : Table) (s : Stated) → Goes grow names t layout lines at now s → next ≡ record now { here = next_at layout at } → next ≡ table_at_line layout t at
  here_is now next s was here = here ∙ ap (λ (u : Table). moved u (next_at layout at)) was.table

  wrong : (now next : Table) (s : Stated) (why : StateFault) → Goes grow names t layout lines at now s → next ≡ record now { here = next_at layout at } → statement_fault names next (taken_of l).line ≡ Some why
      → first_statement_fault names t layout (lines_of lines) ≡ Some (l.number, why)
  wrong now next s why was here fault =
      sym was.fault ∙ first_by (Some why) (subst (λ u. statement_fault names u (taken_of l).line ≡ Some why) (here_is now next s was here) fault)

  pub goes_wrong : (now next : Table) (old new : Stated) (why : StateFault) → Goes grow names t layout lines at now old → next ≡ record now { here = next_at layout at } → Takes grow names next (taken_of l) old (Err why) new
      → AreStated grow names t layout (lines_of lines) (Err (l.number, why))
  goes_wrong now next old new StateFault.NoMemory was here took = tt
  goes_wrong now next old new StateFault.Undefined was here took = wrong now next old StateFault.Undefined was here took
  goes_wrong now next old new (StateFault.Stmt why) was here took = wrong now next old (StateFault.Stmt why) was here took
  goes_wrong now next old new StateFault.PublicNotLabel was here took = wrong now next old StateFault.PublicNotLabel was here took

  cons_is : (o : Option (ℕ × ModuleStatement)) (more : List (ℕ × ModuleStatement)) → cons_option o more ≡ option_to_list o ++ more
  cons_is None more = refl
  cons_is (Some n) more = refl

  one_more : numbered_from grow t layout at (lines_of (drop at lines)) ≡ stated grow (table_at_line layout t at) (taken_of l) ++ numbered_from grow t layout (at + 1) (lines_of (drop (at + 1) lines))
  one_more = ap (numbered_from grow t layout at) rest
      ∙ cons_is (option_map (λ s. (l.number, s)) (line_statement grow (table_at_line layout t at) (taken_of l).line)) (numbered_from grow t layout (at + 1) (lines_of (drop (at + 1) lines)))

  -- one more line is read: its statement moves from those of the rest to those so far
  shifted : {A : Type 0} (part : ℕ × ModuleStatement → A) (before after whole : List A)
      → before ++ map part (numbered_from grow t layout at (lines_of (drop at lines))) ≡ whole → after ≡ before ++ map part (stated grow (table_at_line layout t at) (taken_of l))
      → after ++ map part (numbered_from grow t layout (at + 1) (lines_of (drop (at + 1) lines))) ≡ whole
  shifted part before after whole was done =
      ap (λ xs. xs ++ map part (numbered_from grow t layout (at + 1) (lines_of (drop (at + 1) lines)))) done
      ∙ append_assoc before (map part (stated grow (table_at_line layout t at) (taken_of l))) (map part (numbered_from grow t layout (at + 1) (lines_of (drop (at + 1) lines))))
      ∙ ap (λ xs. before ++ xs) (sym (map-append part (stated grow (table_at_line layout t at) (taken_of l)) (numbered_from grow t layout (at + 1) (lines_of (drop (at + 1) lines)))) ∙ ap (map part) (sym one_more))
      ∙ was

  pub goes_on : (now next : Table) (old new : Stated) → Goes grow names t layout lines at now old → next ≡ record now { here = next_at layout at } → Takes grow names next (taken_of l) old (Ok tt) new
      → Goes grow names t layout lines (at + 1) next new
  goes_on now next old new was here took =
      let is_here : next ≡ table_at_line layout t at = here_is now next old was here in
      let done : Takes grow names (table_at_line layout t at) (taken_of l) old (Ok tt) new = subst (λ u. Takes grow names u (taken_of l) old (Ok tt) new) is_here took in
      record {
        table = is_here ∙ ap (moved t) (ap (λ (u : Table). u.here) (sym is_here));
        fault = sym (first_by None done.0) ∙ was.fault;
        statements = shifted (λ n. n.1) (map statement_of old.statements.items) (map statement_of new.statements.items) _ was.statements done.1;
        numbers = shifted (λ n. n.0) old.lines.items new.lines.items _ was.numbers done.2;
      }

pub none_stated : (grow : Bool) (names : Names) (t : Table) (layout : Layout) (lines : List SourceLine) (s : Stated) → s.statements.items ≡ [] → s.lines.items ≡ [] → Goes grow names t layout lines 0 t s
none_stated grow names t layout lines s statements lines_is = record {
  table = refl;
  fault = refl;
  statements = ap (λ xs. map statement_of xs ++ map (λ n. n.1) (numbered_statements grow t layout (lines_of lines))) statements;
  numbers = ap (λ xs. xs ++ map (λ n. n.0) (numbered_statements grow t layout (lines_of lines))) lines_is;
}

pub all_stated : (grow : Bool) (names : Names) (t : Table) (layout : Layout) (lines : List SourceLine) (at : ℕ) (now : Table) (s : Stated) → length lines ≤ at → Goes grow names t layout lines at now s
    → AreStated grow names t layout (lines_of lines) (Ok s)
all_stated grow names t layout lines at now s le was =
    let none : drop at lines ≡ [] = drop_all at lines le in (
      sym was.fault ∙ ap (λ ls. fault_from names t layout at (lines_of ls)) none,
      sym (append-nil (map statement_of s.statements.items)) ∙ ap (λ ls. map statement_of s.statements.items ++ map (λ n. n.1) (numbered_from grow t layout at (lines_of ls))) (sym none) ∙ was.statements,
      sym (append-nil s.lines.items) ∙ ap (λ ls. s.lines.items ++ map (λ n. n.0) (numbered_from grow t layout at (lines_of ls))) (sym none) ∙ was.numbers,
    )
