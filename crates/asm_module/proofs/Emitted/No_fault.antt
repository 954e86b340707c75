-- The statements of lines without an error, given the outline of the lines.
use Rattle.std.proofs.Common.{◌≡◌, ◌≤◌, ◌<◌, ◌+◌, ◌∙◌, sym, ap, subst, ℕ, Bool, true, false, List, Some, None, Result, Ok, Err, All, count_by, length, map, arith}
use Rattle.std.specs.List.{list_any}
use Rattle.std.specs.Map.{lookup}
use Rattle.std.specs.Str.{bytes_eq}
use Rattle.std.proofs.lemmas.List.{length-map}
use Rattle.asm_expr.specs.declared.meaning.Meaning.{Meaning}
use Rattle.asm_expr.specs.Distances.{is_unsized}
use Rattle.asm_expr.specs.Names.{AreCounted, Table, found}
use Rattle.asm_expr.specs.Origins.{Brings, is_number_name, is_valued_name}
use Rattle.asm_expr.specs.Settling.{is_constant_name}
use Rattle.asm_names.specs.declared.walk.Turn.{Turn}
use Rattle.asm_names.specs.Orders.Order.{IsOrder}
use Rattle.asm_names.specs.Circles.{lines_named}
use Rattle.asm_names.specs.Faults as naming
use Rattle.asm_names.specs.Layout.{Layout, layout_of, next_at}
use Rattle.asm_names.specs.Lines.{Taken, has_statement}
use Rattle.asm_names.specs.Meanings as equ
use Rattle.asm_names.specs.Meanings.{name_meanings, externals, table_at}
use Rattle.asm_names.specs.Names.{Names, kind_of_name, names}
use Rattle.asm_names.specs.Settles.{is_marked_circular}
use Rattle.asm_stmt.specs.Sized.{IsLike, kind}
use Rattle.zmo_object.specs.Rules.{IsModuleStatement}
use Rattle.asm_module.specs.declared.statements.fault.StateFault.{StateFault}
use Rattle.asm_module.specs.declared.statements.outlining.Outline.{Outline}
use Rattle.asm_module.specs.declared.statements.stating.Stated.{Stated}
use Rattle.asm_module.specs.Layouts.Laid.{statements}
use Rattle.asm_module.specs.Layouts.Sizes.{sizes}
use Rattle.asm_module.specs.Module.Stated as stated
use Rattle.asm_module.specs.Module.Stated.{AreStated, numbered_statements}
use Rattle.asm_module.specs.Outlines.{IsOutline, circle_of, no_layout, outline_table, source_table}
use Rattle.asm_module.specs.Private.Sound.{AreSound, made_by}
use Rattle.asm_module.specs.Program.Lines.{AreAt, program_of_lines}
use Rattle.asm_module.specs.Program.Spelled.{IsLineOfText}
use Rattle.asm_module.specs.Rules.Fitting.{FitsWord, IsReadLine}
use Rattle.asm_module.specs.Rules.Object.{AreObjectStatements}
use Rattle.asm_module.proofs.Layouts.Within.{within}
use Rattle.asm_module.proofs.Modules.Found.{settled_found}
use Rattle.asm_module.proofs.Rules.Statements.{few_numbered}

-- The laws of `asm_names` that are used here.
pub record OfNames : Type 0 where
  pub constants : (lines : List Taken) (turns : List Turn) (layout : Layout) → naming.first_name_fault lines ≡ None → IsOrder (length lines) (lines_named (names lines) lines) turns
      → equ.first_equ_fault (names lines) lines (is_marked_circular turns) layout ≡ None → (name : List ℕ) (what : Meaning) → lookup (bytes_eq name) (name_meanings (names lines) lines (is_marked_circular turns) layout) ≡ Some what
      → is_constant_name (Some what) ≡ true → is_number_name (Some what) ≡ true
  pub values : (lines : List Taken) (turns : List Turn) (layout : Layout) → naming.first_name_fault lines ≡ None → IsOrder (length lines) (lines_named (names lines) lines) turns
      → equ.first_equ_fault (names lines) lines (is_marked_circular turns) layout ≡ None → list_any is_unsized layout.statements ≡ false
      → (name : List ℕ) (what : Meaning) → lookup (bytes_eq name) (name_meanings (names lines) lines (is_marked_circular turns) layout) ≡ Some what → is_valued_name (Some what) ≡ true
  pub refs : (names : Names) (lines : List Taken) (circle : ℕ → Bool) (layout : Layout) (count : ℕ) → ((at : ℕ) → next_at layout at < count)
      → (length layout.statements + 1) + length (externals names) ≤ count
      → (name : List ℕ) (what : Meaning) → lookup (bytes_eq name) (name_meanings names lines circle layout) ≡ Some what → Brings (λ r. r < count) what
  pub few_statements : (lines : List Taken) → naming.first_name_fault lines ≡ None → count_by (λ l. has_statement l.line) lines ≤ 20000

-- The laws of this crate that are used here.
pub record OfStatements : Type 0 where
  pub like : (names : Names) (lines : List Taken) (circle : ℕ → Bool) (layout other : Layout) (at there : ℕ)
      → IsLike (table_at layout (name_meanings names lines circle layout) at) (table_at other (name_meanings names lines circle other) there)
  pub sized : (grow : Bool) (names : Names) (t u : Table) (layout : Layout) (lines : List Taken) → IsLike t u → ((name : List ℕ) → found t name ≡ None → kind_of_name names name ≡ None)
      → ((name : List ℕ) (what : Meaning) → found t name ≡ Some what → is_constant_name (Some what) ≡ true → is_number_name (Some what) ≡ true)
      → stated.first_statement_fault names t layout lines ≡ None → list_any is_unsized (statements grow u lines) ≡ false
  pub laid_so : (grow : Bool) (names : Names) (t u : Table) (layout : Layout) (lines : List Taken) → IsLike t u → ((name : List ℕ) → found t name ≡ None → kind_of_name names name ≡ None)
      → ((name : List ℕ) (what : Meaning) → found t name ≡ Some what → is_valued_name (Some what) ≡ true) → list_any is_unsized t.statements ≡ false
      → stated.first_statement_fault names t layout lines ≡ None → statements grow u lines ≡ sizes (map (λ n. n.1) (numbered_statements grow t layout lines))
  pub kept : (grow : Bool) (t : Table) (layout : Layout) (lines : List Taken) (refs : ℕ) → AreCounted t → ((at : ℕ) → next_at layout at < refs)
      → ((name : List ℕ) (what : Meaning) → found t name ≡ Some what → Brings (λ r. r < refs) what) → All (λ l. IsReadLine l.line) lines
      → All FitsWord (map (λ n. n.1) (numbered_statements grow t layout lines)) → All (IsModuleStatement grow refs) (map (λ n. n.1) (numbered_statements grow t layout lines))
  pub placed : (grow : Bool) (names : Names) (t : Table) (layout : Layout) (lines : List Taken) → ((name : List ℕ) → found t name ≡ None → kind_of_name names name ≡ None)
      → ((name : List ℕ) (what : Meaning) → found t name ≡ Some what → is_valued_name (Some what) ≡ true) → list_any is_unsized t.statements ≡ false → All (λ l. IsReadLine l.line) lines
      → stated.first_statement_fault names t layout lines ≡ None → t.statements ≡ sizes (map (λ n. n.1) (numbered_statements grow t layout lines))
      → AreAt (map (λ n. n.1) (numbered_statements grow t layout lines)) (program_of_lines grow t layout lines)
  pub read : (lines : List Taken) → All (λ l. IsLineOfText l.line) lines → All (λ l. IsReadLine l.line) lines

-- Lines have the same errors and statements by two tables that give each name the same meaning.
pub record OfMeanings : Type 0 where
  pub fault : (t u : Table) → ((name : List ℕ) → found t name ≡ found u name) → t.statements ≡ u.statements
      → (names : Names) (layout : Layout) (lines : List Taken) → stated.first_statement_fault names t layout lines ≡ stated.first_statement_fault names u layout lines
  pub statements : (t u : Table) → ((name : List ℕ) → found t name ≡ found u name) → t.statements ≡ u.statements
      → (grow : Bool) (layout : Layout) (lines : List Taken) → numbered_statements grow t layout lines ≡ numbered_statements grow u layout lines

module _ (same : OfMeanings) (grow : Bool) (lines : List Taken) (o : Outline) (outlined : IsOutline grow lines o) where
  numbered_is : numbered_statements grow o.settled.names (layout_of o.layout) lines ≡ numbered_statements grow (outline_table lines o) (layout_of o.layout) lines
  numbered_is = same.statements o.settled.names (outline_table lines o) outlined.settles.found outlined.settles.statements grow (layout_of o.layout) lines

  fault_is : (given : Names) → stated.first_statement_fault given o.settled.names (layout_of o.layout) lines ≡ stated.first_statement_fault given (outline_table lines o) (layout_of o.layout) lines
  fault_is given = same.fault o.settled.names (outline_table lines o) outlined.settles.found outlined.settles.statements given (layout_of o.layout) lines

  -- The answer depends only on what the lines say that names stand for.
  pub answer_is : (given : Names) (r : Result Stated (ℕ × StateFault)) → AreStated grow given o.settled.names (layout_of o.layout) lines r → AreStated grow given (outline_table lines o) (layout_of o.layout) lines r
  answer_is given (Ok s) is = (sym (fault_is given) ∙ is.0, is.1 ∙ ap (map (λ n. n.1)) numbered_is, is.2 ∙ ap (map (λ n. n.0)) numbered_is)
  answer_is given (Err (number, StateFault.NoMemory)) is = tt
  answer_is given (Err (number, StateFault.Undefined)) is = sym (fault_is given) ∙ is
  answer_is given (Err (number, StateFault.Stmt why)) is = sym (fault_is given) ∙ is
  answer_is given (Err (number, StateFault.PublicNotLabel)) is = sym (fault_is given) ∙ is

module _ (of_names : OfNames) (of_statements : OfStatements) (grow : Bool) (lines : List Taken) (o : Outline) (sound : AreSound grow lines o) where
  before : Table
  before = source_table lines (circle_of o) no_layout

  abbrev here : Layout
  here = layout_of o.layout

  no_equ : equ.first_equ_fault (names lines) lines (circle_of o) here ≡ None
  no_equ = sym sound.outlined.settles.fault ∙ sound.equs_sound

  all_found : (name : List ℕ) → found o.settled.names name ≡ None → kind_of_name (names lines) name ≡ None
  all_found = settled_found (names lines) lines (circle_of o) here o.settled sound.outlined.settles

  like : IsLike o.settled.names (source_table lines (circle_of o) no_layout)
  like name = ap kind (sound.outlined.settles.found name) ∙ of_statements.like (names lines) lines (circle_of o) here no_layout 0 0 name

  constants : (name : List ℕ) (what : Meaning) → found o.settled.names name ≡ Some what → is_constant_name (Some what) ≡ true → is_number_name (Some what) ≡ true
  constants name what is = of_names.constants lines o.turns.items here sound.names_sound sound.outlined.orders no_equ name what (sym (sound.outlined.settles.found name) ∙ is)

  statements_are : o.layout.statements.items ≡ statements grow (source_table lines (circle_of o) no_layout) lines
  statements_are = ap (λ l. l.statements) sound.outlined.lays

  all_sized : list_any is_unsized o.layout.statements.items ≡ false
  all_sized = ap (list_any is_unsized) statements_are ∙ of_statements.sized grow (names lines) o.settled.names (source_table lines (circle_of o) no_layout) here lines like all_found constants sound.others_sound

  values : (name : List ℕ) (what : Meaning) → lookup (bytes_eq name) (name_meanings (names lines) lines (circle_of o) here) ≡ Some what → is_valued_name (Some what) ≡ true
  values = of_names.values lines o.turns.items here sound.names_sound sound.outlined.orders no_equ all_sized

  -- the statements have the sizes that were laid out
  pub laid_as_made : o.layout.statements.items ≡ sizes (made_by grow lines o)
  laid_as_made = statements_are ∙ of_statements.laid_so grow (names lines) o.settled.names (source_table lines (circle_of o) no_layout) here lines like all_found
      (λ name what is. values name what (sym (sound.outlined.settles.found name) ∙ is)) (ap (list_any is_unsized) sound.outlined.settles.statements ∙ all_sized) sound.others_sound

  same_count : length o.layout.statements.items ≡ length (made_by grow lines o)
  same_count = ap length laid_as_made ∙ length-map (made_by grow lines o) _

  next_within : (at : ℕ) → next_at here at ≤ length (made_by grow lines o)
  next_within at =
      let le = within grow (source_table lines (circle_of o) no_layout) lines at in
      let there = ap (λ l. next_at l at) sound.outlined.lays in
      let count = ap length statements_are in
      let same = same_count in
      omega (arith, le, there, count, same)

  abbrev refs : ℕ
  refs = (length (made_by grow lines o) + 1) + length (externals (names lines))

  brings : (name : List ℕ) (what : Meaning) → found o.settled.names name ≡ Some what → Brings (λ r. r < refs) what
  brings name what is =
      of_names.refs (names lines) lines (circle_of o) here refs (λ at. let le = next_within at in omega (arith, le)) (let same = same_count in omega (arith, same)) name what (sym (sound.outlined.settles.found name) ∙ is)

  pub rules_kept : AreCounted o.settled.names → All FitsWord (made_by grow lines o) → AreObjectStatements grow (length (externals (names lines))) (made_by grow lines o)
  rules_kept counted fit = record {
    few =
        (let le = few_numbered grow o.settled.names here lines in
        let most = of_names.few_statements lines sound.names_sound in
        let same = length-map (numbered_statements grow o.settled.names here lines) (λ n. n.1) in
        omega (arith, le, most, same));
    each = of_statements.kept grow o.settled.names here lines refs counted (λ at. let le = next_within at in omega (arith, le)) brings (of_statements.read lines sound.parsed) fit;
  }

  -- The statements are those of the program that the lines describe.
  pub at_places : OfMeanings → AreAt (made_by grow lines o) (program_of_lines grow (outline_table lines o) here lines)
  at_places same =
      let numbered = numbered_is same grow lines o sound.outlined in
      subst (λ ns. AreAt (map (λ n. n.1) ns) (program_of_lines grow (outline_table lines o) here lines)) (sym numbered)
      (of_statements.placed grow (names lines) (outline_table lines o) here lines
      (λ name none. all_found name (sound.outlined.settles.found name ∙ none))
      values
      all_sized (of_statements.read lines sound.parsed)
      (sym (fault_is same grow lines o sound.outlined (names lines)) ∙ sound.others_sound)
      (laid_as_made ∙ ap (λ ns. sizes (map (λ n. n.1) ns)) numbered))
