-- What the lines of a source say of its statements.
use Rattle.std.proofs.Common.{◌≡◌, ◌∙◌, ◌+◌, ◌≤◌, ◌<◌, ℕ, zero, suc, Bool, true, false, cond, List, [], ◌∷◌, ◌++◌, Option, Some, None, Result, Ok, Err, drop, length, map, refl, ap, ap₂, sym, subst, arith}
use Rattle.std.specs.Prelude.{not}
use Rattle.std.specs.List.{AllByRecursion, cons_option, enumerate_from, filter_map, flat_map, list_all, slice_index_or}
use Rattle.std.specs.Option.{option_map}
use Rattle.common.specs.Results.{◌>>=◌}
use Rattle.z80_instr.specs.declared.Branch.{Branch}
use Rattle.z80_instr.specs.declared.Instr.{Instr}
use Rattle.z80_instr.specs.Table.{canonical}
use Rattle.z80_form.specs.Numbers.{with_numbers}
use Rattle.z80_form.specs.declared.field.Field.{Field}
use Rattle.asm_expr.specs.Names.{Table, found}
use Rattle.asm_macro.specs.Expands.{End, IsExpanded, IsExpansion}
use Rattle.asm_macro.specs.declared.fault.MacroFault.{MacroFault}
use Rattle.asm_names.specs.Faults.{first}
use Rattle.asm_names.specs.Layout.{Layout}
use Rattle.asm_names.specs.Lines.{Taken}
use Rattle.asm_names.specs.Names.{Names, names}
use Rattle.asm_parse.specs.declared.item.Item.{Item}
use Rattle.asm_parse.specs.Source.{Name}
use Rattle.asm_line.specs.Scanned.{scanned}
use Rattle.asm_line.specs.Tokens.{Lexeme}
use Rattle.asm_line.specs.declared.fault.ScanFault.{ScanFault}
use Rattle.asm_spell.specs.declared.fault.StmtFault.{StmtFault}
use Rattle.asm_spell.specs.Faults.{each}
use Rattle.asm_spell.specs.Line as line
use Rattle.asm_spell.specs.Line.{Body, ExpressionItems, Line, Value}
use Rattle.asm_spell.specs.Spelling.{spelled}
use Rattle.asm_stmt.specs.Made as made
use Rattle.asm_stmt.specs.Made.{Made, Nothing, Piece, Some_piece, Unknown, items_made, bytes_made, code, code_hole, coded, fillings, jump_by, cells_made, origin, ref_of, short_by, space_made, space_of_size, spaced_by, words_made}
use Rattle.asm_stmt.specs.Cells.{all_filled, bytes, holes, is_filled, number_or_0}
use Rattle.asm_stmt.specs.Fields.{settled_in}
use Rattle.asm_stmt.specs.declared.cell.Cell.{Cell}
use Rattle.asm_stmt.specs.declared.cell.Filling.{Filling}
use Rattle.asm_module.specs.declared.statements.fault.StateFault.{StateFault}
use Rattle.asm_module.specs.Module.Faults.{body_fault, made_fault}
use Rattle.asm_module.specs.Module.Stated.{first_statement_fault, numbered_statements, statement_fault, table_at_line}
use Rattle.asm_module.specs.Module.Statements.{line_statement, of_made, statement_by}
use Rattle.asm_module.specs.Outlines.{layout, source_table}
use Rattle.asm_module.specs.Program.Lines.{line_states, program_of_lines}
use Rattle.asm_module.specs.Program.Spelled.{IsSpelled}
use Rattle.asm_module.specs.Program.Statement as statement
use Rattle.asm_module.specs.Program.Statement.{Statement, jump_statement, short_statement, spaced, stated}
use Rattle.asm_text.specs.Lines.{Numbered}
use Rattle.asm_module.specs.Assembled.{Assembled, Assembles, TellsLines, answer, assembled}
use Rattle.asm_module.specs.Program.Described.{IsProgramOfSource}
use Rattle.asm_module.specs.declared.fault.AsmFault.{AsmFault}
use Rattle.asm_module.specs.declared.line_fault.LineFault.{LineFault}
use Rattle.asm_module.specs.Reads.Read.{read_line, scanned_by, spelled_by, taken, with_line}
use Rattle.asm_module.specs.Source.{first_equ_line_fault, first_pass, source_fault, state_fault}
use Rattle.zmo_object.specs.declared.module.hole.Hole.{Hole}
use Rattle.zmo_object.specs.Modules as object
use Rattle.zmo_object.specs.Modules.{ModuleStatement}
use Rattle.program_map.specs.declared.maps.kind.Kind.{Kind}
use Rattle.program_map.specs.Kinds.{statement_kind, kinds}
use Rattle.program_map.specs.Private.Telling.{AreTold, body_kind, is_space_statement, line_kind, line_kinds, told}

-- What a line makes in a module, what it describes in a program, and what it says of it. (Where a line describes a statement and makes none,
-- only the counts of statements are of use.)
abbrev Fits : Option ModuleStatement → Option Statement → Option Kind → Type 0
Fits None None None = Unit {0}
Fits None None (Some k) = ⊥
Fits None (Some s) k = Unit {0}
Fits (Some o) None k = ⊥
Fits (Some o) (Some s) (Some k) = (is_space_statement o ≡ false) × (statement_kind s ≡ k)
Fits (Some o) (Some s) None = (is_space_statement o ≡ true) × (statement_kind s ≡ Kind.Space)

abbrev is_other : Option ModuleStatement → Bool
is_other None = true
is_other (Some o) = not (is_space_statement o)

abbrev is_space_if : Option ModuleStatement → Bool
is_space_if None = true
is_space_if (Some o) = is_space_statement o

abbrev is_missing : Option ModuleStatement → Bool
is_missing None = true
is_missing (Some o) = false

fits_said : (g : Option ModuleStatement) (s : Statement) (k : Kind) → is_other g ≡ true → statement_kind s ≡ k → Fits g (Some s) (Some k)
fits_said None s k h e = tt
fits_said (Some o) s k h e = (opposite (is_space_statement o) h, e)
  where
    opposite : (b : Bool) → not b ≡ true → b ≡ false
    opposite true h = cc
    opposite false h = refl

-- what passes if there is no statement, and for each statement that may be made
passes : {X : Type 0} (P : Option ModuleStatement → Bool) → P None ≡ true → (grow : Bool) (r : Result X StmtFault) (k : X → Result Made StmtFault)
    → ((x : X) → P (of_made grow (k x)) ≡ true) → P (of_made grow (r >>= k)) ≡ true
passes P none grow (Ok x) k h = h x
passes P none grow (Err why) k h = none

bytes_other : (grow b : Bool) (bytes : List ℕ) (holes : List Hole) → is_other (of_made grow (Ok (cond b (Some_piece (made.Bytes bytes holes)) Unknown))) ≡ true
bytes_other grow true bytes holes = refl
bytes_other grow false bytes holes = refl

code_other : (grow : Bool) (t : Table) (instr : Instr) (numbers : List (Field × ExpressionItems)) → is_other (of_made grow (code t instr numbers)) ≡ true
code_other grow t instr numbers = passes is_other refl grow (fillings t numbers) (λ read. Ok (coded instr read))
    (λ read. bytes_other grow (list_all (λ n. is_filled n.1) read) (canonical (with_numbers (map (λ n. (n.0, number_or_0 n.1)) read) instr)) (flat_map (code_hole (length (canonical instr))) read))

laid_other : (grow : Bool) (read : Result (List (List Cell)) StmtFault) → is_other (of_made grow (items_made read)) ≡ true
laid_other grow read = passes is_other refl grow read (λ cells. Ok (cells_made (flat_map (λ some. some) cells)))
    (λ cells. let all : List Cell = flat_map (λ some. some) cells in bytes_other grow (all_filled all) (bytes all) (holes 0 all))

space_only : (grow : Bool) (t : Table) (size : ExpressionItems) (fill : Option ExpressionItems) → is_space_if (of_made grow (space_made t size fill)) ≡ true
space_only grow t size fill = passes is_space_if refl grow (made.space_size t size) _ (λ s. passes is_space_if refl grow (made.space_fill t fill) _ (λ f. sized (made.number_in s) f))
  where
    spaced_so : (n : ℕ) (f : Filling) → is_space_if (of_made grow (Ok (spaced_by n f))) ≡ true
    spaced_so zero f = refl
    spaced_so (suc n) (Filling.Number k) = refl
    spaced_so (suc n) f = refl

    sized : (n : Option ℕ) (f : Filling) → is_space_if (of_made grow (Ok (space_of_size n f))) ≡ true
    sized None f = refl
    sized (Some n) f = spaced_so n f

origin_none : (grow : Bool) (t : Table) (e : ExpressionItems) → is_missing (of_made grow (origin t e)) ≡ true
origin_none grow t e = passes is_missing refl grow (settled_in t e) _ (λ s. go _)
  where
    go : (b : Bool) → is_missing (of_made grow (cond b (Ok Nothing) (Err StmtFault.BadOrg))) ≡ true
    go true = refl
    go false = refl

-- The laws about pieces that are used here.
abbrev pub Pieces : Type 0
Pieces = (grow : Bool) (t : Table) (b : Body) (p : Piece) → IsSpelled b → made.made t b ≡ Ok (Some_piece p) → (s : Statement) × (stated grow t b ≡ Some s)

abbrev IsMade : Table → Body → Type 0
IsMade t b = (m : Made) × (made.made t b ≡ Ok m)

-- the word of a line was read from a text
abbrev pub IsWordOfText : Line → Type 0
IsWordOfText (line.Statement label (Some b)) = IsSpelled b
IsWordOfText other = Unit {0}

front_none : {A : Type 0} (x : Option A) (xs : List (Option A)) → first (x ∷ xs) ≡ None → (x ≡ None) × (first xs ≡ None)
front_none None xs h = (refl, h)
front_none (Some x) xs h = absurd cc

unmapped : {A B : Type 0} (f : A → B) (x : Option A) → option_map f x ≡ None → x ≡ None
unmapped f None h = refl
unmapped f (Some x) h = absurd cc

spelled_word : (tokens : List Lexeme) (r : Result Line StmtFault) (l : Line) → spelled tokens ≡ r → spelled_by r ≡ Ok l → spelled tokens ≡ Ok l
spelled_word tokens (Ok m) l e h = (let same : m ≡ l = cc in e ∙ ap Ok same)
spelled_word tokens (Err why) l e h = absurd cc

word_of : (tokens : List Lexeme) (l : Line) → spelled tokens ≡ Ok l → IsWordOfText l
word_of tokens (line.Equ name e) is = tt
word_of tokens (line.Statement label None) is = tt
word_of tokens (line.Statement label (Some b)) is = record { tokens = tokens; label = label; is = is }

scanned_word : (r : Result (List Lexeme) ScanFault) (l : Line) → scanned_by r ≡ Ok l → IsWordOfText l
scanned_word (Ok tokens) l h = word_of tokens l (spelled_word tokens (spelled tokens) l refl h)
scanned_word (Err why) l h = absurd cc

taken_words : (from : List Numbered) → AllByRecursion (λ l. IsWordOfText l.line) (taken from)
taken_words [] = tt
taken_words (l ∷ from) = go (read_line l.text) refl (taken_words from)
  where
    go : (r : Result Line LineFault) → read_line l.text ≡ r → AllByRecursion (λ l. IsWordOfText l.line) (taken from) → AllByRecursion (λ l. IsWordOfText l.line) (with_line l.number r (taken from))
    go (Ok line) e more = (scanned_word (scanned l.text) line e, more)
    go (Err why) e more = tt

module _ (pieces : Pieces) (grow : Bool) where
  jump_fits : (t : Table) (r : Option ℕ) (condition : _) (target : List ℕ) → Fits (of_made grow (jump_by r t condition target)) (Some (jump_statement r t condition target)) (Some Kind.Code)
  jump_fits t (Some r) condition target = (refl, refl)
  jump_fits t None condition target = fits_said _ _ _ (code_other grow t (made.long_jump condition 0) ((Field.Word, Item.Leaf (Name target) ∷ []) ∷ [])) refl

  short_fits : (r : Option ℕ) (branch : Branch) → ((m : Made) × (short_by r branch ≡ Ok m)) → Fits (of_made grow (short_by r branch)) (short_statement grow r branch) (Some Kind.Code)
  short_fits None branch h = (let e = h.1 in absurd cc)
  short_fits (Some r) branch h = go grow branch
    where
      go : (g : Bool) (b : Branch) → Fits (Some (statement_by g (made.Short b r))) (short_statement g (Some r) b) (Some Kind.Code)
      go true (Branch.Relative condition) = (refl, refl)
      go true Branch.CountDown = (refl, refl)
      go false (Branch.Relative condition) = (refl, refl)
      go false Branch.CountDown = (refl, refl)

  -- space that is described is space
  spaced_kind : (n fill : ℕ) (s : Statement) → spaced n fill ≡ Some s → statement_kind s ≡ Kind.Space
  spaced_kind zero fill s e = cc
  spaced_kind (suc n) fill s e = ap_some e
    where
      ap_some : Some (statement.Space (suc n) fill) ≡ Some s → statement_kind s ≡ Kind.Space
      ap_some e = ap (λ o. kind_or o) (sym e)
        where
          kind_or : Option Statement → Kind
          kind_or None = Kind.Space
          kind_or (Some s) = statement_kind s

  nothing_fits : (f : Option Statement) → Fits None f None
  nothing_fits None = tt
  nothing_fits (Some s) = tt

  -- a line without a word that makes a statement, or with DS
  space_fits : (t : Table) (size : ExpressionItems) (fill : Option ExpressionItems) → IsSpelled (line.Space size fill) → (m : Made) → made.made t (line.Space size fill) ≡ Ok m
      → Fits (of_made grow (made.made t (line.Space size fill))) (stated grow t (line.Space size fill)) None
  space_fits t size fill spelled made.Nothing is = rw is (nothing_fits _)
  space_fits t size fill spelled made.Unknown is = rw is (nothing_fits _)
  space_fits t size fill spelled (made.Some_piece p) is =
      let h = pieces grow t (line.Space size fill) p spelled is in
      let only = rw is at (space_only grow t size fill) in
      rw (is, h.1) (only, spaced_kind _ _ h.0 h.1)

  missing_fits : (g : Option ModuleStatement) → is_missing g ≡ true → Fits g None None
  missing_fits None h = tt
  missing_fits (Some o) h = cc

  body_fits : (t : Table) (b : Body) → IsSpelled b → IsMade t b → Fits (of_made grow (made.made t b)) (stated grow t b) (body_kind b)
  body_fits t (line.Code instr numbers) spelled is = fits_said _ _ _ (code_other grow t instr numbers) refl
  body_fits t (line.Jump condition target) spelled is = jump_fits t (ref_of (found t target)) condition target
  body_fits t (line.Short branch target) spelled is = short_fits (ref_of (found t target)) branch is
  body_fits t (line.Bytes values) spelled is = fits_said _ _ _ (laid_other grow (each (made.value_cells t) values)) refl
  body_fits t (line.Words fields) spelled is = fits_said _ _ _ (laid_other grow (each (made.word_cells t) fields)) refl
  body_fits t (line.Space size fill) spelled is = space_fits t size fill spelled is.0 is.1
  body_fits t (line.Public list) spelled is = tt
  body_fits t (line.External list) spelled is = tt
  body_fits t (line.Origin e) spelled is = missing_fits _ (origin_none grow t e)
  body_fits t (line.End entry) spelled is = tt
  body_fits t line.Z80 spelled is = tt

  second_none : {A : Type 0} (a b c : Option A) → first (a ∷ b ∷ c ∷ []) ≡ None → b ≡ None
  second_none None None c h = refl
  second_none None (Some b) c h = cc
  second_none (Some a) b c h = cc

  made_then : (r : Result Made StmtFault) → made_fault r ≡ None → (m : Made) × (r ≡ Ok m)
  made_then (Ok m) h = (m, refl)
  made_then (Err why) h = cc

  line_fits : (names : Names) (t : Table) (l : Line) → IsWordOfText l → statement_fault names t l ≡ None → Fits (line_statement grow t l) (line_states grow t l) (line_kind l)
  line_fits names t (line.Equ name e) word none = tt
  line_fits names t (line.Statement label None) word none = tt
  line_fits names t (line.Statement label (Some b)) word none = body_fits t b word (made_then _ (second_none _ _ _ none))

  line_more : (number : ℕ) (g : Option ModuleStatement) (f : Option Statement) (k : Option Kind) (ms : List (ℕ × ModuleStatement)) (p : List Statement) (said : List Kind) → Fits g f k
      → AreTold (map (λ n. n.1) ms) p said → AreTold (map (λ n. n.1) (cons_option (option_map (λ s. (number, s)) g) ms)) (cons_option f p) (cons_option k said)
  line_more number None None None ms p said fit rest = rest
  line_more number None None (Some k) ms p said fit rest = absurd fit
  line_more number None (Some s) k ms p said fit rest = record { few = (let h = rest.few in omega arith); same = λ e. absurd (let h = rest.few in omega arith) }
  line_more number (Some o) None k ms p said fit rest = absurd fit
  line_more number (Some o) (Some s) (Some k) ms p said fit rest = record {
    few = (let h = rest.few in omega arith);
    same = λ e. rw (fit.0, fit.1, rest.same (omega arith)) refl;
  }
  line_more number (Some o) (Some s) None ms p said fit rest = record {
    few = (let h = rest.few in omega arith);
    same = λ e. rw (fit.0, fit.1, rest.same (omega arith)) refl;
  }

  module _ (names : Names) (t : Table) (layout : Layout) where
    abbrev module_from : ℕ → List Taken → List (ℕ × ModuleStatement)
    module_from at lines = filter_map (λ l. option_map (λ s. (l.1.number, s)) (line_statement grow (table_at_line layout t l.0) l.1.line)) (enumerate_from at lines)

    abbrev program_from : ℕ → List Taken → List Statement
    program_from at lines = filter_map (λ l. line_states grow (table_at_line layout t l.0) l.1.line) (enumerate_from at lines)

    abbrev fault_from : ℕ → List Taken → Option (ℕ × StateFault)
    fault_from at lines = first (map (λ l. option_map (λ why. (l.1.number, why)) (statement_fault names (table_at_line layout t l.0) l.1.line)) (enumerate_from at lines))

    lines_fit : (at : ℕ) (lines : List Taken) → AllByRecursion (λ l. IsWordOfText l.line) lines → fault_from at lines ≡ None
        → AreTold (map (λ n. n.1) (module_from at lines)) (program_from at lines) (line_kinds lines)
    lines_fit at [] words none = record { few = omega arith; same = λ e. refl }
    lines_fit at (l ∷ lines) words none =
        let parts = front_none _ _ none in
        line_more l.number _ _ _ (module_from (at + 1) lines) (program_from (at + 1) lines) (line_kinds lines)
        (line_fits names (table_at_line layout t at) l.line words.0 (unmapped _ _ parts.0)) (lines_fit (at + 1) lines words.1 parts.1)

-- a source has one expansion, and describes one program
abbrev pub OneExpansion : Type 0
OneExpansion = (text : List ℕ) (lines more : List Numbered) (end other : End) → IsExpansion text lines end → IsExpansion text more other → (lines ≡ more) × (end ≡ other)

abbrev pub OneProgram : Type 0
OneProgram = (text : List ℕ) (grow : Bool) (a b : List Statement) → IsProgramOfSource text grow a → IsProgramOfSource text grow b → a ≡ b

module _ (pieces : Pieces) (one : OneExpansion) (same : OneProgram) where
  third_none : {A : Type 0} (a b c : Option A) → first (a ∷ b ∷ c ∷ []) ≡ None → (a ≡ None) × (c ≡ None)
  third_none None None None h = (refl, refl)
  third_none None None (Some c) h = absurd cc
  third_none None (Some b) c h = absurd cc
  third_none (Some a) b c h = absurd cc

  answered : (f : Option AsmFault) (whole a : Assembled) → answer f whole ≡ Ok a → (f ≡ None) × (whole ≡ a)
  answered None whole a h = (refl, cc)
  answered (Some fault) whole a h = absurd cc

  same_lines : (text : List ℕ) (lines from : List Numbered) → IsExpanded text (Ok lines) → IsExpanded text (Ok from) → lines ≡ from
  same_lines text lines from (end, done, is) (other, done_other, is_other) = (one text lines from end other is is_other).0

  from_lines : (name text : List ℕ) (grow : Bool) (a : Assembled) (p : List Statement) (count : ℕ) (from : List Numbered) (circle : ℕ → Bool) → IsExpanded text (Ok from) → TellsLines circle (Ok from)
      → assembled name grow count circle (Ok from) ≡ Ok a → IsProgramOfSource text grow p → AreTold a.holds.statements p (line_kinds (taken from))
  from_lines name text grow a p count from circle is tells e described =
      let whole = answered (source_fault grow from circle) _ a e in
      let parts = third_none (first_pass from) (first_equ_line_fault (taken from) circle (layout grow (taken from) circle)) (state_fault (taken from) circle (layout grow (taken from) circle)) whole.0 in
      let none : first_statement_fault (names (taken from)) (source_table (taken from) circle (layout grow (taken from) circle)) (layout grow (taken from) circle) (taken from) ≡ None = unmapped _ _ parts.1 in
      let own : List Statement = program_of_lines grow (source_table (taken from) circle (layout grow (taken from) circle)) (layout grow (taken from) circle) (taken from) in
      let is_own : IsProgramOfSource text grow own = (from, is, (circle, tells parts.0, refl)) in
      let told_own = lines_fit pieces grow (names (taken from)) (source_table (taken from) circle (layout grow (taken from) circle)) (layout grow (taken from) circle) 0 (taken from) (taken_words from) none in
      let statements = ap (λ (w : Assembled). w.holds.statements) whole.1 in
      let ms : List ModuleStatement = map (λ n. n.1) (numbered_statements grow (source_table (taken from) circle (layout grow (taken from) circle)) (layout grow (taken from) circle) (taken from)) in
      subst (λ ms. AreTold ms p (line_kinds (taken from))) statements (subst (λ q. AreTold ms q (line_kinds (taken from))) (same text grow own p is_own described) told_own)

  pub source_told : (name text : List ℕ) (grow : Bool) (a : Assembled) (p : List Statement) (lines : List Numbered) → Assembles name text grow (Ok a) → IsProgramOfSource text grow p → IsExpanded text (Ok lines)
      → AreTold a.holds.statements p (line_kinds (taken lines))
  source_told name text grow a p lines (Err (number, why), is, circle, tells, e) described expanded = absurd cc
  source_told name text grow a p lines (Ok from, is, circle, tells, e) described expanded =
      rw (same_lines text lines from expanded is) (from_lines name text grow a p _ from circle is tells e described)

  pub source_few : (name text : List ℕ) (grow : Bool) (a : Assembled) (p : List Statement) → Assembles name text grow (Ok a) → IsProgramOfSource text grow p → length a.holds.statements ≤ length p
  source_few name text grow a p (Err (number, why), is, circle, tells, e) described = absurd cc
  source_few name text grow a p (Ok from, is, circle, tells, e) described = (from_lines name text grow a p _ from circle is tells e described).few
