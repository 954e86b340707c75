-- The statements that lines make keep the rules of an object file.
use Rattle.std.proofs.Common.{◌≡◌, ◌≤◌, ◌<◌, ℕ, Bool, true, false, List, Option, Some, None, Result, Ok, Err, All, length, count_by, map, inl, inr, ◌⊎◌, refl, ap}
use Rattle.std.specs.Option.{IfSome, option_map}
use Rattle.std.proofs.lemmas.List.Elements.{All-map}
use Rattle.z80_instr.specs.declared.Branch.{Branch}
use Rattle.asm_expr.specs.declared.meaning.Meaning.{Meaning}
use Rattle.asm_expr.specs.Names.{AreCounted, Table, found}
use Rattle.asm_expr.specs.Origins.{AllBring, Brings}
use Rattle.asm_spell.specs.declared.fault.StmtFault.{StmtFault}
use Rattle.asm_spell.specs.Few.{IsFew}
use Rattle.asm_spell.specs.Line as line
use Rattle.asm_spell.specs.Line.{Body, Line}
use Rattle.asm_names.specs.Lines.{Taken, has_statement, is_statement}
use Rattle.asm_names.specs.Layout.{Layout, next_at}
use Rattle.asm_stmt.specs.Made as made
use Rattle.asm_stmt.specs.Made.{Made, Nothing, Piece, Some_piece, Unknown, made}
use Rattle.asm_stmt.specs.Sized.{TakesFew}
use Rattle.asm_stmt.proofs.Making.{origin_nothing}
use Rattle.asm_module.specs.Rules.Piece.{KeepsPieceRules}
use Rattle.asm_module.specs.Program.Spelled.{IsSpelled}
use Rattle.asm_module.specs.Module.Stated.{table_at_line, numbered_statements}
use Rattle.asm_module.specs.Module.Statements.{line_statement, of_made, statement_by}
use Rattle.zmo_object.specs.Modules.{ModuleStatement}
use Rattle.zmo_object.specs.Rules.{IsModuleStatement}
use Rattle.asm_module.specs.Rules.Fitting.{FitsWord, IsReadLine}
use Rattle.asm_module.proofs.Rules.Listed.{all_made, few_made}

-- How many statements there are.

-- If a line makes no piece, it has no statement.
none_stated : (grow : Bool) (r : Result Made StmtFault) → ((m : Made) → r ≡ Ok m → Nothing ≡ m) → of_made grow r ≡ None
none_stated grow (Ok (Some_piece p)) nothing = let bad = nothing (Some_piece p) refl in absurd cc
none_stated grow (Ok Nothing) nothing = refl
none_stated grow (Ok Unknown) nothing = refl
none_stated grow (Err why) nothing = refl

word_counts : (grow : Bool) (t : Table) (body : Body) → (of_made grow (made t body) ≡ None) ⊎ (is_statement body ≡ true)
word_counts grow t (line.Code instr numbers) = inr refl
word_counts grow t (line.Jump condition target) = inr refl
word_counts grow t (line.Short branch target) = inr refl
word_counts grow t (line.Bytes values) = inr refl
word_counts grow t (line.Words fields) = inr refl
word_counts grow t (line.Space size fill) = inr refl
word_counts grow t (line.Public list) = inl refl
word_counts grow t (line.External list) = inl refl
word_counts grow t (line.Origin e) = inl (none_stated grow (made t (line.Origin e)) (origin_nothing t e))
word_counts grow t (line.End entry) = inl refl
word_counts grow t line.Z80 = inl refl

line_counts : (grow : Bool) (t : Table) (l : Line) → (line_statement grow t l ≡ None) ⊎ (has_statement l ≡ true)
line_counts grow t (line.Equ name e) = inl refl
line_counts grow t (line.Statement label None) = inl refl
line_counts grow t (line.Statement label (Some body)) = word_counts grow t body

-- a statement with the number of its line
abbrev with_number : ℕ → Option ModuleStatement → Option (ℕ × ModuleStatement)
with_number number o = option_map (λ s. (number, s)) o

numbered_counts : (number : ℕ) (o : Option ModuleStatement) (has : Bool) → (o ≡ None) ⊎ (has ≡ true) → (with_number number o ≡ None) ⊎ (has ≡ true)
numbered_counts number o has (inl none) = inl (ap (with_number number) none)
numbered_counts number o has (inr is) = inr is

pub few_numbered : (grow : Bool) (t : Table) (layout : Layout) (lines : List Taken) → length (numbered_statements grow t layout lines) ≤ count_by (λ l. has_statement l.line) lines
few_numbered grow t layout lines =
    few_made (λ l. with_number l.1.number (line_statement grow (table_at_line layout t l.0) l.1.line)) (λ l. has_statement l.line)
    (λ at l. numbered_counts l.number (line_statement grow (table_at_line layout t at) l.line) (has_statement l.line) (line_counts grow (table_at_line layout t at) l.line)) 0 lines

-- Which rules the statements keep.

-- A piece that keeps the rules, has few enough bytes and fits the code's types is a statement that an object file may hold.
piece_keeps : (grow : Bool) (refs : ℕ) (p : Piece) → KeepsPieceRules refs p → TakesFew p → FitsWord (statement_by grow p) → IsModuleStatement grow refs (statement_by grow p)
piece_keeps grow refs (made.Bytes bytes holes) keeps few fits = (few, keeps.0, keeps.1)
piece_keeps grow refs (made.Jump condition target) keeps few fits = (λ marked. absurd cc, keeps)
piece_keeps true refs (made.Short (Branch.Relative condition) target) keeps few fits = (λ marked. refl, keeps)
piece_keeps false refs (made.Short (Branch.Relative condition) target) keeps few fits = (refl, keeps)
piece_keeps true refs (made.Short Branch.CountDown target) keeps few fits = (tt, keeps)
piece_keeps false refs (made.Short Branch.CountDown target) keeps few fits = (tt, keeps)
piece_keeps grow refs (made.Space size fill) keeps few fits = (keeps, fits)

-- The laws about the piece of a line that are used here.
pub record Laws : Type 0 where
  pub keeps : (t : Table) (b : Body) (p : Piece) (refs : ℕ) → AreCounted t → AllBring (λ r. r < refs) t → IsSpelled b → made t b ≡ Ok (Some_piece p) → KeepsPieceRules refs p
  pub few : (t : Table) (b : Body) (p : Piece) → IsFew b → made t b ≡ Ok (Some_piece p) → TakesFew p

module _ (laws : Laws) (grow : Bool) (refs : ℕ) where
  -- A statement whose size fits a word is one that an object file may hold.
  abbrev Keeps : ModuleStatement → Type 0
  Keeps s = FitsWord s → IsModuleStatement grow refs s

  body_keeps : (t : Table) (b : Body) → AreCounted t → AllBring (λ r. r < refs) t → IsSpelled b → IsFew b → (r : Result Made StmtFault) → made t b ≡ r → IfSome (of_made grow r) Keeps
  body_keeps t b counted brings spelled few (Ok (Some_piece p)) is = piece_keeps grow refs p (laws.keeps t b p refs counted brings spelled is) (laws.few t b p few is)
  body_keeps t b counted brings spelled few (Ok Nothing) is = tt
  body_keeps t b counted brings spelled few (Ok Unknown) is = tt
  body_keeps t b counted brings spelled few (Err why) is = tt

  line_keeps : (t : Table) (l : Line) → AreCounted t → AllBring (λ r. r < refs) t → IsReadLine l → IfSome (line_statement grow t l) Keeps
  line_keeps t (line.Equ name e) counted brings read = tt
  line_keeps t (line.Statement label None) counted brings read = tt
  line_keeps t (line.Statement label (Some body)) counted brings read = body_keeps t body counted brings read.0 read.1 (made t body) refl

  numbered_keeps : (number : ℕ) (o : Option ModuleStatement) → IfSome o Keeps → IfSome (with_number number o) (λ n. Keeps n.1)
  numbered_keeps number None keeps = tt
  numbered_keeps number (Some s) keeps = keeps

  pub statements_kept : (t : Table) (layout : Layout) (lines : List Taken) → AreCounted t → ((at : ℕ) → next_at layout at < refs)
      → ((name : List ℕ) (what : Meaning) → found t name ≡ Some what → Brings (λ r. r < refs) what) → All (λ l. IsReadLine l.line) lines
      → All FitsWord (map (λ n. n.1) (numbered_statements grow t layout lines)) → All (IsModuleStatement grow refs) (map (λ n. n.1) (numbered_statements grow t layout lines))
  statements_kept t layout lines counted places names read fits =
      let all = all_made (λ l. with_number l.1.number (line_statement grow (table_at_line layout t l.0) l.1.line)) (λ l. IsReadLine l.line) (λ n. Keeps n.1)
      (λ at l is. numbered_keeps l.number (line_statement grow (table_at_line layout t at) l.line) (line_keeps (table_at_line layout t at) l.line counted (record { here = places at; names = names }) is)) 0 lines read in
      λ k d lt. All-map Keeps (λ n. n.1) (numbered_statements grow t layout lines) all k d lt (fits k d lt)
