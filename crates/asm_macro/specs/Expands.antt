-- The expansion of lines: which lines they become once macros are called, REPTs are repeated and branches of IFs are chosen.
-- In words: docs/LANGUAGE.md, section 'Macros'.
use Rattle.std.specs.Prelude.{◌<◌, ◌≤◌, ℕ, List, [], ◌∷◌, ◌++◌, Result, Ok, Err, length}
use Rattle.common.specs.declared.limits.TheConstants.{LONGEST_TEXT}
use Rattle.asm_macro.specs.declared.fault.MacroFault.{MacroFault}
use Rattle.asm_text.specs.Lines.{Numbered}
use Rattle.asm_macro.specs.Texts.{numbered, source_lines}
use Rattle.asm_macro.specs.State.{State, start}
use Rattle.asm_text.specs.Sections.Onward.{Next}
use Rattle.asm_macro.specs.Parts.{ExpansionPart, Stop, Last, Go, Within, line_part, resumed}

-- How an expansion ends: all lines were expanded, and it leaves a state; END was read; or it stops at a line with an error.
pub data End : Type 0 where
  Whole : State → End
  Ended : End
  Stopped : ℕ → MacroFault → End

mutual
  -- Lines, at a depth of calls and repetitions and from a state, expand to these lines, and the expansion ends so.
  pub data Expands : ℕ → State → List Numbered → List Numbered → End → Type 0 where
    nothing : {depth : ℕ} {e : State} → Expands depth e [] [] (Whole e)
    line : {depth : ℕ} {e : State} {l : Numbered} {rest lines : List Numbered} {end : End} → Comes depth (line_part depth e l rest) lines end → Expands depth e (l ∷ rest) lines end

  -- A part and all that follows it expand to these lines, and the expansion ends so.
  pub data Comes : ℕ → ExpansionPart → List Numbered → End → Type 0 where
    stop : {depth number : ℕ} {given : List Numbered} {why : MacroFault} → Comes depth (Stop given number why) given (Stopped number why)
    last : {depth : ℕ} {l : Numbered} → Comes depth (Last l) (l ∷ []) Ended
    go : {depth : ℕ} {given rest : List Numbered} {e : State} {end : End} (lines : List Numbered) → Expands depth e rest lines end → Comes depth (Go given e rest) (given ++ lines) end
    within : {depth inner : ℕ} {given text : List Numbered} {e : State} {next : Next} {end : End} (lines more : List Numbered) (middle : End)
        → Expands inner e text lines middle → Follows depth middle next more end → Comes depth (Within given e inner text next) ((given ++ lines) ++ more) end

  -- After lines that ended so, expansion continues and gives these lines. It gives none if the lines ended with END or an error.
  pub data Follows : ℕ → End → Next → List Numbered → End → Type 0 where
    whole : {depth : ℕ} {e : State} {next : Next} {lines : List Numbered} {end : End} → Comes depth (resumed depth next e) lines end → Follows depth (Whole e) next lines end
    ended : {depth : ℕ} {next : Next} → Follows depth Ended next [] Ended
    stopped : {depth number : ℕ} {why : MacroFault} {next : Next} → Follows depth (Stopped number why) next [] (Stopped number why)

-- The expansion does not stop with an error.
abbrev pub IsDone : End → Type 0
IsDone (Whole e) = Unit {0}
IsDone Ended = Unit {0}
IsDone (Stopped number why) = ⊥

-- A source expands to these lines, with their numbers, and the expansion ends so. A source above 16,777,216 bytes is not read.
pub data IsExpansion (text : List ℕ) : List Numbered → End → Type 0 where
  long : LONGEST_TEXT < length text → IsExpansion text [] (Stopped 1 MacroFault.TooManyLines)
  short : {lines : List Numbered} {end : End} → length text ≤ LONGEST_TEXT → Expands 0 start (numbered 1 (source_lines text)) lines end → IsExpansion text lines end

-- What `expand` answers for a source: its lines, or the line at which expansion stops and the error. If memory ran out, nothing is claimed.
abbrev pub IsExpanded : List ℕ → Result (List Numbered) (ℕ × MacroFault) → Type 0
IsExpanded text (Ok lines) = (end : End) × IsDone end × IsExpansion text lines end
IsExpanded text (Err (number, MacroFault.NoMemory)) = Unit {0}
IsExpanded text (Err (number, why)) = (lines : List Numbered) × IsExpansion text lines (Stopped number why)
