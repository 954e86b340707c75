-- Each source has an expansion.
use Rattle.std.proofs.Common.{◌≡◌, ◌<◌, ◌≤◌, ◌+◌, if◌then◌else◌, refl, ℕ, zero, suc, Bool, true, false, nat_le, List, [], ◌∷◌, ◌++◌, Option, Some, None, length, arith}
use Rattle.std.proofs.lemmas.Bool.{leb-false, leb-true}
use Rattle.common.specs.declared.limits.TheConstants.{LONGEST_TEXT}
use Rattle.asm_macro.specs.declared.expansion.TheConstants.{MOST_LINES}
use Rattle.asm_text.specs.Lines.{Numbered}
use Rattle.asm_text.specs.Sections.Blocks.{BlockBody}
use Rattle.asm_text.specs.Sections.Onward.{Next, Rest, BehindFirst, BehindSecond, Turns, Onward, On, renumbered, stray, stray_in, stray_or}
use Rattle.asm_macro.specs.declared.fault.MacroFault.{MacroFault}
use Rattle.asm_macro.specs.State.{State, with_line_counted, start, room}
use Rattle.asm_macro.specs.Texts.{numbered, source_lines}
use Rattle.asm_macro.specs.Leads.{IsOfLine, Leads, most, room_behind}
use Rattle.asm_macro.specs.Parts.{ExpansionPart, Stop, Last, Go, Within, line_part, onward_part, resumed}
use Rattle.asm_macro.specs.Expands.{End, Whole, Ended, Stopped, Expands, nothing, line, Comes, stop, last, go, within, Follows, whole, ended, stopped, IsExpansion, long, short}

-- These lines have an expansion: some lines, and a way to end. `Arrives` and `GoesOn` say the same of a part, and of what follows
-- some lines.
abbrev Total : ℕ → State → List Numbered → Type 0
Total d e text = (lines : List Numbered) × (end : End) × Expands d e text lines end

abbrev Arrives : ℕ → ExpansionPart → Type 0
Arrives d p = (lines : List Numbered) × (end : End) × Comes d p lines end

abbrev GoesOn : ℕ → End → Next → Type 0
GoesOn d middle next = (lines : List Numbered) × (end : End) × Follows d middle next lines end

-- All lines have an expansion, in each state with room for fewer than n lines.
abbrev Lead : ℕ → Type 0
Lead n = (d : ℕ) (e : State) (text : List Numbered) → room e < n → Total d e text

stops : (d number : ℕ) (given : List Numbered) (why : MacroFault) → Arrives d (Stop given number why)
stops d number given why = (given, Stopped number why, stop)

goes : (n : ℕ) → Lead n → (d : ℕ) (given : List Numbered) (e : State) (rest : List Numbered) → room e < n → Arrives d (Go given e rest)
goes n lead d given e rest h = let t = lead d e rest h in (given ++ t.0, t.1, go t.0 t.2)

-- if a line may be misplaced, expansion continues there or stops
unless_stray : (d : ℕ) (e : State) (s : Option ℕ) (o : Onward) → Arrives d (onward_part d e o) → Arrives d (onward_part d e (stray_or s o))
unless_stray d e None o a = a
unless_stray d e (Some number) o a = stops d number [] MacroFault.Stray

-- what follows some lines has an expansion, if it has one in each state with room for fewer than n lines
follows : (n d : ℕ) (next : Next) → ((e : State) → room e < n → Arrives d (resumed d next e)) → (middle : End) → room_behind middle < n → GoesOn d middle next
follows n d next again (Whole e) h = let a = again e h in (a.0, a.1, whole a.2)
follows n d next again Ended h = ([], Ended, ended)
follows n d next again (Stopped number why) h = ([], Stopped number why, stopped)

-- given what `asm_macro::laws::parts` says about lines and spans of lines
module _
    (parts : (depth : ℕ) (e : State) (l : Numbered) (rest : List Numbered) → Leads (IsOfLine depth e l rest) 1 (room e) (line_part depth e l rest))
    (texts : (depth : ℕ) (e : State) (text lines : List Numbered) (end : End) → Expands depth e text lines end → length lines + room_behind end ≤ room e)
  where
    goes_in : (n : ℕ) → Lead n → (d : ℕ) (given : List Numbered) (e : State) (inner : ℕ) (text : List Numbered) (next : Next)
        → ((e : State) → room e < n → Arrives d (resumed d next e)) → room e < n → Arrives d (Within given e inner text next)
    goes_in n lead d given e inner text next again h =
        let t = lead inner e text h in
        let f = follows n d next again t.1 (omega (arith, h, texts inner e text t.0 t.1 t.2)) in
        ((given ++ t.0) ++ f.0, f.1, within t.0 f.0 t.1 t.2 f.2)

    turns_arrive : (n : ℕ) → Lead n → (d some number : ℕ) (body : BlockBody) (e : State) → room e < n → Arrives d (resumed d (Turns some number body) e)
    turns_arrive n lead d zero number body e h = unless_stray d e (stray body.section.end) (On body.after) (goes n lead d [] e body.after h)
    turns_arrive n lead d (suc k) number body e h =
        elim (nat_le MOST_LINES e.count) as (λ b. Arrives d (if b then Stop [] number MacroFault.TooManyLines else Within [] (with_line_counted e) (d + 1) (renumbered number body.section.lines) (Turns k number body))) [
          | true ↦ stops d number [] MacroFault.TooManyLines
          | false ↦ goes_in n lead d [] (with_line_counted e) (d + 1) (renumbered number body.section.lines) (Turns k number body) (λ e2 h2. turns_arrive n lead d k number body e2 h2) (omega (arith, h))
        ]

    resumes : (n : ℕ) → Lead n → (d : ℕ) (next : Next) (e : State) → room e < n → Arrives d (resumed d next e)
    resumes n lead d (Rest text) e h = goes n lead d [] e text h
    resumes n lead d (BehindFirst b) e h = unless_stray d e (stray b.first.end) (stray_or (stray_in b.others) (On b.after)) (unless_stray d e (stray_in b.others) (On b.after) (goes n lead d [] e b.after h))
    resumes n lead d (BehindSecond t more after) e h = unless_stray d e (stray_in (t ∷ more)) (On after) (goes n lead d [] e after h)
    resumes n lead d (Turns k number body) e h = turns_arrive n lead d k number body e h

    arrives : (n : ℕ) → Lead n → (d : ℕ) (p : ExpansionPart) → most p ≤ n → Arrives d p
    arrives n lead d (Stop given number why) h = stops d number given why
    arrives n lead d (Last l) h = (l ∷ [], Ended, last)
    arrives n lead d (Go given e rest) h = goes n lead d given e rest (omega (arith, h))
    arrives n lead d (Within given e inner text next) h = goes_in n lead d given e inner text next (λ e2 h2. resumes n lead d next e2 h2) (omega (arith, h))

    totals : (n : ℕ) → Lead n
    totals zero d e text h = absurd (omega (arith, h))
    totals (suc n) d e [] h = ([], Whole e, nothing)
    totals (suc n) d e (l ∷ rest) h =
        let a = arrives n (totals n) d (line_part d e l rest) (omega (arith, h, (parts d e l rest).1)) in
        (a.0, a.1, line a.2)

    by_length : (text : List ℕ) (is_short : Bool) → nat_le (length text) LONGEST_TEXT ≡ is_short → (lines : List Numbered) × (end : End) × IsExpansion text lines end
    by_length text true is =
        let t = totals (suc (room start)) 0 start (numbered 1 (source_lines text)) (omega arith) in
        (t.0, t.1, short (leb-true (length text) LONGEST_TEXT is) t.2)
    by_length text false is = ([], Stopped 1 MacroFault.TooManyLines, long (leb-false (length text) LONGEST_TEXT is))

    pub some_expansion : (text : List ℕ) → (lines : List Numbered) × (end : End) × IsExpansion text lines end
    some_expansion text = by_length text (nat_le (length text) LONGEST_TEXT) refl
