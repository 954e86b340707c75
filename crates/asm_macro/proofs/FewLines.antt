-- An expansion gives no more lines than it may read: each line or repetition that is read gives one line at most.
use Rattle.std.proofs.Common.{◌≤◌, ◌+◌, ◌-◌, ℕ, zero, suc, List, [], ◌∷◌, ◌++◌, length, length-append, arith}
use Rattle.asm_macro.specs.declared.expansion.TheConstants.{MOST_LINES}
use Rattle.asm_text.specs.Lines.{Numbered}
use Rattle.asm_text.specs.Sections.Onward.{Next}
use Rattle.asm_macro.specs.State.{State, room}
use Rattle.asm_macro.specs.Parts.{ExpansionPart, Stop, Last, Go, Within, line_part, resumed}
use Rattle.asm_macro.specs.Expands.{End, Whole, Ended, Stopped, Expands, nothing, line, Comes, stop, last, go, within, Follows, whole, ended, stopped, IsExpansion, long, short}
use Rattle.asm_macro.specs.Leads.{given, most, room_behind}
use Rattle.asm_macro.proofs.Leads.{onward_leads, part_leads}

-- if nothing more may be read, no line comes
none_comes : (d : ℕ) (p : ExpansionPart) (lines : List Numbered) (end : End) → most p ≤ 0 → Comes d p lines end → length lines + room_behind end ≤ 0
none_comes d (Stop [] number why) _ _ h stop = omega arith
none_comes d (Stop (l ∷ more) number why) lines end h a = absurd (omega (arith, h))
none_comes d (Last l) lines end h a = absurd (omega (arith, h))
none_comes d (Go front e rest) lines end h a = absurd (omega (arith, h))
none_comes d (Within front e inner text next) lines end h a = absurd (omega (arith, h))

some_or_none : (room n : ℕ) → (room ≤ 0 → n ≤ 0) → n ≤ 1 + (room - 1) → n ≤ room
some_or_none zero n none some = none (omega arith)
some_or_none (suc room) n none some = omega (arith, some)

mutual
  pub few_expands : (d : ℕ) (e : State) (text lines : List Numbered) (end : End) → Expands d e text lines end → length lines + room_behind end ≤ room e
  few_expands d e [] _ _ nothing = omega arith
  few_expands d e (l ∷ rest) lines end (line a) =
      let p = part_leads d e l rest in
      some_or_none (room e) (length lines + room_behind end)
      (λ h. none_comes d (line_part d e l rest) lines end (omega (arith, h, p.1)) a)
      (few_comes d 1 (room e - 1) (line_part d e l rest) lines end p.0 (omega (arith, p.1)) a)

  few_comes : (d k n : ℕ) (p : ExpansionPart) (lines : List Numbered) (end : End) → length (given p) ≤ k → most p ≤ suc n → Comes d p lines end → length lines + room_behind end ≤ k + n
  few_comes d k n (Stop front number why) _ _ few h stop = omega (arith, few)
  few_comes d k n (Last l) _ _ few h last = omega (arith, few)
  few_comes d k n (Go front e rest) _ end few h (go lines a) = omega (arith, few, h, few_expands d e rest lines end a, length-append front lines)
  few_comes d k n (Within front e inner text next) _ end few h (within lines more middle a f) =
      omega (arith, few, h, few_expands inner e text lines middle a, few_follows d middle next more end f, length-append front lines, length-append (front ++ lines) more)

  few_follows : (d : ℕ) (middle : End) (next : Next) (lines : List Numbered) (end : End) → Follows d middle next lines end → length lines + room_behind end ≤ room_behind middle
  few_follows d (Whole e) next lines end (whole a) =
      let p = onward_leads d next e in
      omega (arith, few_comes d 0 (room e) (resumed d next e) lines end p.0 p.1 a)
  few_follows d Ended next _ _ ended = omega arith
  few_follows d (Stopped n why) next _ _ stopped = omega arith

pub few_lines : (text : List ℕ) (lines : List Numbered) (end : End) → IsExpansion text lines end → length lines ≤ MOST_LINES
few_lines text _ _ (long h) = omega arith
few_lines text lines end (short h a) = omega (arith, few_expands _ _ _ lines end a)
