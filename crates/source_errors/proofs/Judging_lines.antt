-- Judging lines, one after the other.
use Rattle.std.proofs.Common.{◌≡◌, ◌∙◌, ◌<◌, ◌≤◌, ◌+◌, ◌++◌, ap, arith, sym, refl, ℕ, zero, suc, Bool, true, List, [], ◌∷◌, Option, Some, append_assoc, append-nil, cond, drop, get_or, length, slice_get}
use Rattle.std.specs.List.{enumerate_from, flat_map}
use Rattle.std.specs.Option.{option_map}
use Rattle.std.proofs.lemmas.List.{drop_all, drop_more}
use Rattle.asm_expr.specs.Names.{Table}
use Rattle.asm_names.specs.declared.equ_fault.EquFault.{EquFault}
use Rattle.asm_names.specs.declared.kind.SourceLine.{SourceLine}
use Rattle.asm_names.specs.Faults.{first}
use Rattle.asm_names.specs.Layout.{layout_of}
use Rattle.asm_names.specs.Lines.{Taken, lines_of, taken_of}
use Rattle.asm_names.specs.Meanings.{equ_line_fault, name_meanings}
use Rattle.asm_names.specs.Names.{Names, names}
use Rattle.asm_module.specs.declared.statements.outlining.Outline.{Outline}
use Rattle.asm_module.specs.Module.Stated.{statement_fault, table_at_line}
use Rattle.asm_module.specs.Outlines.{IsOutline, circle_of}
use Rattle.asm_module.specs.Whys.{equ_why, state_why}
use Rattle.source_errors.specs.Counted.{Counted, takens}
use Rattle.source_errors.specs.Findings.{Finding}
use Rattle.source_errors.specs.Judged.{late, late_in, late_why}
use Rattle.source_errors.specs.declared.counting.Origin.{Origin}
use Rattle.source_errors.specs.Private.State.{counted_of}
use Rattle.source_errors.proofs.Taking.{takens_of}

abbrev pub counted_line : Origin → SourceLine → Counted
counted_line o l = record { from = record { number = l.number; text = o.text.items }; is_read = o.is_read; taken = taken_of l }

pub counted_length : (os : List Origin) (ls : List SourceLine) → length os ≡ length ls → length (counted_of os ls) ≡ length ls
counted_length [] [] same = refl
counted_length [] (l ∷ ls) same = absurd (omega (arith, same))
counted_length (o ∷ os) [] same = absurd (omega (arith, same))
counted_length (o ∷ os) (l ∷ ls) same = ap suc (counted_length os ls (omega (arith, same)))

pub counted_at : (os : List Origin) (ls : List SourceLine) (i : ℕ) (o : Origin) (l : SourceLine) (d : Counted) → length os ≡ length ls → i < length ls → o ≡ get_or os i o → l ≡ get_or ls i l
    → counted_line o l ≡ get_or (counted_of os ls) i d
counted_at [] [] i o l d same lt at_o at_l = absurd (omega (arith, lt))
counted_at [] (m ∷ ls) i o l d same lt at_o at_l = absurd (omega (arith, same))
counted_at (p ∷ os) [] i o l d same lt at_o at_l = absurd (omega (arith, same))
counted_at (p ∷ os) (m ∷ ls) zero o l d same lt at_o at_l = ap (λ q. counted_line q l) at_o ∙ ap (λ q. counted_line p q) at_l
counted_at (p ∷ os) (m ∷ ls) (suc i) o l d same lt at_o at_l = counted_at os ls i o l d (omega (arith, same)) (omega (arith, lt)) at_o at_l

pub line_at : (ls : List SourceLine) (i : ℕ) (l : SourceLine) → i < length ls → l ≡ get_or ls i l → slice_get (lines_of ls) i ≡ Some (taken_of l)
line_at [] i l lt is = absurd (omega (arith, lt))
line_at (m ∷ ls) zero l lt is = ap (λ q. Some (taken_of q)) (sym is)
line_at (m ∷ ls) (suc i) l lt is = line_at ls i l (omega (arith, lt)) is

-- One line more: its errors are no longer to come, but there.
pub line_more : (ls : List Taken) (o : Outline) (all : List Counted) (at : ℕ) (x : Counted) (found new whole : List Finding) → at < length all → x ≡ get_or all at x → new ≡ found ++ late ls o (at, x)
    → found ++ flat_map (late ls o) (enumerate_from at (drop at all)) ≡ whole → new ++ flat_map (late ls o) (enumerate_from (at + 1) (drop (at + 1) all)) ≡ whole
line_more ls o all at x found new whole lt is now was =
    ap (λ ys. ys ++ flat_map (late ls o) (enumerate_from (at + 1) (drop (at + 1) all))) now
    ∙ append_assoc found (late ls o (at, x)) (flat_map (late ls o) (enumerate_from (at + 1) (drop (at + 1) all)))
    ∙ ap (λ y. found ++ flat_map (late ls o) (enumerate_from at (y ∷ drop (at + 1) all))) is
    ∙ ap (λ ys. found ++ flat_map (late ls o) (enumerate_from at ys)) (sym (drop_more all at x lt))
    ∙ was

pub lines_over : (ls : List Taken) (o : Outline) (all : List Counted) (at : ℕ) (found whole : List Finding) → length all ≤ at
    → found ++ flat_map (late ls o) (enumerate_from at (drop at all)) ≡ whole → found ≡ whole
lines_over ls o all at found whole le was = sym (append-nil found) ∙ ap (λ ys. found ++ flat_map (late ls o) (enumerate_from at ys)) (sym (drop_all at all le)) ∙ was

-- The error of a line that the code finds is that of the definition.
pub why_is : (grow : Bool) (ls : List Taken) (o : Outline) (at : ℕ) (l : Taken) (fault : Option EquFault) (t : Table) → IsOutline grow ls o → slice_get ls at ≡ Some l
    → ((f : Option EquFault) → slice_get o.settled.faults.items at ≡ Some f → fault ≡ f) → t ≡ table_at_line (layout_of o.layout) o.settled.names at
    → first (option_map equ_why fault ∷ option_map state_why (statement_fault (names ls) t l.line) ∷ []) ≡ late_why ls o at l.line
why_is grow ls o at l fault t outlined there told table =
    ap (λ f. first (option_map equ_why f ∷ option_map state_why (statement_fault (names ls) t l.line) ∷ [])) (told _ (outlined.settles.each at l there))
    ∙ ap (λ u. first (option_map equ_why (equ_line_fault (names ls) (circle_of o) (layout_of o.layout) (name_meanings (names ls) ls (circle_of o) (layout_of o.layout)) at l.line)
    ∷ option_map state_why (statement_fault (names ls) u l.line) ∷ [])) table

-- What the code appends for a line that can be parsed is what the definition says.
pub judged_line : (grow : Bool) (lines : List SourceLine) (origins : List Origin) (o : Outline) (at : ℕ) (line : SourceLine) (origin : Origin) (table : Names) (t : Table) (fault : Option EquFault) (text : List ℕ)
    → length origins ≡ length lines → IsOutline grow (lines_of lines) o → table ≡ names (lines_of lines) → at < length lines → line ≡ get_or lines at line
    → ((f : Option EquFault) → slice_get o.settled.faults.items at ≡ Some f → fault ≡ f) → t ≡ table_at_line (layout_of o.layout) o.settled.names at → text ≡ origin.text.items → origin.is_read ≡ true
    → late_in table (record { number = line.number; text = text }) (taken_of line).line (first (option_map equ_why fault ∷ option_map state_why (statement_fault table t (taken_of line).line) ∷ []))
    ≡ late (takens (counted_of origins lines)) o (at, counted_line origin line)
judged_line grow lines origins o at line origin table t fault text same outlined table_is lt line_is told t_is text_is read =
    ap (λ g. late_in g (record { number = line.number; text = text }) (taken_of line).line (first (option_map equ_why fault ∷ option_map state_why (statement_fault g t (taken_of line).line) ∷ []))) table_is
    ∙ ap (λ x. late_in (names (lines_of lines)) (record { number = line.number; text = x }) (taken_of line).line (first (option_map equ_why fault ∷ option_map state_why (statement_fault (names (lines_of lines)) t (taken_of line).line) ∷ []))) text_is
    ∙ ap (λ w. late_in (names (lines_of lines)) (record { number = line.number; text = origin.text.items }) (taken_of line).line w)
    (why_is grow (lines_of lines) o at (taken_of line) fault t outlined (line_at lines at line lt line_is) told t_is)
    ∙ ap (λ ls. late_in (names ls) (record { number = line.number; text = origin.text.items }) (taken_of line).line (late_why ls o at (taken_of line).line)) (sym (takens_of origins lines same))
    ∙ sym (ap (λ b. cond b (late_in (names (takens (counted_of origins lines))) (record { number = line.number; text = origin.text.items }) (taken_of line).line (late_why (takens (counted_of origins lines)) o at (taken_of line).line)) []) read)
