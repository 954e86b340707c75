-- What is still to come before a move of the expander, and after it.
use Rattle.std.proofs.Common.{◌≡◌, ◌∙◌, sym, ap, refl, subst, ℕ, List, [], ◌∷◌, ◌++◌, append_assoc, append-nil, Ok, Err, Some, None}
use Rattle.asm_macro.specs.declared.fault.MacroFault.{MacroFault}
use Rattle.asm_macro.specs.declared.moves.Given.{Given}
use Rattle.asm_macro.specs.declared.moves.Stop as moved_by
use Rattle.asm_text.specs.Lines.{Numbered}
use Rattle.asm_macro.specs.State.{State}
use Rattle.asm_macro.specs.Parts.{ExpansionPart, Stop, Last, Go, Within, line_part, resumed}
use Rattle.asm_macro.specs.Expands.{End, Whole, Ended, Stopped, nothing, line, Comes, stop, last, go, within, whole, ended, stopped}
use Rattle.asm_macro.specs.Ahead.{Around, Rest, Remains, Resumes}
use Rattle.asm_macro.specs.Ahead as ahead
use Rattle.asm_macro.specs.Private.Moves.{Moved, On, Fails, Done, Gives, Goes, moved, in_text, next_move}
use Rattle.asm_macro.specs.Private.Moves as moves

-- these lines come from a part and from what follows it, and the expansion ends so
abbrev Part_remains : ℕ → List Around → ExpansionPart → List Numbered → End → Type 0
Part_remains depth around p lines end =
    (first more : List Numbered) × (middle : End) × Comes depth p first middle × Resumes around middle more end × (lines ≡ first ++ more)

part_on : (depth : ℕ) (around : List Around) (p : ExpansionPart) (given : List Numbered) (new : Rest) → moved depth around p ≡ On given new
    → (lines : List Numbered) (end : End) → Remains (ahead.Within new) lines end → Part_remains depth around p (given ++ lines) end
part_on depth around (Stop g n why) given new e lines end r = absurd (cc)
part_on depth around (Last l) given new e lines end r = absurd (cc)
part_on depth around (Go g s text) given new e lines end r =
    let is : record { depth = depth; state = s; text = text; around = around } ≡ new = cc in
    let same : g ≡ given = cc in
    let now = subst (λ x. Remains (ahead.Within x) lines end) (sym is) r in
    (given ++ now.0, now.1, now.2, subst (λ x. Comes depth (Go g s text) (x ++ now.0) now.2) same (go now.0 now.3), now.4, ap (λ x. given ++ x) now.5 ∙ sym (append_assoc given now.0 now.1))
part_on depth around (Within g s inner text next) given new e lines end r =
    let is : record { depth = inner; state = s; text = text; around = record { depth = depth; next = next } ∷ around } ≡ new = cc in
    let same : g ≡ given = cc in
    let now = subst (λ x. Remains (ahead.Within x) lines end) (sym is) r in
    let behind = now.4 in (
      (given ++ now.0) ++ behind.0,
      behind.1,
      behind.2,
      subst (λ x. Comes depth (Within g s inner text next) ((x ++ now.0) ++ behind.0) behind.2) same (within now.0 behind.0 now.2 now.3 behind.3),
      behind.4,
      ap (λ x. given ++ x) (now.5 ∙ ap (λ x. now.0 ++ x) behind.5) ∙ sym (append_assoc given now.0 (behind.0 ++ behind.1)) ∙ sym (append_assoc (given ++ now.0) behind.0 behind.1),
    )

resumes_ended : (around : List Around) → Resumes around Ended [] Ended
resumes_ended [] = (refl, refl)
resumes_ended (a ∷ around) = ([], [], Ended, ended, resumes_ended around, refl)

resumes_stopped : (n : ℕ) (why : MacroFault) (around : List Around) → Resumes around (Stopped n why) [] (Stopped n why)
resumes_stopped n why [] = (refl, refl)
resumes_stopped n why (a ∷ around) = ([], [], Stopped n why, stopped, resumes_stopped n why around, refl)

part_end : (depth : ℕ) (around : List Around) (p : ExpansionPart) (l : Numbered) → moved depth around p ≡ moves.End l → Part_remains depth around p (l ∷ []) Ended
part_end depth around (Stop g n why) l e = absurd (cc)
part_end depth around (Last m) l e = let is : m ≡ l = cc in (l ∷ [], [], Ended, subst (λ x. Comes depth (Last m) (x ∷ []) Ended) is last, resumes_ended around, refl)
part_end depth around (Go g s text) l e = absurd (cc)
part_end depth around (Within g s inner text next) l e = absurd (cc)

part_fails : (depth : ℕ) (around : List Around) (p : ExpansionPart) (given : List Numbered) (n : ℕ) (why : MacroFault) → moved depth around p ≡ Fails given n why → Part_remains depth around p given (Stopped n why)
part_fails depth around (Stop g m because) given n why e =
    let one : g ≡ given = cc in
    let two : m ≡ n = cc in
    let three : because ≡ why = cc in
    rw (one, two, three) (given, [], Stopped n why, stop, resumes_stopped n why around, sym (append-nil given))
part_fails depth around (Last l) given n why e = absurd (cc)
part_fails depth around (Go g s text) given n why e = absurd (cc)
part_fails depth around (Within g s inner text next) given n why e = absurd (cc)

-- a line that is read next
taken : (depth : ℕ) (s : State) (l : Numbered) (text : List Numbered) (around : List Around) (lines : List Numbered) (end : End)
    → Part_remains depth around (line_part depth s l text) lines end → Remains (ahead.Within (record { depth = depth; state = s; text = l ∷ text; around = around })) lines end
taken depth s l text around lines end p = (p.0, p.1, p.2, line p.3, p.4, p.5)

-- where expansion continues after the current lines
over : (depth : ℕ) (s : State) (a : Around) (around : List Around) (lines : List Numbered) (end : End)
    → Part_remains a.depth around (resumed a.depth a.next s) lines end → Remains (ahead.Within (record { depth = depth; state = s; text = []; around = a ∷ around })) lines end
over depth s a around lines end p = ([], lines, Whole s, nothing, (p.0, p.1, p.2, whole p.3, p.4, p.5), refl)

by_parts : (depth : ℕ) (s : State) (text : List Numbered) (around : List Around) (lines : List Numbered) (end : End)
    → ((d : ℕ) (out : List Around) (p : ExpansionPart) → moved d out p ≡ in_text depth s text around → Part_remains d out p lines end)
    → (in_text depth s text around ≡ Done → ⊥) → Remains (ahead.Within (record { depth = depth; state = s; text = text; around = around })) lines end
by_parts depth s (l ∷ text) around lines end f n = taken depth s l text around lines end (f depth around (line_part depth s l text) refl)
by_parts depth s [] (a ∷ around) lines end f n = over depth s a around lines end (f a.depth around (resumed a.depth a.next s) refl)
by_parts depth s [] [] lines end f n = absurd (n refl)

pub remains_on : (r new : Rest) (given : List Numbered) → next_move r ≡ On given new → (lines : List Numbered) (end : End) → Remains (ahead.Within new) lines end → Remains (ahead.Within r) (given ++ lines) end
remains_on r new given e lines end now = by_parts r.depth r.state r.text r.around (given ++ lines) end (λ depth around p is. part_on depth around p given new (is ∙ e) lines end now) (λ d. cc)

pub remains_end : (r : Rest) (l : Numbered) → next_move r ≡ moves.End l → Remains (ahead.Within r) (l ∷ []) Ended
remains_end r l e = by_parts r.depth r.state r.text r.around (l ∷ []) Ended (λ depth around p is. part_end depth around p l (is ∙ e)) (λ d. cc)

pub remains_fails : (r : Rest) (given : List Numbered) (n : ℕ) (why : MacroFault) → next_move r ≡ Fails given n why → Remains (ahead.Within r) given (Stopped n why)
remains_fails r given n why e = by_parts r.depth r.state r.text r.around given (Stopped n why) (λ depth around p is. part_fails depth around p given n why (is ∙ e)) (λ d. cc)

not_done : (depth : ℕ) (around : List Around) (p : ExpansionPart) → moved depth around p ≡ Done → ⊥
not_done depth around (Stop g n why) e = cc
not_done depth around (Last l) e = cc
not_done depth around (Go g s text) e = cc
not_done depth around (Within g s inner text next) e = cc

done_whole : (depth : ℕ) (s : State) (text : List Numbered) (around : List Around) → in_text depth s text around ≡ Done
    → Remains (ahead.Within (record { depth = depth; state = s; text = text; around = around })) [] (Whole s)
done_whole depth s [] [] e = ([], [], Whole s, nothing, (refl, refl), refl)
done_whole depth s (l ∷ text) around e = absurd (not_done depth around (line_part depth s l text) e)
done_whole depth s [] (a ∷ around) e = absurd (not_done a.depth around (resumed a.depth a.next s) e)

pub remains_done : (r : Rest) → next_move r ≡ Done → Remains (ahead.Within r) [] (Whole r.state)
remains_done r e = done_whole r.depth r.state r.text r.around e

-- What is still to come after a move was still to come before it.
abbrev pub Leads : Rest → Rest → Type 0
Leads old now = (lines : List Numbered) (end : End) → Remains (ahead.Within now) lines end → Remains (ahead.Within old) lines end

pub goes_some : (old now new : Rest) (text : List ℕ) (given : Given) → Leads old now → Gives text (Ok (Some given)) new (next_move now) → Goes old text (Ok given) new
goes_some old now new text (Given.Line n) leads e = λ lines end r. leads (record { number = n; text = text } ∷ lines) end (remains_on now new (record { number = n; text = text } ∷ []) e lines end r)
goes_some old now new text (Given.Last n) leads e = leads (record { number = n; text = text } ∷ []) Ended (remains_end now (record { number = n; text = text }) e)
goes_some old now new text (Given.Refused n) leads e =
    leads (record { number = n; text = text } ∷ []) (Stopped n MacroFault.Stray) (remains_fails now (record { number = n; text = text } ∷ []) n MacroFault.Stray e)
goes_some old now new text Given.Over leads e = (Whole now.state, tt, leads [] (Whole now.state) (remains_done now e))

pub goes_err : (old now new other : Rest) (text : List ℕ) (why : moved_by.Stop) → Leads old now → Gives text (Err why) new (next_move now) → Goes old text (Err why) other
goes_err old now new other text moved_by.Stop.NoMemory leads e = tt
goes_err old now new other text (moved_by.Stop.At n why) leads e = leads [] (Stopped n why) (remains_fails now [] n why e)

pub leads_on : (old now new : Rest) (text : List ℕ) → Leads old now → Gives text (Ok None) new (next_move now) → Leads old new
leads_on old now new text leads e = λ lines end r. leads lines end (remains_on now new [] e lines end r)
