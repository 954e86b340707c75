-- The lines that were read so far, and one more.
use Rattle.std.proofs.Common.{◌≡◌, ◌∙◌, sym, ap, refl, ℕ, List, [], ◌∷◌, ◌++◌, Option, Some, None, Result, Ok, Err, append-nil, true, false, is_some}
use Rattle.std.proofs.lemmas.List.{map-append}
use Rattle.asm_spell.specs.Line.{Line, line_of}
use Rattle.asm_text.specs.Lines.{Numbered}
use Rattle.asm_names.specs.Lines.{lines_of, taken_of}
use Rattle.asm_names.specs.declared.kind.SourceLine.{SourceLine}
use Rattle.asm_macro.specs.Ahead.{Ahead, Remains}
use Rattle.asm_macro.specs.Expands.{End, IsExpansion}
use Rattle.asm_module.specs.declared.line_fault.LineFault.{LineFault}
use Rattle.asm_module.specs.declared.reading.Reading.{Reading}
use Rattle.asm_module.specs.Private.Reading.{Reads}
use Rattle.asm_module.specs.Reads.Read.{read_line, taken, unread, unread_or, with_line}

-- If each line so far can be parsed, the next one is appended if it can be parsed too; otherwise it is the first that cannot.
taken_by : (l : Numbered) (before : List Numbered) (n : Numbered) (r : Result Line LineFault)
    → (unread before ≡ None → taken (before ++ n ∷ []) ≡ taken before ++ with_line n.number (read_line n.text) []) → unread_or l.number r (unread before) ≡ None
    → with_line l.number r (taken (before ++ n ∷ [])) ≡ with_line l.number r (taken before) ++ with_line n.number (read_line n.text) []
taken_by l before n (Ok line) others e = ap (λ ls. record { number = l.number; line = line } ∷ ls) (others e)
taken_by l before n (Err why) others e = absurd cc

taken_more : (before : List Numbered) (n : Numbered) → unread before ≡ None → taken (before ++ n ∷ []) ≡ taken before ++ with_line n.number (read_line n.text) []
taken_more [] n e = refl
taken_more (l ∷ before) n e = taken_by l before n (read_line l.text) (taken_more before n) e

unread_by : (l : Numbered) (before : List Numbered) (n : Numbered) (r : Result Line LineFault)
    → (unread before ≡ None → unread (before ++ n ∷ []) ≡ unread_or n.number (read_line n.text) None) → unread_or l.number r (unread before) ≡ None
    → unread_or l.number r (unread (before ++ n ∷ [])) ≡ unread_or n.number (read_line n.text) None
unread_by l before n (Ok line) others e = others e
unread_by l before n (Err why) others e = absurd cc

unread_more : (before : List Numbered) (n : Numbered) → unread before ≡ None → unread (before ++ n ∷ []) ≡ unread_or n.number (read_line n.text) None
unread_more [] n e = refl
unread_more (l ∷ before) n e = unread_by l before n (read_line l.text) (unread_more before n) e

-- After a line that cannot be parsed, nothing changes.
taken_still : (l : Numbered) (before : List Numbered) (n : Numbered) (x : ℕ × LineFault) (r : Result Line LineFault)
    → (unread before ≡ Some x → taken (before ++ n ∷ []) ≡ taken before) → unread_or l.number r (unread before) ≡ Some x
    → with_line l.number r (taken (before ++ n ∷ [])) ≡ with_line l.number r (taken before)
taken_still l before n x (Ok line) others e = ap (λ ls. record { number = l.number; line = line } ∷ ls) (others e)
taken_still l before n x (Err why) others e = refl

taken_behind : (before : List Numbered) (n : Numbered) (x : ℕ × LineFault) → unread before ≡ Some x → taken (before ++ n ∷ []) ≡ taken before
taken_behind [] n x e = absurd cc
taken_behind (l ∷ before) n x e = taken_still l before n x (read_line l.text) (taken_behind before n x) e

unread_still : (l : Numbered) (before : List Numbered) (n : Numbered) (x : ℕ × LineFault) (r : Result Line LineFault)
    → (unread before ≡ Some x → unread (before ++ n ∷ []) ≡ Some x) → unread_or l.number r (unread before) ≡ Some x → unread_or l.number r (unread (before ++ n ∷ [])) ≡ Some x
unread_still l before n x (Ok line) others e = others e
unread_still l before n x (Err why) others e = e

unread_behind : (before : List Numbered) (n : Numbered) (x : ℕ × LineFault) → unread before ≡ Some x → unread (before ++ n ∷ []) ≡ Some x
unread_behind [] n x e = absurd cc
unread_behind (l ∷ before) n x e = unread_still l before n x (read_line l.text) (unread_behind before n x) e

stays_by : (before : List Numbered) (n : Numbered) (r : Reading) (o : Option (ℕ × LineFault)) → r.unread ≡ o → is_some o ≡ true → Reads before r → Reads (before ++ n ∷ []) r
stays_by before n r (Some x) e some was =
    let is : unread before ≡ Some x = sym was.unread_is ∙ e in
    record { lines_are = was.lines_are ∙ sym (taken_behind before n x is); unread_is = e ∙ sym (unread_behind before n x is) }
stays_by before n r None e some was = absurd cc

pub stays : (before : List Numbered) (n : Numbered) (r : Reading) → is_some r.unread ≡ true → Reads before r → Reads (before ++ n ∷ []) r
stays before n r some was = stays_by before n r r.unread refl some was

none_by : (o : Option (ℕ × LineFault)) → is_some o ≡ false → o ≡ None
none_by None e = refl
none_by (Some x) e = absurd cc

pub took : (before : List Numbered) (n : Numbered) (r new : Reading) (l : SourceLine) → is_some r.unread ≡ false → new.unread ≡ r.unread → new.lines.items ≡ r.lines.items ++ l ∷ []
    → l.number ≡ n.number → Ok (line_of l.line) ≡ read_line n.text → Reads before r → Reads (before ++ n ∷ []) new
took before n r new l none same pushed number reads was =
    let now_none = none_by r.unread none in
    let is : unread before ≡ None = sym was.unread_is ∙ now_none in
    record {
      lines_are = ap lines_of pushed ∙ map-append taken_of r.lines.items (l ∷ []) ∙ ap (λ ls. ls ++ taken_of l ∷ []) was.lines_are
          ∙ ap (λ m. taken before ++ record { number = m; line = line_of l.line } ∷ []) number ∙ ap (λ x. taken before ++ with_line n.number x []) reads ∙ sym (taken_more before n is);
      unread_is = same ∙ now_none ∙ ap (λ x. unread_or n.number x None) reads ∙ sym (unread_more before n is);
    }

pub stopped : (before : List Numbered) (n : Numbered) (r new : Reading) (why : LineFault) → is_some r.unread ≡ false → new.lines ≡ r.lines → new.unread ≡ Some (n.number, why)
    → Err why ≡ read_line n.text → Reads before r → Reads (before ++ n ∷ []) new
stopped before n r new why none same now reads was =
    let is : unread before ≡ None = sym was.unread_is ∙ none_by r.unread none in
    record {
      lines_are = ap (λ ls. lines_of ls.items) same ∙ was.lines_are ∙ sym (append-nil (taken before)) ∙ ap (λ x. taken before ++ with_line n.number x []) reads ∙ sym (taken_more before n is);
      unread_is = now ∙ ap (λ x. unread_or n.number x None) reads ∙ sym (unread_more before n is);
    }

-- The lines so far are read, and together with those still to come they are the expansion.
pub record Standing (text : List ℕ) (r : Reading) (ahead : Ahead) : Type 0 where
  pub before : List Numbered
  pub reads : Reads before r
  pub leads : (more : List Numbered) (end : End) → Remains ahead more end → IsExpansion text (before ++ more) end
