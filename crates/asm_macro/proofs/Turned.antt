-- What a move of the expander leaves.
use Rattle.std.proofs.Common.{◌≡◌, ◌≤◌, ◌+◌, ◌-◌, ◌∙◌, sym, ap, refl, subst, Err, ℕ, List, [], ◌∷◌, ◌++◌, Option, reverse, length, arith}
use Rattle.asm_macro.specs.declared.take.TheConstants.{MOST_NESTED}
use Rattle.asm_macro.specs.declared.expansion.TheConstants.{MOST_LINES}
use Rattle.asm_line.specs.Replacing.Replaced.{ReplacementTable}
use Rattle.asm_text.specs.declared.span.Span.{Span}
use Rattle.asm_text.specs.Lines.{Numbered}
use Rattle.asm_text.specs.Spans.{text_of}
use Rattle.asm_text.specs.declared.following.Following.{Following}
use Rattle.asm_text.specs.declared.following.Onward.{Onward}
use Rattle.asm_text.specs.declared.stretch.Block.{Block}
use Rattle.asm_text.specs.Sections.Onward.{Next}
use Rattle.asm_text.specs.Sections.Views.{next_of, onward_seen}
use Rattle.asm_macro.specs.declared.expansion.Expansion.{Expansion}
use Rattle.asm_macro.specs.declared.moves.Stop.{Stop}
use Rattle.asm_macro.specs.State.{State}
use Rattle.asm_macro.specs.Parts.{ExpansionPart, Within, resumed}
use Rattle.asm_macro.specs.Ahead as ahead
use Rattle.asm_macro.specs.Ahead.{Around}
use Rattle.asm_macro.specs.Private.Frames.{around_seen, below, innermost, outside, turns_in}
use Rattle.asm_macro.specs.Private.Going.{Enters, Fits, FitsNext, turn_in}
use Rattle.asm_macro.specs.Private.Moves.{IsSound, Moved, On, Resumes, Sound, in_text, moved, next_move, rest_of, state_of, tables_in}
use Rattle.asm_macro.proofs.Stacks.{pushed}

-- The lines of a block begin, and a repetition of a REPT is counted.

pub stopped_into : (new : ahead.Rest) (depth : ℕ) (around : List Around) (why : Stop) (e : State) (d : ℕ) (text : List Numbered) (next : Next) (part : ExpansionPart) → Enters (Err why) e d text next part → Resumes (Err why) new (moved depth around part)
stopped_into new depth around Stop.NoMemory e d text next part h = tt
stopped_into new depth around (Stop.At n why) e d text next part h = ap (moved depth around) h

turn_more : (f : Following) (around : List Following) → turns_in (f ∷ around) ≡ turns_in around + turn_in f
turn_more (Following.Turns left number body) around = refl
turn_more (Following.Rest s) around = let e : turns_in around ≡ turns_in around + 0 = omega arith in e
turn_more (Following.BehindFirst c) around = let e : turns_in around ≡ turns_in around + 0 = omega arith in e
turn_more (Following.BehindSecond c) around = let e : turns_in around ≡ turns_in around + 0 = omega arith in e

-- the lines of a block are in the same call as the block
inner : (many : ℕ) (texts : List (List ℕ)) (names : Option ReplacementTable) (f : Following) (tables : List ReplacementTable) → FitsNext many (next_of texts names f) → outside f tables ≡ tables
inner many texts names (Following.Turns left number body) tables fits = refl
inner many texts names (Following.Rest s) tables fits = absurd fits
inner many texts names (Following.BehindFirst c) tables fits = refl
inner many texts names (Following.BehindSecond c) tables fits = refl

pub fits_turn : (many : ℕ) (texts : List (List ℕ)) (names : Option ReplacementTable) (f : Following) → FitsNext many (next_of texts names f) → many ≤ MOST_NESTED → many + turn_in f ≤ MOST_NESTED
fits_turn many texts names (Following.Turns left number body) fits most = omega (arith, fits)
fits_turn many texts names (Following.Rest s) fits most = absurd fits
fits_turn many texts names (Following.BehindFirst c) fits most = omega (arith, most)
fits_turn many texts names (Following.BehindSecond c) fits most = omega (arith, most)

pub fits_into : (many : ℕ) (texts : List (List ℕ)) (names : Option ReplacementTable) (o : Onward) (s : Span) (f : Following) → o ≡ Onward.Into s f → Fits many (onward_seen texts names o) → FitsNext many (next_of texts names f)
fits_into many texts names o s f is fits = subst (λ p. Fits many (onward_seen texts names p)) is fits

-- an expansion with one more repetition counted, if one begins
abbrev pub WithTurn : Expansion → Following → Expansion → Type 0
WithTurn x f y = y ≡ record x { count = x.count + turn_in f; turns = x.turns + turn_in f }

pub gone_into : (x y : Expansion) (after : List Following) (f : Following) (text : Span) (many : ℕ) → IsSound x → FitsNext many (next_of x.lines (innermost (tables_in x)) f) → WithTurn x f y → after ≡ y.around.items ++ f ∷ []
    → moved (rest_of x).depth (rest_of x).around (Within [] (state_of y) ((rest_of x).depth + turn_in f) (text_of x.lines (innermost (tables_in x)) text) (next_of x.lines (innermost (tables_in x)) f))
    ≡ On [] (record { depth = length (tables_in y) + y.turns; state = state_of y; text = text_of y.lines (innermost (tables_in y)) text; around = around_seen y.lines (tables_in y) (reverse after) })
gone_into x y after f text many sound fits kept is =
    let T = x.lines in
    let N = tables_in x in
    let out = inner many T (innermost N) f N fits in
    let depth : (length N + x.turns) + turn_in f ≡ length N + (x.turns + turn_in f) = omega arith in
    let seen = ap (around_seen T N) (ap reverse (is ∙ ap (λ z. z.around.items ++ f ∷ []) kept) ∙ pushed x.around.items f)
    ∙ ap (λ ts. record { depth = length ts + turns_in (reverse x.around.items); next = next_of T (innermost ts) f } ∷ around_seen T ts (reverse x.around.items)) out
    ∙ ap (λ t. record { depth = length N + t; next = next_of T (innermost N) f } ∷ (rest_of x).around) (sym sound.turns) in
    ap (λ d. On [] (record { depth = d; state = state_of y; text = text_of T (innermost N) text; around = record { depth = length N + x.turns; next = next_of T (innermost N) f } ∷ (rest_of x).around })) depth
    ∙ ap (λ a. On [] (record { depth = length N + (x.turns + turn_in f); state = state_of y; text = text_of T (innermost N) text; around = a })) (sym seen)
    ∙ ap (λ z. On [] (record { depth = length (tables_in z) + z.turns; state = state_of y; text = text_of z.lines (innermost (tables_in z)) text; around = around_seen z.lines (tables_in z) (reverse after) })) (sym kept)

pub sound_into : (x y : Expansion) (after : List Following) (f : Following) (texts : List (List ℕ)) (names : Option ReplacementTable) → IsSound x
    → FitsNext (length x.calls.items + x.turns) (next_of texts names f) → WithTurn x f y → y.count ≤ MOST_LINES → after ≡ y.around.items ++ f ∷ []
    → Sound y.lines (tables_in y) (reverse after) (length y.calls.items) y.turns y.count y.book (reverse y.books.items) y.source y.macros.entries y.calls.items
sound_into x y after f texts names sound fits kept few is =
    let around = ap reverse (is ∙ ap (λ z. z.around.items ++ f ∷ []) kept) ∙ pushed x.around.items f in
    subst (λ z. Sound z.lines (tables_in z) (reverse after) (length z.calls.items) z.turns z.count z.book (reverse z.books.items) z.source z.macros.entries z.calls.items) (sym kept) (record {
      short = sound.short;
      turns = ap (λ n. n + turn_in f) sound.turns ∙ sym (turn_more f (reverse x.around.items)) ∙ ap turns_in (sym around);
      shallow = omega (arith, fits_turn (length x.calls.items + x.turns) texts names f fits sound.shallow);
      few = omega (arith, few, ap (λ z. z.count) kept);
      book = sound.book;
      books = sound.books;
      source = sound.source;
      macros = sound.macros;
      open_calls = sound.open_calls;
    })

-- where expansion continues after the current lines
pub popped : (x : Expansion) (left : List Following) (f : Following) → (rest_of x).text ≡ [] → x.around.items ≡ left ++ f ∷ []
    → next_move (rest_of x) ≡ moved (length (outside f (tables_in x)) + turns_in (reverse left)) (around_seen x.lines (outside f (tables_in x)) (reverse left))
    (resumed (length (outside f (tables_in x)) + turns_in (reverse left)) (next_of x.lines (innermost (outside f (tables_in x))) f) (state_of x))
popped x left f over is =
    ap (λ t. in_text (rest_of x).depth (state_of x) t (rest_of x).around) over
    ∙ ap (λ fs. in_text (rest_of x).depth (state_of x) [] (around_seen x.lines (tables_in x) fs)) (ap reverse is ∙ pushed left f)

pub turns_popped : (x : Expansion) (left : List Following) (n number : ℕ) (body : Block) → IsSound x → x.around.items ≡ left ++ Following.Turns n number body ∷ [] → turns_in (reverse left) ≡ x.turns - 1
turns_popped x left n number body sound is = omega (arith, sound.turns, ap turns_in (ap reverse is ∙ pushed left (Following.Turns n number body)))

outside_below : (s : Span) (tables : List ReplacementTable) → outside (Following.Rest s) tables ≡ below tables
outside_below s [] = refl
outside_below s (t ∷ ts) = refl

-- after the body of a call
pub rest_popped : (x : Expansion) (left : List Following) (s : Span) (tables : List ReplacementTable) → (rest_of x).text ≡ [] → x.around.items ≡ left ++ Following.Rest s ∷ [] → x.turns ≡ turns_in (reverse left) → tables ≡ below (tables_in x)
    → next_move (rest_of x) ≡ On [] (record { depth = length tables + x.turns; state = state_of x; text = text_of x.lines (innermost tables) s; around = around_seen x.lines tables (reverse left) })
rest_popped x left s tables over is turns same =
    let to : List ReplacementTable → ℕ → Moved = λ ts n. On [] (record { depth = length ts + n; state = state_of x; text = text_of x.lines (innermost ts) s; around = around_seen x.lines ts (reverse left) }) in
    popped x left (Following.Rest s) over is ∙ ap (λ ts. to ts (turns_in (reverse left))) (outside_below s (tables_in x) ∙ sym same) ∙ ap (to tables) (sym turns)
