-- What the keys of the line editor do.
use Rattle.std.proofs.Common.{◌≡◌, ◌≢◌, ◌-◌, ◌<◌, ◌≤◌, ℕ, suc, zero, Bool, true, false, cond, List, [], ◌∷◌, ◌++◌, length, map, Option, Some, None, Result, Ok, Err, refl, ap, sym, subst, ◌∙◌, arith, length-drop}
use Rattle.std.specs.List.{flat_map}
use Rattle.std.specs.Result.{IsErrAnd}
use Rattle.std.proofs.lemmas.Bool.{eq-eqb, le-leb, lt-leb, ne_eqb, true≢false}
use Rattle.cpm_console.specs.Dialog.{Event, Put, Took, taken_by}
use Rattle.cpm_console.specs.Calls.{Gets}
use Rattle.cpm_console.specs.Screen.{Screen, Does, column_after}
use Rattle.cpm_console.specs.Text.{Prints, PutsText, text_shown}
use Rattle.cpm_console.specs.Line.{LineEnds, EditedLine, Transcript, preceded_by, after_key, echo_of, edited, line_ended, after_edit, key_of, last_of, line_end, line_transcript, rub_out, transcript, unless_full, WarmBoot, NoInput}
use Rattle.cpm_console.specs.declared.error.ConsoleError.{ConsoleError}
use Rattle.cpm_console.specs.declared.error.ConsoleError.TheVariants.{EndOfInput, ConsoleFault}
use Rattle.cpm_console.specs.declared.key.Key.{Key}
use Rattle.cpm_console.specs.declared.key.Key.TheVariants.{End, TakeOut, RubOut, StartAnew, WipeOut, NewLine, Retype, Break, Other}
use Rattle.cpm_console.proofs.Events.{does-nothing, does-then, put_by-puts, stops-after, stops-before, taken-puts}

-- the text of two keys

one_copy : (text bytes : List ℕ) → length bytes ≡ 1 → flat_map (λ _. text) bytes ≡ text ++ []
one_copy text [] e = absurd (omega arith)
one_copy text (b ∷ []) e = refl
one_copy text (b ∷ (d ∷ bytes)) e = absurd (omega arith)

pub text-TakeOut : (key : Key) (byte : ℕ) (line : EditedLine) → key ≡ TakeOut → 0 < length line.bytes → (edited key byte line).text ≡ rub_out
text-TakeOut key byte line e some =
    let one : length (last_of line.bytes) ≡ 1 = omega (arith, length-drop (length line.bytes - 1) line.bytes) in
    subst (λ k. (edited k byte line).text ≡ rub_out) (sym e) (one_copy rub_out (last_of line.bytes) one)

pub text-Retype : (key : Key) (byte : ℕ) (line : EditedLine) → key ≡ Retype → (edited key byte line).text ≡ (0x23 ∷ line_end) ++ flat_map echo_of line.bytes
text-Retype key byte line e = subst (λ k. (edited k byte line).text ≡ (0x23 ∷ line_end) ++ flat_map echo_of line.bytes) (sym e) refl

-- a line that is full, and one that is not

not_full : (room : ℕ) (line : EditedLine) (t : Transcript) → length line.bytes < room → unless_full room line t ≡ t
not_full room line t h = ap (λ b. cond b (line_ended line) t) (lt-leb room (length line.bytes) h)

is_full : (room : ℕ) (line : EditedLine) (t : Transcript) → room ≤ length line.bytes → unless_full room line t ≡ line_ended line
is_full room line t h = ap (λ b. cond b (line_ended line) t) (le-leb room (length line.bytes) h)

full : (room : ℕ) (line : EditedLine) (input : List ℕ) → room ≤ length line.bytes → line_transcript room line input ≡ line_ended line
full room line [] h = is_full room line (transcript [] NoInput) h
full room line (b ∷ input) h = is_full room line (preceded_by (Took b ∷ []) (after_key (key_of b) b line (λ l. line_transcript room l input))) h

-- a line that is full ends
pub ended_full : (room : ℕ) (line : EditedLine) (a b : Screen) (buffer : List ℕ) (r : Result (Option ℕ) ConsoleError) → room ≤ length line.bytes → LineEnds (line_ended line) a b buffer r
    → LineEnds (line_transcript room line a.dialog.input) a b buffer r
ended_full room line a b buffer r h done = subst (λ t. LineEnds t a b buffer r) (sym (full room line a.dialog.input h)) done

-- a key that does not end reading
going_on : (key : Key) (byte : ℕ) (line : EditedLine) (rest : EditedLine → Transcript) → key ≢ End → (key ≡ Break → 0 < length line.bytes) → after_key key byte line rest ≡ after_edit (edited key byte line) line rest
going_on End byte line rest h k = absurd (h refl)
going_on TakeOut byte line rest h k = refl
going_on RubOut byte line rest h k = refl
going_on StartAnew byte line rest h k = refl
going_on WipeOut byte line rest h k = refl
going_on NewLine byte line rest h k = refl
going_on Retype byte line rest h k = refl
going_on Other byte line rest h k = refl
going_on Break byte line rest h k =
    let some : length line.bytes ≢ 0 = λ none. omega (arith, k refl) in
    ap (λ b. cond b (transcript [] WarmBoot) (after_edit (edited Break byte line) line rest)) (ne_eqb (length line.bytes) 0 some)

-- how reading ends after other events

pub ends-after : (t : Transcript) (x : List Event) (a b c : Screen) (buffer : List ℕ) (r : Result (Option ℕ) ConsoleError) → Does a b x → LineEnds t b c buffer r → LineEnds (preceded_by x t) a c buffer r
ends-after t x a b c buffer (Ok (Some count)) first second = (second.0, does-then a b c x t.events first second.1)
ends-after t x a b c buffer (Ok None) first second = (second.0, does-then a b c x t.events first second.1)
ends-after t x a b c buffer (Err EndOfInput) first second = (second.0, does-then a b c x t.events first second.1)
ends-after t x a b c buffer (Err ConsoleFault) first second = stops-after a b c x t.events first second

pub ends_on : (t : Transcript) (a b : Screen) (buffer : List ℕ) (r : Result (Option ℕ) ConsoleError) (e : ConsoleError) → IsErrAnd r (λ f. f ≡ e) → LineEnds t a b buffer (Err e) → LineEnds t a b buffer r
ends_on t a b buffer (Ok v) e same p = absurd same
ends_on t a b buffer (Err f) e same p = subst (λ g. LineEnds t a b buffer (Err g)) (sym same) p

-- if reading ends with an error, the buffer does not matter
pub any_buffer : (t : Transcript) (a b : Screen) (buffer other : List ℕ) (e : ConsoleError) → LineEnds t a b buffer (Err e) → LineEnds t a b other (Err e)
any_buffer t a b buffer other EndOfInput p = p
any_buffer t a b buffer other ConsoleFault p = p

-- no byte is there, or the console fails
pub get-failed : (room : ℕ) (line : EditedLine) (a b : Screen) (buffer : List ℕ) (e : ConsoleError) → length line.bytes < room → Gets a.dialog b.dialog (Err e) → b.column ≡ a.column
    → LineEnds (line_transcript room line a.dialog.input) a b buffer (Err e)
get-failed room line a b buffer EndOfInput h got column =
    let none : line_transcript room line a.dialog.input ≡ transcript [] NoInput = ap (line_transcript room line) got.0 ∙ not_full room line (transcript [] NoInput) h in
    let done : LineEnds (transcript [] NoInput) a b buffer (Err EndOfInput) = (refl, record { passed = got.1.passed; unfailed = got.1.unfailed; column = column }) in
    subst (λ t. LineEnds t a b buffer (Err EndOfInput)) (sym none) done
get-failed room line a b buffer ConsoleFault h got column = record {
  done = [];
  failed = [];
  rest = (line_transcript room line a.dialog.input).events;
  front = refl;
  one = omega arith;
  passed = got.1;
  column = column;
  fault = got.0;
}

-- a byte was taken
pub got : (a b : Screen) (byte : ℕ) → Gets a.dialog b.dialog (Ok byte) → b.column ≡ a.column → Does a b (Took byte ∷ [])
got a b byte taken column = record { passed = taken.passed; unfailed = taken.unfailed; column = column }

-- what a byte with this key does
with_byte : (room byte : ℕ) (key : Key) (line : EditedLine) (a b : Screen) → length line.bytes < room → Does a b (Took byte ∷ []) → key ≡ key_of byte
    → line_transcript room line a.dialog.input ≡ preceded_by (Took byte ∷ []) (after_key key byte line (λ l. line_transcript room l b.dialog.input))
with_byte room byte key line a b h took asks =
    let rest = λ (l : EditedLine). line_transcript room l b.dialog.input in
    ap (line_transcript room line) took.passed.input
    ∙ not_full room line (preceded_by (Took byte ∷ []) (after_key (key_of byte) byte line rest)) h
    ∙ ap (λ k. preceded_by (Took byte ∷ []) (after_key k byte line rest)) (sym asks)

after_byte : (room byte : ℕ) (key : Key) (line : EditedLine) (a b c : Screen) (buffer : List ℕ) (r : Result (Option ℕ) ConsoleError) (t : Transcript) → length line.bytes < room
    → Does a b (Took byte ∷ []) → key ≡ key_of byte → after_key key byte line (λ l. line_transcript room l b.dialog.input) ≡ t
    → LineEnds t b c buffer r → LineEnds (line_transcript room line a.dialog.input) a c buffer r
after_byte room byte key line a b c buffer r t h took asks e rest =
    let whole = with_byte room byte key line a b h took asks ∙ ap (preceded_by (Took byte ∷ [])) e in
    subst (λ t. LineEnds t a c buffer r) (sym whole) (ends-after t (Took byte ∷ []) a b c buffer r took rest)

-- a byte that ends the line
pub at_end : (room byte : ℕ) (key : Key) (line : EditedLine) (a b c : Screen) (buffer : List ℕ) (r : Result (Option ℕ) ConsoleError) → length line.bytes < room
    → Does a b (Took byte ∷ []) → key ≡ key_of byte → key ≡ End
    → LineEnds (line_ended line) b c buffer r → LineEnds (line_transcript room line a.dialog.input) a c buffer r
at_end room byte key line a b c buffer r h took asks end rest =
    after_byte room byte key line a b c buffer r (line_ended line) h took asks (ap (λ k. after_key k byte line (λ l. line_transcript room l b.dialog.input)) end) rest

-- 03H on an empty line
pub at_break : (room byte : ℕ) (key : Key) (line : EditedLine) (a b : Screen) (buffer : List ℕ) → length line.bytes < room → length line.bytes ≡ 0
    → Does a b (Took byte ∷ []) → key ≡ key_of byte → key ≡ Break → LineEnds (line_transcript room line a.dialog.input) a b buffer (Ok None)
at_break room byte key line a b buffer h empty took asks break =
    let rest = λ (l : EditedLine). line_transcript room l b.dialog.input in
    let next = after_edit (edited Break byte line) line rest in
    let boot : after_key key byte line rest ≡ transcript [] WarmBoot =
    ap (λ k. after_key k byte line rest) break ∙ ap (λ t. cond t (transcript [] WarmBoot) next) (eq-eqb (length line.bytes) 0 empty) in
    after_byte room byte key line a b b buffer (Ok None) (transcript [] WarmBoot) h took asks boot (refl, does-nothing b)

text-failed : (t : Transcript) (bytes : List ℕ) (b c : Screen) (buffer : List ℕ) (e : ConsoleError) → Prints b c bytes (Err e) → LineEnds (preceded_by (map Put bytes) t) b c buffer (Err e)
text-failed t bytes b c buffer EndOfInput failed = absurd failed
text-failed t bytes b c buffer ConsoleFault failed = stops-before b c (map Put bytes) t.events failed

-- any other key, if its echo fails
pub show-failed : (room byte : ℕ) (key : Key) (line : EditedLine) (a b c : Screen) (buffer : List ℕ) (e : ConsoleError) → length line.bytes < room
    → Does a b (Took byte ∷ []) → key ≡ key_of byte → key ≢ End → (key ≡ Break → 0 < length line.bytes) → line.column ≡ b.column
    → PutsText b c (edited key byte line).text (Err e) → LineEnds (line_transcript room line a.dialog.input) a c buffer (Err e)
show-failed room byte key line a b c buffer e h took asks end break column failed =
    let text = (edited key byte line).text in
    let rest = λ (l : EditedLine). line_transcript room l b.dialog.input in
    let next : EditedLine = record { bytes = (edited key byte line).bytes; start = (edited key byte line).start; column = column_after line.column (text_shown line.column text) } in
    let here : Prints b c (text_shown line.column text) (Err e) = subst (λ k. Prints b c (text_shown k text) (Err e)) (sym column) failed in
    after_byte room byte key line a b c buffer (Err e) (after_edit (edited key byte line) line rest) h took asks (going_on key byte line rest end break)
    (text-failed (rest next) (text_shown line.column text) b c buffer e here)

same_line : (l m : EditedLine) → l.bytes ≡ m.bytes → l.start ≡ m.start → l.column ≡ m.column → l ≡ m
same_line l m bytes start column =
    let first : ◌≡◌ {A = EditedLine} l (record l { bytes = m.bytes }) = ap (λ x. record l { bytes = x }) bytes in
    let second : ◌≡◌ {A = EditedLine} (record l { bytes = m.bytes }) (record m { column = l.column }) = ap (λ x. record m { start = x; column = l.column }) start in
    first ∙ second ∙ ap (λ x. record m { column = x }) column

-- any other key, and the line that it leaves
pub turn : (room byte : ℕ) (key : Key) (line next : EditedLine) (a b c d : Screen) (buffer : List ℕ) (r : Result (Option ℕ) ConsoleError) → length line.bytes < room
    → Does a b (Took byte ∷ []) → key ≡ key_of byte → key ≢ End → (key ≡ Break → 0 < length line.bytes) → line.column ≡ b.column
    → PutsText b c (edited key byte line).text (Ok tt)
    → next.bytes ≡ (edited key byte line).bytes → next.start ≡ (edited key byte line).start → next.column ≡ c.column
    → LineEnds (line_transcript room next c.dialog.input) c d buffer r → LineEnds (line_transcript room line a.dialog.input) a d buffer r
turn room byte key line next a b c d buffer r h took asks end break column shows bytes start there rest =
    let text = (edited key byte line).text in
    let reads = λ (l : EditedLine). line_transcript room l b.dialog.input in
    let put = text_shown line.column text in
    let left : EditedLine = record { bytes = (edited key byte line).bytes; start = (edited key byte line).start; column = column_after line.column put } in
    let here : Does b c (map Put put) = subst (λ k. Does b c (map Put (text_shown k text))) (sym column) shows in
    let input : b.dialog.input ≡ c.dialog.input = here.passed.input ∙ ap (λ bs. bs ++ c.dialog.input) (taken-puts put) in
    let to : next.column ≡ column_after line.column put = there ∙ here.column ∙ ap (column_after b.column) (put_by-puts put) ∙ ap (λ k. column_after k put) (sym column) in
    let same : line_transcript room next c.dialog.input ≡ line_transcript room left b.dialog.input = ap (λ l. line_transcript room l c.dialog.input) (same_line next left bytes start to) ∙ ap (line_transcript room left) (sym input) in
    let next_one : LineEnds (line_transcript room left b.dialog.input) c d buffer r = subst (λ t. LineEnds t c d buffer r) same rest in
    after_byte room byte key line a b d buffer r (after_edit (edited key byte line) line reads) h took asks (going_on key byte line reads end break)
    (ends-after (line_transcript room left b.dialog.input) (map Put put) b c d buffer r here next_one)

-- each turn of the loop takes a byte
pub shorter : (a b c : Screen) (byte : ℕ) (text : List ℕ) → Does a b (Took byte ∷ []) → PutsText b c text (Ok tt) → length c.dialog.input < length a.dialog.input
shorter a b c byte text took shows =
    omega (arith, ap length took.passed.input, ap length (shows.passed.input ∙ ap (λ bs. bs ++ c.dialog.input) (taken-puts (text_shown b.column text))))

-- a test that is false excludes what would make it true
pub not_so : {P : Type 0} (b : Bool) → b ≡ false → (P → b ≡ true) → P → ⊥
not_so b never so p = true≢false (sym (so p) ∙ never)

pub some_stored : (key : Key) (b : Bool) (len : ℕ) (bytes : List ℕ) → b ≡ false → ((key ≡ Break) × (len ≡ 0) → b ≡ true) → len ≤ length bytes → key ≡ Break → 0 < length bytes
some_stored key b zero bytes never so size break = absurd (true≢false (sym (so (break, refl)) ∙ never))
some_stored key b (suc len) bytes never so size break = omega arith
