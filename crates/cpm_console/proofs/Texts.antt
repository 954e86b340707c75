-- Texts one after the other.
use Rattle.std.proofs.Common.{◌≡◌, ℕ, List, [], ◌∷◌, ◌++◌, map, Result, Ok, Err, refl, ap, sym, subst, ◌∙◌, append_assoc, zero, suc, ◌<◌, ◌≢◌, ◌+◌, ◌%◌, cond, inl, inr, replicate, arith}
use Rattle.std.proofs.lemmas.Bool.Decides.{eqb_tells}
use Rattle.std.specs.Prelude.{⊤}
use Rattle.std.specs.Result.{IsErrAnd}
use Rattle.std.proofs.lemmas.List.{map-append}
use Rattle.cpm_console.specs.Dialog.{Put}
use Rattle.cpm_console.specs.Calls.{PutsByte}
use Rattle.cpm_console.specs.Screen.{Screen, column_after}
use Rattle.std.specs.List.{concat, flat_map}
use Rattle.cpm_console.specs.Text.{Prints, PutsText, before_dollar, bytes_from, expanded, text_shown}
use Rattle.cpm_console.specs.declared.error.ConsoleError.{ConsoleError}
use Rattle.cpm_console.specs.declared.error.ConsoleError.TheVariants.{EndOfInput, ConsoleFault}
use Rattle.cpm_console.proofs.Events.{column_after-append, does-nothing, does-then, failed_put, put_by-puts, stops-after, stops-before}

-- an error that is given on to the caller
pub prints_on : (a b : Screen) (x : List ℕ) (r : Result ⊤ ConsoleError) (e : ConsoleError) → IsErrAnd r (λ f. f ≡ e) → Prints a b x (Err e) → Prints a b x r
prints_on a b x (Ok t) e same p = absurd same
prints_on a b x (Err f) e same p = subst (λ g. Prints a b x (Err g)) (sym same) p

pub prints-nothing : (a : Screen) → Prints a a [] (Ok tt)
prints-nothing a = does-nothing a

pub prints-then : (a b c : Screen) (x y : List ℕ) (r : Result ⊤ ConsoleError) → Prints a b x (Ok tt) → Prints b c y r → Prints a c (x ++ y) r
prints-then a b c x y (Ok done) first second = rw (map-append Put x y) (does-then a b c (map Put x) (map Put y) first second)
prints-then a b c x y (Err EndOfInput) first second = second
prints-then a b c x y (Err ConsoleFault) first second = rw (map-append Put x y) (stops-after a b c (map Put x) (map Put y) first second)

pub prints-before : (a b : Screen) (x y : List ℕ) (e : ConsoleError) → Prints a b x (Err e) → Prints a b (x ++ y) (Err e)
prints-before a b x y EndOfInput stopped = stopped
prints-before a b x y ConsoleFault stopped = rw (map-append Put x y) (stops-before a b (map Put x) (map Put y) stopped)

-- a put that failed, on a terminal whose column stays
pub prints-failed : (a b : Screen) (byte : ℕ) (e : ConsoleError) → PutsByte a.dialog b.dialog byte (Err e) → b.column ≡ a.column → Prints a b (byte ∷ []) (Err e)
prints-failed a b byte EndOfInput failed column = failed
prints-failed a b byte ConsoleFault failed column = failed_put a b byte failed.0 column failed.1

shown-append : (x : List ℕ) (column : ℕ) (y : List ℕ) → text_shown column (x ++ y) ≡ text_shown column x ++ text_shown (column_after column (text_shown column x)) y
shown-append [] column y = refl
shown-append (b ∷ x) column y =
    let bytes = expanded column b in
    let there = column_after column bytes in
    ap (λ z. bytes ++ z) (shown-append x there y)
    ∙ sym (append_assoc bytes (text_shown there x) _)
    ∙ ap (λ k. (bytes ++ text_shown there x) ++ text_shown k y) (sym (column_after-append bytes column (text_shown there x)))

pub shows-nothing : (a : Screen) → PutsText a a [] (Ok tt)
shows-nothing a = does-nothing a

pub shows-then : (a b c : Screen) (x y : List ℕ) (r : Result ⊤ ConsoleError) → PutsText a b x (Ok tt) → PutsText b c y r → PutsText a c (x ++ y) r
shows-then a b c x y r first second =
    let there : b.column ≡ column_after a.column (text_shown a.column x) = first.column ∙ ap (column_after a.column) (put_by-puts (text_shown a.column x)) in
    let next : Prints b c (text_shown (column_after a.column (text_shown a.column x)) y) r = rw (← there) second in
    rw (shown-append x a.column y) (prints-then a b c (text_shown a.column x) _ r first next)

pub shows-before : (a b : Screen) (x y : List ℕ) (e : ConsoleError) → PutsText a b x (Err e) → PutsText a b (x ++ y) (Err e)
shows-before a b x y e stopped = subst (λ bytes. Prints a b bytes (Err e)) (sym (shown-append x a.column y)) (prints-before a b (text_shown a.column x) _ e stopped)

-- one more blank
pub blanks-more : (a b c : Screen) (left rest : ℕ) (r : Result ⊤ ConsoleError) → left ≡ suc rest → Prints a b (0x20 ∷ []) (Ok tt) → Prints b c (replicate rest 0x20) r → Prints a c (replicate left 0x20) r
blanks-more a b c left rest r e first second = subst (λ n. Prints a c (replicate n 0x20) r) (sym e) (prints-then a b c (0x20 ∷ []) (replicate rest 0x20) r first second)

pub blanks-stopped : (a b : Screen) (left : ℕ) (e : ConsoleError) → 0 < left → Prints a b (0x20 ∷ []) (Err e) → Prints a b (replicate left 0x20) (Err e)
blanks-stopped a b zero e some stopped = absurd (omega arith)
blanks-stopped a b (suc rest) e some stopped = prints-before a b (0x20 ∷ []) (replicate rest 0x20) e stopped

pub no_blanks : (a : Screen) (left : ℕ) → left ≡ 0 → Prints a a (replicate left 0x20) (Ok tt)
no_blanks a left e = subst (λ n. Prints a a (replicate n 0x20) (Ok tt)) (sym e) (prints-nothing a)

-- an error that is given on to the caller
pub shows_on : (a b : Screen) (x : List ℕ) (r : Result ⊤ ConsoleError) (e : ConsoleError) → IsErrAnd r (λ f. f ≡ e) → PutsText a b x (Err e) → PutsText a b x r
shows_on a b x r e same p = prints_on a b (text_shown a.column x) r e same p

-- a text in two parts
pub shows_front : (a b c : Screen) (whole x y : List ℕ) (r : Result ⊤ ConsoleError) → whole ≡ x ++ y → PutsText a b x (Ok tt) → PutsText b c y r → PutsText a c whole r
shows_front a b c whole x y r e first second = subst (λ t. PutsText a c t r) (sym e) (shows-then a b c x y r first second)

pub shows_stopped : (a b : Screen) (whole x y : List ℕ) (e : ConsoleError) → whole ≡ x ++ y → PutsText a b x (Err e) → PutsText a b whole (Err e)
shows_stopped a b whole x y e parts stopped = subst (λ t. PutsText a b t (Err e)) (sym parts) (shows-before a b x y e stopped)

pub shows_none : (a : Screen) (text : List ℕ) → text ≡ [] → PutsText a a text (Ok tt)
shows_none a text e = subst (λ t. PutsText a a t (Ok tt)) (sym e) (shows-nothing a)

-- a text without its first byte
pub flat_map-more : (f : ℕ → List ℕ) (left rest : List ℕ) (byte : ℕ) → left ≡ byte ∷ rest → flat_map f left ≡ f byte ++ flat_map f rest
flat_map-more f left rest byte e = ap (flat_map f) e

pub copies-more : (text : List ℕ) (left rest : ℕ) → left ≡ suc rest → concat (replicate left text) ≡ text ++ concat (replicate rest text)
copies-more text left rest e = ap (λ n. concat (replicate n text)) e

pub bytes-more : (memory : ℕ → ℕ) (address left rest next : ℕ) → left ≡ suc rest → next ≡ (address + 1) % 65536 → bytes_from memory address left ≡ memory address ∷ bytes_from memory next rest
unfolding bytes_from
bytes-more memory address left rest next e f = ap (bytes_from memory address) e ∙ ap (λ a. memory address ∷ bytes_from memory a rest) (sym f)

pub no_bytes : (memory : ℕ → ℕ) (address left : ℕ) → left ≡ 0 → bytes_from memory address left ≡ []
unfolding bytes_from
no_bytes memory address left e = ap (bytes_from memory address) e

pub dollar-more : (text rest : List ℕ) (byte : ℕ) → text ≡ byte ∷ rest → byte ≢ 0x24 → before_dollar text ≡ byte ∷ before_dollar rest
dollar-more text rest byte e other = ap before_dollar e ∙ elim (eqb_tells byte 0x24) [ inl same ↦ absurd (other same.1) | inr apart ↦ ap (λ b. cond b [] (byte ∷ before_dollar rest)) apart.0 ]

pub at_dollar : (text rest : List ℕ) (byte : ℕ) → text ≡ byte ∷ rest → byte ≡ 0x24 → before_dollar text ≡ []
at_dollar text rest byte e same = ap before_dollar (e ∙ ap (λ b. b ∷ rest) same)
