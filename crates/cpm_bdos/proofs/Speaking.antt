-- A byte is taken, and the console fails on it or on its echo.
use Rattle.std.proofs.Common.{◌≡◌, ℕ, true, List, [], ◌∷◌, map, Ok, Err, refl, ap, subst, sym, arith}
use Rattle.cpm_console.specs.Calls.{Gets}
use Rattle.cpm_console.specs.Dialog.{Put, Took}
use Rattle.cpm_console.specs.Screen.{Does, Screen, Stops}
use Rattle.cpm_console.specs.Text.{PutsText, text_shown}
use Rattle.cpm_console.specs.declared.error.ConsoleError.{ConsoleError}
use Rattle.cpm_console.specs.declared.error.ConsoleError.TheVariants.{ConsoleFault, EndOfInput}
use Rattle.cpm_console.proofs.Events.{stops-after}
use Rattle.cpm_bdos.specs.Console.Raw.{console_stop}
use Rattle.cpm_bdos.specs.Console.Texts.{Speaks, is_echoed, taken_from, taken_talk, text_talk}

-- no byte was taken
pub not_taken : (old new : Screen) (error : ConsoleError) → Gets old.dialog new.dialog (Err error) → new.column ≡ old.column → Speaks old new (taken_talk old) (Err (console_stop error))
not_taken old new EndOfInput gets column = (
  ap (λ i. (taken_from old.column i).ending) gets.0,
  subst (λ i. Does old new (taken_from old.column i).events) (sym gets.0) (record { passed = gets.1.passed; unfailed = gets.1.unfailed; column = column }),
)
not_taken old new ConsoleFault gets column =
    record { done = []; failed = []; rest = (taken_talk old).events; front = refl; one = omega arith; passed = gets.1; column = column; fault = gets.0 }

-- a byte was taken, and not all of its echo was put
pub not_echoed : (old mid new : Screen) (byte : ℕ) (error : ConsoleError) → Gets old.dialog mid.dialog (Ok byte) → mid.column ≡ old.column → is_echoed byte ≡ true
    → PutsText mid new (byte ∷ []) (Err error) → Speaks old new (taken_talk old) (Err (console_stop error))
not_echoed old mid new byte EndOfInput gets column echoed stopped = absurd stopped
not_echoed old mid new byte ConsoleFault gets column echoed stopped =
    let taken : Does old mid (Took byte ∷ []) = record { passed = gets.passed; unfailed = gets.unfailed; column = column } in
    let rest : Stops mid new (map Put (text_shown old.column (byte ∷ []))) = subst (λ k. Stops mid new (map Put (text_shown k (byte ∷ [])))) column stopped in
    let all : Stops old new (Took byte ∷ map Put (text_shown old.column (byte ∷ []))) = stops-after old mid new (Took byte ∷ []) _ taken rest in
    subst (λ i. Stops old new (taken_from old.column i).events) (sym gets.passed.input) (rw echoed all)

-- not all of a text was put
pub not_put : (old new : Screen) (text : List ℕ) (error : ConsoleError) → PutsText old new text (Err error) → Speaks old new (text_talk old text) (Err (console_stop error))
not_put old new text EndOfInput stopped = absurd stopped
not_put old new text ConsoleFault stopped = stopped
