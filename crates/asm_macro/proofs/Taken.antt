-- What a line that is read leads to.
use Rattle.std.proofs.Common.{◌≡◌, ◌⊎◌, inl, inr, ◌<◌, sym, refl, subst, ℕ, false, nat_le, List, [], Option, Some, Result, Ok, Err}
use Rattle.std.proofs.lemmas.Bool.{lt-leb}
use Rattle.asm_macro.specs.declared.take.TheConstants.{MOST_NESTED}
use Rattle.asm_macro.specs.declared.fault.MacroFault.{MacroFault}
use Rattle.asm_text.specs.Lines.{Numbered}
use Rattle.asm_macro.specs.State.{State}
use Rattle.asm_text.specs.Sections.Blocks.{BlockBody, Branches}
use Rattle.asm_text.specs.Sections.Onward.{branch, turns}
use Rattle.asm_macro.specs.Parts.{conditional, onward_part, repeated}
use Rattle.asm_macro.specs.Ahead.{Around, Rest}
use Rattle.asm_macro.specs.Private.Stopped.{stopped}
use Rattle.asm_macro.specs.Private.Moves.{Fails, Moved, Resumes, moved}

stopped_fails : (n : ℕ) (why : MacroFault) (new : Rest) → Resumes (Err (stopped n why)) new (Fails [] n why)
stopped_fails n MacroFault.Unclosed new = refl
stopped_fails n MacroFault.Stray new = refl
stopped_fails n MacroFault.TooDeep new = refl
stopped_fails n MacroFault.TooManyLines new = refl
stopped_fails n MacroFault.Redefined new = refl
stopped_fails n MacroFault.ConditionNamesLabel new = refl
stopped_fails n MacroFault.LineTooLong new = refl
stopped_fails n (MacroFault.Scan why) new = refl
stopped_fails n (MacroFault.Expr why) new = refl
stopped_fails n MacroFault.NoMemory new = tt

-- a value that is answered is the value of the expression
pub value_is : (w : Result ℕ MacroFault) (n : ℕ) → (◌≡◌ {A = Result ℕ MacroFault} (Ok n) w) ⊎ (◌≡◌ {A = Result ℕ MacroFault} (Ok n) (Err MacroFault.NoMemory)) → w ≡ Ok n
value_is w n (inl e) = sym e
value_is w n (inr e) = absurd (cc)

-- if the expression has an error, expansion stops with that error
pub value_fails : (w : Result ℕ MacroFault) (n : ℕ) (why : MacroFault) (new : Rest) (move : Moved) → (◌≡◌ {A = Result ℕ MacroFault} (Err why) w) ⊎ (◌≡◌ {A = Result ℕ MacroFault} (Err why) (Err MacroFault.NoMemory))
    → (w ≡ Err why → move ≡ Fails [] n why) → Resumes (Err (stopped n why)) new move
value_fails w n why new move (inl e) f = subst (Resumes (Err (stopped n why)) new) (sym (f (sym e))) (stopped_fails n why new)
value_fails w n why new move (inr e) f = let none : why ≡ MacroFault.NoMemory = cc in rw none tt

pub conditional_ok : (depth : ℕ) (e : State) (l : Numbered) (found : Option Branches) (w : Result ℕ MacroFault) (b : Branches) (n : ℕ) → found ≡ Some b → w ≡ Ok n → conditional depth e l found w ≡ onward_part depth e (branch n b)
conditional_ok depth e l found w b n f v = rw (f, v) refl

pub conditional_err : (depth : ℕ) (around : List Around) (e : State) (l : Numbered) (found : Option Branches) (w : Result ℕ MacroFault) (b : Branches) (why : MacroFault) → found ≡ Some b → w ≡ Err why
    → moved depth around (conditional depth e l found w) ≡ Fails [] l.number why
conditional_err depth around e l found w b why f v = rw (f, v) refl

not_deep : (n : ℕ) → n < MOST_NESTED → nat_le MOST_NESTED n ≡ false
not_deep n h = lt-leb MOST_NESTED n h

pub repeated_ok : (depth : ℕ) (e : State) (l : Numbered) (found : Option BlockBody) (w : Result ℕ MacroFault) (b : BlockBody) (n : ℕ) → found ≡ Some b → w ≡ Ok n → depth < MOST_NESTED → repeated depth e l found w ≡ onward_part depth e (turns n l.number b)
repeated_ok depth e l found w b n f v h = rw (f, v, not_deep depth h) refl

pub repeated_err : (depth : ℕ) (around : List Around) (e : State) (l : Numbered) (found : Option BlockBody) (w : Result ℕ MacroFault) (b : BlockBody) (why : MacroFault) → found ≡ Some b → w ≡ Err why
    → moved depth around (repeated depth e l found w) ≡ Fails [] l.number why
repeated_err depth around e l found w b why f v = rw (f, v) refl
