-- What shared files may hold, and what is wrong with a front by itself.
use Rattle.std.specs.Prelude.{◌≡◌, ◌≢◌, ℕ, ◌-◌, ◌&&◌, not, Bool, true, false, List, [], ◌∷◌, Option, Some, None, Result, Ok, Err, find, length, nat_lt}
use Rattle.std.specs.Option.{MatchOption, option_map}
use Rattle.asm_macro.specs.Expands.{IsExpanded}
use Rattle.asm_macro.specs.declared.fault.MacroFault.{MacroFault}
use Rattle.asm_module.specs.Assembled.{Assembled, Assembles, HasCause}
use Rattle.asm_module.specs.Reads.Read.{taken}
use Rattle.asm_names.specs.Lines.{Taken}
use Rattle.asm_spell.specs.Line as line
use Rattle.asm_spell.specs.Line.{Line}
use Rattle.asm_text.specs.Lines.{Numbered}
use Rattle.zlink.specs.Types.{AsmFault}
use Rattle.report_texts.specs.Faults.Refusals.{program_refusal_text}
use Rattle.report_texts.specs.Front.{front_text, line_in, own_fault_text}
use Rattle.report_texts.specs.declared.faults.refusal.Refusal.TheVariants as refusal
use Rattle.report_texts.specs.declared.front.Front.{Front}

-- A line that a shared file may hold: EQU, EXTRN without a label, or nothing. (Macros, calls, repetitions and conditions are no longer there:
-- this is a line of the expansion.)
abbrev pub is_shared : Line → Bool
is_shared (line.Equ name value) = true
is_shared (line.Statement None None) = true
is_shared (line.Statement None (Some (line.External names))) = true
is_shared _ = false

-- whether a line comes after the lines of words, and is not one that a shared file may hold
abbrev pub is_unshared : ℕ → Taken → Bool
is_unshared words l = nat_lt words l.number && not (is_shared l.line)

abbrev pub first_unshared : ℕ → List Taken → Option ℕ
first_unshared words lines = option_map (λ l. l.number) (find (is_unshared words) lines)

-- The first such line of an expansion. If the expansion stops, that is reported instead.
abbrev pub unshared_in : Front → Result (List Numbered) (ℕ × MacroFault) → Option ℕ
unshared_in front (Ok lines) = first_unshared (length front.defines.now) (taken lines)
unshared_in front (Err stop) = None

-- the text of the error that a line of a shared file is not one that it may hold
abbrev pub unshared_at : List ℕ × ℕ → List ℕ
unshared_at (path, line) = program_refusal_text path (refusal.NotShared line)

abbrev pub unshared_text : Front → ℕ → List ℕ
unshared_text front line = unshared_at (line_in front.files.now [] (line - length front.defines.now))

abbrev pub first_front_fault : Front → Result Assembled AsmFault → Option (List ℕ)
first_front_fault front (Ok whole) = None
first_front_fault front (Err fault) = Some (own_fault_text front fault)

-- The expansion has this answer, which has a cause in the source.
abbrev pub HasExpansion : List ℕ → Result (List Numbered) (ℕ × MacroFault) → Type 0
HasExpansion text (Ok lines) = IsExpanded text (Ok lines)
HasExpansion text (Err (number, why)) = (why ≢ MacroFault.NoMemory) × IsExpanded text (Err (number, why))

-- The first of its lines that a shared file may not hold; otherwise the first error of the front, assembled by itself.
abbrev pub IsOwnFault : Front → Option ℕ → List ℕ → Option (List ℕ) → Type 0
IsOwnFault front (Some line) text said = said ≡ Some (unshared_text front line)
IsOwnFault front None text said = (whole : Result Assembled AsmFault) × HasCause whole × Assembles [] text false whole × (said ≡ first_front_fault front whole)

abbrev pub IsFaultOfText : Front → List ℕ → Option (List ℕ) → Type 0
IsFaultOfText front [] said = said ≡ None
IsFaultOfText front (byte ∷ more) said =
    (expanded : Result (List Numbered) (ℕ × MacroFault)) × HasExpansion (byte ∷ more) expanded × IsOwnFault front (unshared_in front expanded) (byte ∷ more) said

-- The error that the front has by itself, before any source is assembled. A front without text has none.
abbrev pub IsFaultOfFront : Front → Option (List ℕ) → Type 0
IsFaultOfFront front said = IsFaultOfText front (front_text front) said

-- If something is wrong with the front, Refused holds of its text, and otherwise Goes_on holds.
abbrev pub UnlessFaulty : Front → (List ℕ → Type 0) → Type 0 → Type 0
UnlessFaulty front Refused Goes_on = (said : Option (List ℕ)) × IsFaultOfFront front said × MatchOption said Goes_on Refused
