-- What an expander has given and what is still to come, by the stage that it keeps.
use Rattle.std.specs.Prelude.{◌≡◌, ℕ, List, [], Result, Ok, Err}
use Rattle.asm_macro.specs.declared.expander.Stage.{Stage}
use Rattle.asm_macro.specs.declared.expansion.Expansion.{Expansion}
use Rattle.asm_macro.specs.declared.fault.MacroFault.{MacroFault}
use Rattle.asm_macro.specs.Expands.{End, Stopped, IsExpansion}
use Rattle.asm_text.specs.Lines.{Numbered}
use Rattle.asm_macro.specs.Ahead.{Ahead, Before, Within, Over, Halted, Standing, Remains}
use Rattle.asm_macro.specs.Private.Moves.{IsSound, rest_of}

abbrev pub ahead : Stage → Ahead
ahead (Stage.Before text) = Before text.now
ahead (Stage.Within x) = Within (rest_of x)
ahead Stage.Over = Over
ahead (Stage.Halted number why) = Halted number why

abbrev pub standing : ℕ → List ℕ → Stage → Standing
standing number text stage = record { given = record { number = number; text = text }; ahead = ahead stage }

abbrev pub IsSoundStage : Stage → Type 0
IsSoundStage (Stage.Within x) = IsSound x
IsSoundStage stage = Unit {0}

-- The source is read.
abbrev pub IsBegun : Ahead → Type 0
IsBegun (Before text) = ⊥
IsBegun ahead = Unit {0}

abbrev pub IsStarted : Standing → Type 0
IsStarted s = IsBegun s.ahead

-- Reading the source changes nothing about what is to come, unless memory ran out.
abbrev pub Reads : List ℕ → Ahead → Type 0
Reads text (Halted number MacroFault.NoMemory) = Unit {0}
Reads text (Halted number why) = IsExpansion text [] (Stopped number why)
Reads text (Within rest) = (rest.state.count ≡ 0) × ((lines : List Numbered) (end : End) → Remains (Within rest) lines end → IsExpansion text lines end)
Reads text ahead = ⊥

abbrev pub Starts_from : Ahead → Standing → Standing → Type 0
Starts_from (Before text) old new = Reads text new.ahead
Starts_from ahead old new = new ≡ old

abbrev pub Starts : Standing → Standing → Type 0
Starts old new = Starts_from old.ahead old new

-- What reading a source answers.
abbrev pub Begins : List ℕ → Result Expansion MacroFault → Type 0
Begins text (Ok x) = IsSound x × (x.count ≡ 0) × ((lines : List Numbered) (end : End) → Remains (Within (rest_of x)) lines end → IsExpansion text lines end)
Begins text (Err MacroFault.NoMemory) = Unit {0}
Begins text (Err why) = IsExpansion text [] (Stopped 1 why)
