-- Where blocks end, given the roles of the lines.
-- In words: docs/LANGUAGE.md, section 'REPT and IF'.
use Rattle.std.specs.Prelude.{ℕ, zero, suc, ◌-◌, List, [], ◌∷◌, Option, Some, None, take, drop}
use Rattle.std.specs.Option.{option_map}
use Rattle.asm_text.specs.declared.matching.Role.{Role}

-- How many of these lines come before the ENDM that closes a body, given how many bodies are open within it; None if no ENDM closes
-- it. IFs do not matter here.
abbrev pub body_length : ℕ → List Role → Option ℕ
body_length inner [] = None
body_length inner (Role.OpensBody ∷ roles) = option_map suc (body_length (suc inner) roles)
body_length zero (Role.EndBody ∷ roles) = Some 0
body_length (suc inner) (Role.EndBody ∷ roles) = option_map suc (body_length inner roles)
body_length inner (_ ∷ roles) = option_map suc (body_length inner roles)

-- How many lines each branch of an IF has: the first, and each that follows an ELSE.
abbrev pub Lengths : Type 0
Lengths = ℕ × List ℕ

-- the first branch has one line more
abbrev pub longer : Lengths → Lengths
longer lengths = (suc lengths.0, lengths.1)

-- an empty branch comes before these
abbrev pub divided : Lengths → Lengths
divided lengths = (0, lengths.0 ∷ lengths.1)

-- The branches of an IF, among the lines after it: the first ends at an ELSE or the ENDIF, and each other follows an ELSE. None if
-- no ENDIF closes the IF. The numbers say how many bodies are open within the IF, and how many IFs outside of those bodies. A
-- branch contains whole bodies up to their ENDM, and whole IFs up to their ENDIF. The last clause is for every other line, which
-- makes its branch one line longer: a line without a word of blocks, an ENDM that closes nothing, an ELSE of an inner IF, and within
-- a body also IF, ELSE and ENDIF.
abbrev pub branch_lengths : ℕ → ℕ → List Role → Option Lengths
branch_lengths bodies ifs [] = None
branch_lengths bodies ifs (Role.OpensBody ∷ roles) = option_map longer (branch_lengths (suc bodies) ifs roles)
branch_lengths (suc bodies) ifs (Role.EndBody ∷ roles) = option_map longer (branch_lengths bodies ifs roles)
branch_lengths zero ifs (Role.OpensIf ∷ roles) = option_map longer (branch_lengths zero (suc ifs) roles)
branch_lengths zero zero (Role.Else ∷ roles) = option_map divided (branch_lengths zero zero roles)
branch_lengths zero zero (Role.EndIf ∷ roles) = Some (0, [])
branch_lengths zero (suc ifs) (Role.EndIf ∷ roles) = option_map longer (branch_lengths zero ifs roles)
branch_lengths bodies ifs (_ ∷ roles) = option_map longer (branch_lengths bodies ifs roles)

-- the roles of the lines from number `from` to the one before `to`, counted from 0
abbrev pub between : ℕ → ℕ → List Role → List Role
between from to roles = take (to - from) (drop from roles)
