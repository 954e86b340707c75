-- How the code finds what a word or an instruction is.
use Rattle.std.specs.Prelude.{ℕ, List, [], ◌∷◌, Result, codes}
use Rattle.asm_line.specs.Tokens.{Lexeme}
use Rattle.asm_spell.specs.declared.fault.StmtFault.{StmtFault}
use Rattle.asm_spell.specs.declared.directive.Directive.{Directive}
use Rattle.asm_spell.specs.declared.jump.Jump as jump
use Rattle.asm_spell.specs.Directives.{of_bytes, of_words, of_space, public, external, of_origin, end, of_nothing, nameless}
use Rattle.asm_spell.specs.Line.{Body, Jump, Short}

abbrev pub directs : Directive → List Lexeme → Result Body StmtFault
directs Directive.Bytes = of_bytes
directs Directive.Words = of_words
directs Directive.Space = of_space
directs Directive.Public = public
directs Directive.External = external
directs Directive.Origin = of_origin
directs Directive.End = end
directs Directive.Z80 = of_nothing
directs Directive.Equ = nameless

abbrev pub jumps : jump.Jump → List ℕ → Body
jumps (jump.TheVariants.Relaxable condition) name = Jump condition name
jumps (jump.TheVariants.Always branch) name = Short branch name

-- The directives by the length of their words, as the code looks them up.

abbrev pub Named : Type 0
Named = List (List ℕ × (List Lexeme → Result Body StmtFault))

abbrev pub of_two : Named
of_two = (codes "DB", of_bytes) ∷ (codes "DW", of_words) ∷ (codes "DS", of_space) ∷ []

abbrev pub of_three : Named
of_three = (codes "ORG", of_origin) ∷ (codes "END", end) ∷ (codes "EQU", nameless) ∷ []

abbrev pub of_four : Named
of_four = (codes "DEFB", of_bytes) ∷ (codes "DEFM", of_bytes) ∷ (codes "DEFW", of_words) ∷ (codes "DEFS", of_space) ∷ (codes ".Z80", of_nothing) ∷ []

abbrev pub of_more : Named
of_more = (codes "PUBLIC", public) ∷ (codes "GLOBAL", public) ∷ (codes "EXTRN", external) ∷ (codes "EXTERNAL", external) ∷ []
