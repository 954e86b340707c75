-- Where expansion continues when a block opens, or when some lines have been expanded.
use Rattle.std.specs.Prelude.{ℕ, zero, suc, List, [], ◌∷◌, Option, Some, None, if◌then◌else◌, map}
use Rattle.asm_text.specs.Lines.{Numbered, form_of}
use Rattle.asm_text.specs.Roles.{is_alone}
use Rattle.asm_text.specs.Sections.Blocks.{Section, BlockBody, Branches}

-- What follows some lines once they have been expanded: the rest of the lines around them; the rest of an IF after its first
-- branch, or after its second; or further repetitions of a REPT, by their count, the number that its lines bear, and its body.
pub data Next : Type 0 where
  Rest : List Numbered → Next
  BehindFirst : Branches → Next
  BehindSecond : Section → List Section → List Numbered → Next
  Turns : ℕ → ℕ → BlockBody → Next

-- Where expansion continues: nowhere, since the line with this number is misplaced; with these lines; or with the lines of a body
-- or branch, and then with what follows them.
pub data Onward : Type 0 where
  Stray : ℕ → Onward
  On : List Numbered → Onward
  Into : List Numbered → Next → Onward

-- the number of a line that closes or divides a block, if the line has something else in it and so is misplaced
abbrev pub stray : Numbered → Option ℕ
stray l = if is_alone (form_of l.text) then None else Some l.number

-- the number of the first misplaced line among those that end the branches after the first one: a second ELSE, or a line with
-- something else in it
abbrev pub stray_in : List Section → Option ℕ
stray_in [] = None
stray_in (t ∷ []) = stray t.end
stray_in (t ∷ _) = Some t.end.number

-- where expansion continues, unless there is the number of a misplaced line
abbrev pub stray_or : Option ℕ → Onward → Onward
stray_or None onward = onward
stray_or (Some number) onward = Stray number

-- the lines with another number: that of their outermost call or REPT
abbrev pub renumbered : ℕ → List Numbered → List Numbered
renumbered n lines = map (λ (l : Numbered). record l { number = n }) lines

-- the body of a REPT, repeated this many times more
abbrev pub turns : ℕ → ℕ → BlockBody → Onward
turns zero number body = stray_or (stray body.section.end) (On body.after)
turns (suc n) number body = Into (renumbered number body.section.lines) (Turns n number body)

-- where expansion continues once some lines have been expanded, given what follows them
abbrev pub behind : Next → Onward
behind (Rest text) = On text
behind (BehindFirst b) = stray_or (stray b.first.end) (stray_or (stray_in b.others) (On b.after))
behind (BehindSecond t more after) = stray_or (stray_in (t ∷ more)) (On after)
behind (Turns n number body) = turns n number body

-- the second branch of an IF, or the lines after the IF if there is none
abbrev pub second_of : List Section → List Numbered → Onward
second_of [] after = On after
second_of (t ∷ more) after = Into t.lines (BehindSecond t more after)

-- where expansion continues at an IF, given the value of its expression: 0 chooses the second branch
abbrev pub branch : ℕ → Branches → Onward
branch (suc n) b = Into b.first.lines (BehindFirst b)
branch zero b = stray_or (stray b.first.end) (second_of b.others b.after)
