-- What follows a branch of an IF, and the lines of one repetition.
use Rattle.std.proofs.Common.{◌≡◌, ◌<◌, ◌+◌, ◌-◌, ap, refl, ℕ, zero, suc, arith, List, [], ◌∷◌, ◌++◌, Option, Some, take, drop}
use Rattle.asm_line.specs.Replacing.Replaced.{ReplacementTable}
use Rattle.asm_text.specs.declared.span.Span.{Span}
use Rattle.asm_text.specs.Lines.{Numbered}
use Rattle.asm_text.specs.Spans.{lines_from, text_of}
use Rattle.asm_text.specs.Sections.Blocks.{BlockBody, Section}
use Rattle.asm_text.specs.Sections.Onward.{Into, On, Turns, behind, renumbered, stray_in, turns, stray_or}
use Rattle.asm_text.specs.Sections.Views.{behind_other}

-- What follows the second branch is misplaced exactly if the branches after the first are.
pub behind_passed : (others : List Section) (after : List Numbered) → behind (behind_other others after) ≡ stray_or (stray_in others) (On after)
behind_passed [] after = refl
behind_passed (t ∷ more) after = refl

renumbered-from : (n : ℕ) (number : Option ℕ) (at : ℕ) (names : Option ReplacementTable) (texts : List (List ℕ)) → renumbered n (lines_from number at names texts) ≡ lines_from (Some n) at names texts
renumbered-from n number at names [] = refl
renumbered-from n number at names (t ∷ ts) = ap (λ ls. lines_from (Some n) at names (t ∷ []) ++ ls) (renumbered-from n number (at + 1) names ts)

pub renumbered-text : (n : ℕ) (texts : List (List ℕ)) (names : Option ReplacementTable) (s : Span) → renumbered n (text_of texts names s) ≡ text_of texts names (record s { number = Some n })
renumbered-text n texts names s = renumbered-from n s.number s.at names (take (s.end - s.at) (drop s.at texts))

-- one repetition more of a body
pub turns_more : (left number : ℕ) (body : BlockBody) → 0 < left → turns left number body ≡ Into (renumbered number body.section.lines) (Turns (left - 1) number body)
turns_more zero number body h = absurd (omega (arith, h))
turns_more (suc n) number body h = let less : n ≡ suc n - 1 = omega arith in ap (λ j. Into (renumbered number body.section.lines) (Turns j number body)) less
