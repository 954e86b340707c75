-- Where expansion continues at a block: what a line that closes a body does, how deep blocks nest, and how much they open.
use Rattle.std.proofs.Common.{◌≡◌, ◌<◌, ◌≤◌, ◌+◌, ◌∙◌, sym, ap, refl, ℕ, zero, suc, Bool, true, false, if◌then◌else◌, List, [], ◌∷◌, Option, Some, None, arith}
use Rattle.asm_macro.specs.declared.take.TheConstants.{MOST_NESTED}
use Rattle.asm_line.specs.Replacing.Replaced.{ReplacementTable}
use Rattle.asm_text.specs.Lines.{Numbered, form_of}
use Rattle.asm_text.specs.Roles.{is_alone}
use Rattle.asm_text.specs.Spans.{text_of}
use Rattle.asm_text.specs.declared.following.Following.{Following}
use Rattle.asm_text.specs.Sections.Blocks.{Branches, Section}
use Rattle.asm_text.specs.Sections.Onward as onward
use Rattle.asm_text.specs.Sections.Onward.{Next, Rest, BehindFirst, BehindSecond, Turns, Onward, On, Stray, Into, behind, branch, stray, stray_in, stray_or}
use Rattle.asm_text.specs.Sections.Sections.{branches_seen, section_of}
use Rattle.asm_text.specs.Sections.Views.{behind_other, next_of}
use Rattle.asm_macro.specs.declared.fault.MacroFault.{MacroFault}
use Rattle.asm_macro.specs.State.{State}
use Rattle.asm_macro.specs.Parts.{ExpansionPart, Stop, closing, fails}
use Rattle.asm_macro.specs.Private.Going.{Fits, texts_opened, turn_in, turns_opened}

-- a part, unless the line with this number is misplaced
abbrev barred : Option ℕ → ExpansionPart → ExpansionPart
barred None p = p
barred (Some number) p = Stop [] number MacroFault.Stray

closing_by : (b : Bool) (l : Numbered) (p : ExpansionPart) → (if b then p else fails l MacroFault.Stray) ≡ barred (if b then None else Some l.number) p
closing_by true l p = refl
closing_by false l p = refl

closing_is : (l : Numbered) (p : ExpansionPart) → closing l p ≡ barred (stray l) p
closing_is l p = closing_by (is_alone (form_of l.text)) l p

pub closing_none : (l : Numbered) (s : Option ℕ) → s ≡ stray l → s ≡ None → (p : ExpansionPart) → closing l p ≡ p
closing_none l s is none p = closing_is l p ∙ ap (λ o. barred o p) (sym is ∙ none)

pub closing_some : (l : Numbered) (s : Option ℕ) (number : ℕ) → s ≡ stray l → s ≡ Some number → (p : ExpansionPart) → closing l p ≡ Stop [] number MacroFault.Stray
closing_some l s number is some p = closing_is l p ∙ ap (λ o. barred o p) (sym is ∙ some)

-- Where expansion continues at a block, nesting stays within the limit.

fits_unless : (many : ℕ) (s : Option ℕ) (o : Onward) → Fits many o → Fits many (stray_or s o)
fits_unless many None o fits = fits
fits_unless many (Some number) o fits = tt

fits_second : (many : ℕ) (others : List Section) (after : List Numbered) → Fits many (onward.second_of others after)
fits_second many [] after = tt
fits_second many (t ∷ more) after = tt

pub fits_branch : (many n : ℕ) (b : Branches) → Fits many (branch n b)
fits_branch many zero b = fits_unless many (stray b.first.end) (onward.second_of b.others b.after) (fits_second many b.others b.after)
fits_branch many (suc n) b = tt

fits_other : (many : ℕ) (others : List Section) (after : List Numbered) → Fits many (behind (behind_other others after))
fits_other many [] after = tt
fits_other many (t ∷ more) after = fits_unless many (stray_in (t ∷ more)) (On after) tt

pub fits_behind : (many : ℕ) (texts : List (List ℕ)) (names : Option ReplacementTable) (f : Following) → many + turn_in f ≤ MOST_NESTED → Fits many (behind (next_of texts names f))
fits_behind many texts names (Following.Rest s) h = tt
fits_behind many texts names (Following.BehindFirst c) h =
    let b = branches_seen texts names c in fits_unless many (stray b.first.end) (stray_or (stray_in b.others) (On b.after)) (fits_unless many (stray_in b.others) (On b.after) tt)
fits_behind many texts names (Following.BehindSecond c) h = let b = branches_seen texts names c in fits_other many b.others b.after
fits_behind many texts names (Following.Turns zero number body) h = fits_unless many (stray (section_of texts names body.stretch).end) (On (text_of texts names body.after)) tt
fits_behind many texts names (Following.Turns (suc n) number body) h = let less : many < MOST_NESTED = omega (arith, h) in less

-- How many spans of lines and how many repetitions begin at a block.

same_unless : (s : Option ℕ) (o : Onward) → texts_opened o ≡ turns_opened o → texts_opened (stray_or s o) ≡ turns_opened (stray_or s o)
same_unless None o same = same
same_unless (Some number) o same = refl

pub behind_opens : (next : Next) → texts_opened (behind next) ≡ turns_opened (behind next)
behind_opens (Rest text) = refl
behind_opens (BehindFirst b) = same_unless (stray b.first.end) (stray_or (stray_in b.others) (On b.after)) (same_unless (stray_in b.others) (On b.after) refl)
behind_opens (BehindSecond t more after) = same_unless (stray_in (t ∷ more)) (On after) refl
behind_opens (Turns zero number body) = same_unless (stray body.section.end) (On body.after) refl
behind_opens (Turns (suc n) number body) = refl

none_unless : (s : Option ℕ) (o : Onward) → turns_opened o ≡ 0 → turns_opened (stray_or s o) ≡ 0
none_unless None o none = none
none_unless (Some number) o none = refl

none_second : (others : List Section) (after : List Numbered) → turns_opened (onward.second_of others after) ≡ 0
none_second [] after = refl
none_second (t ∷ more) after = refl

pub branch_opens : (n : ℕ) (b : Branches) → turns_opened (branch n b) ≡ 0
branch_opens zero b = none_unless (stray b.first.end) (onward.second_of b.others b.after) (none_second b.others b.after)
branch_opens (suc n) b = refl

pub one_text : (o : Onward) → texts_opened o ≤ 1
one_text (Stray number) = omega arith
one_text (On text) = omega arith
one_text (Into text next) = omega arith
