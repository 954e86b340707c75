-- A source has at most one expansion.
use Rattle.std.proofs.Common.{◌≡◌, ◌∙◌, ap, subst, refl, ℕ, List, [], ◌∷◌, ◌++◌, arith}
use Rattle.asm_text.specs.Lines.{Numbered}
use Rattle.asm_macro.specs.State.{State}
use Rattle.asm_text.specs.Sections.Onward.{Next}
use Rattle.asm_macro.specs.Parts.{ExpansionPart, Stop, Last, Go, Within, line_part, resumed}
use Rattle.asm_macro.specs.Expands.{End, Whole, Ended, Stopped, Expands, nothing, line, Comes, stop, last, go, within, Follows, whole, ended, stopped, IsExpansion, long, short}

abbrev pub AreSame : List Numbered → End → List Numbered → End → Type 0
AreSame lines end more other = (lines ≡ more) × (end ≡ other)

mutual
  one_expands : (d : ℕ) (e : State) (text lines more : List Numbered) (end other : End) → Expands d e text lines end → Expands d e text more other → AreSame lines end more other
  one_expands d e [] _ _ _ _ nothing nothing = (refl, refl)
  one_expands d e (l ∷ rest) lines more end other (line a) (line b) = one_comes d (line_part d e l rest) lines more end other a b

  one_comes : (d : ℕ) (p : ExpansionPart) (lines more : List Numbered) (end other : End) → Comes d p lines end → Comes d p more other → AreSame lines end more other
  one_comes d (Stop given n why) _ _ _ _ stop stop = (refl, refl)
  one_comes d (Last l) _ _ _ _ last last = (refl, refl)
  one_comes d (Go given e rest) _ _ end other (go lines a) (go more b) =
      let same = one_expands d e rest lines more end other a b in (ap (λ x. given ++ x) same.0, same.1)
  one_comes d (Within given e inner text next) _ _ end other (within lines after middle a f) (within more later between b g) =
      let same = one_expands inner e text lines more middle between a b in
      let rest = one_follows d middle between next after later end other same.1 f g in
      (ap (λ x. (given ++ x) ++ after) same.0 ∙ ap (λ x. (given ++ more) ++ x) rest.0, rest.1)

  one_follows : (d : ℕ) (middle between : End) (next : Next) (lines more : List Numbered) (end other : End) → middle ≡ between → Follows d middle next lines end → Follows d between next more other → AreSame lines end more other
  one_follows d (Whole e) (Whole e2) next lines more end other same (whole a) (whole b) =
      let leaves : e ≡ e2 = cc in one_comes d (resumed d next e2) lines more end other (subst (λ x. Comes d (resumed d next x) lines end) leaves a) b
  one_follows d Ended Ended next _ _ _ _ same ended ended = (refl, refl)
  one_follows d (Stopped n why) (Stopped m because) next _ _ _ _ same stopped stopped = (refl, same)
  one_follows d (Whole e) Ended next lines more end other same a b = absurd (cc)
  one_follows d (Whole e) (Stopped m because) next lines more end other same a b = absurd (cc)
  one_follows d Ended (Whole e) next lines more end other same a b = absurd (cc)
  one_follows d Ended (Stopped m because) next lines more end other same a b = absurd (cc)
  one_follows d (Stopped n why) (Whole e) next lines more end other same a b = absurd (cc)
  one_follows d (Stopped n why) Ended next lines more end other same a b = absurd (cc)

pub one_expansion : (text : List ℕ) (lines more : List Numbered) (end other : End) → IsExpansion text lines end → IsExpansion text more other → AreSame lines end more other
one_expansion text _ _ _ _ (long h) (long k) = (refl, refl)
one_expansion text _ _ _ _ (long h) (short k b) = absurd (omega arith)
one_expansion text _ _ _ _ (short h a) (long k) = absurd (omega arith)
one_expansion text lines more end other (short h a) (short k b) = one_expands _ _ _ lines more end other a b
