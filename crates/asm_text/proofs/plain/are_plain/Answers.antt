use Rattle.std.proofs.Common.{◌≡◌, ◌<◌, ◌+◌, ◌∙◌, ◌&&◌, not, ap, sym, refl, true, false, Bool, ℕ, List, [], ◌∷◌, Vec, drop, get_or, length}
use Rattle.std.specs.Global.{Global}
use Rattle.std.proofs.lemmas.List.{drop_all, drop_more}
use Rattle.asm_line.specs.Replacing.Views.{texts}
use Rattle.asm_text.specs.declared.signs.Sign.{Sign}
use Rattle.asm_text.specs.Plain.{are_plain, is_plain}
use Rattle.asm_text.specs.Signs.{has_sign}
use Rattle.asm_text.proofs.plain.are_plain.Goals as goal

-- All arguments from `at` on are plain if the one at `at` and those after it are.
next : (s : Sign) (ps qs : List (Vec ℕ Global)) (at : ℕ) (q : Vec ℕ Global) (plain : Bool) → at < length ps → at < length qs → q ≡ get_or qs at q → is_plain s q.items ≡ plain
    → are_plain s (texts (drop at ps)) (texts (drop at qs)) ≡ (plain && are_plain s (texts (drop (at + 1) ps)) (texts (drop (at + 1) qs)))
next s ps qs at q plain left right is_q is =
    let first = drop_more ps at q left in
    let second = drop_more qs at q right ∙ ap (λ x. x ∷ drop (at + 1) qs) (sym is_q) in
    ap (λ l. are_plain s (texts l) (texts (drop at qs))) first
    ∙ ap (λ r. are_plain s (texts (get_or ps at q ∷ drop (at + 1) ps)) (texts r)) second
    ∙ ap (λ b. b && are_plain s (texts (drop (at + 1) ps)) (texts (drop (at + 1) qs))) is

none_given : (s : Sign) (parameters : List (List ℕ)) → are_plain s parameters [] ≡ true
none_given s [] = refl
none_given s (p ∷ ps) = refl

pub returns-then-has_sign : goal.returns-then-has_sign
returns-then-has_sign c =
    let q = c.index-arguments-at.result in
    let signed = ap (has_sign c.args.sign) (sym c.deref.ensures.value) ∙ sym c.has_sign.ensures ∙ c.if-has_sign.true in
    sym (c.loop-at.invariant ∙ next c.args.sign c.args.parameters.now c.args.arguments.now c.loop-at.at q false c.loop-at-test.true c.if-at-arguments.true c.index-arguments-at.is (ap not signed))

pub loop-at-preserved : goal.loop-at-preserved
loop-at-preserved c =
    let q = c.index-arguments-at.result in
    let signed = ap (has_sign c.args.sign) (sym c.deref.ensures.value) ∙ sym c.has_sign.ensures ∙ c.if-has_sign.false in
    c.loop-at.invariant ∙ next c.args.sign c.args.parameters.now c.args.arguments.now c.loop-at.at q true c.loop-at-test.true c.if-at-arguments.true c.index-arguments-at.is (ap not signed)

pub returns-else-at-arguments : goal.returns-else-at-arguments
returns-else-at-arguments c =
    let left = texts (drop c.loop-at.at c.args.parameters.now) in
    sym (c.loop-at.invariant ∙ ap (λ r. are_plain c.args.sign left (texts r)) (drop_all c.loop-at.at c.args.arguments.now c.if-at-arguments.false) ∙ none_given c.args.sign left)
