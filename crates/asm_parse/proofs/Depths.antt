-- How deep the phrase is that has been read.
use Rattle.std.proofs.Common.{◌≡◌, ℕ, ◌+◌, max, Bool, true, false, List, [], ◌∷◌, if◌then◌else◌, nat_le, refl, sym, ap, ◌∙◌, arith}
use Rattle.asm_parse.specs.Grammar.{Phrase, Prefixed, Joined, prefix_level, infix_level, depth}
use Rattle.asm_parse.specs.Private.Parsing.{Frame, Inside, Under, RightOf, reduce}
use Rattle.asm_parse.specs.Private.Stacks.{opened, depth_around}

max_plus : (a b : ℕ) → max a b + 1 ≡ max (a + 1) (b + 1)
max_plus a b = omega arith

max_swap : (a b c : ℕ) → max (max a b) c ≡ max a (max b c)
max_swap a b c = omega arith

pub max_zero : (a : ℕ) → max a 0 ≡ a
max_zero a = omega arith

max_both : (a b c : ℕ) → max a (max b c) ≡ max (max a b) (max a c)
max_both a b c = omega arith

depth_max : (frames : List Frame) (x y : ℕ) → depth_around frames (max x y) ≡ max (depth_around frames x) (depth_around frames y)
depth_max [] x y = refl
depth_max (Inside ∷ frames) x y = ap (depth_around frames) (max_plus x y) ∙ depth_max frames (x + 1) (y + 1)
depth_max (Under p ∷ frames) x y = ap (depth_around frames) (max_plus x y) ∙ depth_max frames (x + 1) (y + 1)
depth_max (RightOf o a ∷ frames) x y = ap (depth_around frames) (max_both (depth a) x y) ∙ depth_max frames (max (depth a) x) (max (depth a) y)

-- With an operand one level deeper, the whole is as deep as before, or as deep as this operand makes it.
pub depth_more : (frames : List Frame) (d : ℕ) → depth_around frames (d + 1) ≡ max (depth_around frames d) (opened frames + (d + 1))
depth_more [] d = omega arith
depth_more (Inside ∷ frames) d =
    let sum : opened frames + ((d + 1) + 1) ≡ (opened frames + 1) + (d + 1) = omega arith in
    depth_more frames (d + 1) ∙ ap (max (depth_around frames (d + 1))) sum
depth_more (Under p ∷ frames) d =
    let sum : opened frames + ((d + 1) + 1) ≡ (opened frames + 1) + (d + 1) = omega arith in
    depth_more frames (d + 1) ∙ ap (max (depth_around frames (d + 1))) sum
depth_more (RightOf o a ∷ frames) d =
    depth_max frames (depth a) (d + 1) ∙ ap (max (depth_around frames (depth a))) (depth_more frames d)
    ∙ sym (max_swap (depth_around frames (depth a)) (depth_around frames d) (opened frames + (d + 1)))
    ∙ ap (λ m. max m (opened frames + (d + 1))) (sym (depth_max frames (depth a) d))

either : {A : Type 0} (P : A → Type 0) (b : Bool) (x y : A) → P x → P y → P (if b then x else y)
either P true x y p q = p
either P false x y p q = q

-- When operators take their operands, the depth of the whole stays the same.
pub depth_reduced : (level : ℕ) (frames : List Frame) (a : Phrase) → depth_around (reduce level frames a).0 (depth (reduce level frames a).1) ≡ depth_around frames (depth a)
depth_reduced level [] a = refl
depth_reduced level (Inside ∷ frames) a = refl
depth_reduced level (Under p ∷ frames) a =
    either (λ (at : List Frame × Phrase). depth_around at.0 (depth at.1) ≡ depth_around frames (depth a + 1)) (nat_le (prefix_level p) level) (reduce level frames (Prefixed p a)) (Under p ∷ frames, a)
    (depth_reduced level frames (Prefixed p a)) refl
depth_reduced level (RightOf o a ∷ frames) b =
    either (λ (at : List Frame × Phrase). depth_around at.0 (depth at.1) ≡ depth_around frames (max (depth a) (depth b))) (nat_le (infix_level o) level) (reduce level frames (Joined o a b)) (RightOf o a ∷ frames, b)
    (depth_reduced level frames (Joined o a b)) refl
