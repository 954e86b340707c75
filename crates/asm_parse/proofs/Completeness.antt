-- The code reads each expression of the grammar.
use Rattle.std.proofs.Common.{◌≡◌, ◌⊎◌, inl, inr, ◌≤◌, ◌<◌, ℕ, List, [], ◌∷◌, ◌++◌, Some, None, if◌then◌else◌, refl, sym, ap, ◌∙◌, arith, append_assoc, append-nil}
use Rattle.std.proofs.lemmas.Bool.{le-leb, lt-leb}
use Rattle.asm_parse.specs.declared.operator.Unary.{Unary}
use Rattle.asm_parse.specs.declared.operator.Binary.{Binary}
use Rattle.asm_parse.specs.declared.sign.Sign.{Sign}
use Rattle.asm_parse.specs.declared.sign.Prefix.{Prefix}
use Rattle.asm_parse.specs.Expression.{and_then}
use Rattle.asm_parse.specs.Grammar.{GrammarSymbol, Marked, Phrase, Single, Enclosed, Prefixed, Joined, prefix_level, infix_level, looseness, IsGrouped, prefix_sign, infix_sign, spelling, SpellsPhrase}
use Rattle.asm_parse.specs.Private.Parsing.{Frame, Inside, Under, RightOf, State, room, reduce, under_prefix, right_of, enclosed, sign_before, sign_behind, ended, reading, start}

-- No infix operator has the level of a prefix operator, and all levels are at most 7.
pub infix_two : (o : Binary) → 2 ≤ infix_level o
infix_two Binary.Add = omega arith
infix_two Binary.Subtract = omega arith
infix_two Binary.Multiply = omega arith
infix_two Binary.Divide = omega arith
infix_two Binary.Modulo = omega arith
infix_two Binary.ShiftLeft = omega arith
infix_two Binary.ShiftRight = omega arith
infix_two Binary.And = omega arith
infix_two Binary.Or = omega arith
infix_two Binary.Xor = omega arith
infix_two Binary.Equal = omega arith
infix_two Binary.NotEqual = omega arith
infix_two Binary.Less = omega arith
infix_two Binary.LessOrEqual = omega arith
infix_two Binary.Greater = omega arith
infix_two Binary.GreaterOrEqual = omega arith

infix_five : (o : Binary) → (infix_level o ≤ 4) ⊎ (6 ≤ infix_level o)
infix_five Binary.Add = inl (omega arith)
infix_five Binary.Subtract = inl (omega arith)
infix_five Binary.Multiply = inl (omega arith)
infix_five Binary.Divide = inl (omega arith)
infix_five Binary.Modulo = inl (omega arith)
infix_five Binary.ShiftLeft = inl (omega arith)
infix_five Binary.ShiftRight = inl (omega arith)
infix_five Binary.And = inr (omega arith)
infix_five Binary.Or = inr (omega arith)
infix_five Binary.Xor = inr (omega arith)
infix_five Binary.Equal = inl (omega arith)
infix_five Binary.NotEqual = inl (omega arith)
infix_five Binary.Less = inl (omega arith)
infix_five Binary.LessOrEqual = inl (omega arith)
infix_five Binary.Greater = inl (omega arith)
infix_five Binary.GreaterOrEqual = inl (omega arith)

pub infix_seven : (o : Binary) → infix_level o ≤ 7
infix_seven Binary.Add = omega arith
infix_seven Binary.Subtract = omega arith
infix_seven Binary.Multiply = omega arith
infix_seven Binary.Divide = omega arith
infix_seven Binary.Modulo = omega arith
infix_seven Binary.ShiftLeft = omega arith
infix_seven Binary.ShiftRight = omega arith
infix_seven Binary.And = omega arith
infix_seven Binary.Or = omega arith
infix_seven Binary.Xor = omega arith
infix_seven Binary.Equal = omega arith
infix_seven Binary.NotEqual = omega arith
infix_seven Binary.Less = omega arith
infix_seven Binary.LessOrEqual = omega arith
infix_seven Binary.Greater = omega arith
infix_seven Binary.GreaterOrEqual = omega arith

pub prefix_seven : (p : Prefix) → prefix_level p ≤ 7
prefix_seven Prefix.Plus = omega arith
prefix_seven (Prefix.Operator Unary.Negate) = omega arith
prefix_seven (Prefix.Operator Unary.High) = omega arith
prefix_seven (Prefix.Operator Unary.Low) = omega arith
prefix_seven (Prefix.Operator Unary.Not) = omega arith

apart : (o : Binary) (p : Prefix) → infix_level o ≤ prefix_level p → infix_level o < prefix_level p
apart o Prefix.Plus h = absurd (omega (arith, h, infix_two o))
apart o (Prefix.Operator Unary.Negate) h = absurd (omega (arith, h, infix_two o))
apart o (Prefix.Operator Unary.High) h = absurd (omega (arith, h, infix_two o))
apart o (Prefix.Operator Unary.Low) h = absurd (omega (arith, h, infix_two o))
apart o (Prefix.Operator Unary.Not) h = elim (infix_five o) [ inl below ↦ omega arith | inr above ↦ absurd (omega arith) ]

pub loose_seven : (a : Phrase) → looseness a ≤ 7
loose_seven (Single t) = omega arith
loose_seven (Enclosed a) = omega arith
loose_seven (Prefixed p a) = prefix_seven p
loose_seven (Joined o a b) = infix_seven o

-- The sign of an operator is read as that operator.
before_prefix : (p : Prefix) (frames : List Frame) → sign_before (prefix_sign p) frames ≡ under_prefix (Some p) frames
before_prefix Prefix.Plus frames = refl
before_prefix (Prefix.Operator Unary.Negate) frames = refl
before_prefix (Prefix.Operator Unary.High) frames = refl
before_prefix (Prefix.Operator Unary.Low) frames = refl
before_prefix (Prefix.Operator Unary.Not) frames = refl

behind_infix : (o : Binary) (frames : List Frame) (a : Phrase) → sign_behind (infix_sign o) frames a ≡ right_of (Some o) frames a
behind_infix Binary.Add frames a = refl
behind_infix Binary.Subtract frames a = refl
behind_infix Binary.Multiply frames a = refl
behind_infix Binary.Divide frames a = refl
behind_infix Binary.Modulo frames a = refl
behind_infix Binary.ShiftLeft frames a = refl
behind_infix Binary.ShiftRight frames a = refl
behind_infix Binary.And frames a = refl
behind_infix Binary.Or frames a = refl
behind_infix Binary.Xor frames a = refl
behind_infix Binary.Equal frames a = refl
behind_infix Binary.NotEqual frames a = refl
behind_infix Binary.Less frames a = refl
behind_infix Binary.LessOrEqual frames a = refl
behind_infix Binary.Greater frames a = refl
behind_infix Binary.GreaterOrEqual frames a = refl

-- The frames and the operand after a phrase is read: down its right side to what is complete there.
descend : List Frame → Phrase → List Frame × Phrase
descend frames (Single t) = (frames, Single t)
descend frames (Enclosed a) = (frames, Enclosed a)
descend frames (Prefixed p a) = descend (Under p ∷ frames) a
descend frames (Joined o a b) = descend (RightOf o a ∷ frames) b

pub taking : (p : Prefix) (level : ℕ) (frames : List Frame) (a : Phrase) → prefix_level p ≤ level → reduce level (Under p ∷ frames) a ≡ reduce level frames (Prefixed p a)
taking p level frames a h = ap (λ b. if b then reduce level frames (Prefixed p a) else (Under p ∷ frames, a)) (le-leb (prefix_level p) level h)

pub joining : (o : Binary) (level : ℕ) (frames : List Frame) (a b : Phrase) → infix_level o ≤ level → reduce level (RightOf o a ∷ frames) b ≡ reduce level frames (Joined o a b)
joining o level frames a b h = ap (λ c. if c then reduce level frames (Joined o a b) else (RightOf o a ∷ frames, b)) (le-leb (infix_level o) level h)

reduce-descend : (level : ℕ) (frames : List Frame) (a : Phrase) → IsGrouped a → looseness a ≤ level → reduce level (descend frames a).0 (descend frames a).1 ≡ reduce level frames a
unfolding descend
reduce-descend level frames (Single t) g h = refl
reduce-descend level frames (Enclosed a) g h = refl
reduce-descend level frames (Prefixed p a) g h = reduce-descend level (Under p ∷ frames) a g.1 (omega (arith, g.0, h)) ∙ taking p level frames a h
reduce-descend level frames (Joined o a b) g h = reduce-descend level (RightOf o a ∷ frames) b g.3 (omega (arith, g.1, h)) ∙ joining o level frames a b h

-- An operator that fits in a frame's room does not close that frame.
reduce_stops : (o : Binary) (frames : List Frame) (a : Phrase) → infix_level o ≤ room frames → reduce (infix_level o) frames a ≡ (frames, a)
reduce_stops o [] a h = refl
reduce_stops o (Inside ∷ frames) a h = refl
reduce_stops o (Under p ∷ frames) a h = ap (λ b. if b then reduce (infix_level o) frames (Prefixed p a) else (Under p ∷ frames, a)) (lt-leb (prefix_level p) (infix_level o) (apart o p h))
reduce_stops o (RightOf q b ∷ frames) a h = ap (λ c. if c then reduce (infix_level o) frames (Joined q b a) else (RightOf q b ∷ frames, a)) (lt-leb (infix_level q) (infix_level o) (omega (arith, h, infix_two q)))

abbrev having : List Frame × Phrase → State
having at = record { frames = at.0; operand = Some at.1 }

abbrev wanting : List Frame → State
wanting frames = record { frames = frames; operand = None }

reads : (a : Phrase) → IsGrouped a → (frames : List Frame) → looseness a ≤ room frames → (rest : List GrammarSymbol) → reading (spelling a ++ rest) (wanting frames) ≡ reading rest (having (descend frames a))
unfolding descend
reads (Single t) g frames h rest = refl
reads (Enclosed a) g frames h rest =
    ap (λ xs. reading xs (wanting (Inside ∷ frames))) (append_assoc (spelling a) (Marked Sign.Close ∷ []) rest)
    ∙ reads a g (Inside ∷ frames) (loose_seven a) (Marked Sign.Close ∷ rest)
    ∙ ap (λ at. and_then (enclosed at) (λ next. reading rest next)) (reduce-descend 7 (Inside ∷ frames) a g (loose_seven a))
reads (Prefixed p a) g frames h rest =
    ap (λ s. and_then s (λ next. reading (spelling a ++ rest) next)) (before_prefix p frames)
    ∙ ap (λ b. and_then (if b then Some (wanting (Under p ∷ frames)) else None) (λ next. reading (spelling a ++ rest) next)) (le-leb (prefix_level p) (room frames) h)
    ∙ reads a g.1 (Under p ∷ frames) g.0 rest
reads (Joined o a b) g frames h rest =
    let at = descend frames a in
    let reduced : reduce (infix_level o) at.0 at.1 ≡ (frames, a) = reduce-descend (infix_level o) frames a g.2 g.0 ∙ reduce_stops o frames a h in
    ap (λ xs. reading xs (wanting frames)) (append_assoc (spelling a) (Marked (infix_sign o) ∷ spelling b) rest)
    ∙ reads a g.2 frames (omega (arith, g.0, h)) (Marked (infix_sign o) ∷ spelling b ++ rest)
    ∙ ap (λ s. and_then s (λ next. reading (spelling b ++ rest) next)) (behind_infix o at.0 at.1)
    ∙ ap (λ done. reading (spelling b ++ rest) (wanting (RightOf o done.1 ∷ done.0))) reduced
    ∙ reads b g.3 (RightOf o a ∷ frames) (omega (arith, g.1)) rest

-- The symbols of a phrase are read as that phrase.
pub complete : (symbols : List GrammarSymbol) (phrase : Phrase) → SpellsPhrase symbols phrase → reading symbols start ≡ Some phrase
complete symbols phrase s =
    ap (λ xs. reading xs start) (s.spelled ∙ sym (append-nil (spelling phrase)))
    ∙ reads phrase s.grouped [] (loose_seven phrase) []
    ∙ ap ended (reduce-descend 7 [] phrase s.grouped (loose_seven phrase))

pub one_phrase : (symbols : List GrammarSymbol) (a b : Phrase) → SpellsPhrase symbols a → SpellsPhrase symbols b → a ≡ b
one_phrase symbols a b s t =
    let both : Some a ≡ Some b = sym (complete symbols a s) ∙ complete symbols b t in
    cc
