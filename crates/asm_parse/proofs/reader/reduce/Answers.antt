use Rattle.std.proofs.Common.{◌≡◌, ◌-◌, ◌++◌, ◌∷◌, [], Some, None, length, take, sym, ap, ◌∙◌, arith}
use Rattle.std.specs.Prelude.{slice_get}
use Rattle.smallvec.specs.SmallVec.{small_vec_len}
use Rattle.std.specs.Option.{option_copied}
use Rattle.asm_parse.proofs.Stacks.{reducing_next, reducing_stays, reducing_ends, split_last, no_last}
use Rattle.asm_parse.proofs.reader.reduce.Goals as goal

pub loop-last-preserved : goal.loop-last-preserved
loop-last-preserved c = λ frames a w i.
    let xs = c.loop-last.pending.items in
    let last = c.in-Some.last.now in
    let there : slice_get xs (length xs - 1) ≡ Some last = ap (λ ys. slice_get ys (length ys - 1)) (sym c.deref.ensures) ∙ sym c.in-Some.ensures.value in
    let len : small_vec_len c.loop-last.pending - 1 ≡ length xs - 1 = omega arith in
    let rest : take (length xs - 1) xs ≡ c.pop.new.self.items = ap (λ n. take n xs) (sym len) ∙ sym c.pop.ensures.rest in
    let split : xs ≡ c.pop.new.self.items ++ last ∷ [] = split_last xs last there ∙ ap (λ ys. ys ++ last ∷ []) rest in
    reducing_next c.args.level _ xs c.pop.new.self.items last _ _ c.requires (c.loop-last.invariant frames a w i) split (omega (arith, c.level_of.ensures)) c.in_ok-write_operator.ensures.written

pub returns-then-level_of-level-clause-reduced : goal.returns-then-level_of-level-clause-reduced
returns-then-level_of-level-clause-reduced c = λ frames a w i.
    let xs = c.loop-last.pending.items in
    let last = c.in-Some.last.now in
    let there : slice_get xs (length xs - 1) ≡ Some last = ap (λ ys. slice_get ys (length ys - 1)) (sym c.deref.ensures) ∙ sym c.in-Some.ensures.value in
    reducing_stays c.args.level _ xs (take (length xs - 1) xs) last _ (c.loop-last.invariant frames a w i) (split_last xs last there) (omega (arith, c.level_of.ensures))

pub returns-in_default-clause-reduced : goal.returns-in_default-clause-reduced
returns-in_default-clause-reduced c = λ frames a w i.
    let xs = c.loop-last.pending.items in
    let none : slice_get xs (length xs - 1) ≡ None = ap (λ ys. slice_get ys (length ys - 1)) (sym c.deref.ensures) ∙ sym c.last.ensures.value ∙ ap option_copied c.in_default.is in
    reducing_ends c.args.level _ xs _ (c.loop-last.invariant frames a w i) (no_last xs none)
