use Rattle.std.proofs.Common.{◌≡◌, ◌<◌, ◌++◌, ◌∙◌, arith, length, take, drop, get_or, ap, sym, inl, inr, true}
use Rattle.std.proofs.Math.Seq.{take-append_seam}
use Rattle.std.proofs.lemmas.Bool.{cases_lt}
use Rattle.std.proofs.lemmas.List.{take_more}
use Rattle.program_map.specs.Reasons.Distances.{lies_between}
use Rattle.program_map.specs.Private.Gathered.{gathered, items_at, want_at}
use Rattle.program_map.proofs.Reasoned.Members.{gathered-skip}
use Rattle.program_map.proofs.reasons.gathering.gather.Goals as goal

pub loop-member-preserved : goal.loop-member-preserved
loop-member-preserved c =
    let i = c.loop-member.member-index in
    let lt : i < length c.args.order.now = c.loop-member-test.true in
    let done = c.in_ok-put_member.ensures in
    let value = c.deref_mut.ensures.value in
    let same : length c.put_member.new.reasons ≡ length c.loop-member.reasons.items = done.len ∙ ap length value in
    let len : c.loop-member.reasons.len ≡ length c.put_member.new.reasons = omega (arith, same) in
    let lent : take c.loop-member.reasons.len (c.put_member.new.reasons ++ drop (length c.put_member.new.reasons) c.loop-member.reasons.items) ≡ c.put_member.new.reasons = rw len (take-append_seam c.put_member.new.reasons _) in
    rw lent record {
      len = omega (arith, same, c.loop-member.invariant.len);
      each = λ k within. (let near = c.requires.near k (get_or c.args.order.now i 0) within in
          let was : items_at c.deref_mut.result.now k ≡ gathered (want_at c.args.wants.now k) k (take i c.args.order.now) = rw value (c.loop-member.invariant.each k within) in
          let skip = λ (apart : 0 < (want_at c.args.wants.now k).count → lies_between k (want_at c.args.wants.now k).target (get_or c.args.order.now i 0) ≡ true → ⊥). sym (gathered-skip (want_at c.args.wants.now k) k c.args.order.now i lt apart) in
          elim (cases_lt k c.min-low.result) [
            | inl before ↦ done.below k before ∙ (was ∙ skip (λ some between. (let far = (near some between).0 in let farther = (near some between).1 in absurd (omega (arith, c.min-low.ensures, c.min-high.ensures, c.saturating_sub.ensures, c.saturating_add.ensures, far, farther)))))
            | inr from ↦ elim (cases_lt k c.min-high.result) [
              | inl inside ↦ rw (take_more c.args.order.now i 0 lt) (done.inside (take i c.args.order.now) k from inside was)
              | inr behind ↦ done.above k behind ∙ (was ∙ skip (λ some between. (let far = (near some between).0 in let farther = (near some between).1 in absurd (omega (arith, c.min-low.ensures, c.min-high.ensures, c.saturating_sub.ensures, c.saturating_add.ensures, far, farther)))))
            ]
          ]);
    }
