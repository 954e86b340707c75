use Rattle.std.proofs.Common.{◌≡◌, ◌-◌, ◌∙◌, length, min, ap, subst, arith}
use Rattle.source_warnings.specs.Jumps.Distances.{jump_over}
use Rattle.source_warnings.specs.Private.Near.{within}
use Rattle.source_warnings.proofs.Nearest.{near_ahead, near_back, over_ahead, over_back}
use Rattle.source_warnings.proofs.jumps.near.Jumps.over.Goals as goal

pub returns-then-bytes-lt-BACK : goal.returns-then-bytes-lt-BACK
returns-then-bytes-lt-BACK c =
    let sizes = c.self.inside.sizes.items in
    let at : c.len-count.result - c.min-k.result ≡ length sizes - min c.args.k (length sizes) = grind (arith, c.min-k.ensures, c.len-count.ensures, c.self.inside.sizes.ok) in
    let near = near_ahead sizes c.self.inside.ahead.items c.args.k _ c.args.bytes c.index.result.now c.self.invariant.1 at (omega (arith, c.ranges.bytes.fits)) in
    let all = over_ahead sizes c.args.k c.args.bytes c.within.result c.if-bytes-lt-BACK.true (c.within.ensures ∙ ap (λ n. within n c.index.result.now) c.from.ensures ∙ ap (within c.args.bytes) c.index.ensures ∙ near) in
    subst (λ ss. c.within.result ≡ jump_over ss c.args.k c.args.bytes) c.self.view_is all

pub returns-else-bytes-lt-BACK : goal.returns-else-bytes-lt-BACK
returns-else-bytes-lt-BACK c =
    let sizes = c.self.inside.sizes.items in
    let at : c.min-k.result ≡ min c.args.k (length sizes) = grind (arith, c.min-k.ensures, c.len-count.ensures, c.self.inside.sizes.ok) in
    let near = near_back sizes c.self.inside.back.items c.args.k _ (65536 - c.args.bytes) c.index-else-bytes-lt-BACK.result.now c.self.invariant.0 at (omega arith) in
    let all = over_back sizes c.args.k c.args.bytes c.within-else-bytes-lt-BACK.result c.if-bytes-lt-BACK.false
    (c.within-else-bytes-lt-BACK.ensures ∙ ap (λ n. within (65536 - n) c.index-else-bytes-lt-BACK.result.now) c.from-else-bytes-lt-BACK.ensures
    ∙ ap (within (65536 - c.args.bytes)) c.index-else-bytes-lt-BACK.ensures ∙ near) in
    subst (λ ss. c.within-else-bytes-lt-BACK.result ≡ jump_over ss c.args.k c.args.bytes) c.self.view_is all
