use Rattle.std.proofs.Common.{◌≡◌, ◌+◌, length, take, reverse, sym, subst, refl, arith}
use Rattle.source_warnings.specs.Private.Near.{AreNear, IsNear}
use Rattle.source_warnings.proofs.Nearest.{first_near, next_near, turned}
use Rattle.source_warnings.proofs.jumps.near.nears.Goals as goal

pub loop-site-init : goal.loop-site-init
loop-site-init c = (subst (AreNear c.args.sizes.now 0) (sym c.in_ok-push.ensures.items) (rw c.in_ok-nears.ensures.items (first_near c.args.sizes.now)), record { finds = λ bytes few. refl })

pub loop-site-preserved : goal.loop-site-preserved
loop-site-preserved c =
    let i = c.loop-site.site-index in
    let this : IsNear (reverse (take (i + 1) c.args.sizes.now)) c.nearer-near.result =
    subst (λ ss. IsNear ss c.nearer-near.result) (sym (turned c.args.sizes.now i _ c.loop-site-test.true)) (c.nearer-near.ensures _ c.loop-site.invariant.1) in
    (subst (AreNear c.args.sizes.now (i + 1)) (sym c.in_ok-push-2.ensures.items) (next_near c.args.sizes.now i _ _ c.loop-site.invariant.0 this), this)

pub returns : goal.returns
returns c =
    let all : c.loop-site.site-index ≡ length c.args.sizes.now = omega (arith, c.loop-site.auto.site-index-end, c.loop-site-test.false) in
    subst (λ n. AreNear c.args.sizes.now n c.loop-site.nears.items) all c.loop-site.invariant.0
