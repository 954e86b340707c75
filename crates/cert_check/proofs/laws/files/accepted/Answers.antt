use Rattle.std.proofs.Common.{sym, subst, ◌∙◌}
use Rattle.cert_check.specs.Accepts.{HoldsOfEveryChoice}
use Rattle.cert_check.proofs.ForcingLemmas.{shown_holds}
use Rattle.cert_check.proofs.SizesTexts.{same_shape}
use Rattle.cert_check.proofs.laws.files.accepted.Goals as goal

pub returns : goal.returns
returns c sizes cert v good shape is_shape spelled =
    let same = same_shape good.shape shape good.is_shape is_shape (sym good.sizes_are ∙ spelled) in
    subst (λ s. HoldsOfEveryChoice s v) same (shown_holds good.shape good.order v good.forcing good.shown)
