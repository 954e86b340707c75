use Rattle.std.proofs.Common.{Ok, subst, ◌∙◌}
use Rattle.cert_check.specs.Texts.{ReadsCert, ReadsSizes}
use Rattle.zlink.specs.Certified.{told_verdict}
use Rattle.zlink.proofs.Agreement.{certified}
use Rattle.zlink.proofs.certify.certify.Goals as goal

pub returns : goal.returns
returns c =
    let sizes = subst (λ s. ReadsSizes c.in_ok-print_sizes.field-0.items (Ok s)) c.in_ok-told.ensures c.in_ok-print_sizes.ensures in
    let order = c.in_ok-to_vec.ensures.items_if_clones_equal (λ x y e. e) ∙ c.deref.ensures.value in
    let cert = subst (λ q. ReadsCert c.in_ok-print_cert.field-0.items (Ok (q, told_verdict c.args.growth.now.verdict))) order
    (subst (λ v. ReadsCert c.in_ok-print_cert.field-0.items (Ok (c.in_ok-to_vec.field-0.items, v))) c.tell_verdict.ensures (c.in_ok-print_cert.ensures.numbers, c.in_ok-print_cert.ensures.text)) in
    certified c.args.shape.now c.args.growth.now _ _ c.requires sizes cert
