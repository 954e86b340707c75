use Rattle.std.proofs.Common.{◌≡◌, ◌∙◌, None, ap, inl, inr, map, refl, subst}
use Rattle.std.proofs.lemmas.Result.{err_from_is_err_and}
use Rattle.std.specs.List.{AllZip}
use Rattle.host.specs.Answers.{MemoryAside, answer_by}
use Rattle.host.specs.Ending.{effect_of}
use Rattle.z80dev.specs.Outputs.{why_not_written}
use Rattle.host.specs.Reading.{IsOneNotRead, IsRead}
use Rattle.host.proofs.Carried.{carried, clear}
use Rattle.z80dev_make.specs.Link.{IsLink}
use Rattle.report_texts.specs.Faults.Refusals.{told_text}
use Rattle.z80dev_make.specs.Products.{program_kinds}
use Rattle.z80dev.specs.Products.{link_products}
use Rattle.z80dev.proofs.programs.making.link_with.Goals as goal

pub returns-in_err-objects : goal.returns-in_err-objects
returns-in_err-objects g c =
    let job = c.args.job.now in
    let base = c.args.base.now in
    let before = g.W.Sink.stream c.args.output.now in
    let old = g.F.Files.folder c.args.files.now in
    let new = g.F.Files.folder c.read_all.new.files in
    let e = c.in_err-objects.field-0.0 in
    let left = err_from_is_err_and c.from_residual-in_err-objects.result c.from_residual-in_err-objects.ensures.1 in
    let of_kinds = subst (λ kinds. why_not_written base kinds (map (λ path. path.now) c.deref.result.now) ≡ None) (c.program_kinds.ensures ∙ ap program_kinds c.link_products-products.ensures) c.in_ok-refuse_overwriting.ensures in
    let none = subst (λ objects. why_not_written base (program_kinds (link_products job)) (map (λ path. path.now) objects) ≡ None) c.deref.ensures.value of_kinds in
    let unread = subst (λ objects. IsOneNotRead old new (map (λ path. path.now) objects) e) c.deref-2.ensures.value c.in_err-objects.ensures in
    rw (left.1, left.2) (clear _ _ (effect_of old new before before) e none (inr (unread, refl)))

pub returns : goal.returns
returns g c =
    let out = c.args.base.now in
    let read = c.in_ok-objects.ensures in
    let answer = answer_by told_text c.link-answer.result in
    let texts = map (λ text. text.items) c.in_ok-objects.objects.items in
    let x = effect_of (g.F.Files.folder c.args.files.now) (g.F.Files.folder c.finish.new.files) (g.W.Sink.stream c.args.output.now) (g.W.Sink.stream c.finish.new.output) in
    let of_kinds = subst (λ kinds. why_not_written out kinds (map (λ path. path.now) c.deref.result.now) ≡ None) (c.program_kinds.ensures ∙ ap program_kinds c.link_products-products.ensures) c.in_ok-refuse_overwriting.ensures in
    let none = subst (λ objects. why_not_written out (program_kinds (link_products c.args.job.now)) (map (λ path. path.now) objects) ≡ None) c.deref.ensures.value of_kinds in
    clear _ _ x c.finish.result none
    (inl (
      texts,
      subst (λ objects. AllZip (IsRead x.old) (map (λ path. path.now) objects) texts) c.deref-2.ensures.value read.1,
      (
        answer,
        subst (λ texts. MemoryAside (IsLink (link_products c.args.job.now) (map (λ text. text.items) texts)) answer) c.deref-3.ensures.value
            (subst (λ products. MemoryAside (IsLink products (map (λ text. text.items) c.deref-3.result.now)) answer) c.link_products-products.ensures c.link-answer.ensures),
        carried told_text out c.link-answer.result x.old (g.F.Files.folder c.read_all.new.files) x.new x.before x.after c.finish.result read.0 c.finish.ensures,
      ),
    ))
