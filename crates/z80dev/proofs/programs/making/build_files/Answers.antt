use Rattle.std.proofs.Common.{◌∙◌, ◌++◌, ap, inl, inr, length, map, refl, subst, sym}
use Rattle.std.specs.List.{AllZip}
use Rattle.z80dev.specs.Making.{BuildEnds, shared_paths, source_paths}
use Rattle.host.specs.Ending.{effect_of}
use Rattle.z80dev.specs.Outputs.{base_of, why_not_written}
use Rattle.z80dev_make.specs.Products.{program_kinds}
use Rattle.z80dev.specs.Products.{build_products}
use Rattle.z80dev.specs.Private.FileSteps.{BuildsTexts}
use Rattle.host.specs.Reading.{IsOneNotRead, IsRead}
use Rattle.z80dev.proofs.Clear.{as_many, builds, builds_so, clear_of}
use Rattle.host.proofs.Carried.{clear}
use Rattle.z80dev.proofs.Lined.{lined_as, lined_on}
use Rattle.z80dev.proofs.programs.making.build_files.Goals as goal

pub returns-in_err-texts : goal.returns-in_err-texts
returns-in_err-texts g c =
    let job = c.args.job.now in
    let shared = job.shared in
    let fronts = map (λ text. text.items) c.in_ok-fronts.fronts.items in
    let before = g.W.Sink.stream c.args.output.now in
    let mid = g.F.Files.folder c.read_all.new.files in
    let new = g.F.Files.folder c.read_all-2.new.files in
    let x = effect_of (g.F.Files.folder c.args.files.now) new before before in
    let e = c.in_err-texts.field-0.0 in
    let base = base_of job.out (source_paths job) in
    let same_base = c.base_of-base.ensures ∙ ap (λ files. base_of job.out (map (λ path. path.now) files)) c.deref.ensures.value in
    let none = clear_of c.base_of-base.result.now base c.build_kinds-kinds.result.now (program_kinds (build_products job)) c.deref-2.result.now shared.files.items c.deref-3.result.now job.sources.items
    same_base c.build_kinds-kinds.ensures c.deref-2.ensures.value c.deref-3.ensures.value c.in_ok-refuse_overwriting.ensures in
    let read_fronts = subst (λ files. AllZip (IsRead x.old) (map (λ path. path.now) files) fronts) c.deref-4.ensures.value c.in_ok-fronts.ensures.1 in
    let unread = subst (λ files. IsOneNotRead mid new (map (λ path. path.now) files) e) c.deref-5.ensures.value c.in_err-texts.ensures in
    let unread_then = subst (λ f. IsOneNotRead f new (source_paths job) e) c.in_ok-fronts.ensures.0 unread in
    lined_on (BuildEnds job x) e c.from_residual-in_err-texts.result c.from_residual-in_err-texts.ensures.1
    (clear (why_not_written base (program_kinds (build_products job)) (shared_paths shared ++ source_paths job)) _ x e none (inl (fronts, read_fronts, inr (unread_then, refl))))

pub build_texts-requires-clause-fronts : goal.build_texts-requires-clause-fronts
build_texts-requires-clause-fronts g c =
    let many = as_many (IsRead (g.F.Files.folder c.args.files.now)) c.deref-4.result.now c.in_ok-fronts.fronts.items (λ path. path.now) (λ text. text.items) c.in_ok-fronts.ensures.1 in
    ap length (sym c.deref-4.ensures.value) ∙ many ∙ ap length (sym c.deref-6.ensures.value)

pub build_texts-requires-clause-texts : goal.build_texts-requires-clause-texts
build_texts-requires-clause-texts g c =
    let many = as_many (IsRead (g.F.Files.folder c.read_all.new.files)) c.deref-5.result.now c.in_ok-texts.texts.items (λ path. path.now) (λ text. text.items) c.in_ok-texts.ensures.1 in
    ap length (sym c.deref-5.ensures.value) ∙ many ∙ ap length (sym c.deref-7.ensures.value)

pub returns : goal.returns
returns g c =
    let job = c.args.job.now in
    let shared = job.shared in
    let fronts = map (λ text. text.items) c.in_ok-fronts.fronts.items in
    let texts = map (λ text. text.items) c.in_ok-texts.texts.items in
    let mid = g.F.Files.folder c.read_all.new.files in
    let x = effect_of (g.F.Files.folder c.args.files.now) (g.F.Files.folder c.build_texts.new.files) (g.W.Sink.stream c.args.output.now) (g.W.Sink.stream c.build_texts.new.output) in
    let base = base_of job.out (source_paths job) in
    let same_base = c.base_of-base.ensures ∙ ap (λ files. base_of job.out (map (λ path. path.now) files)) c.deref.ensures.value in
    let none = clear_of c.base_of-base.result.now base c.build_kinds-kinds.result.now (program_kinds (build_products job)) c.deref-2.result.now shared.files.items c.deref-3.result.now job.sources.items
    same_base c.build_kinds-kinds.ensures c.deref-2.ensures.value c.deref-3.ensures.value c.in_ok-refuse_overwriting.ensures in
    let read_fronts = subst (λ files. AllZip (IsRead x.old) (map (λ path. path.now) files) fronts) c.deref-4.ensures.value c.in_ok-fronts.ensures.1 in
    let read = subst (λ files. AllZip (IsRead mid) (map (λ path. path.now) files) texts) c.deref-5.ensures.value c.in_ok-texts.ensures.1 in
    let read_then = subst (λ f. AllZip (IsRead f) (source_paths job) texts) c.in_ok-fronts.ensures.0 read in
    let so = builds_so c.base_of-base.result.now base job c.deref-6.result.now c.in_ok-fronts.fronts.items c.deref-7.result.now c.in_ok-texts.texts.items x.old (g.F.Files.folder c.read_all-2.new.files) x.new
    x.before x.after c.build_texts.result same_base c.deref-6.ensures.value c.deref-7.ensures.value (c.in_ok-texts.ensures.0 ∙ c.in_ok-fronts.ensures.0) c.build_texts.ensures in
    lined_as (BuildsTexts base job fronts texts x) (BuildEnds job x) c.build_texts.result (builds base job fronts texts x read_fronts read_then none) so
