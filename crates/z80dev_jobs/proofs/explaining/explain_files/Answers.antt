use Rattle.std.proofs.Common.{◌∙◌, ap, inl, inr, length, map, refl, subst, sym}
use Rattle.std.proofs.lemmas.Result.{err_from_is_err_and}
use Rattle.std.specs.List.{AllZip}
use Rattle.z80dev_jobs.specs.Explaining.{Explains, explained_paths}
use Rattle.host.specs.Ending.{ended}
use Rattle.host.specs.Reading.{IsOneNotRead, IsRead}
use Rattle.z80dev.proofs.Clear.{as_many}
use Rattle.z80dev_jobs.proofs.explaining.explain_files.Goals as goal

pub returns-in_err-fronts : goal.returns-in_err-fronts
returns-in_err-fronts g c =
    let old = g.F.Files.folder c.args.files.now in
    let new = g.F.Files.folder c.read_all.new.files in
    let left = err_from_is_err_and c.from_residual.result c.from_residual.ensures.1 in
    rw (left.1, left.2) (inr (subst (λ paths. IsOneNotRead old new (map (λ path. path.now) paths) c.in_err-fronts.field-0.0) c.deref.ensures.value c.in_err-fronts.ensures, refl))

pub returns-in_err-texts : goal.returns-in_err-texts
returns-in_err-texts g c =
    let old = g.F.Files.folder c.args.files.now in
    let mid = g.F.Files.folder c.read_all.new.files in
    let new = g.F.Files.folder c.read_all-2.new.files in
    let job = c.args.job.now in
    let e = c.in_err-texts.field-0.0 in
    let fronts = map (λ text. text.items) c.in_ok-fronts.fronts.items in
    let read_fronts = subst (λ paths. AllZip (IsRead old) (map (λ path. path.now) paths) fronts) c.deref.ensures.value c.in_ok-fronts.ensures.1 in
    let unread = subst (λ paths. IsOneNotRead mid new (map (λ path. path.now) paths) e) c.deref-2.ensures.value c.in_err-texts.ensures in
    let unread_then = subst (λ f. IsOneNotRead f new (explained_paths job) e) c.in_ok-fronts.ensures.0 unread in
    let left = err_from_is_err_and c.from_residual-in_err-texts.result c.from_residual-in_err-texts.ensures.1 in
    rw (left.1, left.2) (inl (fronts, read_fronts, inr (unread_then, refl)))

pub explain_texts-requires-clause-fronts : goal.explain_texts-requires-clause-fronts
explain_texts-requires-clause-fronts g c =
    let many = as_many (IsRead (g.F.Files.folder c.args.files.now)) c.deref.result.now c.in_ok-fronts.fronts.items (λ path. path.now) (λ text. text.items) c.in_ok-fronts.ensures.1 in
    ap length (sym c.deref.ensures.value) ∙ many ∙ ap length (sym c.deref-3.ensures.value)

pub explain_texts-requires-clause-texts : goal.explain_texts-requires-clause-texts
explain_texts-requires-clause-texts g c =
    let many = as_many (IsRead (g.F.Files.folder c.read_all.new.files)) c.deref-2.result.now c.in_ok-texts.texts.items (λ path. path.now) (λ text. text.items) c.in_ok-texts.ensures.1 in
    ap length (sym c.deref-2.ensures.value) ∙ many ∙ ap length (sym c.deref-4.ensures.value)

pub returns : goal.returns
returns g c =
    let old = g.F.Files.folder c.args.files.now in
    let mid = g.F.Files.folder c.read_all.new.files in
    let job = c.args.job.now in
    let before = g.W.Sink.stream c.args.output.now in
    let after = g.W.Sink.stream c.explain_texts.new.output in
    let e = ended c.explain_texts.result in
    let fronts = map (λ text. text.items) c.in_ok-fronts.fronts.items in
    let texts = map (λ text. text.items) c.in_ok-texts.texts.items in
    let read_fronts = subst (λ paths. AllZip (IsRead old) (map (λ path. path.now) paths) fronts) c.deref.ensures.value c.in_ok-fronts.ensures.1 in
    let read = subst (λ paths. AllZip (IsRead mid) (map (λ path. path.now) paths) texts) c.deref-2.ensures.value c.in_ok-texts.ensures.1 in
    let read_then = subst (λ f. AllZip (IsRead f) (explained_paths job) texts) c.in_ok-fronts.ensures.0 read in
    let explains = subst (λ all. Explains job c.args.is_terminal (map (λ text. text.items) all) (map (λ text. text.items) c.deref-4.result.now) before after e) c.deref-3.ensures.value c.explain_texts.ensures in
    let explains_so = subst (λ all. Explains job c.args.is_terminal fronts (map (λ text. text.items) all) before after e) c.deref-4.ensures.value explains in
    inl (fronts, read_fronts, inl (texts, read_then, (c.in_ok-texts.ensures.0 ∙ c.in_ok-fronts.ensures.0, explains_so)))
