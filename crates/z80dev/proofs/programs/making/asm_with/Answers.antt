use Rattle.std.proofs.Common.{◌≡◌, ◌∙◌, ◌++◌, [], ◌∷◌, None, ap, inl, inr, length, map, refl, subst, sym}
use Rattle.std.specs.List.{AllZip}
use Rattle.host.specs.Answers.{answer_by}
use Rattle.host.specs.declared.answer.Kind.TheVariants as kind
use Rattle.host.proofs.Carried.{aside, carried, clear}
use Rattle.z80dev.proofs.Clear.{are_files, as_many}
use Rattle.z80dev.specs.Making.{AsmWith, IsAsmOf, WritesAsm, shared_paths}
use Rattle.host.specs.Ending.{IsCarriedOut, effect_of, end_with_lines, lines_after}
use Rattle.z80dev.proofs.Lined.{ends_lined, lined_on, with_lines}
use Rattle.z80dev.specs.Outputs.{why_not_written}
use Rattle.host.specs.Reading.{IsNotRead, IsOneNotRead, IsRead}
use Rattle.z80dev_make.specs.Asm.{IsAsm}
use Rattle.report_texts.specs.Faults.Refusals.{told_text}
use Rattle.report_texts.specs.declared.front.SourceFile.{SourceFile}
use Rattle.report_texts.specs.declared.front.Front.{Front}
use Rattle.z80dev.proofs.programs.making.asm_with.Goals as goal

pub returns-in_err-fronts : goal.returns-in_err-fronts
returns-in_err-fronts g c =
    let shared = c.args.job.now.shared in
    let old = g.F.Files.folder c.args.files.now in
    let new = g.F.Files.folder c.read_all.new.files in
    let before = g.W.Sink.stream c.args.output.now in
    let none = subst (λ files. why_not_written c.args.base.now (kind.Object ∷ []) (map (λ path. path.now) files ++ c.args.job.now.source.now ∷ []) ≡ None) c.deref.ensures.value c.in_ok-refuse_overwriting.ensures in
    let unread = subst (λ files. IsOneNotRead old new (map (λ path. path.now) files) c.in_err-fronts.field-0.0) c.deref-2.ensures.value c.in_err-fronts.ensures in
    lined_on (AsmWith c.args.base.now c.args.job.now (effect_of old new before before)) c.in_err-fronts.field-0.0 c.from_residual-in_err-fronts.result c.from_residual-in_err-fronts.ensures.1
    (clear _ _ (effect_of old new before before) c.in_err-fronts.field-0.0 none (inr (unread, refl)))

pub returns-in_err-text : goal.returns-in_err-text
returns-in_err-text g c =
    let job = c.args.job.now in
    let path = job.source.now in
    let fronts = map (λ text. text.items) c.in_ok-fronts.fronts.items in
    let before = g.W.Sink.stream c.args.output.now in
    let new = g.F.Files.folder c.read.new.files in
    let x = effect_of (g.F.Files.folder c.args.files.now) new before before in
    let e = c.in_err-text.field-0.0 in
    let none = subst (λ files. why_not_written c.args.base.now (kind.Object ∷ []) (map (λ path. path.now) files ++ path ∷ []) ≡ None) c.deref.ensures.value c.in_ok-refuse_overwriting.ensures in
    let read_fronts = subst (λ files. AllZip (IsRead x.old) (map (λ path. path.now) files) fronts) c.deref-2.ensures.value c.in_ok-fronts.ensures.1 in
    let unread = subst (λ f. IsNotRead f new path e) c.in_ok-fronts.ensures.0 c.in_err-text.ensures in
    lined_on (AsmWith c.args.base.now job x) e c.from_residual-in_err-text.result c.from_residual-in_err-text.ensures.1
    (clear (why_not_written c.args.base.now (kind.Object ∷ []) (shared_paths job.shared ++ path ∷ [])) _ x e none (inl (fronts, read_fronts, inr (unread, refl))))

pub shared_of-requires : goal.shared_of-requires
shared_of-requires g c =
    let many = as_many (IsRead (g.F.Files.folder c.args.files.now)) c.deref-2.result.now c.in_ok-fronts.fronts.items (λ path. path.now) (λ text. text.items) c.in_ok-fronts.ensures.1 in
    ap length (c.deref-3.ensures.value ∙ sym c.deref-2.ensures.value) ∙ many ∙ ap length (sym c.deref-4.ensures.value)

pub returns : goal.returns
returns g c =
    let shared = c.args.job.now.shared in
    let path = c.args.job.now.source.now in
    let text = c.in_ok-text.text.items in
    let fronts = map (λ text. text.items) c.in_ok-fronts.fronts.items in
    let x = effect_of (g.F.Files.folder c.args.files.now) (g.F.Files.folder c.finish.new.files) (g.W.Sink.stream c.args.output.now) (g.W.Sink.stream c.finish.new.output) in
    let front : Front = record { defines = c.deref-5.result; files = c.deref-6.result } in
    let source : SourceFile = record { path = c.args.job.now.source; text = c.deref-7.result } in
    let none = subst (λ files. why_not_written c.args.base.now (kind.Object ∷ []) (map (λ path. path.now) files ++ path ∷ []) ≡ None) c.deref.ensures.value c.in_ok-refuse_overwriting.ensures in
    let read_fronts = subst (λ files. AllZip (IsRead x.old) (map (λ path. path.now) files) fronts) c.deref-2.ensures.value c.in_ok-fronts.ensures.1 in
    let read = subst (λ f. IsRead f path text) c.in_ok-fronts.ensures.0 c.in_ok-text.ensures.1 in
    let are = are_files c.deref-3.result.now shared.files.items c.deref-4.result.now c.in_ok-fronts.fronts.items c.in_ok-shared_files.shared_files.items c.deref-6.result.now
    c.deref-3.ensures.value c.deref-4.ensures.value c.deref-6.ensures.value c.in_ok-shared_files.ensures in
    let object = c.asm-answer.result in
    let job = c.args.job.now in
    let answer = answer_by told_text object.answer in
    let made = aside (IsAsm front source job.grow) (IsAsmOf job fronts text object.warnings.items) answer
    (λ is. (front, source, (ap (map (λ word. word.now)) c.deref-5.ensures.value, are), refl, c.deref-7.ensures.value, is, c.asm-answer.ensures.warned)) c.asm-answer.ensures.answer in
    let carries = carried told_text c.args.base.now object.answer x.old (g.F.Files.folder c.read.new.files) x.new x.before x.after c.finish.result (c.in_ok-text.ensures.0 ∙ c.in_ok-fronts.ensures.0) c.finish.ensures in
    let done = with_lines c.finish.result object.warnings c.done_with_lines.result c.done_with_lines.ensures in
    let writes : WritesAsm c.args.base.now job fronts text x (lines_after c.done_with_lines.result) (end_with_lines c.done_with_lines.result) = (object.warnings.items, done.1, (answer, made, subst (IsCarriedOut c.args.base.now answer x) (sym done.0) carries)) in
    ends_lined (AsmWith c.args.base.now job x) c.done_with_lines.result
    (clear (why_not_written c.args.base.now (kind.Object ∷ []) (shared_paths shared ++ path ∷ [])) _ x (end_with_lines c.done_with_lines.result) none (inl (fronts, read_fronts, inl (text, read, writes))))
