use Rattle.std.proofs.Common.{◌≡◌, ◌∙◌, Err, Ok, inl, map, refl, subst}
use Rattle.std.proofs.lemmas.Result.{err_from_is_err_and}
use Rattle.host.specs.Streams.Writing.{PrintsBytes}
use Rattle.disassembler.specs.Disassembly.{IsDisassembly}
use Rattle.host.specs.declared.end.End.TheVariants as end
use Rattle.z80dev.specs.Making.{PrintsSource}
use Rattle.host.specs.Ending.{effect_of}
use Rattle.z80dev.specs.Private.FileSteps.{RefusesProgram}
use Rattle.host.specs.Reading.{bytes_in}
use Rattle.z80dev.proofs.Disassembled.{found_if_given, prints_nothing, same_folder, unread_if_given}
use Rattle.z80dev.proofs.programs.disassembling.dis_file.Goals as goal

pub returns-in_err-labels : goal.returns-in_err-labels
returns-in_err-labels g c =
    let left = err_from_is_err_and c.from_residual-in_err-labels.result c.from_residual-in_err-labels.ensures.1 in
    let before = g.W.Sink.stream c.args.output.now in
    let x = effect_of (g.F.Files.folder c.args.files.now) (g.F.Files.folder c.read_if_given.new.files) before before in
    let read = c.in_ok-bytes.ensures in
    rw (left.1, left.2) (inl (c.in_ok-bytes.bytes.items, read.1, unread_if_given c.args.dis.now.labels _ x (g.F.Files.folder c.read.new.files) c.in_err-labels.field-0.0 read.0 c.in_err-labels.ensures refl))

pub returns-in_err-source : goal.returns-in_err-source
returns-in_err-source g c =
    let left = err_from_is_err_and c.from_residual-in_err-source.result c.from_residual-in_err-source.ensures.1 in
    let e = c.in_err-source.field-0.0 in
    let before = g.W.Sink.stream c.args.output.now in
    let mid = g.F.Files.folder c.read.new.files in
    let new = g.F.Files.folder c.read_if_given.new.files in
    let x = effect_of (g.F.Files.folder c.args.files.now) new before before in
    let program = c.in_ok-bytes.bytes.items in
    let found = c.in_ok-labels.labels in
    let entries = map (λ word. word.now) c.args.dis.now.entries.items in
    let data_starts = map (λ word. word.now) c.args.dis.now.data_starts.items in
    let read = c.in_ok-bytes.ensures in
    let same = same_folder c.args.dis.now.labels mid new found c.in_ok-labels.ensures ∙ read.0 in
    let words = map (λ word. word.now) c.deref-2.result.now in
    let starts = map (λ word. word.now) c.deref-3.result.now in
    let named = subst (λ names. RefusesProgram c.deref.result.now names words starts e) c.as_deref.ensures.value c.in_err-source.ensures in
    let read_so = subst (λ bytes. RefusesProgram bytes (bytes_in found) words starts e) c.deref.ensures.value named in
    let refuses = subst (λ ws. RefusesProgram program (bytes_in found) (map (λ word. word.now) ws) starts e) c.deref-2.ensures.value read_so in
    let refuses_so = subst (λ ws. RefusesProgram program (bytes_in found) entries (map (λ word. word.now) ws) e) c.deref-3.ensures.value refuses in
    rw (left.1, left.2) (inl (
      program,
      read.1,
      found_if_given c.args.dis.now.labels (λ names. (x.new ≡ x.old) × PrintsSource program names entries data_starts x e) x mid new found e read.0 c.in_ok-labels.ensures (same, prints_nothing program (bytes_in found) entries data_starts x e refuses_so refl),
    ))

pub returns-in-Ok : goal.returns-in-Ok
returns-in-Ok g c =
    let source = c.in_ok-source.source in
    let mid = g.F.Files.folder c.read.new.files in
    let new = g.F.Files.folder c.read_if_given.new.files in
    let x = effect_of (g.F.Files.folder c.args.files.now) new (g.W.Sink.stream c.args.output.now) (g.W.Sink.stream c.print.new.sink) in
    let program = c.in_ok-bytes.bytes.items in
    let found = c.in_ok-labels.labels in
    let entries = map (λ word. word.now) c.args.dis.now.entries.items in
    let data_starts = map (λ word. word.now) c.args.dis.now.data_starts.items in
    let read = c.in_ok-bytes.ensures in
    let same = same_folder c.args.dis.now.labels mid new found c.in_ok-labels.ensures ∙ read.0 in
    let words = map (λ word. word.now) c.deref-2.result.now in
    let starts = map (λ word. word.now) c.deref-3.result.now in
    let named = subst (λ names. IsDisassembly c.deref.result.now names words starts (Ok source)) c.as_deref.ensures.value c.in_ok-source.ensures in
    let read_so = subst (λ bytes. IsDisassembly bytes (bytes_in found) words starts (Ok source)) c.deref.ensures.value named in
    let is = subst (λ ws. IsDisassembly program (bytes_in found) (map (λ word. word.now) ws) starts (Ok source)) c.deref-2.ensures.value read_so in
    let is_so = subst (λ ws. IsDisassembly program (bytes_in found) entries (map (λ word. word.now) ws) (Ok source)) c.deref-3.ensures.value is in
    let puts = subst (λ text. PrintsBytes x.before x.after text (Ok c.in-Ok.field-0)) c.deref-4.ensures.value (subst (PrintsBytes x.before x.after c.deref-4.result.now) c.in-Ok.is c.print.ensures) in
    inl (program, read.1, found_if_given c.args.dis.now.labels (λ names. (x.new ≡ x.old) × PrintsSource program names entries data_starts x end.Done) x mid new found end.Done read.0 c.in_ok-labels.ensures (same, (source, is_so, puts)))

pub returns : goal.returns
returns g c =
    let source = c.in_ok-source.source in
    let mid = g.F.Files.folder c.read.new.files in
    let new = g.F.Files.folder c.read_if_given.new.files in
    let x = effect_of (g.F.Files.folder c.args.files.now) new (g.W.Sink.stream c.args.output.now) (g.W.Sink.stream c.print.new.sink) in
    let program = c.in_ok-bytes.bytes.items in
    let found = c.in_ok-labels.labels in
    let entries = map (λ word. word.now) c.args.dis.now.entries.items in
    let data_starts = map (λ word. word.now) c.args.dis.now.data_starts.items in
    let read = c.in_ok-bytes.ensures in
    let same = same_folder c.args.dis.now.labels mid new found c.in_ok-labels.ensures ∙ read.0 in
    let words = map (λ word. word.now) c.deref-2.result.now in
    let starts = map (λ word. word.now) c.deref-3.result.now in
    let named = subst (λ names. IsDisassembly c.deref.result.now names words starts (Ok source)) c.as_deref.ensures.value c.in_ok-source.ensures in
    let read_so = subst (λ bytes. IsDisassembly bytes (bytes_in found) words starts (Ok source)) c.deref.ensures.value named in
    let is = subst (λ ws. IsDisassembly program (bytes_in found) (map (λ word. word.now) ws) starts (Ok source)) c.deref-2.ensures.value read_so in
    let is_so = subst (λ ws. IsDisassembly program (bytes_in found) entries (map (λ word. word.now) ws) (Ok source)) c.deref-3.ensures.value is in
    let puts = subst (λ text. PrintsBytes x.before x.after text (Err c.in-Err.field-0)) c.deref-4.ensures.value (subst (PrintsBytes x.before x.after c.deref-4.result.now) c.in-Err.is c.print.ensures) in
    inl (program, read.1, found_if_given c.args.dis.now.labels (λ names. (x.new ≡ x.old) × PrintsSource program names entries data_starts x end.Stream) x mid new found end.Stream read.0 c.in_ok-labels.ensures (same, (source, is_so, puts)))
