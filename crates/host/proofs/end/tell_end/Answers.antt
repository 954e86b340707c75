use Rattle.std.proofs.Common.{◌++◌, codes, subst}
use Rattle.std.proofs.lemmas.List.{append-nil}
use Rattle.host.specs.Streams.Writing.{Puts, error_line}
use Rattle.host.proofs.end.tell_end.Goals as goal

pub returns-in-File : goal.returns-in-File
returns-in-File g c = rw (c.in-File.is, ← c.as_bytes-in-File.ensures.value, ← c.as_bytes-in-File-2.ensures.value) c.tell_file.ensures

pub returns-in-Path : goal.returns-in-Path
returns-in-Path g c =
    let path = c.as_bytes-in-Path.result.now in
    rw (c.in-Path.is, ← c.as_bytes-in-Path.ensures.value)
    (subst (λ said. Puts (g.E.Sink.stream c.args.errors.now) (g.E.Sink.stream c.tell_file-in-Path.new.errors) (error_line (codes "file " ++ said)) c.tell_file-in-Path.result) (append-nil path) c.tell_file-in-Path.ensures)
