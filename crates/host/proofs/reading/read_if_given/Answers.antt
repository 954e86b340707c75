use Rattle.host.proofs.Given.{read_given}
use Rattle.host.proofs.reading.read_if_given.Goals as goal

pub returns-in_ok-read-in-Some : goal.returns-in_ok-read-in-Some
returns-in_ok-read-in-Some g c =
    let read = c.in_ok-read-in-Some.ensures in
    (read.0, read_given (g.F.Files.folder c.args.files.now) c.args.path c.in-Some.path c.in_ok-read-in-Some.field-0 c.in-Some.is read.1)
