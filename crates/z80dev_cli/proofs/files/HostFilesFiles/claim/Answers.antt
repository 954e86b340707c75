use Rattle.std.proofs.Common.{true, refl}
use Rattle.z80dev_cli.proofs.files.HostFilesFiles.claim.Goals as goal

pub returns-in-Ok-claim : goal.returns-in-Ok-claim
returns-in-Ok-claim c =
    rw (c.take.ensures, c.ask.ensures, c.in-Ok-claim.ensures.0, c.in-Ok-claim.ensures.1, c.in-Ok.ensures.ok)
    (λ _. true, refl, refl, c.in-Ok-claim.ensures.2, refl, c.in-Ok-claim.ensures.3, tt)
