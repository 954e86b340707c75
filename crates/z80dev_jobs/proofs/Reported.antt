-- From how a command ended to what is reported of it.
use Rattle.std.proofs.Common.{◌≡◌, ℕ, List, String, Option, Result, Ok, Err, refl}
use Rattle.std.specs.Global.{Global}
use Rattle.host.specs.Streams.Stream.{Stream}
use Rattle.host.specs.End.{end_status}
use Rattle.host.specs.Files.{Folder}
use Rattle.host.specs.declared.end.End.{End}
use Rattle.host.specs.Reporting.{ReportsLine, TellsWith}
use Rattle.host.specs.Ending.{Effect, effect_of, EndsWith, end_in, line_put}
use Rattle.host.specs.Reading.{Reader}
use Rattle.host.specs.World.{world_of}

of_ends : (Is : Option (List ℕ) → End → Type 0) (result : Result (Option (String Global)) End) → EndsWith Is result → Is (line_put result) (end_in result)
of_ends Is (Ok line) is = is
of_ends Is (Err e) is = is

-- the line of a job, or its end, is reported
pub reported : (Ends : Effect → Option (List ℕ) → End → Type 0) (old new : Folder) (input : Reader) (before after errors told : Stream) (result : Result (Option (String Global)) End) (status : ℕ)
    → EndsWith (Ends (effect_of old new before after)) result → status ≡ end_status (end_in result) → TellsWith (line_put result) (end_in result) errors told
    → ReportsLine Ends (world_of old input before errors) (world_of new input after told) status
reported Ends old new input before after errors told result status ends is tells =
    (line_put result, end_in result, of_ends (Ends (effect_of old new before after)) result ends, is, tells, refl)
