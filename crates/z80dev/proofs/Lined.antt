-- Commands that end with lines.
use Rattle.std.proofs.Common.{◌≡◌, List, ℕ, [], Vec, Result, Ok, Err, refl, subst, sym}
use Rattle.std.specs.Global.{Global}
use Rattle.std.specs.Prelude.{IsErrAnd}
use Rattle.host.specs.Streams.Stream.{Stream}
use Rattle.host.specs.End.{end_status}
use Rattle.host.specs.Files.{Folder}
use Rattle.host.specs.declared.end.End.{End}
use Rattle.host.specs.declared.end.End.TheVariants as end
use Rattle.host.specs.Reporting.{ReportsLines, TellsAtEnd}
use Rattle.host.specs.Ending.{Effect, LinesAt, effect_of, EndsWithLines, end_with_lines, lines_after}
use Rattle.z80dev.specs.Private.FileSteps.{DoneWithLines}
use Rattle.host.specs.Reading.{Reader}
use Rattle.host.specs.World.{world_of}

pub ends_lined : (Is : List ℕ → End → Type 0) (result : Result (Vec ℕ Global) End) → Is (lines_after result) (end_with_lines result) → EndsWithLines Is result
ends_lined Is (Ok lines) is = is
ends_lined Is (Err e) is = is

-- A command that ends in one way ends in another, if the one implies the other.
pub lined_as : (Is Was : List ℕ → End → Type 0) (result : Result (Vec ℕ Global) End) → ((lines : List ℕ) (e : End) → Is lines e → Was lines e) → EndsWithLines Is result → EndsWithLines Was result
lined_as Is Was (Ok lines) so is = so lines.items end.Done is
lined_as Is Was (Err e) so is = so [] e is

-- lines that go with the end at which all is done
pub with_lines : (e : End) (lines : Vec ℕ Global) (result : Result (Vec ℕ Global) End) → DoneWithLines e lines result → (end_with_lines result ≡ e) × LinesAt (end_with_lines result) (lines_after result) lines.items
with_lines end.Done lines result is = rw is (refl, refl)
with_lines (end.Refused said) lines result is = rw is (refl, refl)
with_lines (end.File path last) lines result is = rw is (refl, refl)
with_lines (end.Path path) lines result is = rw is (refl, refl)
with_lines end.Stream lines result is = rw is (refl, refl)
with_lines end.NoMemory lines result is = rw is (refl, refl)

pub lined_on : (Is : List ℕ → End → Type 0) (e : End) (result : Result (Vec ℕ Global) End) → IsErrAnd result (λ f. f ≡ e) → Is [] e → EndsWithLines Is result
lined_on Is e (Ok lines) same is = absurd same
lined_on Is e (Err f) same is = subst (Is []) (sym same) is

of_lined : (Is : List ℕ → End → Type 0) (result : Result (Vec ℕ Global) End) → EndsWithLines Is result → Is (lines_after result) (end_with_lines result)
of_lined Is (Ok lines) is = is
of_lined Is (Err e) is = is

-- the lines of a job, or its end, are reported
pub reported_lined : (Ends : Effect → List ℕ → End → Type 0) (old new : Folder) (input : Reader) (before after errors told : Stream) (result : Result (Vec ℕ Global) End) (status : ℕ)
    → EndsWithLines (Ends (effect_of old new before after)) result → status ≡ end_status (end_with_lines result) → TellsAtEnd (lines_after result) (end_with_lines result) errors told
    → ReportsLines Ends (world_of old input before errors) (world_of new input after told) status
reported_lined Ends old new input before after errors told result status ends is tells =
    (lines_after result, end_with_lines result, of_lined (Ends (effect_of old new before after)) result ends, is, tells, refl)
