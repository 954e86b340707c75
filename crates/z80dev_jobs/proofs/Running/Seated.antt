-- How `play` ends.
use Rattle.std.proofs.Common.{◌≡◌, ℕ, Bool, List, Option, Result, map, subst, unwrap_or}
use Rattle.cpm_console.specs.Seat.{Seat}
use Rattle.cpm_run.specs.declared.arriving.Arrival.{Arrival}
use Rattle.cpm_run.specs.declared.arriving.PlayEnd.{PlayEnd}
use Rattle.cpm_console.specs.declared.codes.Codes.{Codes}
use Rattle.cpm_console.specs.declared.codes.Pending.{Pending}
use Rattle.z80dev_commands.specs.declared.job.Play.{Play}
use Rattle.host.specs.Files.{Folder}
use Rattle.z80dev_jobs.specs.Runs.Playing.{EndsPlay, IsSession, Plays, flushed_end, most_steps, seated}
use Rattle.host.specs.Streams.Stream.{Stream}
use Rattle.host.specs.Streams.Writing.{Flushed}
use Rattle.host.specs.declared.streams.writing.WriteFailed.{WriteFailed}
use Rattle.host.specs.World.{World}
use Rattle.z80dev_jobs.specs.declared.runs.running.Inputs.{Inputs}
use Rattle.z80dev_run.specs.Desk.{seat_of}
use Rattle.z80dev_run.specs.declared.desk.Keys.{Keys}
use Rattle.machine_history.specs.declared.recorded.Recorded.{Recorded}

pub plays : (p : Play) (inputs : Inputs) (recorded : Option Recorded) (claimed : Folder) (old new : World) (status : ℕ) (words : List (List ℕ)) (steps : ℕ) (before after : Seat) (whose : Codes) (pending : Pending) (keys : Keys) (is_leaving : Bool)
    (printed : Stream) (flushed : Result Unit WriteFailed) (end : PlayEnd) (turns pc : ℕ) (image : List ℕ) (arrivals : List Arrival)
    → words ≡ map (λ word. word.now) p.words.items → steps ≡ unwrap_or p.steps most_steps
    → before ≡ seated p old → after ≡ seat_of whose pending keys is_leaving new.input.left printed.bytes
    → IsSession inputs.program.items words inputs.image.items steps recorded before end turns pc image arrivals after
    → Flushed printed new.output flushed → EndsPlay p inputs (flushed_end end flushed) turns pc image arrivals claimed new.folder old.errors new.errors status
    → Plays p inputs recorded claimed old new status
plays p inputs recorded claimed old new status words steps before after whose pending keys is_leaving printed flushed end turns pc image arrivals same_words same_steps same_before same_after played handed ends =
    let of_words = subst (λ w. IsSession inputs.program.items w inputs.image.items steps recorded before end turns pc image arrivals after) same_words played in
    let of_steps = subst (λ n. IsSession inputs.program.items (map (λ word. word.now) p.words.items) inputs.image.items n recorded before end turns pc image arrivals after) same_steps of_words in
    let of_before = subst (λ b. IsSession inputs.program.items (map (λ word. word.now) p.words.items) inputs.image.items (unwrap_or p.steps most_steps) recorded b end turns pc image arrivals after) same_before of_steps in
    let of_after = subst (λ a. IsSession inputs.program.items (map (λ word. word.now) p.words.items) inputs.image.items (unwrap_or p.steps most_steps) recorded (seated p old) end turns pc image arrivals a) same_after of_before in
    (end, turns, pc, image, arrivals, whose, pending, keys, is_leaving, printed, flushed, of_after, handed, ends)
