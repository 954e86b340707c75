-- How the steps of printing end.
use Rattle.std.specs.Prelude.{◌≡◌, ℕ, List, ◌++◌, Result, Ok, Err, codes, string_bytes}
use Rattle.cert_check.specs.declared.cert.Verdict.{Verdict}
use Rattle.cert_check.specs.Accepts.{Accepts}
use Rattle.cert_check.specs.declared.fault.CheckFault.{CheckFault}
use Rattle.cert_check.specs.declared.fault.CheckFault.TheVariants as check
use Rattle.host.specs.Streams.Stream.{Stream}
use Rattle.host.specs.Streams.Writing.{PrintsAll, PutsFront}
use Rattle.zlink.specs.declared.fault.LinkFault.TheVariants as link
use Rattle.zlink.specs.declared.fault.BuildFault.TheVariants as build
use Rattle.host.specs.declared.end.End.{End}
use Rattle.host.specs.declared.end.End.TheVariants as end
use Rattle.z80dev.specs.declared.fault.Fault.{Fault}
use Rattle.z80dev.specs.declared.fault.Fault.TheVariants as fault
use Rattle.z80dev.specs.CheckTexts.{check_text}
use Rattle.z80dev.specs.FaultTexts.{fault_text}
use Rattle.z80dev.specs.Main.{file_line}
use Rattle.z80dev.specs.Verdict.{IsRefusedBy}

-- How writing a file ends: its line is written; or memory ran out and nothing is written; or the writer failed on it.
abbrev pub Writes : List ℕ → Stream → Stream → Result Unit Fault → Type 0
Writes file old new (Ok _) = PrintsAll old new (file_line file)
Writes file old new (Err (fault.Build refusal)) = (refusal ≡ build.Link link.NoMemory) × (new ≡ old)
Writes file old new (Err fault.File) = PutsFront old new (file_line file)

-- how a command ends with an error: with its text; or, if there is no memory for the text of a refusal, as if memory
-- had run out before
abbrev pub Reports : Fault → End → Type 0
Reports fault.File (end.File path ending) = path.now ++ ending.now ≡ codes "MAIN"
Reports (fault.Build refusal) (end.Refused text) = string_bytes text ≡ fault_text (fault.Build refusal)
Reports (fault.Build refusal) end.NoMemory = Unit {0}
Reports fault other = ⊥

-- the text of an error, other than that memory ran out
abbrev pub IsTextOf : CheckFault → List ℕ → Type 0
IsTextOf check.NoMemory text = ⊥
IsTextOf fault text = text ≡ check_text fault

-- what the checker says about two files
abbrev pub Judges : List ℕ → List ℕ → Result Verdict End → Type 0
Judges sizes cert (Ok verdict) = Accepts sizes cert verdict
Judges sizes cert (Err (end.Refused text)) = IsRefusedBy sizes cert (string_bytes text)
Judges sizes cert (Err end.NoMemory) = Unit {0}
Judges sizes cert (Err other) = ⊥

abbrev pub end_of : Result Unit End → End
end_of (Ok _) = end.Done
end_of (Err e) = e
