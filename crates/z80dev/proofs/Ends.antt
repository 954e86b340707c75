-- How printing a file ends, given how its steps end.
use Rattle.std.proofs.Common.{◌≡◌, ℕ, ◌+◌, ◌++◌, ◌<◌, Bool, List, [], Option, None, Some, Result, Ok, Err, length, replicate, refl, sym, subst, ◌∙◌, inl, inr, arith}
use Rattle.std.proofs.lemmas.List.{length-replicate, append-nil}
use Rattle.std.specs.Io.KnownBytes.{Consumes, IsAtEnd}
use Rattle.common.specs.declared.limits.TheConstants.{LONGEST_TEXT}
use Rattle.zlink.specs.declared.fault.LinkFault.TheVariants as link
use Rattle.zlink.specs.declared.fault.BuildFault.{BuildFault}
use Rattle.zlink.specs.declared.fault.BuildFault.TheVariants as build
use Rattle.host.specs.Streams.Stream.{Stream}
use Rattle.z80dev.specs.declared.fault.Fault.{Fault}
use Rattle.z80dev.specs.declared.fault.Fault.TheVariants as fault
use Rattle.z80dev.specs.Main.{IsBuiltAsMain, IsFileOf, IsBuildRefused}
use Rattle.z80dev.specs.Pipe.{PrintingEnds}
use Rattle.z80dev.specs.Reading.{IsCutShort, IsUnread, IsWithinLimit, OfText}
use Rattle.z80dev.specs.Private.Steps.{Writes}

-- a source that was read to the end of its input
read_whole : (left end : Option (List ℕ)) (text : List ℕ) (P : List ℕ → Type 0) → Consumes left end text → IsAtEnd end → P text → OfText left P
read_whole None end text P taken at_end holds = (text, holds)
read_whole (Some all) None text P taken at_end holds = absurd taken
read_whole (Some all) (Some rest) text P taken at_end holds =
    let same : all ≡ text = subst (λ r. all ≡ text ++ r) at_end taken ∙ append-nil text in
    subst P (sym same) holds

-- for each length there is a longer source
long_text : (n : ℕ) → (text : List ℕ) × (n < length text)
long_text n = (replicate (n + 1) 0, omega (arith, length-replicate {A = ℕ} (n + 1) 0))

-- if the source could not be read, nothing is written
pub unread : (left : Option (List ℕ)) (kept : Stream) (failed : Bool) (reads interruptions : ℕ) (failure : Fault) → IsUnread left failed reads interruptions failure
    → OfText left (λ text. PrintingEnds text (IsCutShort failed reads interruptions) kept kept (Err failure))
unread None kept failed reads interruptions fault.File (inl cut) = ([], inl (inr cut, refl))
unread None kept failed reads interruptions fault.File (inr long) =
    let some = long_text LONGEST_TEXT in (some.0, inl (inl some.1, refl))
unread None kept failed reads interruptions (fault.Build refusal) why = ([], (subst (IsBuildRefused []) (sym why.0) tt, refl))
unread (Some text) kept failed reads interruptions fault.File (inl cut) = inl (inr cut, refl)
unread (Some text) kept failed reads interruptions fault.File (inr long) = inl (inl long, refl)
unread (Some text) kept failed reads interruptions (fault.Build refusal) why = (subst (IsBuildRefused text) (sym why.0) tt, refl)

-- what `build` answers for a source that is within the limit and that it refuses
pub refusing : (text : List ℕ) (refusal : BuildFault) → IsWithinLimit text → IsBuiltAsMain text (Err refusal) → IsBuildRefused text refusal
refusing text (build.Asm source fault) within answer = (within, answer)
refusing text (build.Link link.TooManyStatements) within answer = (within, answer)
refusing text (build.Link (link.BeginsNotFirst m)) within answer = (within, answer)
refusing text (build.Link (link.DefinedTwice m l)) within answer = (within, answer)
refusing text (build.Link (link.Unresolved m x)) within answer = (within, answer)
refusing text (build.Link (link.EntryNotFirst m)) within answer = (within, answer)
refusing text (build.Link (link.NoFit why sizes cert)) within answer = (within, answer)
refusing text (build.Link link.NoMemory) within answer = tt

-- a source that is refused
pub refused : (left end : Option (List ℕ)) (kept : Stream) (failed : Bool) (reads interruptions : ℕ) (text : List ℕ) (refusal : BuildFault) → Consumes left end text
    → IsAtEnd end → IsBuildRefused text refusal → OfText left (λ t. PrintingEnds t (IsCutShort failed reads interruptions) kept kept (Err (fault.Build refusal)))
refused left end kept failed reads interruptions text refusal taken at_end is =
    read_whole left end text (λ t. PrintingEnds t (IsCutShort failed reads interruptions) kept kept (Err (fault.Build refusal))) taken at_end (is, refl)

writing : (text file : List ℕ) (failed : Bool) (reads interruptions : ℕ) (old new : Stream) (r : Result Unit Fault) → IsWithinLimit text → IsFileOf text file
    → Writes file old new r → PrintingEnds text (IsCutShort failed reads interruptions) old new r
writing text file failed reads interruptions old new (Ok done) limit built wrote = (limit, file, built, wrote)
writing text file failed reads interruptions old new (Err fault.File) limit built wrote = inr (limit, file, built, wrote)
writing text file failed reads interruptions old new (Err (fault.Build refusal)) limit built wrote = (subst (IsBuildRefused text) (sym wrote.0) tt, wrote.1)

-- a source whose file is written
pub written : (left end : Option (List ℕ)) (old new : Stream) (failed : Bool) (reads interruptions : ℕ) (text file : List ℕ) (r : Result Unit Fault) → Consumes left end text
    → IsAtEnd end → IsWithinLimit text → IsFileOf text file → Writes file old new r → OfText left (λ t. PrintingEnds t (IsCutShort failed reads interruptions) old new r)
written left end old new failed reads interruptions text file r taken at_end limit built wrote =
    read_whole left end text (λ t. PrintingEnds t (IsCutShort failed reads interruptions) old new r) taken at_end (writing text file failed reads interruptions old new r limit built wrote)

-- what holds of a source, with one more fact
pub of_text : (left : Option (List ℕ)) (P Q : List ℕ → Type 0) → OfText left P → ((text : List ℕ) → P text → Q text) → OfText left Q
of_text None P Q (text, holds) more = (text, more text holds)
of_text (Some text) P Q holds more = more text holds
