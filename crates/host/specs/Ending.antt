-- How commands end that read files, make files of them, and print lines.
use Rattle.std.specs.Prelude.{ℕ, List, ◌++◌, codes, ◌≡◌, ◌⊎◌, [], Option, None, Some, Result, Ok, Err, string_bytes, String, Vec, option_map}
use Rattle.std.specs.List.{AllZip}
use Rattle.host.specs.Streams.Stream.{Stream}
use Rattle.host.specs.Answers.{Answer}
use Rattle.host.specs.Files.{Folder}
use Rattle.host.specs.Finishing.{WritesAndPrints}
use Rattle.host.specs.declared.end.End.{End}
use Rattle.host.specs.declared.end.End.TheVariants as end
use Rattle.host.specs.Reading.{IsNotRead, IsOneNotRead, IsRead}
use Rattle.std.specs.Global.{Global}

-- the text of the error that this path is read and would be written
abbrev pub over_text : List ℕ → List ℕ
over_text path = codes "Overwrites(" ++ path ++ codes ")"

-- Before and after: the files, and standard output.
pub record Effect : Type 0 where
  pub old : Folder
  pub new : Folder
  pub before : Stream
  pub after : Stream

abbrev pub effect_of : Folder → Folder → Stream → Stream → Effect
effect_of old new before after = record { old = old; new = new; before = before; after = after }

-- an end, however a function passes it on
abbrev pub ended : Result End End → End
ended (Ok e) = e
ended (Err e) = e

-- Nothing is written, locked or printed, and no call failed.
abbrev pub NothingDone : Effect → Type 0
NothingDone x = (x.new ≡ x.old) × (x.after ≡ x.before)

-- This text is the refusal, and nothing is done; or memory ran out for it.
abbrev pub Refuses : List ℕ → Effect → End → Type 0
Refuses why x (end.Refused said) = (string_bytes said ≡ why) × NothingDone x
Refuses why x end.NoMemory = NothingDone x
Refuses why x _ = ⊥

-- If there is a reason why it may not write its files, the command refuses with it. Otherwise it continues.
abbrev pub UnlessRefused : Option (List ℕ) → Type 0 → Effect → End → Type 0
UnlessRefused None Does x e = Does
UnlessRefused (Some why) Does x e = Refuses why x e

-- The files of an answer are written, its lines are printed, and what it says is the end.
abbrev pub IsCarriedOut : List ℕ → Answer → Effect → End → Type 0
IsCarriedOut base a x e = WritesAndPrints base a.files a.printed (λ said. a.said ≡ said) x.old x.new x.before x.after e

-- One of the answers that are right is carried out.
abbrev pub CarriesOut : List ℕ → (Answer → Type 0) → Effect → End → Type 0
CarriesOut base IsRight x e = (a : Answer) × IsRight a × IsCarriedOut base a x e

-- A file is read, and this is done with its bytes; or it is not read, which is the end, and nothing is printed.
abbrev pub With : List ℕ → (List ℕ → Type 0) → Effect → End → Type 0
With path Does x e = ((bytes : List ℕ) × IsRead x.old path bytes × Does bytes) ⊎ (IsNotRead x.old x.new path e × (x.after ≡ x.before))

-- Files are read in their order, and this is done with their bytes; or one is not read, which is the end, and nothing is printed.
abbrev pub WithAll : List (List ℕ) → (List (List ℕ) → Type 0) → Effect → End → Type 0
WithAll paths Does x e = ((texts : List (List ℕ)) × AllZip (IsRead x.old) paths texts × Does texts) ⊎ (IsOneNotRead x.old x.new paths e × (x.after ≡ x.before))

-- The lines go with the end at which all is done.
abbrev pub LinesAt : End → List ℕ → List ℕ → Type 0
LinesAt end.Done lines wanted = lines ≡ wanted
LinesAt other lines wanted = lines ≡ []

-- The line goes with the end at which all is done.
abbrev pub LineAt : End → Option (List ℕ) → Option (List ℕ) → Type 0
LineAt end.Done line wanted = line ≡ wanted
LineAt other line wanted = line ≡ None

-- this text is refused; or memory ran out
abbrev pub RefusesText : List ℕ → End → Type 0
RefusesText why (end.Refused said) = string_bytes said ≡ why
RefusesText why end.NoMemory = Unit {0}
RefusesText why _ = ⊥

-- a command may write its files, or this is why it may not
abbrev pub IsClear : Option (List ℕ) → Result Unit End → Type 0
IsClear why (Ok _) = why ≡ None
IsClear None (Err e) = e ≡ end.NoMemory
IsClear (Some why) (Err e) = RefusesText why e

-- all is done, with a line or none; or it ends otherwise
abbrev pub EndsWith : (Option (List ℕ) → End → Type 0) → Result (Option (String Global)) End → Type 0
EndsWith Is (Ok line) = Is (option_map string_bytes line) end.Done
EndsWith Is (Err e) = Is None e

-- how a command ends, and the line that it puts if all is done
abbrev pub end_in : Result (Option (String Global)) End → End
end_in (Ok line) = end.Done
end_in (Err e) = e

abbrev pub line_put : Result (Option (String Global)) End → Option (List ℕ)
line_put (Ok line) = option_map string_bytes line
line_put (Err e) = None

-- all is done, with lines; or it ends otherwise, without
abbrev pub EndsWithLines : (List ℕ → End → Type 0) → Result (Vec ℕ Global) End → Type 0
EndsWithLines Is (Ok lines) = Is lines.items end.Done
EndsWithLines Is (Err e) = Is [] e

-- how such a command ends, and its lines
abbrev pub end_with_lines : Result (Vec ℕ Global) End → End
end_with_lines (Ok lines) = end.Done
end_with_lines (Err e) = e

abbrev pub lines_after : Result (Vec ℕ Global) End → List ℕ
lines_after (Ok lines) = lines.items
lines_after (Err e) = []
