-- A call of consoles that look alike has one answer, and leaves consoles that look alike.
use Rattle.std.proofs.Common.{append_assoc, ◌≡◌, ◌⊎◌, ◌==◌, ℕ, Bool, true, false, List, [], ◌∷◌, ◌++◌, Option, Some, None, Result, Ok, Err, refl, sym, ap, subst, ◌∙◌, inl, inr}
use Rattle.std.specs.Prelude.{⊤}
use Rattle.std.specs.Io.KnownBytes.{Appends}
use Rattle.cpm_console.specs.Dialog.{Dialog, Event, Passes, PassesUnfailed, Put, Took, put_by, taken_by}
use Rattle.cpm_console.specs.Line.{Ending, Stored, Transcript}
use Rattle.cpm_console.specs.Line.Ending.{NoInput, WarmBoot as Broken}
use Rattle.cpm_console.specs.Screen.{Does, Screen, column_after}
use Rattle.cpm_disk.specs.declared.control.stop.Stop.{Stop}
use Rattle.cpm_disk.specs.declared.control.stop.Stop.TheVariants as stop
use Rattle.cpm_bdos.specs.Alike.{AlikeDialogs, AlikeScreens, HasNotFailed, SameIfKnown}
use Rattle.cpm_bdos.specs.Console.Lines.{ReadsLine, with_line_stored}
use Rattle.cpm_bdos.specs.Console.Raw.{Directs, PutsRaw, TakesAny, TakesRaw, PutsDirect, Asked}
use Rattle.cpm_bdos.specs.Console.Texts.{Speaks, Talk}
use Rattle.cpm_bdos.specs.declared.console.reply.Reply.{Reply}
use Rattle.cpm_bdos.specs.declared.console.reply.Reply.TheVariants as reply

append_cancel : (bytes xs ys : List ℕ) → bytes ++ xs ≡ bytes ++ ys → xs ≡ ys
append_cancel [] xs ys e = e
append_cancel (b ∷ bytes) xs ys e = append_cancel bytes xs ys (tails b (bytes ++ xs) (bytes ++ ys) e) where
  tails : (b : ℕ) (us vs : List ℕ) → (b ∷ us) ≡ (b ∷ vs) → us ≡ vs
  tails b us vs same = cc

-- known bytes stay known, and grow by the same bytes
appended : (viewed : Option (List ℕ × List ℕ)) (a b x y : Option (List ℕ)) (bytes : List ℕ) → SameIfKnown viewed a b → Appends a x bytes → Appends b y bytes → SameIfKnown viewed x y
appended None a b x y bytes same one two = tt
appended (Some (seen, other)) a b x y bytes same one two =
    let p = known same.0 x bytes (subst (λ o. Appends o x bytes) same.2 one) in
    let q = known same.1 y bytes (subst (λ o. Appends o y bytes) same.3 two) in
    (same.0 ++ bytes, same.1 ++ bytes, p, q, sym (append_assoc other same.1 bytes) ∙ ap (λ l. l ++ bytes) same.4 ∙ append_assoc seen same.0 bytes)
  where
    known : (xs : List ℕ) (o : Option (List ℕ)) (more : List ℕ) → Appends (Some xs) o more → o ≡ Some (xs ++ more)
    known xs None more h = absurd h
    known xs (Some ys) more h = ap Some h

-- the same bytes pass
dialogs_alike : (viewed : Option (List ℕ × List ℕ)) (a b x y : Dialog) (events : List Event) → AlikeDialogs viewed a b → Passes a x events → x.faults ≡ a.faults → Passes b y events → y.faults ≡ b.faults → AlikeDialogs viewed x y
dialogs_alike viewed a b x y events alike one same two still = record {
  input = append_cancel (taken_by events) y.input x.input (sym two.input ∙ alike.input ∙ one.input);
  output = appended viewed a.output b.output x.output y.output (put_by events) alike.output one.output two.output;
  faults = still ∙ alike.faults ∙ sym same;
}

pub does_alike : (viewed : Option (List ℕ × List ℕ)) (a b x y : Screen) (events : List Event) → AlikeScreens viewed a b → Does a x events → Does b y events → AlikeScreens viewed x y
does_alike viewed a b x y events alike one two = record {
  dialog = dialogs_alike viewed a.dialog b.dialog x.dialog y.dialog events alike.dialog one.passed one.unfailed two.passed two.unfailed;
  column = two.column ∙ ap (λ k. column_after k (put_by events)) alike.column ∙ sym one.column;
}

-- a call that did not fail ended as its bytes say
spoke : {A : Type 0} (old new : Screen) (t : Talk A) (r : Result A Stop) → HasNotFailed r → Speaks old new t r → (t.ending ≡ r) × Does old new t.events
spoke old new t (Ok value) good h = h
spoke old new t (Err stop.ConsoleFault) good h = absurd (good.1 refl)
spoke old new t (Err (stop.UnsupportedFunction n)) good h = h
spoke old new t (Err stop.FileReadOnly) good h = h
spoke old new t (Err stop.BadFcb) good h = h
spoke old new t (Err stop.DiskFault) good h = h
spoke old new t (Err stop.EndOfInput) good h = h
spoke old new t (Err stop.UnknownDrive) good h = h
spoke old new t (Err (stop.UnsupportedBios n)) good h = h

pub one_talk : {A : Type 0} (viewed : Option (List ℕ × List ℕ)) (a b x y : Screen) (t u : Talk A) (r s : Result A Stop) → AlikeScreens viewed a b → u ≡ t → HasNotFailed r → HasNotFailed s → Speaks a x t r → Speaks b y u s
    → (s ≡ r) × AlikeScreens viewed x y
one_talk viewed a b x y t u r s alike e good fine one two =
    let p = spoke a x t r good one in
    let q = spoke b y t s fine (subst (λ v. Speaks b y v s) e two) in
    (sym q.0 ∙ p.0, does_alike viewed a b x y t.events alike p.1 q.1)

-- the next byte is taken, or there is none
took : (old new : Screen) (r : Result ℕ Stop) → HasNotFailed r → TakesRaw old new r
    → ((byte : ℕ) × (r ≡ Ok byte) × PassesUnfailed old.dialog new.dialog (Took byte ∷ []) × (new.column ≡ old.column))
    ⊎ ((r ≡ Err stop.EndOfInput) × (old.dialog.input ≡ []) × PassesUnfailed old.dialog new.dialog [] × (new.column ≡ old.column))
took old new (Ok byte) good h = inl (byte, refl, h.0, h.1)
took old new (Err stop.EndOfInput) good h = inr (refl, h.0.0, h.0.1, h.1)
took old new (Err stop.ConsoleFault) good h = absurd (good.1 refl)
took old new (Err (stop.UnsupportedFunction n)) good h = absurd h
took old new (Err stop.FileReadOnly) good h = absurd h
took old new (Err stop.BadFcb) good h = absurd h
took old new (Err stop.DiskFault) good h = absurd h
took old new (Err stop.UnknownDrive) good h = absurd h
took old new (Err (stop.UnsupportedBios n)) good h = absurd h

raw_alike : (viewed : Option (List ℕ × List ℕ)) (a b x y : Screen) (events : List Event) → AlikeScreens viewed a b → PassesUnfailed a.dialog x.dialog events → x.column ≡ a.column → PassesUnfailed b.dialog y.dialog events → y.column ≡ b.column → AlikeScreens viewed x y
raw_alike viewed a b x y events alike one here two there = record {
  dialog = dialogs_alike viewed a.dialog b.dialog x.dialog y.dialog events alike.dialog one.passed one.unfailed two.passed two.unfailed;
  column = there ∙ alike.column ∙ sym here;
}

heads : (b c : ℕ) (us vs : List ℕ) → (b ∷ us) ≡ (c ∷ vs) → b ≡ c
heads b c us vs same = cc

no_head : {A : Type 0} (b : ℕ) (us : List ℕ) → (b ∷ us) ≡ [] → A
no_head b us same = absurd cc

pub one_raw : (viewed : Option (List ℕ × List ℕ)) (a b x y : Screen) (r s : Result ℕ Stop) → AlikeScreens viewed a b → HasNotFailed r → HasNotFailed s → TakesRaw a x r → TakesRaw b y s → (s ≡ r) × AlikeScreens viewed x y
one_raw viewed a b x y r s alike good fine one two = both (took a x r good one) (took b y s fine two) where
  both : ((byte : ℕ) × (r ≡ Ok byte) × PassesUnfailed a.dialog x.dialog (Took byte ∷ []) × (x.column ≡ a.column)) ⊎ ((r ≡ Err stop.EndOfInput) × (a.dialog.input ≡ []) × PassesUnfailed a.dialog x.dialog [] × (x.column ≡ a.column))
      → ((byte : ℕ) × (s ≡ Ok byte) × PassesUnfailed b.dialog y.dialog (Took byte ∷ []) × (y.column ≡ b.column)) ⊎ ((s ≡ Err stop.EndOfInput) × (b.dialog.input ≡ []) × PassesUnfailed b.dialog y.dialog [] × (y.column ≡ b.column))
      → (s ≡ r) × AlikeScreens viewed x y
  both (inl p) (inl q) =
      let e : q.0 ≡ p.0 = heads q.0 p.0 y.dialog.input x.dialog.input (sym q.2.passed.input ∙ alike.dialog.input ∙ p.2.passed.input) in
      (q.1 ∙ ap Ok e ∙ sym p.1, raw_alike viewed a b x y (Took p.0 ∷ []) alike p.2 p.3 (subst (λ k. PassesUnfailed b.dialog y.dialog (Took k ∷ [])) e q.2) q.3)
  both (inl p) (inr q) = no_head p.0 x.dialog.input (sym p.2.passed.input ∙ sym alike.dialog.input ∙ q.1)
  both (inr p) (inl q) = no_head q.0 y.dialog.input (sym q.2.passed.input ∙ alike.dialog.input ∙ p.1)
  both (inr p) (inr q) = (q.0 ∙ sym p.0, raw_alike viewed a b x y [] alike p.2 p.3 q.2 q.3)

-- a byte is put
put : (old new : Screen) (byte : ℕ) (r : Result ⊤ Stop) → HasNotFailed r → PutsRaw old new byte r → (r ≡ Ok tt) × PassesUnfailed old.dialog new.dialog (Put byte ∷ []) × (new.column ≡ old.column)
put old new byte (Ok done) good h = (refl, h.0, h.1)
put old new byte (Err stop.ConsoleFault) good h = absurd (good.1 refl)
put old new byte (Err stop.EndOfInput) good h = absurd h
put old new byte (Err (stop.UnsupportedFunction n)) good h = absurd h
put old new byte (Err stop.FileReadOnly) good h = absurd h
put old new byte (Err stop.BadFcb) good h = absurd h
put old new byte (Err stop.DiskFault) good h = absurd h
put old new byte (Err stop.UnknownDrive) good h = absurd h
put old new byte (Err (stop.UnsupportedBios n)) good h = absurd h

pub one_put : (viewed : Option (List ℕ × List ℕ)) (a b x y : Screen) (byte : ℕ) (r s : Result ⊤ Stop) → AlikeScreens viewed a b → HasNotFailed r → HasNotFailed s → PutsRaw a x byte r → PutsRaw b y byte s → (s ≡ r) × AlikeScreens viewed x y
one_put viewed a b x y byte r s alike good fine one two =
    let p = put a x byte r good one in
    let q = put b y byte s fine two in
    (q.0 ∙ sym p.0, raw_alike viewed a b x y (Put byte ∷ []) alike p.1 p.2 q.1 q.2)

-- function 6
put_direct : (old new : Screen) (byte : ℕ) (r : Result ℕ Stop) → HasNotFailed r → PutsDirect old new byte r → (r ≡ Ok 0) × PassesUnfailed old.dialog new.dialog (Put byte ∷ []) × (new.column ≡ old.column)
put_direct old new byte (Ok value) good h = (ap Ok h.0, h.1.0, h.1.1)
put_direct old new byte (Err stop.ConsoleFault) good h = absurd (good.1 refl)
put_direct old new byte (Err stop.EndOfInput) good h = absurd h
put_direct old new byte (Err (stop.UnsupportedFunction n)) good h = absurd h
put_direct old new byte (Err stop.FileReadOnly) good h = absurd h
put_direct old new byte (Err stop.BadFcb) good h = absurd h
put_direct old new byte (Err stop.DiskFault) good h = absurd h
put_direct old new byte (Err stop.UnknownDrive) good h = absurd h
put_direct old new byte (Err (stop.UnsupportedBios n)) good h = absurd h

pub alike_as : (viewed : Option (List ℕ × List ℕ)) (a b x y : Screen) → x ≡ a → y ≡ b → AlikeScreens viewed a b → AlikeScreens viewed x y
alike_as viewed a b x y p q alike = subst (AlikeScreens viewed x) (sym q) (subst (λ s. AlikeScreens viewed s b) (sym p) alike)

one_any : (viewed : Option (List ℕ × List ℕ)) (input : List ℕ) (a b x y : Screen) (r s : Result ℕ Stop) → AlikeScreens viewed a b → HasNotFailed r → HasNotFailed s → TakesAny input a x r → TakesAny input b y s → (s ≡ r) × AlikeScreens viewed x y
one_any viewed [] a b x y r s alike good fine one two = (two.0 ∙ sym one.0, alike_as viewed a b x y one.1 two.1 alike)
one_any viewed (byte ∷ input) a b x y r s alike good fine one two = one_raw viewed a b x y r s alike good fine one two

one_asked : (viewed : Option (List ℕ × List ℕ)) (ask : Bool) (a b x y : Screen) (byte : ℕ) (r s : Result ℕ Stop) → AlikeScreens viewed a b → HasNotFailed r → HasNotFailed s → Asked ask a x byte r → Asked ask b y byte s → (s ≡ r) × AlikeScreens viewed x y
one_asked viewed true a b x y byte r s alike good fine one two = one_any viewed a.dialog.input a b x y r s alike good fine one (subst (λ i. TakesAny i b y s) alike.dialog.input two)
one_asked viewed false a b x y byte r s alike good fine one two =
    let p = put_direct a x byte r good one in
    let q = put_direct b y byte s fine two in
    (q.0 ∙ sym p.0, raw_alike viewed a b x y (Put byte ∷ []) alike p.1 p.2 q.1 q.2)

pub one_direct : (viewed : Option (List ℕ × List ℕ)) (a b x y : Screen) (byte : ℕ) (r s : Result ℕ Stop) → AlikeScreens viewed a b → HasNotFailed r → HasNotFailed s → Directs a x byte r → Directs b y byte s → (s ≡ r) × AlikeScreens viewed x y
one_direct viewed a b x y byte r s alike good fine one two = one_asked viewed (byte == 0xFF) a b x y byte r s alike good fine one two

-- What function 10 answers for each end of a line, and the memory then.
line_answer : ℕ → List ℕ → Ending → Result Reply Stop
line_answer address before (Stored bytes) = Ok (reply.Value 0)
line_answer address before Broken = Ok reply.WarmBoot
line_answer address before NoInput = Err stop.EndOfInput

line_memory : ℕ → List ℕ → Ending → List ℕ
line_memory address before (Stored bytes) = with_line_stored address bytes before
line_memory address before Broken = before
line_memory address before NoInput = before

read_line : (t : Transcript) (address : ℕ) (old new : Screen) (before now : List ℕ) (r : Result Reply Stop) → HasNotFailed r → ReadsLine t address old new before now r
    → Does old new t.events × (r ≡ line_answer address before t.ending) × (now ≡ line_memory address before t.ending)
unfolding line_answer line_memory
read_line t address old new before now (Ok (reply.Value value)) good h =
    (h.0, ap (λ v. Ok (reply.Value v)) h.1 ∙ sym (ap (line_answer address before) h.2.1), h.2.2 ∙ sym (ap (line_memory address before) h.2.1))
read_line t address old new before now (Ok reply.WarmBoot) good h = (h.0, sym (ap (line_answer address before) h.1), h.2 ∙ sym (ap (line_memory address before) h.1))
read_line t address old new before now (Err stop.EndOfInput) good h = (h.0, sym (ap (line_answer address before) h.1), h.2 ∙ sym (ap (line_memory address before) h.1))
read_line t address old new before now (Err stop.ConsoleFault) good h = absurd (good.1 refl)
read_line t address old new before now (Err (stop.UnsupportedFunction n)) good h = absurd h
read_line t address old new before now (Err stop.FileReadOnly) good h = absurd h
read_line t address old new before now (Err stop.BadFcb) good h = absurd h
read_line t address old new before now (Err stop.DiskFault) good h = absurd h
read_line t address old new before now (Err stop.UnknownDrive) good h = absurd h
read_line t address old new before now (Err (stop.UnsupportedBios n)) good h = absurd h

pub one_line : (viewed : Option (List ℕ × List ℕ)) (t u : Transcript) (address : ℕ) (a b x y : Screen) (before now left : List ℕ) (r s : Result Reply Stop) → AlikeScreens viewed a b → u ≡ t → HasNotFailed r → HasNotFailed s
    → ReadsLine t address a x before now r → ReadsLine u address b y before left s → (s ≡ r) × (left ≡ now) × AlikeScreens viewed x y
one_line viewed t u address a b x y before now left r s alike e good fine one two =
    let p = read_line t address a x before now r good one in
    let q = read_line t address b y before left s fine (subst (λ v. ReadsLine v address b y before left s) e two) in
    (q.1 ∙ sym p.1, q.2 ∙ sym p.2, does_alike viewed a b x y t.events alike p.0 q.0)
