-- From what `finish` does to what a command does.
use Rattle.std.proofs.Common.{◌≡◌, ℕ, List, Option, None, Some, Result, Ok, Err, ap, inl, inr, refl, subst, sym, string_bytes}
use Rattle.std.specs.Option.{option_map}
use Rattle.host.specs.Streams.Stream.{Stream}
use Rattle.host.specs.Streams.Writing.{Puts}
use Rattle.host.specs.declared.streams.writing.WriteFailed.{WriteFailed}
use Rattle.host.specs.Answers.{Answer, MemoryAside, answer_by}
use Rattle.host.specs.End.{IsPut, Tells}
use Rattle.host.specs.Files.{Folder, File}
use Rattle.host.specs.Finishing.{Finishes, IsWhy}
use Rattle.host.specs.declared.answer.Answer as made
use Rattle.host.specs.declared.end.End.{End}
use Rattle.host.specs.declared.end.End.TheVariants as end
use Rattle.host.specs.Reporting.{TellsWith}
use Rattle.host.specs.Ending.{IsCarriedOut, IsClear, LineAt, effect_of, Effect, NothingDone, Refuses, RefusesText, UnlessRefused}

why_said : {R : Type 0} (text : R → List ℕ) (refusal : Option R) (said : Option (List ℕ)) → IsWhy (λ r. Some (text r)) refusal said → option_map text refusal ≡ said
why_said text None None none = refl
why_said text None (Some said) none = absurd none
why_said text (Some why) None none = absurd none
why_said text (Some why) (Some said) is = ap Some (sym is)

finished : {R : Type 0} (text : R → List ℕ) (base : List ℕ) (a : made.Answer R) (old new : Folder) (before after : Stream) (e : End)
    → Finishes (λ r. Some (text r)) base a old new before after e → IsCarriedOut base (answer_by text a) (effect_of old new before after) e
finished text base a old new before after end.Done does = (does.0, does.1, why_said text a.refusal None does.2)
finished text base a old new before after (end.Refused said) does = (does.0, does.1, why_said text a.refusal (Some (string_bytes said)) does.2)
finished text base a old new before after (end.File path last) does = does
finished text base a old new before after (end.Path path) does = absurd does
finished text base a old new before after end.Stream does = does
finished text base a old new before after end.NoMemory does = does

-- The same over files that were read in between: reading changes no file.
pub carried : {R : Type 0} (text : R → List ℕ) (base : List ℕ) (a : made.Answer R) (old mid new : Folder) (before after : Stream) (e : End) → mid ≡ old
    → Finishes (λ r. Some (text r)) base a mid new before after e → IsCarriedOut base (answer_by text a) (effect_of old new before after) e
carried text base a old mid new before after e same does =
    subst (λ f. IsCarriedOut base (answer_by text a) (effect_of f new before after) e) same (finished text base a mid new before after e does)

pub aside : (Is Other : Answer → Type 0) (a : Answer) → (Is a → Other a) → MemoryAside Is a → MemoryAside Other a
aside Is Other a more (inl out) = inl out
aside Is Other a more (inr is) = inr (more is)

-- a line is put, whatever comes of it
pub put_so : (old new : Stream) (line : List ℕ) (result : Result Unit WriteFailed) → Puts old new line result → IsPut old new line
put_so old new line (Ok _) put = inl put
put_so old new line (Err _) put = inr put

-- an end at which not all is done has no line
pub no_line : (e : End) (wanted : Option (List ℕ)) → (e ≡ end.Done → ⊥) → LineAt e None wanted
no_line end.Done wanted not = absurd (not refl)
no_line (end.Refused said) wanted not = refl
no_line (end.File path last) wanted not = refl
no_line (end.Path path) wanted not = refl
no_line end.Stream wanted not = refl
no_line end.NoMemory wanted not = refl

pub tells_alone : (e : End) (old new : Stream) → Tells e old new → TellsWith None e old new
tells_alone end.Done old new tells = tells
tells_alone (end.Refused said) old new tells = tells
tells_alone (end.File path last) old new tells = tells
tells_alone (end.Path path) old new tells = tells
tells_alone end.Stream old new tells = tells
tells_alone end.NoMemory old new tells = tells

-- a refusal with this text, before anything is done
pub refuses : (why : List ℕ) (x : Effect) (e : End) → RefusesText why e → NothingDone x → Refuses why x e
refuses why x (end.Refused said) says nothing = (says, nothing)
refuses why x end.NoMemory says nothing = nothing
refuses why x end.Done says nothing = absurd says
refuses why x (end.File path last) says nothing = absurd says
refuses why x (end.Path path) says nothing = absurd says
refuses why x end.Stream says nothing = absurd says

-- a command that may write its files
pub clear : (why : Option (List ℕ)) (Does : Type 0) (x : Effect) (e : End) → why ≡ None → Does → UnlessRefused why Does x e
clear why Does x e none does = subst (λ w. UnlessRefused w Does x e) (sym none) does

-- a command that may not, or for which memory ran out
pub unclear : (why : Option (List ℕ)) (Does : Type 0) (x : Effect) (e : End) → IsClear why (Err e) → NothingDone x → (e ≡ end.NoMemory → Does) → UnlessRefused why Does x e
unclear None Does x e out nothing does = does out
unclear (Some why) Does x e says nothing does = refuses why x e says nothing
