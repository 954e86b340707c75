-- How commands end that read, claim and change images.
use Rattle.std.proofs.Common.{◌≡◌, ◌≢◌, ◌∙◌, ◌+◌, ◌<◌, ◌&&◌, ap, arith, cond, drop, false, find, true, get_or, map, not, take, ℕ, Bool, Bor, List, [], ◌∷◌, length, String, Vec, Option, None, Some, Result, Ok, Err, codes, inl, inr, refl, subst, sym, string_bytes}
use Rattle.std.specs.Global.{Global}
use Rattle.std.specs.Option.{option_map}
use Rattle.std.specs.Result.{IsErrAnd}
use Rattle.host.specs.Streams.Stream.{Stream, counted}
use Rattle.z80dev_commands.specs.declared.job.Target.{Target}
use Rattle.z80dev_disk.specs.Refusals.{refusal_text}
use Rattle.z80dev_disk.specs.declared.refusal.Refusal.{Refusal}
use Rattle.std.specs.List.{AllZip, concat}
use Rattle.std.specs.Prelude.{◌⊎◌, ◌==◌}
use Rattle.std.proofs.lemmas.Bool.{false≢true}
use Rattle.std.proofs.lemmas.List.{at_drop_more, get_or-map, length-map, map-append, take_more}
use Rattle.cpm_image.specs.Image.{blank_image}
use Rattle.host.specs.declared.streams.writing.WriteFailed.{WriteFailed}
use Rattle.z80dev_disk.specs.declared.getting.Gotten.{Gotten}
use Rattle.host.proofs.Stored.{adds_trans, none_more}
use Rattle.host.specs.Files.{Adds, File, Folder, IsToBeKept, Places, ReplacedOrNot, Replaces, Stores, locked_by, spent}
use Rattle.host.specs.declared.files.Placed.TheVariants as placed
use Rattle.host.specs.declared.end.End.{End}
use Rattle.host.specs.declared.end.End.TheVariants as end
use Rattle.z80dev_disk.specs.Put.{IsPutImage as IsPutOn}
use Rattle.z80dev_disk.specs.Words.{file_name_of, own_name, pattern_of}
use Rattle.z80dev_commands.specs.declared.job.Manner.{Manner}
use Rattle.z80dev.specs.Disks.{BlankEnds, Changes, ChangesImage, Claiming, IsNotLocked, Named, NamedAll, PutEnds, Warns, GetsMatching, IsWrittenInto, gotten_paths, over_image, NamedIfGiven, PutAllEnds, ReadsImage, WritesInto, as_put, bad_name, path_in, without_name, BlankIsMade, GivesUp, kind_of}
use Rattle.host.specs.Claims.{warnings, ClaimsImage, ReadsImageFile, image_lines}
use Rattle.host.specs.Reading.{IsNotRead, IsOneNotRead, IsRead}
use Rattle.host.specs.Answers.{Answer, answer_by}
use Rattle.host.specs.Finishing.{Finishes}
use Rattle.host.specs.SamePath.{is_same_path}
use Rattle.host.specs.declared.answer.Answer as made
use Rattle.z80dev_disk.specs.Get.{IsGetAll}
use Rattle.host.specs.Ending.{CarriesOut, Effect, IsCarriedOut, LineAt, IsClear, NothingDone, Refuses, UnlessRefused, With, WithAll, effect_of, RefusesText, EndsWith, end_in, line_put, over_text}
use Rattle.z80dev.specs.Private.Images.{AreInto, ChangesInto, LocksPath, WritesAll}
use Rattle.z80dev.specs.Private.Names.{AreNamed, AreNames, IsPatternIfGiven, IsRefusal, IsWord}
use Rattle.z80dev.specs.Private.DiskSteps.{DoneWith}
use Rattle.host.specs.declared.image.Image.{Image}
use Rattle.host.proofs.Carried.{carried, clear, no_line, refuses, unclear}

-- how a command ends, from its end and its line
pub ends : (Is : Option (List ℕ) → End → Type 0) (result : Result (Option (String Global)) End) → Is (line_put result) (end_in result) → EndsWith Is result
ends Is (Ok line) is = is
ends Is (Err e) is = is

-- A command that ends in one way ends in another, if the one implies the other.
pub ends_as : (Is Was : Option (List ℕ) → End → Type 0) (result : Result (Option (String Global)) End) → ((line : Option (List ℕ)) (e : End) → Is line e → Was line e) → EndsWith Is result → EndsWith Was result
ends_as Is Was (Ok line) so is = so (option_map string_bytes line) end.Done is
ends_as Is Was (Err e) so is = so None e is

pub no_line_at : (e : End) → LineAt e None None
no_line_at end.Done = refl
no_line_at (end.Refused said) = refl
no_line_at (end.File path last) = refl
no_line_at (end.Path path) = refl
no_line_at end.Stream = refl
no_line_at end.NoMemory = refl

-- a line that goes with the end at which all is done
pub with_line : (e : End) (line : Option (String Global)) (result : Result (Option (String Global)) End) → DoneWith e line result
    → (end_in result ≡ e) × LineAt (end_in result) (line_put result) (option_map string_bytes line)
with_line end.Done line result is = rw is (refl, refl)
with_line (end.Refused said) line result is = rw is (refl, refl)
with_line (end.File path last) line result is = rw is (refl, refl)
with_line (end.Path path) line result is = rw is (refl, refl)
with_line end.Stream line result is = rw is (refl, refl)
with_line end.NoMemory line result is = rw is (refl, refl)

-- an end at which not all is done
pub otherwise : (e : End) (line : Option (String Global)) → (e ≡ end.Done → ⊥) → DoneWith e line (Err e)
otherwise end.Done line not = absurd (not refl)
otherwise (end.Refused said) line not = refl
otherwise (end.File path last) line not = refl
otherwise (end.Path path) line not = refl
otherwise end.Stream line not = refl
otherwise end.NoMemory line not = refl

-- what has no line, since not all is done
pub unwarned : (Ends : Option (List ℕ) → End → Type 0) (e : End) → Ends None e → Warns Ends None e
unwarned Ends e is = (None, no_line_at e, is)

-- a claimed image is changed
pub changed : (t : Target) (Is : List ℕ → Result (Vec ℕ Global) Refusal → Type 0) (old mid new : Folder) (o : Stream) (image : Image) (made : Result (Vec ℕ Global) Refusal) (result : Result (Option (String Global)) End)
    → ClaimsImage old mid t.image.now t.lock (Ok image) → Is image.bytes.items made → ChangesInto t.image.now image made mid new result
    → Warns (ChangesImage t Is (effect_of old new o o)) (line_put result) (end_in result)
changed t Is old mid new o image made (Ok line) (is_held, claimed, lines) is (line_is, changes) =
    (image_lines image, line_is, inl (image.bytes.items, is_held, mid, claimed, (lines, inl (made, is, changes o))))
changed t Is old mid new o image made (Err e) (is_held, claimed, lines) is (not_done, changes) =
    (image_lines image, no_line e (image_lines image) not_done, inl (image.bytes.items, is_held, mid, claimed, (lines, inl (made, is, changes o))))

-- why names are not known, where nothing is done
pub unnamed_word : (name_in : List ℕ → Option (List ℕ)) (word : List ℕ) (Does : List ℕ → Type 0) (x : Effect) (e : End) → IsWord name_in word (Err e) → NothingDone x → Named (name_in word) Does x e
unnamed_word name_in word Does x e (none, says) nothing = subst (λ o. Named o Does x e) (sym none) (refuses (codes "BadName") x e says nothing)

pub named_word : (name_in : List ℕ → Option (List ℕ)) (word name : List ℕ) (Does : List ℕ → Type 0) (x : Effect) (e : End) → name_in word ≡ Some name → Does name → Named (name_in word) Does x e
named_word name_in word name Does x e is does = subst (λ o. Named o Does x e) (sym is) does

pub unnamed_all : (name_in : List ℕ → Option (List ℕ)) (words : List (List ℕ)) (Does : List (List ℕ) → Type 0) (x : Effect) (e : End)
    → AreNames name_in words (Err e) → NothingDone x → NamedAll name_in words Does x e
unnamed_all name_in words Does x e (inl (n, word, names, at, before, none, says)) nothing = inr (inl (n, word, names, at, before, none, refuses (bad_name word) x e says nothing))
unnamed_all name_in words Does x e (inr out) nothing = inr (inr (out, nothing))

pub nothing_done : (f : Folder) (o : Stream) → NothingDone (effect_of f f o o)
nothing_done f o = (refl, refl)

-- ---- ends that a `?` hands on

pub passed_on : (Is : Option (List ℕ) → End → Type 0) (e : End) (result : Result (Option (String Global)) End) → IsErrAnd result (λ f. f ≡ e) → Is None e → EndsWith Is result
passed_on Is e (Ok line) same is = absurd same
passed_on Is e (Err f) same is = subst (Is None) (sym same) is

pub not_claimed : (t : Target) (Is : List ℕ → Result (Vec ℕ Global) Refusal → Type 0) (old new : Folder) (o : Stream) (e : End) → ClaimsImage old new t.image.now t.lock (Err e)
    → ChangesImage t Is (effect_of old new o o) None e
not_claimed t Is old new o e claims = inr (claims, refl)

-- ---- commands over several words

abbrev pub Several : (List ℕ → Option (List ℕ)) → List (List ℕ) → Target → (List (List ℕ) → List ℕ → Result (Vec ℕ Global) Refusal → Type 0) → Effect → Option (List ℕ) → End → Type 0
Several name_in words t Is x line e = Warns (λ wanted e. NamedAll name_in words (λ names. ChangesImage t (Is names) x wanted e) x e) line e

pub several_unnamed : (name_in : List ℕ → Option (List ℕ)) (words : List (List ℕ)) (t : Target) (Is : List (List ℕ) → List ℕ → Result (Vec ℕ Global) Refusal → Type 0) (f : Folder) (o : Stream) (e : End)
    (result : Result (Option (String Global)) End) → AreNames name_in words (Err e) → IsErrAnd result (λ g. g ≡ e) → EndsWith (Several name_in words t Is (effect_of f f o o)) result
several_unnamed name_in words t Is f o e result unnamed same =
    passed_on (Several name_in words t Is (effect_of f f o o)) e result same
    (None, no_line_at e, unnamed_all name_in words (λ names. ChangesImage t (Is names) (effect_of f f o o) None e) (effect_of f f o o) e unnamed (nothing_done f o))

pub several_unclaimed : (name_in : List ℕ → Option (List ℕ)) (words names : List (List ℕ)) (t : Target) (Is : List (List ℕ) → List ℕ → Result (Vec ℕ Global) Refusal → Type 0) (old new : Folder) (o : Stream) (e : End)
    (result : Result (Option (String Global)) End) → AreNamed name_in words names → ClaimsImage old new t.image.now t.lock (Err e) → IsErrAnd result (λ g. g ≡ e) → EndsWith (Several name_in words t Is (effect_of old new o o)) result
several_unclaimed name_in words names t Is old new o e result named claims same =
    passed_on (Several name_in words t Is (effect_of old new o o)) e result same (None, no_line_at e, inl (names, named, not_claimed t (Is names) old new o e claims))

pub several_changed : (name_in : List ℕ → Option (List ℕ)) (words names : List (List ℕ)) (t : Target) (Is : List (List ℕ) → List ℕ → Result (Vec ℕ Global) Refusal → Type 0) (old mid new : Folder) (o : Stream) (image : Image)
    (made : Result (Vec ℕ Global) Refusal) (result : Result (Option (String Global)) End) → AreNamed name_in words names → ClaimsImage old mid t.image.now t.lock (Ok image) → Is names image.bytes.items made
    → ChangesInto t.image.now image made mid new result → EndsWith (Several name_in words t Is (effect_of old new o o)) result
several_changed name_in words names t Is old mid new o image made result named claims is into =
    let (wanted, line, does) = changed t (Is names) old mid new o image made result claims is into in
    ends (Several name_in words t Is (effect_of old new o o)) result (wanted, line, inl (names, named, does))

-- ---- a command over two words

abbrev pub Two : (List ℕ → Option (List ℕ)) → List ℕ → List ℕ → Target → (List ℕ → List ℕ → List ℕ → Result (Vec ℕ Global) Refusal → Type 0) → Effect → Option (List ℕ) → End → Type 0
Two name_in one two t Is x line e = Warns (λ wanted e. Named (name_in one) (λ from. Named (name_in two) (λ to. ChangesImage t (Is from to) x wanted e) x e) x e) line e

module _ (name_in : List ℕ → Option (List ℕ)) (one two : List ℕ) (t : Target) (Is : List ℕ → List ℕ → List ℕ → Result (Vec ℕ Global) Refusal → Type 0) where
  pub two_first : (f : Folder) (o : Stream) (e : End) (result : Result (Option (String Global)) End) → IsWord name_in one (Err e) → IsErrAnd result (λ g. g ≡ e) → EndsWith (Two name_in one two t Is (effect_of f f o o)) result
  two_first f o e result unnamed same =
      let x = effect_of f f o o in
      passed_on (Two name_in one two t Is x) e result same
      (None, no_line_at e, unnamed_word name_in one (λ from. Named (name_in two) (λ to. ChangesImage t (Is from to) x None e) x e) x e unnamed (nothing_done f o))

  pub two_second : (f : Folder) (o : Stream) (from : List ℕ) (e : End) (result : Result (Option (String Global)) End) → name_in one ≡ Some from → IsWord name_in two (Err e) → IsErrAnd result (λ g. g ≡ e)
      → EndsWith (Two name_in one two t Is (effect_of f f o o)) result
  two_second f o from e result named unnamed same =
      let x = effect_of f f o o in
      passed_on (Two name_in one two t Is x) e result same (
        None,
        no_line_at e,
        named_word name_in one from (λ from. Named (name_in two) (λ to. ChangesImage t (Is from to) x None e) x e) x e named
            (unnamed_word name_in two (λ to. ChangesImage t (Is from to) x None e) x e unnamed (nothing_done f o)),
      )

  both_named : (x : Effect) (from to : List ℕ) (wanted : Option (List ℕ)) (e : End) → name_in one ≡ Some from → name_in two ≡ Some to → ChangesImage t (Is from to) x wanted e
      → Named (name_in one) (λ from. Named (name_in two) (λ to. ChangesImage t (Is from to) x wanted e) x e) x e
  both_named x from to wanted e first second does =
      named_word name_in one from (λ from. Named (name_in two) (λ to. ChangesImage t (Is from to) x wanted e) x e) x e first
      (named_word name_in two to (λ to. ChangesImage t (Is from to) x wanted e) x e second does)

  pub two_unclaimed : (old new : Folder) (o : Stream) (from to : List ℕ) (e : End) (result : Result (Option (String Global)) End) → name_in one ≡ Some from → name_in two ≡ Some to
      → ClaimsImage old new t.image.now t.lock (Err e) → IsErrAnd result (λ g. g ≡ e) → EndsWith (Two name_in one two t Is (effect_of old new o o)) result
  two_unclaimed old new o from to e result first second claims same =
      let x = effect_of old new o o in
      passed_on (Two name_in one two t Is x) e result same (None, no_line_at e, both_named x from to None e first second (not_claimed t (Is from to) old new o e claims))

  pub two_changed : (old mid new : Folder) (o : Stream) (from to : List ℕ) (image : Image) (made : Result (Vec ℕ Global) Refusal) (result : Result (Option (String Global)) End) → name_in one ≡ Some from → name_in two ≡ Some to
      → ClaimsImage old mid t.image.now t.lock (Ok image) → Is from to image.bytes.items made → ChangesInto t.image.now image made mid new result → EndsWith (Two name_in one two t Is (effect_of old new o o)) result
  two_changed old mid new o from to image made result first second claims is into =
      let x = effect_of old new o o in
      let (wanted, line, does) = changed t (Is from to) old mid new o image made result claims is into in
      ends (Two name_in one two t Is x) result (wanted, line, both_named x from to wanted (end_in result) first second does)

-- ---- an image that is claimed, and what is read after it

abbrev pub AfterClaim : Target → (List ℕ → Effect → End → Type 0) → Effect → Option (List ℕ) → End → Type 0
AfterClaim t Rest x wanted e = Claiming t.image.now t.lock (λ bytes is_held y. (wanted ≡ warnings t.image.now (length bytes) (t.lock && not is_held)) × Rest bytes y e) x e

pub claimed_then : (t : Target) (Rest : List ℕ → Effect → End → Type 0) (old mid new : Folder) (o : Stream) (image : Image) (e : End) → ClaimsImage old mid t.image.now t.lock (Ok image)
    → Rest image.bytes.items (effect_of mid new o o) e → AfterClaim t Rest (effect_of old new o o) (image_lines image) e
claimed_then t Rest old mid new o image e (is_held, claimed, lines) rest = inl (image.bytes.items, is_held, mid, claimed, (lines, rest))

pub not_read : (old new : Folder) (path : List ℕ) (e : End) → IsNotRead old new path e → e ≢ end.Done
not_read old new path end.Done is same = is
not_read old new path (end.Refused said) is same = absurd cc
not_read old new path (end.File at last) is same = absurd cc
not_read old new path (end.Path at) is same = absurd cc
not_read old new path end.Stream is same = absurd cc
not_read old new path end.NoMemory is same = absurd cc

no_memory : end.NoMemory ≢ end.Done
no_memory same = absurd cc

-- how a change that is made of what was read ends
pub changes_into : (path : List ℕ) (Is : Result (Vec ℕ Global) Refusal → Type 0) (mid new : Folder) (o : Stream) (image : Image) (made : Result (Vec ℕ Global) Refusal) (result : Result (Option (String Global)) End)
    → Is made → ChangesInto path image made mid new result → Changes path image.bytes.items Is (effect_of mid new o o) (end_in result)
changes_into path Is mid new o image made (Ok line) is (line_is, changes) = inl (made, is, changes o)
changes_into path Is mid new o image made (Err e) is (not_done, changes) = inl (made, is, changes o)

pub line_into : (path : List ℕ) (mid new : Folder) (image : Image) (made : Result (Vec ℕ Global) Refusal) (result : Result (Option (String Global)) End) → ChangesInto path image made mid new result
    → LineAt (end_in result) (line_put result) (image_lines image)
line_into path mid new image made (Ok line) (line_is, changes) = line_is
line_into path mid new image made (Err e) (not_done, changes) = no_line e (image_lines image) not_done

module _ (t : Target) (m : Manner) (path word name : List ℕ) (named : file_name_of word ≡ Some name) where
  abbrev Rest : List ℕ → Effect → End → Type 0
  Rest bytes y e = With path (λ file. Changes t.image.now bytes (λ r. (s : Result (Vec ℕ Global) Refusal) × IsPutOn bytes t.user m.replace ((name, as_put m.text file) ∷ []) s × (r ≡ without_name s)) y e) y e

  abbrev Does : Effect → Option (List ℕ) → End → List ℕ → Type 0
  Does x wanted e name = Claiming t.image.now t.lock (λ bytes is_held y. (wanted ≡ warnings t.image.now (length bytes) (t.lock && not is_held))
      × With path (λ file. Changes t.image.now bytes (λ r. (s : Result (Vec ℕ Global) Refusal) × IsPutOn bytes t.user m.replace ((name, as_put m.text file) ∷ []) s × (r ≡ without_name s)) y e) y e) x e

  pub put_unclaimed : (old new : Folder) (o : Stream) (e : End) (result : Result (Option (String Global)) End) → ClaimsImage old new t.image.now t.lock (Err e) → IsErrAnd result (λ g. g ≡ e)
      → EndsWith (PutEnds t m path word (effect_of old new o o)) result
  put_unclaimed old new o e result claims same =
      let x = effect_of old new o o in
      passed_on (PutEnds t m path word x) e result same (None, no_line_at e, named_word file_name_of word name (Does x None e) x e named (inr (claims, refl)))

  pub put_unread : (old mid new : Folder) (o : Stream) (image : Image) (e : End) (result : Result (Option (String Global)) End) → ClaimsImage old mid t.image.now t.lock (Ok image) → IsNotRead mid new path e
      → IsErrAnd result (λ g. g ≡ e) → EndsWith (PutEnds t m path word (effect_of old new o o)) result
  put_unread old mid new o image e result claims unread same =
      let x = effect_of old new o o in
      passed_on (PutEnds t m path word x) e result same
      (image_lines image, no_line e (image_lines image) (not_read mid new path e unread), named_word file_name_of word name (Does x (image_lines image) e) x e named (claimed_then t Rest old mid new o image e claims (inr (unread, refl))))

  pub put_without_memory : (old mid new : Folder) (o : Stream) (image : Image) (file : List ℕ) (e : End) (result : Result (Option (String Global)) End) → ClaimsImage old mid t.image.now t.lock (Ok image) → new ≡ mid
      → IsRead mid path file → e ≡ end.NoMemory → IsErrAnd result (λ g. g ≡ e) → EndsWith (PutEnds t m path word (effect_of old new o o)) result
  put_without_memory old mid new o image file e result claims kept read out same =
      let x = effect_of old new o o in
      let nothing : NothingDone (effect_of mid new o o) = subst (λ f. NothingDone (effect_of mid f o o)) (sym kept) (nothing_done mid o) in
      passed_on (PutEnds t m path word x) e result same
      (image_lines image, no_line e (image_lines image) (λ done. no_memory (sym out ∙ done)), named_word file_name_of word name (Does x (image_lines image) e) x e named (claimed_then t Rest old mid new o image e claims (inl (file, read, inr (out, nothing)))))

  pub put_changed : (old mid after new : Folder) (o : Stream) (image : Image) (file : List ℕ) (put made : Result (Vec ℕ Global) Refusal) (result : Result (Option (String Global)) End)
      → ClaimsImage old mid t.image.now t.lock (Ok image) → after ≡ mid → IsRead mid path file → IsPutOn image.bytes.items t.user m.replace ((name, as_put m.text file) ∷ []) put → made ≡ without_name put
      → ChangesInto t.image.now image made after new result → EndsWith (PutEnds t m path word (effect_of old new o o)) result
  put_changed old mid after new o image file put made result claims kept read is made_is into =
      let x = effect_of old new o o in
      let now = subst (λ f. ChangesInto t.image.now image made f new result) kept into in
      let does = changes_into t.image.now (λ r. (s : Result (Vec ℕ Global) Refusal) × IsPutOn image.bytes.items t.user m.replace ((name, as_put m.text file) ∷ []) s × (r ≡ without_name s)) mid new o image made result (put, is, made_is) now in
      ends (PutEnds t m path word x) result (
        image_lines image,
        line_into t.image.now mid new image made result now,
        named_word file_name_of word name (Does x (image_lines image) (end_in result)) x (end_in result) named
            (claimed_then t Rest old mid new o image (end_in result) claims (inl (file, read, does))),
      )

-- ---- files that are written into a folder

-- one more is written
pub into_more : (folder : List ℕ) (gotten : List Gotten) (k : ℕ) (d : Gotten) (old mid new : Folder) (file : File) → k < length gotten → file ≡ path_in folder (get_or gotten k d) → AreInto folder (take k gotten) old mid
    → Stores mid new file (Ok tt) → AreInto folder (take (k + 1) gotten) old new
into_more folder gotten k d old mid new file lt is so_far stored = (
  subst (λ fs. Adds old new (map (path_in folder) fs)) (sym (take_more gotten k d lt))
      (subst (Adds old new) (sym (map-append (path_in folder) (take k gotten) (get_or gotten k d ∷ [])))
      (adds_trans old mid new (map (path_in folder) (take k gotten)) (path_in folder (get_or gotten k d) ∷ []) so_far.0 (subst (λ f. Adds mid new (f ∷ [])) is stored.0))),
  stored.1 ∙ so_far.1,
)

-- one is not written, or is and the call failed
pub into_stopped : (folder : List ℕ) (gotten : List Gotten) (k : ℕ) (d : Gotten) (old mid new : Folder) (file : File) (failed : WriteFailed) → k < length gotten → file ≡ path_in folder (get_or gotten k d) → AreInto folder (take k gotten) old mid
    → Stores mid new file (Err failed) → (Adds old new (map (path_in folder) (take k gotten)) ⊎ Adds old new (map (path_in folder) (take (k + 1) gotten))) × (new.failures ≡ counted old.failures)
into_stopped folder gotten k d old mid new file failed lt is so_far (inl none, failures) =
    (inl (none_more old mid new (map (path_in folder) (take k gotten)) so_far.0 none), failures ∙ ap counted so_far.1)
into_stopped folder gotten k d old mid new file failed lt is so_far (inr this, failures) = (
  inr (subst (λ fs. Adds old new (map (path_in folder) fs)) (sym (take_more gotten k d lt))
      (subst (Adds old new) (sym (map-append (path_in folder) (take k gotten) (get_or gotten k d ∷ [])))
      (adds_trans old mid new (map (path_in folder) (take k gotten)) (path_in folder (get_or gotten k d) ∷ []) so_far.0 (subst (λ f. Adds mid new (f ∷ [])) is this)))),
  failures ∙ ap counted so_far.1,
)

-- the path of a folder that is not empty
pub not_empty : (path : List ℕ) → (length path == 0) ≡ false → path ≢ []
not_empty [] same none = false≢true (sym same)
not_empty (b ∷ rest) same none = absurd cc

-- ---- blank images

pub blank_out : (mega keep lock : Bool) (image : List ℕ) (f : Folder) (o : Stream) (e : End) (result : Result (Option (String Global)) End) → e ≡ end.NoMemory → IsErrAnd result (λ g. g ≡ e)
    → EndsWith (BlankEnds mega keep lock image (effect_of f f o o)) result
blank_out mega keep lock image f o e result out same =
    passed_on (BlankEnds mega keep lock image (effect_of f f o o)) e result same (None, no_line_at e, inr (subst (IsNotLocked f f image) (sym out) (inl refl), refl))

pub blank_unlocked : (mega keep lock : Bool) (image : List ℕ) (old new : Folder) (o : Stream) (e : End) (result : Result (Option (String Global)) End) → LocksPath old new image lock (Err e) → IsErrAnd result (λ g. g ≡ e)
    → EndsWith (BlankEnds mega keep lock image (effect_of old new o o)) result
blank_unlocked mega keep lock image old new o e result unlocked same =
    passed_on (BlankEnds mega keep lock image (effect_of old new o o)) e result same (None, no_line_at e, inr (unlocked, refl))

-- ---- images that are read and not changed

pub says_not_done : (why : List ℕ) (e : End) → RefusesText why e → e ≢ end.Done
says_not_done why (end.Refused said) says same = absurd cc
says_not_done why end.NoMemory says same = absurd cc
says_not_done why end.Done says same = says
says_not_done why (end.File path last) says same = absurd cc
says_not_done why (end.Path path) says same = absurd cc
says_not_done why end.Stream says same = absurd cc

pub read_then : (path : List ℕ) (Does : List ℕ → Type 0) (mid : Folder) (x : Effect) (image : Image) (e : End) → ReadsImageFile x.old mid path (Ok image) → Does image.bytes.items → ReadsImage path Does x (image_lines image) e
read_then path Does mid x image e (same, read, lines) does = inl (image.bytes.items, read, (lines, does))

-- an answer about an image is carried out, with warnings
pub about : {R : Type 0} (text : R → List ℕ) (path base : List ℕ) (Is : List ℕ → Answer → Type 0) (old mid new : Folder) (before after : Stream) (image : Image) (a : made.Answer R) (e : End) (result : Result (Option (String Global)) End)
    → ReadsImageFile old mid path (Ok image) → Is image.bytes.items (answer_by text a) → Finishes (λ r. Some (text r)) base a mid new before after e → DoneWith e image.warnings result
    → Warns (λ wanted f. ReadsImage path (λ bytes. CarriesOut base (Is bytes) (effect_of old new before after) f) (effect_of old new before after) wanted f) (line_put result) (end_in result)
about text path base Is old mid new before after image a e result read is finishes done =
    let x = effect_of old new before after in
    let (same, line) = with_line e image.warnings result done in
    let carries = carried text base a old mid new before after e read.0 finishes in
    (image_lines image, line, read_then path (λ bytes. CarriesOut base (Is bytes) x (end_in result)) mid x image (end_in result) read (answer_by text a, is, subst (IsCarriedOut base (answer_by text a) x) (sym same) carries))

pub if_given : (name : Option (Bor (List ℕ))) (pattern : Option (List ℕ)) (Does : Option (List ℕ) → Type 0) (x : Effect) (e : End) → IsPatternIfGiven name (Ok pattern) → Does pattern → NamedIfGiven name Does x e
if_given None pattern Does x e is does = subst Does is does
if_given (Some word) pattern Does x e (found, is, named) does = named_word pattern_of word.now found (λ p. Does (Some p)) x e named (subst Does is does)

-- ---- files that are gotten into a folder

module _ (image : List ℕ) (user : ℕ) (text : Bool) (pattern folder : List ℕ) where
  pub gets_refused : (old mid : Folder) (o : Stream) (read : Image) (why : Refusal) (e : End) → ReadsImageFile old mid image (Ok read) → IsGetAll read.bytes.items user pattern text (Err why) → IsRefusal why e
      → Warns (GetsMatching image user text pattern folder (effect_of old mid o o)) None e
  gets_refused old mid o read why e reads is says =
      let x = effect_of old mid o o in
      let nothing : NothingDone x = subst (λ f. NothingDone (effect_of old f o o)) (sym reads.0) (nothing_done old o) in (
        image_lines read,
        no_line e (image_lines read) (says_not_done (refusal_text why) e says),
        read_then image (λ bytes. (r : Result (Vec Gotten Global) Refusal) × IsGetAll bytes user pattern text r × IsWrittenInto image folder r x e) mid x read e reads
            (Err why, is, refuses (refusal_text why) x e says nothing),
      )

  -- that memory ran out, or the refusal to write over the image
  not_clear : (why : Option (List ℕ)) (e : End) → IsClear why (Err e) → e ≢ end.Done
  not_clear None e out done = no_memory (sym out ∙ done)
  not_clear (Some why) e says done = says_not_done why e says done

  out_unless : (why : Option (List ℕ)) (Does : Type 0) (x : Effect) (e : End) → e ≡ end.NoMemory → NothingDone x → (NothingDone x → Does) → UnlessRefused why Does x e
  out_unless None Does x e out nothing does = does nothing
  out_unless (Some why) Does x e out nothing does = subst (Refuses why x) (sym out) nothing

  abbrev pub over : List Gotten → Option (List ℕ)
  over files = over_image image (gotten_paths folder files)

  pub gets_out : (old mid : Folder) (o : Stream) (read : Image) (files : Vec Gotten Global) (e : End) → ReadsImageFile old mid image (Ok read) → IsGetAll read.bytes.items user pattern text (Ok files) → e ≡ end.NoMemory
      → Warns (GetsMatching image user text pattern folder (effect_of old mid o o)) None e
  gets_out old mid o read files e reads is out =
      let x = effect_of old mid o o in
      let nothing : NothingDone x = subst (λ f. NothingDone (effect_of old f o o)) (sym reads.0) (nothing_done old o) in (
        image_lines read,
        no_line e (image_lines read) (λ done. no_memory (sym out ∙ done)),
        read_then image (λ bytes. (r : Result (Vec Gotten Global) Refusal) × IsGetAll bytes user pattern text r × IsWrittenInto image folder r x e) mid x read e reads
            (Ok files, is, out_unless (over files.items) (WritesInto folder files.items x e) x e out nothing (λ none. subst (WritesInto folder files.items x) (sym out) none)),
      )

  pub gets_over : (old mid : Folder) (o : Stream) (read : Image) (files : Vec Gotten Global) (e : End) → ReadsImageFile old mid image (Ok read) → IsGetAll read.bytes.items user pattern text (Ok files)
      → IsClear (over files.items) (Err e) → Warns (GetsMatching image user text pattern folder (effect_of old mid o o)) None e
  gets_over old mid o read files e reads is refused =
      let x = effect_of old mid o o in
      let nothing : NothingDone x = subst (λ f. NothingDone (effect_of old f o o)) (sym reads.0) (nothing_done old o) in (
        image_lines read,
        no_line e (image_lines read) (not_clear (over files.items) e refused),
        read_then image (λ bytes. (r : Result (Vec Gotten Global) Refusal) × IsGetAll bytes user pattern text r × IsWrittenInto image folder r x e) mid x read e reads
            (Ok files, is, unclear (over files.items) (WritesInto folder files.items x e) x e refused nothing (λ out. subst (WritesInto folder files.items x) (sym out) nothing)),
      )

  pub gets_stopped : (old mid new : Folder) (o : Stream) (read : Image) (files : Vec Gotten Global) (e : End) → ReadsImageFile old mid image (Ok read) → IsGetAll read.bytes.items user pattern text (Ok files)
      → over files.items ≡ None → WritesAll folder files.items mid new (Err e) → Warns (GetsMatching image user text pattern folder (effect_of old new o o)) None e
  gets_stopped old mid new o read files (end.Path path) reads is none writes =
      let x = effect_of old new o o in
      let from = subst (λ f. WritesAll folder files.items f new (Err (end.Path path))) reads.0 writes in (
        image_lines read,
        refl,
        read_then image (λ bytes. (r : Result (Vec Gotten Global) Refusal) × IsGetAll bytes user pattern text r × IsWrittenInto image folder r x (end.Path path)) mid x read (end.Path path) reads
            (Ok files, is, clear (over files.items) (WritesInto folder files.items x (end.Path path)) x (end.Path path) none (from.0, from.1, from.2, from.3, from.4, from.5, refl)),
      )
  gets_stopped old mid new o read files end.Done reads is none writes = absurd writes
  gets_stopped old mid new o read files (end.Refused said) reads is none writes = absurd writes
  gets_stopped old mid new o read files (end.File at last) reads is none writes = absurd writes
  gets_stopped old mid new o read files end.Stream reads is none writes = absurd writes
  gets_stopped old mid new o read files end.NoMemory reads is none writes = absurd writes

  pub gets_all : (old mid new : Folder) (o : Stream) (read : Image) (files : Vec Gotten Global) (line : Option (String Global)) → ReadsImageFile old mid image (Ok read) → IsGetAll read.bytes.items user pattern text (Ok files)
      → over files.items ≡ None → AreInto folder files.items mid new → line ≡ read.warnings → Warns (GetsMatching image user text pattern folder (effect_of old new o o)) (option_map string_bytes line) end.Done
  gets_all old mid new o read files line reads is none into same =
      let x = effect_of old new o o in
      let from = subst (λ f. AreInto folder files.items f new) reads.0 into in (
        image_lines read,
        ap (option_map string_bytes) same,
        read_then image (λ bytes. (r : Result (Vec Gotten Global) Refusal) × IsGetAll bytes user pattern text r × IsWrittenInto image folder r x end.Done) mid x read end.Done reads
            (Ok files, is, clear (over files.items) (WritesInto folder files.items x end.Done) x end.Done none (from.0, from.1, refl)),
      )

-- the first path for which this holds, looked for one after the other
module _ (holds : List ℕ → Bool) (paths : List (String Global)) (k : ℕ) (this : String Global) (lt : k < length paths) (is : this ≡ get_or paths k this)
    (so_far : find holds (map string_bytes (drop k paths)) ≡ find holds (map string_bytes paths)) where
  here : find holds (map string_bytes (drop k paths)) ≡ cond (holds (string_bytes this)) (Some (string_bytes this)) (find holds (map string_bytes (drop (k + 1) paths)))
  here = at_drop_more (λ ps. find holds (map string_bytes ps)) paths k this lt
      ∙ ap (λ p. cond (holds (string_bytes p)) (Some (string_bytes p)) (find holds (map string_bytes (drop (k + 1) paths)))) (sym is)

  pub found_here : holds (string_bytes this) ≡ true → Some (string_bytes this) ≡ find holds (map string_bytes paths)
  found_here does = sym (sym so_far ∙ here ∙ ap (λ b. cond b (Some (string_bytes this)) (find holds (map string_bytes (drop (k + 1) paths)))) does)

  pub not_here : holds (string_bytes this) ≡ false → find holds (map string_bytes (drop (k + 1) paths)) ≡ find holds (map string_bytes paths)
  not_here other = sym (here ∙ ap (λ b. cond b (Some (string_bytes this)) (find holds (map string_bytes (drop (k + 1) paths)))) other) ∙ so_far

-- one path, which names the image or not
pub over_none : (image path : List ℕ) → is_same_path path image ≡ false → over_image image (path ∷ []) ≡ None
over_none image path other = ap (λ same. option_map over_text (cond same (Some path) None)) other

pub over_this : (image path : List ℕ) → is_same_path path image ≡ true → over_image image (path ∷ []) ≡ Some (over_text path)
over_this image path same = ap (λ same. option_map over_text (cond same (Some path) None)) same

-- the path of a file that is written into a folder, by its number
pub path_at : (folder : List ℕ) (paths : List (String Global)) (gotten : List Gotten) (k : ℕ) (p : String Global) (d : Gotten) → map string_bytes paths ≡ map (λ g. (path_in folder g).0) gotten → k < length gotten
    → string_bytes (get_or paths k p) ≡ (path_in folder (get_or gotten k d)).0
path_at folder paths gotten k p d same lt =
    let lengths : length paths ≡ length gotten = sym (length-map paths string_bytes) ∙ ap length same ∙ length-map gotten (λ g. (path_in folder g).0) in
    sym (get_or-map string_bytes paths k p [] (omega (arith, lt, lengths))) ∙ ap (λ l. get_or l k []) same ∙ get_or-map (λ g. (path_in folder g).0) gotten k d [] lt

-- ---- files that are put under their own names

same_length : {A B : Type 0} (K : A → B → Type 0) (xs : List A) (ys : List B) → AllZip K xs ys → length ys ≡ length xs
same_length K [] [] zipped = refl
same_length K [] (y ∷ ys) zipped = absurd zipped
same_length K (x ∷ xs) [] zipped = absurd zipped
same_length K (x ∷ xs) (y ∷ ys) zipped = let e = same_length K xs ys zipped.1 in omega (arith, e)

-- as many names as files
pub as_many : (name_in : List ℕ → Option (List ℕ)) (f : Folder) (text : Bool) (paths names : List (List ℕ)) (texts files : List (Vec ℕ Global)) → AreNamed name_in paths names
    → AllZip (IsRead f) paths (map (λ t. t.items) texts) → map (λ t. t.items) files ≡ map (λ t. as_put text t.items) texts → length names ≡ length files
as_many name_in f text paths names texts files named read put =
    same_length (λ w n. name_in w ≡ Some n) paths names named
    ∙ sym (same_length (IsRead f) paths (map (λ t. t.items) texts) read)
    ∙ length-map texts (λ t. t.items) ∙ sym (length-map texts (λ t. as_put text t.items)) ∙ ap length (sym put) ∙ length-map files (λ t. t.items)

pub one_not_done : (old new : Folder) (paths : List (List ℕ)) (e : End) → IsOneNotRead old new paths e → e ≢ end.Done
one_not_done old new paths e (inl (n, path, texts, at, before, unread)) same = not_read old new path e unread same
one_not_done old new paths e (inr (out, kept)) same = no_memory (sym out ∙ same)

module _ (t : Target) (m : Manner) (paths names : List (List ℕ)) (named : AreNamed own_name paths names) where
  abbrev RestAll : List ℕ → Effect → End → Type 0
  RestAll bytes y e = WithAll paths (λ files. (puts : List (List ℕ × List ℕ)) × (map (λ p. p.0) puts ≡ names) × (map (λ p. p.1) puts ≡ map (as_put m.text) files)
      × Changes t.image.now bytes (IsPutOn bytes t.user m.replace puts) y e) y e

  pub put_all_unread : (old mid new : Folder) (o : Stream) (image : Image) (e : End) (result : Result (Option (String Global)) End) → ClaimsImage old mid t.image.now t.lock (Ok image) → IsOneNotRead mid new paths e
      → IsErrAnd result (λ g. g ≡ e) → EndsWith (PutAllEnds t m paths (effect_of old new o o)) result
  put_all_unread old mid new o image e result claims unread same =
      passed_on (PutAllEnds t m paths (effect_of old new o o)) e result same
      (image_lines image, no_line e (image_lines image) (one_not_done mid new paths e unread), inl (names, named, claimed_then t RestAll old mid new o image e claims (inr (unread, refl))))

  pub put_all_changed : (old mid after new : Folder) (o : Stream) (image : Image) (texts : List (List ℕ)) (puts : List (List ℕ × List ℕ)) (made : Result (Vec ℕ Global) Refusal) (result : Result (Option (String Global)) End)
      → ClaimsImage old mid t.image.now t.lock (Ok image) → after ≡ mid → AllZip (IsRead mid) paths texts → map (λ p. p.0) puts ≡ names → map (λ p. p.1) puts ≡ map (as_put m.text) texts
      → IsPutOn image.bytes.items t.user m.replace puts made → ChangesInto t.image.now image made after new result → EndsWith (PutAllEnds t m paths (effect_of old new o o)) result
  put_all_changed old mid after new o image texts puts made result claims kept read names_are files_are is into =
      let x = effect_of old new o o in
      let now = subst (λ f. ChangesInto t.image.now image made f new result) kept into in
      let does = changes_into t.image.now (IsPutOn image.bytes.items t.user m.replace puts) mid new o image made result is now in
      ends (PutAllEnds t m paths x) result
      (image_lines image, line_into t.image.now mid new image made result now, inl (names, named, claimed_then t RestAll old mid new o image (end_in result) claims (inl (texts, read, (puts, names_are, files_are, does)))))

pub put_all_unnamed : (t : Target) (m : Manner) (paths : List (List ℕ)) (f : Folder) (o : Stream) (e : End) (result : Result (Option (String Global)) End) → AreNames own_name paths (Err e) → IsErrAnd result (λ g. g ≡ e)
    → EndsWith (PutAllEnds t m paths (effect_of f f o o)) result
put_all_unnamed t m paths f o e result unnamed same =
    let x = effect_of f f o o in
    passed_on (PutAllEnds t m paths x) e result same (
      None,
      no_line_at e,
      unnamed_all own_name paths (λ names. AfterClaim t (λ bytes y e. WithAll paths (λ files. (puts : List (List ℕ × List ℕ)) × (map (λ p. p.0) puts ≡ names) × (map (λ p. p.1) puts ≡ map (as_put m.text) files)
          × Changes t.image.now bytes (IsPutOn bytes t.user m.replace puts) y e) y e) x None e) x e unnamed (nothing_done f o),
    )

-- ---- blank images whose path is locked

-- The lines that warn of a lock are not made, for want of memory.
pub blank_unwarned : (mega keep lock is_held : Bool) (image : List ℕ) (old new : Folder) (o : Stream) (e : End) (result : Result (Option (String Global)) End) → LocksPath old new image lock (Ok is_held) → e ≡ end.NoMemory
    → IsErrAnd result (λ g. g ≡ e) → EndsWith (BlankEnds mega keep lock image (effect_of old new o o)) result
blank_unwarned mega keep lock is_held image old new o e result locks out same =
    let x = effect_of old new o o in
    let y = effect_of (locked_by old image lock is_held) new o o in
    let nothing : NothingDone y = (locks.0, refl) in
    passed_on (BlankEnds mega keep lock image x) e result same (
      warnings image 0 (lock && not is_held),
      no_line e (warnings image 0 (lock && not is_held)) (λ done. no_memory (sym out ∙ done)),
      inl (is_held, locks.1, (refl, subst (BlankIsMade image keep (concat (blank_image (kind_of mega))) y) (sym out) (inl nothing))),
    )

exists_end : (image : List ℕ) (keep : Bool) (made : List ℕ) (y : Effect) (e : End) → GivesUp image keep y → RefusesText (codes "Exists") e → BlankIsMade image keep made y e
exists_end image keep made y (end.Refused said) gives says = (says, gives)
exists_end image keep made y end.NoMemory gives says = inr gives
exists_end image keep made y end.Done gives says = absurd says
exists_end image keep made y (end.File path last) gives says = absurd says
exists_end image keep made y (end.Path path) gives says = absurd says
exists_end image keep made y end.Stream gives says = absurd says

-- There is a file, which is to be kept.
pub blank_exists : (mega keep lock is_held : Bool) (image made : List ℕ) (old mid new : Folder) (o : Stream) (e : End) → LocksPath old mid image lock (Ok is_held) → Replaces mid new (image, made) keep (Ok placed.Exists) → RefusesText (codes "Exists") e
    → BlankEnds mega keep lock image (effect_of old new o o) None e
blank_exists mega keep lock is_held image made old mid new o e locks (same, kept) says =
    let y = effect_of (locked_by old image lock is_held) new o o in
    let still : IsToBeKept (locked_by old image lock is_held) image keep = subst (λ f. IsToBeKept f image keep) locks.0 kept in
    let gives : GivesUp image keep y = (same ∙ ap spent locks.0, refl, still) in (
      warnings image 0 (lock && not is_held),
      no_line e (warnings image 0 (lock && not is_held)) (says_not_done (codes "Exists") e says),
      inl (is_held, locks.1, (refl, exists_end image keep (concat (blank_image (kind_of mega))) y e gives says)),
    )

-- A call failed while the image was put in place.
pub blank_failed : (mega keep lock is_held : Bool) (image made : List ℕ) (at last : Bor (List ℕ)) (old mid new : Folder) (o : Stream) → LocksPath old mid image lock (Ok is_held)
    → made ≡ concat (blank_image (kind_of mega)) → ReplacedOrNot (Places mid new (image, made) keep) mid new → at.now ≡ image → last.now ≡ [] → BlankEnds mega keep lock image (effect_of old new o o) None (end.File at last)
blank_failed mega keep lock is_held image made at last old mid new o locks is failed path no_ending =
    let locked = locked_by old image lock is_held in
    let since : ReplacedOrNot (Places locked new (image, made) keep) locked new = subst (λ f. ReplacedOrNot (Places f new (image, made) keep) f new) locks.0 failed in
    let so : ReplacedOrNot (Places locked new (image, concat (blank_image (kind_of mega))) keep) locked new = subst (λ b. ReplacedOrNot (Places locked new (image, b) keep) locked new) is since in
    (warnings image 0 (lock && not is_held), refl, inl (is_held, locks.1, (refl, (refl, path, no_ending, so))))
