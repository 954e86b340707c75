-- An operation on disks that look alike has one answer, and leaves disks that look alike.
use Rattle.std.proofs.Common.{◌≡◌, ◌≢◌, ◌<◌, ◌≤◌, ◌⊎◌, ◌+◌, ◌-◌, ◌*◌, ◌%◌, ℕ, Bool, List, length, replicate, slice_set, Result, Ok, Err, refl, sym, ap, subst, ◌∙◌, inl, inr, arith}
use Rattle.std.specs.Prelude.{if◌then◌else◌}
use Rattle.std.proofs.lemmas.Bool.{cases_eq, cases_lt}
use Rattle.cpm_image.specs.Kind.{block_records, directory_records, record_count}
use Rattle.cpm_image.specs.declared.kind.DiskKind.{DiskKind}
use Rattle.cpm_image.specs.declared.directory.entry.Entry.{Entry}
use Rattle.cpm_image.specs.declared.directory.entry.TheConstants.{USERS}
use Rattle.cpm_image.specs.declared.directory.fault.DiskFault.{DiskFault}
use Rattle.cpm_image.specs.declared.directory.fault.DiskFault.TheVariants as fault
use Rattle.cpm_image.specs.Directory.Letters.{letters}
use Rattle.cpm_image.specs.Directory.Rules.{IsSound}
use Rattle.cpm_disk.specs.declared.placement.Placement.{Placement}
use Rattle.cpm_disk.specs.Kept.{StaysSound}
use Rattle.cpm_disk.specs.Steps.{after_erasure, after_renaming, creation, erasure, reading, renaming, writing}
use Rattle.cpm_disk.proofs.Kept.{erasure_keeps}
use Rattle.cpm_disk.proofs.Worth.{created, located, placed_soundly, renamed_soundly}
use Rattle.cpm_disk.specs.Calls.{Changed, HasOutcome, HasWritten, Mounted, Written}
use Rattle.cpm_disk.specs.Image.{Image, IsOfBlock, IsOfDirectory, directory, disk_record}
use Rattle.cpm_disk.specs.Operations.{IsCreated, IsErased, IsRecordRead, IsRecordWritten, IsRenamed}
use Rattle.cpm_bdos.specs.Alike.{AlikeDisks, SameImage}

-- the same change of images that look alike
pub same_changed : (kind : DiskKind) (a b x y : Image) (es fs : List Entry) → fs ≡ es → SameImage kind a b → Changed kind a x es → Changed kind b y fs → SameImage kind x y
same_changed kind a b x y es fs e same one two = record {
  entries_are = two.entries_are ∙ e ∙ sym one.entries_are;
  rest = record {
    count = two.rest.count ∙ same.rest.count ∙ sym one.rest.count;
    records = λ n below apart. two.rest.records n below apart ∙ same.rest.records n below apart ∙ sym (one.rest.records n below apart);
    system = λ s none. two.rest.system s none ∙ same.rest.system s none ∙ sym (one.rest.system s none);
  };
}

-- a record outside the directory
other_record : (kind : DiskKind) (a b : Image) (n : ℕ) → SameImage kind a b → directory_records kind ≤ n → n < record_count kind → disk_record kind b n ≡ disk_record kind a n
other_record kind a b n same from below = same.rest.records n below (λ inside. omega (arith, from, inside))

-- the same record is written to images that look alike
same_block : (kind : DiskKind) (a b x y : Image) (block i : ℕ) (new : Bool) (bytes : List ℕ) (n : ℕ) → SameImage kind a b → HasWritten kind a x block i new bytes → HasWritten kind b y block i new bytes
    → n < record_count kind → (IsOfDirectory kind n → ⊥) → block_records kind * block ≤ n → n < block_records kind * block + block_records kind → disk_record kind y n ≡ disk_record kind x n
same_block kind a b x y block i new bytes n same one two below apart from to =
    let j = n - block_records kind * block in
    let is : block_records kind * block + j ≡ n = omega (arith, from) in
    let small : j < block_records kind = omega (arith, from, to) in
    let was : disk_record kind b (block_records kind * block + j) ≡ disk_record kind a (block_records kind * block + j) = subst (λ m. disk_record kind b m ≡ disk_record kind a m) (sym is) (same.rest.records n below apart) in
    subst (λ m. disk_record kind y m ≡ disk_record kind x m) is (at_record j small was (cases_eq j i))
  where
    at_record : (j : ℕ) → j < block_records kind → disk_record kind b (block_records kind * block + j) ≡ disk_record kind a (block_records kind * block + j) → (j ≡ i) ⊎ (j ≢ i)
        → disk_record kind y (block_records kind * block + j) ≡ disk_record kind x (block_records kind * block + j)
    at_record j small was (inl e) = subst (λ k. disk_record kind y (block_records kind * block + k) ≡ disk_record kind x (block_records kind * block + k)) (sym e) (two.here ∙ sym one.here)
    at_record j small was (inr other) = two.beside j small other ∙ ap (λ r. if new then replicate 128 0 else r) was ∙ sym (one.beside j small other)

same_written : (kind : DiskKind) (a b x y : Image) (p : Placement) (i : ℕ) (bytes : List ℕ) → SameImage kind a b → Written kind a x p i bytes → Written kind b y p i bytes → SameImage kind x y
same_written kind a b x y p i bytes same one two = record {
  entries_are = two.entries_are ∙ ap (λ es. slice_set es p.entry_number p.entry) same.entries_are ∙ sym one.entries_are;
  rest = record {
    count = two.data_are.rest.count ∙ same.rest.count ∙ sym one.data_are.rest.count;
    records = λ n below apart. by_block n below apart (cases_lt n (block_records kind * p.block)) (cases_lt n (block_records kind * p.block + block_records kind));
    system = λ s none. two.data_are.rest.system s none ∙ same.rest.system s none ∙ sym (one.data_are.rest.system s none);
  };
} where
  beside : (n : ℕ) → n < record_count kind → (IsOfDirectory kind n → ⊥) → (IsOfBlock kind p.block n → ⊥) → disk_record kind y n ≡ disk_record kind x n
  beside n below apart out =
      let neither : IsOfDirectory kind n ⊎ IsOfBlock kind p.block n → ⊥ = λ both. elim both [ inl d ↦ apart d | inr o ↦ out o ] in
      two.data_are.rest.records n below neither ∙ same.rest.records n below apart ∙ sym (one.data_are.rest.records n below neither)

  by_block : (n : ℕ) → n < record_count kind → (IsOfDirectory kind n → ⊥) → (n < block_records kind * p.block) ⊎ (block_records kind * p.block ≤ n) → (n < block_records kind * p.block + block_records kind) ⊎ (block_records kind * p.block + block_records kind ≤ n)
      → disk_record kind y n ≡ disk_record kind x n
  by_block n below apart (inl low) end = beside n below apart (λ o. let from = o.0 in omega (arith, low, from))
  by_block n below apart (inr from) (inr high) = beside n below apart (λ o. let to = o.1 in omega (arith, high, to))
  by_block n below apart (inr from) (inl to) = same_block kind a b x y p.block i p.is_new bytes n same one.data_are two.data_are below apart from to

-- an answer that is not that the device failed
abbrev pub IsAnswered : {Y : Type 0} → Result Y DiskFault → Type 0
IsAnswered r = (r ≢ Err fault.Fault) × (r ≢ Err fault.Failed)

pub alike_as : {S : Type 0} (sectors : S → Image) (m n u v : Mounted S) → m ≡ u → n ≡ v → AlikeDisks sectors m n → AlikeDisks sectors u v
alike_as sectors m n u v p q alike = subst (AlikeDisks sectors u) q (subst (λ w. AlikeDisks sectors w n) p alike)

-- a disk of the same format, with another device
abbrev pub beside : {S : Type 0} → Mounted S → S → Mounted S
beside disk device = record { device = device; kind = disk.kind; failed = disk.failed }

module _ {S : Type 0} (sectors : S → Image) (faults : S → ℕ) where
  -- how a call ended in which the device did not fail: it was done, or refused
  abbrev Went : {X Y : Type 0} → Mounted S → Mounted S → Result X DiskFault → (X → Y → Type 0) → Result Y DiskFault → Type 0
  Went {X = X} {Y = Y} old new expected finished r =
      ((x : X) × (y : Y) × (r ≡ Ok y) × (new.failed ≡ old.failed) × (new.kind ≡ old.kind) × (expected ≡ Ok x) × finished x y)
      ⊎ ((f : DiskFault) × (r ≡ Err f) × (expected ≡ Err f) × (new ≡ old))

  went : {X Y : Type 0} (old new : Mounted S) (expected : Result X DiskFault) (finished : X → Y → Type 0) (stopped : X → Type 0) (r : Result Y DiskFault)
      → IsAnswered r → HasOutcome faults old new expected finished stopped r → Went old new expected finished r
  went old new expected finished stopped (Ok y) good h = inl (h.4, y, refl, h.1 ∙ sym h.0, h.2, h.5, h.6)
  went old new expected finished stopped (Err fault.Fault) good h = absurd (good.0 refl)
  went old new expected finished stopped (Err fault.Failed) good h = absurd (good.1 refl)
  went old new expected finished stopped (Err fault.BlockTwice) good h = inr (fault.BlockTwice, refl, h.1, h.2)
  went old new expected finished stopped (Err fault.BlockRange) good h = inr (fault.BlockRange, refl, h.1, h.2)
  went old new expected finished stopped (Err fault.BadEntry) good h = inr (fault.BadEntry, refl, h.1, h.2)
  went old new expected finished stopped (Err fault.NotFound) good h = inr (fault.NotFound, refl, h.1, h.2)
  went old new expected finished stopped (Err fault.Exists) good h = inr (fault.Exists, refl, h.1, h.2)
  went old new expected finished stopped (Err fault.DirectoryFull) good h = inr (fault.DirectoryFull, refl, h.1, h.2)
  went old new expected finished stopped (Err fault.DiskFull) good h = inr (fault.DiskFull, refl, h.1, h.2)
  went old new expected finished stopped (Err fault.ReadOnly) good h = inr (fault.ReadOnly, refl, h.1, h.2)
  went old new expected finished stopped (Err fault.Unwritten) good h = inr (fault.Unwritten, refl, h.1, h.2)
  went old new expected finished stopped (Err fault.NoExtent) good h = inr (fault.NoExtent, refl, h.1, h.2)
  went old new expected finished stopped (Err fault.NameTwice) good h = inr (fault.NameTwice, refl, h.1, h.2)
  went old new expected finished stopped (Err fault.TooFar) good h = inr (fault.TooFar, refl, h.1, h.2)
  went old new expected finished stopped (Err fault.NoMemory) good h = inr (fault.NoMemory, refl, h.1, h.2)
  went old new expected finished stopped (Err fault.WrongSize) good h = inr (fault.WrongSize, refl, h.1, h.2)

  -- Two calls that ended so have one answer and leave disks that look alike, if those that were done have and do.
  one_outcome : {X Y : Type 0} (old new there : Mounted S) (device : S) (expected other : Result X DiskFault) (finished ended : X → Y → Type 0) (a b : Result Y DiskFault)
      → SameImage old.kind (sectors old.device) (sectors device) → IsSound old.kind (directory old.kind (sectors old.device)) → other ≡ expected
      → ((x : X) (y z : Y) → expected ≡ Ok x → finished x y → ended x z → (z ≡ y) × SameImage old.kind (sectors new.device) (sectors there.device) × IsSound old.kind (directory old.kind (sectors new.device)))
      → Went old new expected finished a → Went (beside old device) there other ended b → (b ≡ a) × AlikeDisks sectors new there
  one_outcome {X} {Y} old new there device expected other finished ended a b same sound e done (inl one) (inl two) =
      let x_is : ◌≡◌ {A = Result X DiskFault} (Ok two.0) (Ok one.0) = sym two.5 ∙ e ∙ one.5 in
      let z_is = subst (λ x. ended x two.1) (ok_same X two.0 one.0 x_is) two.6 in
      let both = done one.0 one.1 two.1 one.5 one.6 z_is in (
        two.2 ∙ ap Ok both.0 ∙ sym one.2,
        record {
          kind = two.4 ∙ sym one.4;
          failed = two.3 ∙ sym one.3;
          image = subst (λ k. SameImage k (sectors new.device) (sectors there.device)) (sym one.4) both.1;
          sound = subst (λ k. IsSound k (directory k (sectors new.device))) (sym one.4) both.2;
        },
      )
    where
      ok_same : (T : Type 0) (x y : T) → ◌≡◌ {A = Result T DiskFault} (Ok x) (Ok y) → x ≡ y
      ok_same T x y same_ok = cc
  one_outcome {X} old new there device expected other finished ended a b same sound e done (inl one) (inr two) =
      absurd (let no : ◌≡◌ {A = Result X DiskFault} (Err two.0) (Ok one.0) = sym two.2 ∙ e ∙ one.5 in cc)
  one_outcome {X} old new there device expected other finished ended a b same sound e done (inr one) (inl two) =
      absurd (let no : ◌≡◌ {A = Result X DiskFault} (Ok two.0) (Err one.0) = sym two.5 ∙ e ∙ one.2 in cc)
  one_outcome {X} {Y} old new there device expected other finished ended a b same sound e done (inr one) (inr two) =
      let f_is : ◌≡◌ {A = Result X DiskFault} (Err two.0) (Err one.0) = sym two.2 ∙ e ∙ one.2 in
      let f_same : two.0 ≡ one.0 = err_same X two.0 one.0 f_is in
      (two.1 ∙ ap Err f_same ∙ sym one.1, alike_as sectors old (beside old device) new there (sym one.3) (sym two.3) (record { kind = refl; failed = refl; image = same; sound = sound }))
    where
      err_same : (T : Type 0) (x y : DiskFault) → ◌≡◌ {A = Result T DiskFault} (Err x) (Err y) → x ≡ y
      err_same T x y same_err = cc

  -- a directory that a call was to leave keeps the rules
  left_sound : (kind : DiskKind) (before after now : List Entry) → StaysSound kind before after → now ≡ after → IsSound kind now
  left_sound kind before after now stays is = subst (IsSound kind) (sym is) (stays after (λ k. inr refl))

  abbrev OneAnswerOf : {Y : Type 0} → Mounted S → Mounted S → Result Y DiskFault → Result Y DiskFault → Type 0
  OneAnswerOf new there a b = (b ≡ a) × AlikeDisks sectors new there

  pub one_created : (old new there : Mounted S) (device : S) (user : ℕ) (name : List ℕ) (a b : Result ℕ DiskFault) → SameImage old.kind (sectors old.device) (sectors device)
      → IsSound old.kind (directory old.kind (sectors old.device)) → user < USERS → letters name ≡ name → IsAnswered a → IsAnswered b
      → IsCreated sectors faults old new user name a → IsCreated sectors faults (beside old device) there user name b → OneAnswerOf new there a b
  one_created old new there device user name a b same sound low seven good fine one two =
      let es = directory old.kind (sectors old.device) in
      let fs = directory old.kind (sectors device) in
      let X = ℕ × Entry in
      one_outcome {X = X} old new there device (creation user name es) (creation user name fs)
      (λ put number. (number ≡ put.0) × Changed old.kind (sectors old.device) (sectors new.device) (slice_set es put.0 put.1))
      (λ put number. (number ≡ put.0) × Changed old.kind (sectors device) (sectors there.device) (slice_set fs put.0 put.1))
      a b same sound (ap (creation user name) same.entries_are)
      (λ put y z is first second. (
        second.0 ∙ sym first.0,
        same_changed old.kind (sectors old.device) (sectors device) (sectors new.device) (sectors there.device) (slice_set es put.0 put.1) (slice_set fs put.0 put.1) (ap (λ xs. slice_set xs put.0 put.1) same.entries_are) same first.1 second.1,
        left_sound old.kind es (slice_set es put.0 put.1) _ (created old.kind user name es (Ok put) low seven (sym is) sound).sound first.1.entries_are,
      ))
      (went old new (creation user name es) _ _ a good one)
      (went (beside old device) there (creation user name fs) _ _ b fine two)

  pub one_erased : (old new there : Mounted S) (device : S) (user : ℕ) (pattern : List ℕ) (a b : Result ℕ DiskFault) → SameImage old.kind (sectors old.device) (sectors device)
      → IsSound old.kind (directory old.kind (sectors old.device)) → user < USERS → IsAnswered a → IsAnswered b
      → IsErased sectors faults old new user pattern a → IsErased sectors faults (beside old device) there user pattern b → OneAnswerOf new there a b
  one_erased old new there device user pattern a b same sound low good fine one two =
      let es = directory old.kind (sectors old.device) in
      let fs = directory old.kind (sectors device) in
      one_outcome old new there device (erasure user pattern es) (erasure user pattern fs)
      (λ count number. (number ≡ count) × Changed old.kind (sectors old.device) (sectors new.device) (after_erasure user pattern es))
      (λ count number. (number ≡ count) × Changed old.kind (sectors device) (sectors there.device) (after_erasure user pattern fs))
      a b same sound (ap (erasure user pattern) same.entries_are)
      (λ count y z is first second. (
        second.0 ∙ sym first.0,
        same_changed old.kind (sectors old.device) (sectors device) (sectors new.device) (sectors there.device) (after_erasure user pattern es) (after_erasure user pattern fs) (ap (after_erasure user pattern) same.entries_are) same first.1 second.1,
        left_sound old.kind es (after_erasure user pattern es) _ (erasure_keeps old.kind user pattern es low sound) first.1.entries_are,
      ))
      (went old new (erasure user pattern es) _ _ a good one)
      (went (beside old device) there (erasure user pattern fs) _ _ b fine two)

  pub one_renamed : (old new there : Mounted S) (device : S) (user : ℕ) (from to : List ℕ) (a b : Result (Unit {0}) DiskFault) → SameImage old.kind (sectors old.device) (sectors device)
      → IsSound old.kind (directory old.kind (sectors old.device)) → user < USERS → length from ≡ length to → letters to ≡ to → IsAnswered a → IsAnswered b
      → IsRenamed sectors faults old new user from to a → IsRenamed sectors faults (beside old device) there user from to b → OneAnswerOf new there a b
  one_renamed old new there device user from to a b same sound low long seven good fine one two =
      let es = directory old.kind (sectors old.device) in
      let fs = directory old.kind (sectors device) in
      one_outcome old new there device (renaming user from to es) (renaming user from to fs)
      (λ _ _. Changed old.kind (sectors old.device) (sectors new.device) (after_renaming user from to es))
      (λ _ _. Changed old.kind (sectors device) (sectors there.device) (after_renaming user from to fs))
      a b same sound (ap (renaming user from to) same.entries_are)
      (λ done y z is first second. (
        refl,
        same_changed old.kind (sectors old.device) (sectors device) (sectors new.device) (sectors there.device) (after_renaming user from to es) (after_renaming user from to fs) (ap (after_renaming user from to) same.entries_are) same first second,
        left_sound old.kind es (after_renaming user from to es) _ (renamed_soundly old.kind user from to es (Ok done) low long seven (sym is) sound) first.entries_are,
      ))
      (went old new (renaming user from to es) _ _ a good one)
      (went (beside old device) there (renaming user from to fs) _ _ b fine two)

  pub one_read : (old new there : Mounted S) (device : S) (user : ℕ) (name : List ℕ) (number : ℕ) (a b : Result (List ℕ) DiskFault) → SameImage old.kind (sectors old.device) (sectors device)
      → IsSound old.kind (directory old.kind (sectors old.device)) → user < USERS → IsAnswered a → IsAnswered b
      → IsRecordRead sectors faults old new user name number a → IsRecordRead sectors faults (beside old device) there user name number b → OneAnswerOf new there a b
  one_read old new there device user name number a b same sound low good fine one two =
      let es = directory old.kind (sectors old.device) in
      let fs = directory old.kind (sectors device) in
      one_outcome old new there device (reading old.kind user name number es) (reading old.kind user name number fs)
      (λ place bytes. (bytes ≡ disk_record old.kind (sectors old.device) place) × (sectors new.device ≡ sectors old.device))
      (λ place bytes. (bytes ≡ disk_record old.kind (sectors device) place) × (sectors there.device ≡ sectors device))
      a b same sound (ap (reading old.kind user name number) same.entries_are)
      (λ place y z is first second.
      let within = located old.kind user name number es (Ok place) low (sym is) sound in (
        second.0 ∙ other_record old.kind (sectors old.device) (sectors device) place same within.0 within.1 ∙ sym first.0,
        subst (SameImage old.kind (sectors new.device)) (sym second.1) (subst (λ i. SameImage old.kind i (sectors device)) (sym first.1) same),
        subst (λ i. IsSound old.kind (directory old.kind i)) (sym first.1) sound,
      ))
      (went old new (reading old.kind user name number es) _ _ a good one)
      (went (beside old device) there (reading old.kind user name number fs) _ _ b fine two)

  pub one_written : (old new there : Mounted S) (device : S) (user : ℕ) (name : List ℕ) (number : ℕ) (bytes : List ℕ) (a b : Result (Unit {0}) DiskFault) → SameImage old.kind (sectors old.device) (sectors device)
      → IsSound old.kind (directory old.kind (sectors old.device)) → user < USERS → IsAnswered a → IsAnswered b
      → IsRecordWritten sectors faults old new user name number bytes a → IsRecordWritten sectors faults (beside old device) there user name number bytes b → OneAnswerOf new there a b
  one_written old new there device user name number bytes a b same sound low good fine one two =
      let es = directory old.kind (sectors old.device) in
      let fs = directory old.kind (sectors device) in
      one_outcome old new there device (writing old.kind user name number es) (writing old.kind user name number fs)
      (λ p _. Written old.kind (sectors old.device) (sectors new.device) p (number % block_records old.kind) bytes)
      (λ p _. Written old.kind (sectors device) (sectors there.device) p (number % block_records old.kind) bytes)
      a b same sound (ap (writing old.kind user name number) same.entries_are)
      (λ p y z is first second. (
        refl,
        same_written old.kind (sectors old.device) (sectors device) (sectors new.device) (sectors there.device) p (number % block_records old.kind) bytes same first second,
        left_sound old.kind es (slice_set es p.entry_number p.entry) _ (placed_soundly old.kind user name number es (Ok p) low (sym is) sound).sound first.entries_are,
      ))
      (went old new (writing old.kind user name number es) _ _ a good one)
      (went (beside old device) there (writing old.kind user name number fs) _ _ b fine two)
