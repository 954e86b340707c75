-- What one more step changes in what is kept.
use Rattle.std.proofs.Common.{◌≡◌, ◌≢◌, ◌<◌, ◌≤◌, ◌+◌, ◌-◌, ◌++◌, ◌∷◌, ◌^◌, [], ℕ, Bool, true, false, List, length, get_or, min, sym, ap, ◌∙◌, arith, inl, inr, Result, Ok, Err, Vec, IfOk, take, drop, length-drop, length-append, get_or-set_other, get_or-set_same}
use Rattle.std.specs.Prelude.{◌==◌, if◌then◌else◌, slice_index, slice_set, replicate}
use Rattle.std.proofs.lemmas.Bool.{cases_eq}
use Rattle.std.proofs.lemmas.Bool.Decides.{nat_tests}
use Rattle.std.specs.Global.{Global}
use Rattle.std.specs.declared.alloc.AllocError.{AllocError}
use Rattle.std.proofs.lemmas.List.{get_or-replicate, length-replicate, length-set, drop-append-le, drop-drop, get_or_default}
use Rattle.std.proofs.lemmas.List.Sums.{count_by-le-length, sum_by-append}
use Rattle.cpm_run.specs.declared.recording.TraceStep.{TraceStep}
use Rattle.cpm_run.specs.declared.recording.Record.{Record}
use Rattle.cpm_run.specs.declared.recording.Wish.{Wish}
use Rattle.cpm_run.specs.Records.{CountsAre, KeepsWished, count_at, last_items}

-- one more step counts at its own address
count_more : (a : ℕ) (steps : List TraceStep) (s : TraceStep) → count_at a (steps ++ s ∷ []) ≡ count_at a steps + (if s.before.pc == a then 1 else 0)
count_more a steps s =
    let e : count_at a (steps ++ s ∷ []) ≡ count_at a steps + count_at a (s ∷ []) = sum_by-append (λ (x : TraceStep). if x.before.pc == a then 1 else 0) steps (s ∷ []) in
    omega (arith, e)

-- before the first step each address is counted 0 times
pub zeros : (n : ℕ) (counts : List ℕ) → counts ≡ replicate n 0 → (length counts ≡ n) × ((a : ℕ) → a < n → slice_index counts a ≡ 0)
zeros n counts e = rw e (length-replicate n 0, λ a below. get_or-replicate n a 0 0 below)

-- a step is counted
pub counted : (n : ℕ) (steps : List TraceStep) (s : TraceStep) (counts : List ℕ) (new : ℕ) → length counts ≡ n → ((a : ℕ) → a < n → slice_index counts a ≡ count_at a steps)
    → length steps + 1 < 2 ^ 64 → s.before.pc < n → new ≡ min (slice_index counts s.before.pc + 1) (2 ^ 64 - 1)
    → (a : ℕ) → a < n → slice_index (slice_set counts s.before.pc new) a ≡ count_at a (steps ++ s ∷ [])
counted n steps s counts new size are below within is a inside = elim (cases_eq s.before.pc a) [
  | inl e ↦
      let own : slice_index counts s.before.pc ≡ count_at s.before.pc steps = are s.before.pc within in
      let most = count_by-le-length (λ (x : TraceStep). x.before.pc == s.before.pc) steps in
      let room : s.before.pc < length counts = omega (arith, within, size) in
      let more = count_more s.before.pc steps s in
      let here : (s.before.pc == s.before.pc) ≡ true = grind (arith, nat_tests) in
      let sum : count_at s.before.pc (steps ++ s ∷ []) ≡ count_at s.before.pc steps + 1 = more ∙ ap (λ (b : Bool). count_at s.before.pc steps + (if b then 1 else 0)) here in
      let value : new ≡ count_at s.before.pc steps + 1 = omega (arith, is, own, most, below) in
      rw (← e) (get_or-set_same counts s.before.pc new 0 room ∙ value ∙ sym sum)
  | inr other ↦
      let apart : a ≢ s.before.pc = omega (arith, other) in
      let there : (s.before.pc == a) ≡ false = grind (arith, nat_tests, other) in
      let sum : count_at a (steps ++ s ∷ []) ≡ count_at a steps + 0 = count_more a steps s ∙ ap (λ (b : Bool). count_at a steps + (if b then 1 else 0)) there in
      let old = are a inside in
      get_or-set_other counts s.before.pc a new 0 apart ∙ (let k : slice_index counts a ≡ count_at a (steps ++ s ∷ []) = omega (arith, old, sum) in k)
]

-- the same for counts that may not be wanted
pub counted_in : (wanted : Bool) (steps : List TraceStep) (s : TraceStep) (counts : List ℕ) (new n was : ℕ) → n ≡ length counts → s.before.pc < n → was ≡ get_or counts s.before.pc was → new ≡ min (was + 1) (2 ^ 64 - 1)
    → length steps + 1 < 2 ^ 64 → CountsAre wanted steps counts → CountsAre wanted (steps ++ s ∷ []) (slice_set counts s.before.pc new)
counted_in true steps s counts new n was len within had is below are =
    let inside : s.before.pc < 65536 = let size = are.0 in omega (arith, within, len, size) in
    let room : s.before.pc < length counts = omega (arith, within, len) in
    let value : was ≡ slice_index counts s.before.pc = had ∙ get_or_default counts s.before.pc was 0 room in
    let sum : new ≡ min (slice_index counts s.before.pc + 1) (2 ^ 64 - 1) = is ∙ ap (λ (k : ℕ). min (k + 1) (2 ^ 64 - 1)) value in
    (length-set counts s.before.pc new ∙ are.0, counted 65536 steps s counts new are.0 are.1 below inside sum)
counted_in false steps s counts new n was len within had is below are = absurd (let none : length counts ≡ 0 = ap length are in omega (arith, within, len, none))

abbrev pub CountsIn : Bool → Result (Vec ℕ Global) AllocError → Type 0
CountsIn wanted result = IfOk result (λ counts. CountsAre wanted [] counts.items)

pub none_counted : (wanted : Bool) (result : Result (Vec ℕ Global) AllocError) → wanted ≡ true → IfOk result (λ v. ((y : ℕ) → y ≡ 0 → y ≡ 0) → v.items ≡ replicate 65536 0) → CountsIn wanted result
none_counted wanted (Ok v) e is = rw e (zeros 65536 v.items (is (λ y same. same)))
none_counted wanted (Err why) e is = tt

-- the last of a list whose front was cut already
last_again : {X : Type 0} (n : ℕ) (xs : List X) (x : X) → last_items n (last_items n xs ++ x ∷ []) ≡ last_items n (xs ++ x ∷ [])
last_again n xs x = again (length xs - n) (omega arith) where
  again : (cut : ℕ) → cut ≡ length xs - n → last_items n (drop cut xs ++ x ∷ []) ≡ last_items n (xs ++ x ∷ [])
  again cut is =
      let le : cut ≤ length xs = omega (arith, is) in
      let front : drop cut xs ++ x ∷ [] ≡ drop cut (xs ++ x ∷ []) = sym (drop-append-le cut xs (x ∷ []) le) in
      let size : length (xs ++ x ∷ []) ≡ length xs + 1 = length-append xs (x ∷ []) in
      let left : length (drop cut (xs ++ x ∷ [])) ≡ length (xs ++ x ∷ []) - cut = length-drop cut (xs ++ x ∷ []) in
      let sum : cut + (length (drop cut (xs ++ x ∷ [])) - n) ≡ length (xs ++ x ∷ []) - n = omega (arith, is, size, left) in
      ap (last_items n) front ∙ drop-drop (length (drop cut (xs ++ x ∷ [])) - n) cut (xs ++ x ∷ []) ∙ ap (λ k. drop k (xs ++ x ∷ [])) sum

-- one more is kept, and the oldest goes
pub one_goes : {X : Type 0} (n : ℕ) (xs : List X) (x : X) (old pushed new : List X) → old ≡ last_items n xs → pushed ≡ old ++ x ∷ [] → n < length pushed → new ≡ drop 1 pushed → new ≡ last_items n (xs ++ x ∷ [])
one_goes n xs x old pushed new was is over cut =
    let size : length (old ++ x ∷ []) ≡ length old + 1 = length-append old (x ∷ []) in
    let most : length (last_items n xs) ≡ length xs - (length xs - n) = length-drop (length xs - n) xs in
    let same : length old ≡ length (last_items n xs) = ap length was in
    let whole : length pushed ≡ length (old ++ x ∷ []) = ap length is in
    let one : 1 ≡ length pushed - n = omega (arith, size, most, same, whole, over) in
    cut ∙ ap (λ k. drop k pushed) one ∙ ap (last_items n) (is ∙ ap (λ ys. ys ++ x ∷ []) was) ∙ last_again n xs x

-- one more is kept, and none goes
pub none_goes : {X : Type 0} (n : ℕ) (xs : List X) (x : X) (old pushed : List X) → old ≡ last_items n xs → pushed ≡ old ++ x ∷ [] → length pushed ≤ n → pushed ≡ last_items n (xs ++ x ∷ [])
none_goes n xs x old pushed was is under =
    let none : 0 ≡ length pushed - n = omega (arith, under) in
    ap (λ k. drop k pushed) none ∙ ap (last_items n) (is ∙ ap (λ ys. ys ++ x ∷ []) was) ∙ last_again n xs x

-- one more step is kept
pub noted : (wish : Wish) (steps : List TraceStep) (s : TraceStep) (old new : Record)
    → KeepsWished wish steps old → (old.first.items ≡ take wish.first steps → new.first.items ≡ take wish.first (steps ++ s ∷ []))
    → (old.last.items ≡ last_items wish.last steps → new.last.items ≡ last_items wish.last (steps ++ s ∷ []))
    → (CountsAre wish.counts steps old.counts.items → CountsAre wish.counts (steps ++ s ∷ []) new.counts.items)
    → KeepsWished wish (steps ++ s ∷ []) new
noted wish steps s old new keeps more lasts counted = record {
  first = more keeps.first;
  last = lasts keeps.last;
  counts = counted keeps.counts;
}
