-- The spans that a ruler keeps are right at first, and stay right each time a jump becomes long.
use Rattle.std.proofs.Common.{◌≡◌, ◌||◌, subst, Some, get_or, ℕ, ◌+◌, ◌<◌, ◌≤◌, ◌↔◌, true, false, List, length, refl, ap, sym, ◌∙◌, arith, inl, inr, min, take, drop, ◌++◌, get_or-set_same, get_or-set_other}
use Rattle.std.proofs.lemmas.Bool.{cases_lt, cases_eq, eq-eqb, ne_eqb, leb-true, le-leb}
use Rattle.std.proofs.Math.Dec.{leb}
use Rattle.std.proofs.Math.Seq.{take-append_seam}
use Rattle.std.proofs.lemmas.List.{length-set, get_or-replicate}
use Rattle.std.proofs.lemmas.List.Elements.{All-get_or}
use Rattle.std.proofs.lemmas.Option.{slice_get-get_or, slice_get_within}
use Rattle.std.proofs.Math.Bool.{or-true, or-false}
use Rattle.std.proofs.Math.Path.{fun_ext}
use Rattle.std.specs.List.{slice_get}
use Rattle.std.specs.Prelude.{slice_index, slice_set as set, replicate, Bool}
use Rattle.relax.specs.declared.reach.TheConstants.{LONGEST}
use Rattle.relax.specs.declared.spans.TheConstants.{NEAR}
use Rattle.relax.specs.declared.shape.Statement.{Statement}
use Rattle.relax.specs.declared.shape.Statement.TheVariants.{Fixed, Jump, Short}
use Rattle.relax.specs.Choice.{Choice, chosen, size_at, bytes_before, total, IsStatement, IsShape, IsJump, IsNear, Reaches}
use Rattle.relax.specs.Ruler.{IsLengthened}
use Rattle.relax.specs.Private.Spans.{none_long, target_of, IsSpan, AreTargets, ArePlaces, AreSpans, Widened, HoldsSpans}
use Rattle.relax.proofs.Places.{bytes-zero, bytes-next}
use Rattle.relax.proofs.Sizes.{bytes-apart, chosen-replicate}
use Rattle.relax.proofs.Moves.{moved}

-- a jump reaches its target exactly if its span is 129 at most
pub near : (from to span : ℕ) → IsSpan from to span → (span ≤ LONGEST) ↔ IsNear (256 + from) (256 + to)
near from to span is =
    elim (cases_lt to from) as (λ _. (span ≤ LONGEST) ↔ IsNear (256 + from) (256 + to)) [
      | inl behind ↦ (let most = (is.behind behind).0 in let exact = (is.behind behind).1 in
          (λ le. (let e = exact le in (omega arith, omega arith)), λ n. (let a = n.0 in let b = n.1 in omega arith)))
      | inr ahead ↦ (let most = (is.ahead ahead).0 in let exact = (is.ahead ahead).1 in
          (λ le. (let e = exact le in (omega arith, omega arith)), λ n. (let a = n.0 in let b = n.1 in omega arith)))
    ]

-- the first address
pub places-first : (shape : List Statement) (places : List ℕ) (n : ℕ) → places ≡ replicate n 0 → 0 < n → (j : ℕ) → j ≤ 0 → slice_index places j ≡ bytes_before none_long shape j
places-first shape places n zeros lt j le =
    let first : j ≡ 0 = omega arith in
    rw (first, zeros, bytes-zero none_long shape) (get_or-replicate {A = ℕ} n 0 0 0 lt)

-- one more address
pub places-more : (shape : List Statement) (places : List ℕ) (k at size : ℕ) → k < length shape → length places ≡ length shape + 1 → ((j : ℕ) → j ≤ k → slice_index places j ≡ bytes_before none_long shape j) → at ≡ slice_index places k → size ≡ size_at none_long shape k → (j : ℕ) → j ≤ k + 1 → slice_index (set places (k + 1) (at + size)) j ≡ bytes_before none_long shape j
places-more shape places k at size lt len each read is j le =
    let next = bytes-next none_long shape k in
    let here = each k (omega arith) in
    elim (cases_eq j (k + 1)) [
      | inl same ↦ rw same (get_or-set_same places (k + 1) (at + size) 0 (omega arith) ∙ omega arith)
      | inr other ↦ get_or-set_other places (k + 1) j (at + size) 0 other ∙ each j (omega arith)
    ]

-- a span that grows by one byte
more-ahead : (from to was is : ℕ) → from ≤ to → IsSpan from to was → is ≡ min (was + 1) 255 → IsSpan from (to + 1) is
more-ahead from to was is le span e =
    let most = (span.ahead le).0 in let exact = (span.ahead le).1 in
    record {
      ahead = λ l. (omega arith, λ short. (let same = exact (omega arith) in omega arith));
      behind = λ gt. absurd (omega arith);
    }

more-behind : (from to was is : ℕ) → to < from → IsSpan from to was → is ≡ min (was + 1) 255 → IsSpan (from + 1) to is
more-behind from to was is gt span e =
    let most = (span.behind gt).0 in let exact = (span.behind gt).1 in
    record {
      ahead = λ le. absurd (omega arith);
      behind = λ l. (omega arith, λ short. (let same = exact (omega arith) in omega arith));
    }

-- if a target out of reach moves further away, what is kept of the span may stay
far-ahead : (from to was : ℕ) → from + 129 < to → IsSpan from to was → IsSpan from (to + 1) was
far-ahead from to was far span =
    let most = (span.ahead (omega arith)).0 in let exact = (span.ahead (omega arith)).1 in
    record {
      ahead = λ l. (omega arith, λ short. (let same = exact short in absurd (omega arith)));
      behind = λ gt. absurd (omega arith);
    }

far-behind : (from to was : ℕ) → to + 126 < from → IsSpan from to was → IsSpan (from + 1) to was
far-behind from to was far span =
    let most = (span.behind (omega arith)).0 in let exact = (span.behind (omega arith)).1 in
    record {
      ahead = λ le. absurd (omega arith);
      behind = λ l. (omega arith, λ short. (let same = exact short in absurd (omega arith)));
    }

-- if both ends move by one byte, the span stays
both : (from to was : ℕ) → IsSpan from to was → IsSpan (from + 1) (to + 1) was
both from to was span =
    record {
      ahead = λ le. (let s = span.ahead (omega arith) in let most = s.0 in let exact = s.1 in (omega arith, λ short. (let same = exact short in omega arith)));
      behind = λ gt. (let s = span.behind (omega arith) in let most = s.0 in let exact = s.1 in (omega arith, λ short. (let same = exact short in omega arith)));
    }

module _ (c d : Choice) (shape : List Statement) (is_shape : IsShape shape) (k u : ℕ) (jump : IsJump shape k u) (short : c k ≡ false) (longer : IsLengthened c d k) where
  at : (m : ℕ) → (m ≤ k → bytes_before d shape m ≡ bytes_before c shape m) × (k < m → bytes_before d shape m ≡ bytes_before c shape m + 1)
  at = moved c d shape k u jump short longer

  -- each span is right after jump k has become long
  pub span-widened : (targets was is : List ℕ) → Widened targets was is k → (j : ℕ) → j < length targets → length targets ≡ length shape → slice_index targets j ≤ length shape → IsSpan (bytes_before c shape j) (bytes_before c shape (slice_index targets j)) (slice_index was j) → IsSpan (bytes_before d shape j) (bytes_before d shape (slice_index targets j)) (slice_index is j)
  span-widened targets was is wide j lt len within span =
      let t : ℕ = slice_index targets j in
      elim (cases_lt k j) as (λ _. IsSpan (bytes_before d shape j) (bytes_before d shape t) (slice_index is j)) [
        | inl after ↦ elim (cases_lt k t) as (λ _. IsSpan (bytes_before d shape j) (bytes_before d shape t) (slice_index is j)) [
          | inl beyond ↦ rw ((at j).1 after, (at t).1 beyond, wide.stays_behind j after beyond) (both _ _ _ span)
          | inr over ↦ rw ((at j).1 after, (at t).0 over)
              (let apart = bytes-apart c shape is_shape t j (omega arith) (omega arith) in
              elim (cases_lt (k + NEAR) j) as (λ _. IsSpan (bytes_before c shape j + 1) (bytes_before c shape t) (slice_index is j)) [
                | inl far ↦ rw (wide.far_behind j far) (far-behind _ _ _ (omega arith) span)
                | inr near ↦ more-behind _ _ (slice_index was j) _ (omega arith) span (wide.back j after near lt over)
              ])
        ]
        | inr upto ↦ elim (cases_lt k t) as (λ _. IsSpan (bytes_before d shape j) (bytes_before d shape t) (slice_index is j)) [
          | inl over ↦ rw ((at j).0 upto, (at t).1 over)
              (let apart = bytes-apart c shape is_shape j t (omega arith) within in
              elim (cases_lt (j + NEAR) k) as (λ _. IsSpan (bytes_before c shape j) (bytes_before c shape t + 1) (slice_index is j)) [
                | inl far ↦ rw (wide.far_before j far) (far-ahead _ _ _ (omega arith) span)
                | inr near ↦ more-ahead _ _ (slice_index was j) _ (omega arith) span (wide.ahead j upto near over)
              ])
          | inr short_of ↦ rw ((at j).0 upto, (at t).0 short_of, wide.stops_before j upto short_of) span
        ]
      ]

-- one more flag is set
pub chosen-set : (long : List Bool) (k : ℕ) → k < length long → IsLengthened (chosen long) (chosen (set long k true)) k
chosen-set long k lt j =
    elim (cases_eq j k) [
      | inl same ↦ rw same (get_or-set_same long k true false lt ∙ sym (ap (λ b. chosen long k || b) (eq-eqb k k refl) ∙ or-true (chosen long k)))
      | inr other ↦ get_or-set_other long k j true false other ∙ sym (ap (λ b. chosen long j || b) (ne_eqb k j (λ e. other (sym e))) ∙ or-false (chosen long j))
    ]

-- a target is a statement or the end
target_of-le : (n k : ℕ) (s : Statement) → k < n → IsStatement n s → target_of k s ≤ n
target_of-le n k (Fixed m) lt is = omega arith
target_of-le n k (Jump t) lt is = is
target_of-le n k (Short t) lt is = is

pub target-within : (shape : List Statement) (targets : List ℕ) → IsShape shape → AreTargets shape targets → (k : ℕ) → k < length shape → slice_index targets k ≤ length shape
target-within shape targets is each k lt =
    rw (each k _ (slice_get-get_or shape k (Fixed 0) lt)) (target_of-le (length shape) k (get_or shape k (Fixed 0)) lt (All-get_or (IsStatement (length shape)) shape k (Fixed 0) lt is.each))

-- what is kept of a program whose jumps are all short
pub holds-first : (shape : List Statement) (long : List Bool) (targets places spans : List ℕ) (bytes : ℕ) → IsShape shape → long ≡ replicate (length shape) false → length long ≡ length shape → length targets ≡ length shape → length spans ≡ length shape → AreTargets shape targets → ArePlaces shape places → AreSpans targets places spans → bytes ≡ slice_index places (length shape) → HoldsSpans shape long targets spans bytes
holds-first shape long targets places spans bytes is none len_long len_targets len_spans goes stands far all =
    let same : ◌≡◌ {A = Choice} none_long (chosen long) = fun_ext (λ k. sym (ap (λ (l : List Bool). chosen l k) none ∙ chosen-replicate (length shape) k)) in
    record {
      is_shape = is;
      same_long = len_long;
      same_targets = len_targets;
      same_spans = len_spans;
      goes = goes;
      far = λ k lt.
          (let here : IsSpan (bytes_before none_long shape k) (bytes_before none_long shape (slice_index targets k)) (slice_index spans k) =
          (let kept = far k (omega arith) in rw (stands k (omega arith), stands (slice_index targets k) (target-within shape targets is goes k lt)) at kept) in
          subst (λ (c : Choice). IsSpan (bytes_before c shape k) (bytes_before c shape (slice_index targets k)) (slice_index spans k)) same here);
      all = subst (λ (c : Choice). bytes ≡ total c shape) same (all ∙ stands (length shape) (omega arith));
    }

module _ (shape : List Statement) (long : List Bool) (targets spans : List ℕ) (bytes : ℕ) (holds : HoldsSpans shape long targets spans bytes) (k : ℕ) where
  -- whether a jump reaches its target
  pub reaches-by : (s : Statement) → slice_get shape k ≡ Some s → (slice_index spans k ≤ LONGEST) ↔ Reaches (chosen long) shape k (target_of k s)
  reaches-by s e =
      let span = holds.far k (slice_get_within shape k s e) in
      let to = holds.goes k s e in
      let here : IsSpan (bytes_before (chosen long) shape k) (bytes_before (chosen long) shape (target_of k s)) (slice_index spans k) = rw to at span in
      near _ _ _ here

  -- the same, given a span that is read and compared
  pub reaches-read : (read : ℕ) → slice_index spans k ≡ read → (s : Statement) → slice_get shape k ≡ Some s → (leb read LONGEST ≡ true) ↔ Reaches (chosen long) shape k (target_of k s)
  reaches-read read at s e =
      let by = reaches-by s e in
      (λ yes_it. by.0 (let le = leb-true read LONGEST yes_it in omega arith), λ reaches. le-leb read LONGEST (let le = by.1 reaches in omega arith))

  -- what is kept after jump k has become long
  pub holds-grown : (u : ℕ) → IsJump shape k u → chosen long k ≡ false → (is : List ℕ) → Widened targets spans is k → HoldsSpans shape (set long k true) targets is (bytes + 1)
  holds-grown u jump short is wide =
      let lt : k < length shape = slice_get_within shape k (Jump u) jump in
      let len_long = holds.same_long in
      let len_targets = holds.same_targets in
      let longer = chosen-set long k (omega arith) in
      let whole = (moved (chosen long) (chosen (set long k true)) shape k u jump short longer (length shape)).1 lt in
      record {
        is_shape = holds.is_shape;
        same_long = length-set long k true ∙ len_long;
        same_targets = len_targets;
        same_spans = wide.len ∙ holds.same_spans;
        goes = holds.goes;
        far = λ j l. span-widened (chosen long) (chosen (set long k true)) shape holds.is_shape k u jump short longer targets spans is wide j (omega arith) len_targets (target-within shape targets holds.is_shape holds.goes j l) (holds.far j l);
        all = (let before = holds.all in omega arith);
      }

-- a list that was borrowed as a whole and is given back
pub given-back : (n : ℕ) (new items : List ℕ) → length new ≡ n → take n (new ++ drop (length new) items) ≡ new
given-back n new items e = rw (← e) (take-append_seam new (drop (length new) items))
