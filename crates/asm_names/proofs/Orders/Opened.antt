-- Putting a definition on the path.
use Rattle.std.proofs.Common.{rules, ◌≡◌, ◌≢◌, ◌⊎◌, ◌<◌, ◌≤◌, ◌+◌, ◌∙◌, sym, ap, refl, inl, inr, subst, ℕ, zero, suc, List, [], ◌∷◌, ◌++◌, Vec, length, reverse, take, slice_index, slice_index_or, slice_set, arith, get_or, get_or-set_same, get_or-set_other}
use Rattle.std.specs.List.{Contains, push, sum_by}
use Rattle.std.proofs.lemmas.List.Sums.{sum_by-set}
use Rattle.std.specs.Global.{Global}
use Rattle.std.proofs.lemmas.Bool.{cases_eq, cases_lt, le-leb, lt-leb}
use Rattle.std.proofs.lemmas.List.{length-set, length_push, places}
use Rattle.std.proofs.lemmas.Grind.{common_steps}
use Rattle.asm_names.proofs.Orders.Frames.{low_le}
use Rattle.asm_names.specs.declared.walk.Seen.{Seen}
use Rattle.asm_names.specs.declared.walk.Frame.{Frame}
use Rattle.asm_names.specs.declared.walk.Turn.{Turn}
use Rattle.asm_names.specs.Orders.Order.{named_by, turn_definitions}
use Rattle.asm_names.specs.Private.Standing.{Reaches, Stands, AreFrames, AreTold, not_seen, seen_at, low_of, starts, IsFollowed}

pub push_before : (path : List ℕ) (d p : ℕ) → p < length path → slice_index (push path d) p ≡ slice_index path p
push_before path d p lt = search (rules, places)

pub push_last : (path : List ℕ) (d : ℕ) → slice_index (push path d) (length path) ≡ d
push_last path d = search (rules, places)

pub seen_same : (seen : List Seen) (k : ℕ) (s : Seen) → k < length seen → seen_at (slice_set seen k s) k ≡ s
seen_same seen k s lt = get_or-set_same seen k s Seen.Not lt

pub seen_other : (seen : List Seen) (d k : ℕ) (s : Seen) → k ≢ d → seen_at (slice_set seen d s) k ≡ seen_at seen k
seen_other seen d k s ne = get_or-set_other seen d k s Seen.Not ne

-- what the walk keeps agrees with the path and the order after one definition more
told : (count : ℕ) (seen : List Seen) (followed path : List ℕ) (turns : List Turn) (d : ℕ) → AreTold count seen followed path turns → d < count → seen_at seen d ≡ Seen.Not
    → AreTold count (slice_set seen d (Seen.Open (length path))) followed (push path d) turns
told count seen followed path turns d was few new = record {
  seen_all = length-set seen d (Seen.Open (length path)) ∙ was.seen_all;
  followed_all = was.followed_all;
  fresh = λ k e. grind (arith, common_steps, cases_eq k d, seen_same seen d (Seen.Open (length path)), seen_other seen d k (Seen.Open (length path)), was.fresh k, was.seen_all);
  place = λ p lt. grind (arith, common_steps, cases_lt p (length path), length_push path d, push_before path d p, push_last path d, cases_eq (slice_index path p) d, seen_same seen d (Seen.Open (length path)), seen_other seen d (slice_index path p) (Seen.Open (length path)), was.place p, was.seen_all);
  placed = λ k p e. grind (arith, common_steps, cases_eq k d, length_push path d, push_before path d p, push_last path d, seen_same seen d (Seen.Open (length path)), seen_other seen d k (Seen.Open (length path)), was.placed k p, was.seen_all);
  turn = λ k e. grind (arith, common_steps, cases_eq k d, seen_same seen d (Seen.Open (length path)), seen_other seen d k (Seen.Open (length path)), was.turn k, was.seen_all);
  counted =
      let fewer : sum_by not_seen (slice_set seen d (Seen.Open (length path))) + 1 ≡ sum_by not_seen seen =
      subst (λ n. sum_by not_seen (slice_set seen d (Seen.Open (length path))) + n ≡ sum_by not_seen seen) (ap not_seen new)
      (sum_by-set not_seen seen d (Seen.Open (length path)) Seen.Not (omega (arith, few, was.seen_all)) ∙ omega arith) in
      omega (arith, fewer, was.counted, length_push path d);
  turned = λ k h. grind (arith, common_steps, cases_eq k d, seen_same seen d (Seen.Open (length path)), seen_other seen d k (Seen.Open (length path)), was.turned k h, was.seen_all);
}

-- a definition that was followed stays followed when another is seen
followed_on : (seen : List Seen) (d low to : ℕ) (s : Seen) → seen_at seen d ≡ Seen.Not → IsFollowed seen low to → IsFollowed (slice_set seen d s) low to
followed_on seen d low to s new (inl done) = inl (grind (arith, common_steps, cases_eq to d, seen_other seen d to s))
followed_on seen d low to s new (inr (q, stands, above)) = inr (q, grind (arith, common_steps, cases_eq to d, seen_other seen d to s), above)

pub contains_behind : (x : ℕ) (xs : List ℕ) (y : ℕ) → Contains xs y → Contains (x ∷ xs) y
contains_behind x xs y (k, lt, is) = (suc k, omega arith, is)

not_in_none : (to : ℕ) → Contains [] to → ⊥
not_in_none to (k, lt, is) = omega (arith, lt)

-- each definition on the path reaches those after it, and so also the new one
onwards : (named : ℕ → List ℕ) (path : List ℕ) (d : ℕ)
    → ((p q : ℕ) → p ≤ q → q < length path → Reaches named (slice_index path p) (slice_index path q))
    → ((p : ℕ) → p < length path → Reaches named (slice_index path p) d)
    → (p q : ℕ) → p ≤ q → q < length (push path d) → Reaches named (slice_index (push path d) p) (slice_index (push path d) q)
onwards named path d was led p q le lt =
    elim (cases_lt q (length path)) [
      | inl before ↦ rw (push_before path d p (omega arith)) (rw (push_before path d q before) (was p q le before))
      | inr last ↦ (let e : q ≡ length path = omega (arith, lt, length_push path d) in
          rw e (rw (push_last path d) (elim (cases_lt p (length path)) [
            | inl before ↦ rw (push_before path d p before) (led p before)
            | inr end ↦ (let f : p ≡ length path = omega arith in rw f (inl (push_last path d)))
          ])))
    ]

pub opened : (uses : List (Vec ℕ Global)) (seen : List Seen) (followed path : List ℕ) (frames : List Frame) (turns : List Turn) (d : ℕ)
    → Stands uses seen followed path frames turns → d < length uses → seen_at seen d ≡ Seen.Not
    → ((p : ℕ) → p < length path → Reaches (named_by uses) (slice_index path p) d)
    → Stands uses (slice_set seen d (Seen.Open (length path))) followed (push path d) (record { start = length path; low = length path } ∷ frames) turns
opened uses seen followed path frames turns d was few new led =
    let seen' : List Seen = slice_set seen d (Seen.Open (length path)) in
    let top : Frame = record { start = length path; low = length path } in
    let low_before : (p : ℕ) → p < length path → low_of (top ∷ frames) p ≡ low_of frames p = λ p lt. rw (lt-leb (length path) p lt) refl in
    let low_last : low_of (top ∷ frames) (length path) ≡ length path = rw (le-leb (length path) (length path) (omega arith)) refl in
    record {
      told = told (length uses) seen followed path turns d was.told few new;
      in_order = was.in_order;
      closed = λ k to done names.
          let was_done : seen_at seen k ≡ Seen.Done = grind (arith, common_steps, cases_eq k d, seen_same seen d (Seen.Open (length path)), seen_other seen d k (Seen.Open (length path)), done, was.told.seen_all) in
          let to_done = was.closed k to was_done names in
          grind (arith, common_steps, cases_eq to d, seen_other seen d to (Seen.Open (length path)), to_done);
      onwards = onwards (named_by uses) path d was.onwards led;
      framed = (omega (arith, length_push path d), omega arith, was.framed);
      back = λ p lt. elim (cases_lt p (length path)) [
        | inl before ↦
            rw (low_before p before) (rw (push_before path d p before)
            (rw (push_before path d (low_of frames p) (let low = low_le frames (length path) p was.framed before in omega arith)) (was.back p before)))
        | inr last ↦ (let e : p ≡ length path = omega (arith, lt, length_push path d) in rw e (rw low_last (inl refl)))
      ];
      explored = λ p to lt names. elim (cases_lt p (length path)) [
        | inl before ↦
            rw (low_before p before) (followed_on seen d (low_of frames p) to (Seen.Open (length path)) new (was.explored p to before (rw (push_before path d p before) at names)))
        | inr last ↦
            (let e : p ≡ length path = omega (arith, lt, length_push path d) in
            let is : slice_index (push path d) p ≡ d = rw e (push_last path d) in
            absurd (not_in_none to (rw (was.told.fresh d new) at (rw is at names))))
      ];
      finished = λ p lt. elim (cases_lt p (length path)) [
        | inl before ↦ rw (push_before path d p before) (elim (was.finished p before) [ inl all ↦ inl all | inr more ↦ inr (contains_behind (length path) (starts frames) p more) ])
        | inr last ↦ (let e : p ≡ length path = omega (arith, lt, length_push path d) in inr (rw e (0, omega arith, refl)))
      ];
    }
