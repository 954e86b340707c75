-- Following one name.
use Rattle.std.proofs.Common.{rules, ◌≡◌, ◌≢◌, ◌⊎◌, ◌<◌, ◌≤◌, ◌+◌, ◌-◌, ◌*◌, ◌∙◌, sym, ap, refl, inl, inr, subst, ℕ, zero, suc, min, List, [], ◌∷◌, ◌++◌, Vec, length, reverse, take, slice_index, slice_index_or, slice_set, arith, get_or, get_or-set_same, get_or-set_other}
use Rattle.std.specs.List.{Contains, push}
use Rattle.std.specs.Global.{Global}
use Rattle.std.proofs.lemmas.Bool.{cases_eq, cases_lt}
use Rattle.std.proofs.lemmas.List.{length-set, length-take-le, get_or-take, get_or_default}
use Rattle.std.proofs.lemmas.Grind.{common_steps}
use Rattle.asm_names.specs.declared.walk.Seen.{Seen}
use Rattle.asm_names.specs.declared.walk.Frame.{Frame}
use Rattle.asm_names.specs.declared.walk.Turn.{Turn}
use Rattle.asm_names.specs.Orders.Order.{named_by, turn_definitions}
use Rattle.asm_names.specs.Private.Standing.{Reaches, Stands, AreTold, AreFrames, IsFinished, IsTop, seen_at, low_of, lowered, starts, IsFollowed, left}
use Rattle.asm_names.proofs.Orders.Leading.{reaches_on, reaches_named, reaches_leads}
use Rattle.asm_names.proofs.Orders.Frames.{low_le, low_inside, low_below}

-- all definitions on the path reach that of the last frame
pub all_reach_top : (uses : List (Vec ℕ Global)) (seen : List Seen) (followed path : List ℕ) (f : Frame) (fs : List Frame) (turns : List Turn)
    → Stands uses seen followed path (f ∷ fs) turns → (p : ℕ) → p < length path → Reaches (named_by uses) (slice_index path p) (slice_index path f.start)
all_reach_top uses seen followed path f fs turns was p lt =
    elim (cases_lt p f.start) [
      | inl below ↦ was.onwards p f.start (omega arith) was.framed.0
      | inr inside ↦ reaches_on (rw (low_inside f fs p inside) at (was.back p lt)) (was.onwards f.low f.start was.framed.1 was.framed.0)
    ]

-- what holds after the last frame is found to lead to a definition on the path
pub lowered_stands : (uses : List (Vec ℕ Global)) (seen : List Seen) (followed path : List ℕ) (f : Frame) (fs : List Frame) (turns : List Turn) (to q : ℕ)
    → Stands uses seen followed path (f ∷ fs) turns → Contains (named_by uses (slice_index path f.start)) to → seen_at seen to ≡ Seen.Open q
    → Stands uses seen followed path (lowered q (f ∷ fs)) turns
lowered_stands uses seen followed path f fs turns to q was names at =
    let g : Frame = record { start = f.start; low = min f.low q } in
    let low_less : (p : ℕ) → low_of (g ∷ fs) p ≤ low_of (f ∷ fs) p = λ p. elim (cases_lt p f.start) [
      | inl below ↦ rw (low_below g fs p below) (rw (low_below f fs p below) (omega arith))
      | inr inside ↦ rw (low_inside g fs p inside) (rw (low_inside f fs p inside) (omega arith))
    ] in
    let there = was.told.placed to q at in
    record {
      told = was.told;
      in_order = was.in_order;
      closed = was.closed;
      onwards = was.onwards;
      framed = (was.framed.0, (let h = was.framed.1 in omega arith), was.framed.2);
      back = λ p lt. elim (cases_lt p f.start) [
        | inl below ↦ rw (low_below g fs p below) (rw (low_below f fs p below) at (was.back p lt))
        | inr inside ↦ rw (low_inside g fs p inside) (elim (cases_lt f.low q) [
          | inl less ↦ (let e : min f.low q ≡ f.low = omega arith in rw e (rw (low_inside f fs p inside) at (was.back p lt)))
          | inr more ↦ (let e : min f.low q ≡ q = omega arith in rw e (rw there.1 (inr (reaches_named (all_reach_top uses seen followed path f fs turns was p lt) names))))
        ])
      ];
      explored = λ p more lt names. elim (was.explored p more lt names) [
        | inl done ↦ inl done
        | inr open' ↦ inr (open'.0, open'.1, (let a = low_less p in let b = open'.2 in omega arith))
      ];
      finished = was.finished;
    }

-- a definition among the first n + 1 names is among the first n, or the last of them
contains_more : (xs : List ℕ) (n to x : ℕ) → n < length xs → get_or xs n 0 ≡ to → Contains (take (n + 1) xs) x → Contains (take n xs) x ⊎ (x ≡ to)
contains_more xs n to x lt is (k, within, at) =
    let short : k < n + 1 = omega (arith, within, length-take-le (n + 1) xs (omega arith)) in
    elim (cases_lt k n) [
      | inl before ↦ inl (k, omega (arith, length-take-le n xs (omega arith)), get_or-take n xs k x before ∙ sym (get_or-take (n + 1) xs k x short) ∙ at)
      | inr last ↦ inr (let e : k ≡ n = omega arith in sym at ∙ get_or-take (n + 1) xs k x short ∙ get_or_default xs k x 0 (omega arith) ∙ rw e is)
    ]

pub open_is : {p q : ℕ} → ◌≡◌ {A = Seen} (Seen.Open p) (Seen.Open q) → p ≡ q
open_is e = cc

pub not_open_is : {p : ℕ} → ◌≡◌ {A = Seen} Seen.Not (Seen.Open p) → ⊥
not_open_is e = cc

pub other_start : (x : ℕ) (xs : List ℕ) (y : ℕ) → y ≢ x → Contains (x ∷ xs) y → Contains xs y
other_start x xs y ne (zero, lt, is) = absurd (ne (sym is))
other_start x xs y ne (suc k, lt, is) = (k, omega (arith, lt), is)

pub followed_more : (uses : List (Vec ℕ Global)) (seen : List Seen) (followed path : List ℕ) (frames : List Frame) (turns : List Turn) (p n to : ℕ)
    → Stands uses seen followed path frames turns → p < length path → n ≡ slice_index followed (slice_index path p)
    → n < length (named_by uses (slice_index path p)) → slice_index (named_by uses (slice_index path p)) n ≡ to → IsFollowed seen (low_of frames p) to
    → Stands uses seen (slice_set followed (slice_index path p) (n + 1)) path frames turns
followed_more uses seen followed path frames turns p n to was lt is less names there =
    let d : ℕ = slice_index path p in
    let one_place : (q : ℕ) → q < length path → slice_index path q ≡ d → q ≡ p = λ q lq same. open_is (sym (was.told.place q lq).1 ∙ ap (seen_at seen) same ∙ (was.told.place p lt).1) in
    let room : d < length followed = (let a = (was.told.place p lt).0 in let b = was.told.followed_all in omega arith) in
    let here : slice_index (slice_set followed d (n + 1)) d ≡ n + 1 = get_or-set_same followed d (n + 1) 0 room in
    let other : (k : ℕ) → k ≢ d → slice_index (slice_set followed d (n + 1)) k ≡ slice_index followed k = λ k ne. get_or-set_other followed d k (n + 1) 0 ne in
    record {
      told = record {
        seen_all = was.told.seen_all;
        place = was.told.place;
        placed = was.told.placed;
        turn = was.told.turn;
        turned = was.told.turned;
        counted = was.told.counted;
        followed_all = length-set followed d (n + 1) ∙ was.told.followed_all;
        fresh = λ k e. elim (cases_eq k d) [
          | inl same ↦ absurd (not_open_is (sym e ∙ ap (seen_at seen) same ∙ (was.told.place p lt).1))
          | inr ne ↦ other k ne ∙ was.told.fresh k e
        ];
      };
      in_order = was.in_order;
      closed = was.closed;
      onwards = was.onwards;
      framed = was.framed;
      back = was.back;
      explored = λ q x lq more. elim (cases_eq (slice_index path q) d) [
        | inl same ↦
            (let e = one_place q lq same in
            let more' : Contains (take (n + 1) (named_by uses d)) x = rw here at (rw same at more) in
            elim (contains_more (named_by uses d) n to x less names more') [
              | inl before ↦ rw e (was.explored p x lt (rw (sym is) before))
              | inr last ↦ rw e (rw last there)
            ])
        | inr ne ↦ was.explored q x lq (rw (other (slice_index path q) ne) at more)
      ];
      finished = λ q lq. elim (cases_eq (slice_index path q) d) [
        | inl same ↦
            (let e = one_place q lq same in
            elim (was.finished q lq) [
              | inl all ↦ absurd (let f : length (named_by uses d) ≤ slice_index followed d = rw same at all in omega (arith, f, is, less))
              | inr began ↦ inr began
            ])
        | inr ne ↦ rw (other (slice_index path q) ne) (was.finished q lq)
      ];
    }

pub left_less : (uses : List (Vec ℕ Global)) (followed : List ℕ) (k n : ℕ) → length followed ≡ length uses → n ≡ slice_index followed k → n < length (named_by uses k)
    → left uses (slice_set followed k (n + 1)) + 1 ≡ left uses followed
left_less [] followed k n len is lt = absurd (omega (arith, lt))
left_less (u ∷ us) [] k n len is lt = absurd (omega (arith, len))
left_less (u ∷ us) (f ∷ fs) zero n len is lt = omega (arith, is, lt)
left_less (u ∷ us) (f ∷ fs) (suc k) n len is lt = (let h = left_less us fs k n (omega (arith, len)) is lt in omega (arith, h))

-- what holds after a frame that leads to something before it is removed
pub left_stands : (uses : List (Vec ℕ Global)) (seen : List Seen) (followed path : List ℕ) (g : Frame) (fs : List Frame) (turns : List Turn)
    → Stands uses seen followed path (g ∷ fs) turns → IsFinished uses followed path g.start → g.low < g.start
    → Stands uses seen followed path (lowered g.low fs) turns
left_stands uses seen followed path g [] turns was all lower = absurd (omega (arith, was.framed.2, lower))
left_stands uses seen followed path g (f ∷ fs) turns was all lower =
    let h : Frame = record { start = f.start; low = min f.low g.low } in
    let below : f.start < g.start = was.framed.2.0 in
    let before : (p : ℕ) → p < f.start → low_of (h ∷ fs) p ≡ low_of (g ∷ f ∷ fs) p = λ p lt.
    low_below h fs p lt ∙ sym (low_below g (f ∷ fs) p (omega arith) ∙ low_below f fs p lt) in
    let inside : (p : ℕ) → f.start ≤ p → low_of (h ∷ fs) p ≡ min f.low g.low = λ p le. low_inside h fs p le in
    let middle : (p : ℕ) → f.start ≤ p → p < g.start → low_of (g ∷ f ∷ fs) p ≡ f.low = λ p le lt. low_below g (f ∷ fs) p lt ∙ low_inside f fs p le in
    let above : (p : ℕ) → g.start ≤ p → low_of (g ∷ f ∷ fs) p ≡ g.low = λ p le. low_inside g (f ∷ fs) p le in
    let to_low : (p : ℕ) → p < length path → Reaches (named_by uses) (slice_index path p) (slice_index path g.low) = λ p lt.
    reaches_on (all_reach_top uses seen followed path g (f ∷ fs) turns was p lt) (rw (above g.start (omega arith)) at (was.back g.start was.framed.0)) in
    let low_room : g.low < length path = (let a = was.framed.0 in omega arith) in
    let to_lowest : (p : ℕ) → p < length path → Reaches (named_by uses) (slice_index path p) (slice_index path f.low) = λ p lt.
    reaches_on (to_low p lt) (elim (cases_lt g.low f.start) [
      | inl early ↦ reaches_on (was.onwards g.low f.start (omega arith) (let a = was.framed.0 in omega arith)) (rw (middle f.start (omega arith) below) at (was.back f.start (let a = was.framed.0 in omega arith)))
      | inr late ↦ rw (middle g.low late lower) at (was.back g.low low_room)
    ]) in
    record {
      told = was.told;
      in_order = was.in_order;
      closed = was.closed;
      onwards = was.onwards;
      framed = ((let a = was.framed.0 in omega arith), (let a = was.framed.2.1 in omega arith), was.framed.2.2);
      back = λ p lt. elim (cases_lt p f.start) [
        | inl early ↦ rw (before p early) (was.back p lt)
        | inr late ↦ rw (inside p late) (elim (cases_lt f.low g.low) [
          | inl less ↦ (let e : min f.low g.low ≡ f.low = omega arith in rw e (to_lowest p lt))
          | inr more ↦ (let e : min f.low g.low ≡ g.low = omega arith in rw e (to_low p lt))
        ])
      ];
      explored = λ p x lt names. elim (was.explored p x lt names) [
        | inl done ↦ inl done
        | inr there ↦ inr (
          there.0,
          there.1,
          (let b = there.2 in elim (cases_lt p f.start) [
            | inl early ↦ rw (before p early) b
            | inr late ↦ rw (inside p late) (elim (cases_lt p g.start) [
              | inl mid ↦ (let c : f.low ≤ there.0 = rw (middle p late mid) at b in omega arith)
              | inr high ↦ (let c : g.low ≤ there.0 = rw (above p high) at b in omega arith)
            ])
          ]),
        )
      ];
      finished = λ p lt. elim (cases_eq p g.start) [
        | inl same ↦ inl (rw same all)
        | inr ne ↦ elim (was.finished p lt) [
          | inl done ↦ inl done
          | inr began ↦ inr (other_start g.start (starts (f ∷ fs)) p ne began)
        ]
      ];
    }
