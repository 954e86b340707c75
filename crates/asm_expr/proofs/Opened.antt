-- The items of cells that are being settled.
use Rattle.std.proofs.Common.{◌≡◌, ◌≤◌, ◌<◌, ◌+◌, ◌-◌, ◌++◌, ◌∷◌, [], ℕ, zero, suc, List, Option, All, Some, None, length, map, take, drop, get_or, Bool, true, false, refl, sym, ap, subst, ◌∙◌, arith, inl, inr, append_assoc, length-append, append-nil}
use Rattle.std.proofs.lemmas.List.{get_or-append_right, get_or-take, length-map, length-take-le, take-append-le, take_more, take_more_set}
use Rattle.std.proofs.lemmas.List.Elements.{All-append}
use Rattle.std.proofs.lemmas.Grind.{flat_map-append}
use Rattle.std.proofs.lemmas.Bool.{cases_lt}
use Rattle.std.proofs.Math.ListN.{get_or-append, set}
use Rattle.std.proofs.Math.Seq.{take-append_seam}
use Rattle.std.specs.List.{flat_map}
use Rattle.asm_expr.specs.Types.{Item, Atom}
use Rattle.asm_expr.specs.declared.part.Part.{Part}
use Rattle.asm_expr.specs.declared.parts.Cell.{Cell}
use Rattle.asm_parse.specs.Expression.{Expression, Leaf, Prefix, Infix, postfix}
use Rattle.asm_parse.specs.Values.Items.{IsExpr}
use Rattle.asm_expr.specs.Settling.{known, known_item}
use Rattle.asm_expr.specs.Private.Cells.{EndsInLeaf, IsOperation, IsSound, is_leaf, opened}
use Rattle.asm_expr.specs.Private.Folding.{root}
use Rattle.asm_expr.proofs.Known.{known-postfix}
use Rattle.asm_expr.proofs.Spread.{last_item}

-- Each cell has at least one item.
pub some_opened : (cells : List Cell) → All IsSound cells → length cells ≤ length (flat_map opened cells)
some_opened [] sound = omega arith
some_opened (Cell.Item item ∷ cells) sound = omega (arith, some_opened cells (λ k d lt. sound (suc k) d (omega (arith, lt))))
some_opened (Cell.List list ∷ cells) sound =
    let long : IsSound (Cell.List list) = sound 0 (Cell.List list) (omega arith) in
    omega (arith, long.1, length-map list.now.value.items known_item, length-append (map known_item list.now.value.items) (flat_map opened cells), some_opened cells (λ k d lt. sound (suc k) d (omega (arith, lt))))

-- The last item of an expression is an operator if there are at least two items.
no_leaf : (e : Expression Atom) → 2 ≤ length (postfix e) → is_leaf (root (known e)) ≡ false
no_leaf (Leaf atom) long = absurd (omega (arith, long))
no_leaf (Prefix op a) long = refl
no_leaf (Infix op a b) long = refl

last_operator : (items : List (Item Atom)) (d : Item Part) → IsOperation items → is_leaf (get_or (map known_item items) (length (map known_item items) - 1) d) ≡ false
last_operator items d operation =
    let e = operation.0.tree in
    let spelled : postfix (known e) ≡ map known_item items = known-postfix e ∙ ap (map known_item) operation.0.spelled in
    ap (λ xs. is_leaf (get_or xs (length xs - 1) d)) (sym spelled) ∙ ap is_leaf (last_item (known e) [] d) ∙ no_leaf e (omega (arith, operation.1, ap length operation.0.spelled))

-- So a cell that ends in a leaf is one item.
pub alone : (c : Cell) (d : Item Part) → IsSound c → is_leaf (get_or (opened c) (length (opened c) - 1) d) ≡ true → (x : Item Part) × (opened c ≡ x ∷ [])
alone (Cell.Item item) d sound ends = (item, refl)
alone (Cell.List list) d sound ends = let none = last_operator list.now.value.items d sound in cc

pub some : (c : Cell) → IsSound c → 1 ≤ length (opened c)
some (Cell.Item item) sound = omega arith
some (Cell.List list) sound = omega (arith, sound.1, length-map list.now.value.items known_item)

-- the last item of all
pub last_behind : (xs ys : List (Item Part)) (d : Item Part) → 1 ≤ length ys → get_or (xs ++ ys) (length (xs ++ ys) - 1) d ≡ get_or ys (length ys - 1) d
last_behind xs ys d more =
    get_or-append_right xs ys (length xs) (length (xs ++ ys) - 1) d refl (omega (arith, more, length-append xs ys))
    ∙ ap (λ k. get_or ys k d) (omega (arith, more, length-append xs ys))

pub without_last : (xs : List (Item Part)) (x : Item Part) → take (length (xs ++ x ∷ []) - 1) (xs ++ x ∷ []) ≡ xs
without_last xs x = ap (λ k. take k (xs ++ x ∷ [])) (omega (arith, length-append xs (x ∷ []))) ∙ take-append_seam xs (x ∷ [])

module _ (cells : List Cell) where
  -- the items of the first n cells
  abbrev pub first_parts : ℕ → List (Item Part)
  first_parts n = flat_map opened (take n cells)

  pub one_more : (n : ℕ) (d : Cell) → n < length cells → first_parts (n + 1) ≡ first_parts n ++ opened (get_or cells n d)
  one_more n d lt =
      ap (flat_map opened) (take_more cells n d lt) ∙ flat_map-append opened (take n cells) (get_or cells n d ∷ []) ∙ ap (λ xs. first_parts n ++ xs) (append-nil (opened (get_or cells n d)))

  pub one_put : (n : ℕ) (c : Cell) → n < length cells → flat_map opened (take (n + 1) (set cells n c)) ≡ first_parts n ++ opened c
  one_put n c lt = ap (flat_map opened) (take_more_set cells n c lt) ∙ flat_map-append opened (take n cells) (c ∷ []) ∙ ap (λ xs. first_parts n ++ xs) (append-nil (opened c))

  pub sound_put : (n : ℕ) (c : Cell) → n < length cells → All IsSound (take n cells) → IsSound c → All IsSound (take (n + 1) (set cells n c))
  sound_put n c lt before one =
      let last : All IsSound (c ∷ []) = λ k d less. let zero : k ≡ 0 = omega (arith, less) in rw zero one in
      subst (All IsSound) (sym (take_more_set cells n c lt)) (All-append IsSound (take n cells) (c ∷ []) before last)

  pub sound_fewer : (m n : ℕ) → n ≤ m → m ≤ length cells → All IsSound (take m cells) → All IsSound (take n cells)
  sound_fewer m n le few all = λ k d less.
      let lm = length-take-le m cells few in
      let ln = length-take-le n cells (omega (arith, le, few)) in
      let kn : k < n = omega (arith, less, ln) in
      subst IsSound (get_or-take m cells k d (omega (arith, kn, le)) ∙ sym (get_or-take n cells k d kn)) (all k d (omega (arith, kn, le, lm)))

  pub sound_at : (m n : ℕ) (d : Cell) → n < m → m ≤ length cells → All IsSound (take m cells) → IsSound (get_or cells n d)
  sound_at m n d lt few all = subst IsSound (get_or-take m cells n d lt) (all n d (omega (arith, lt, length-take-le m cells few)))

  -- If all the items end in a leaf, the last cell is one item.
  pub ends_alone : (n : ℕ) (d : Cell) → n < length cells → IsSound (get_or cells n d) → EndsInLeaf (first_parts (n + 1)) → (x : Item Part) × (first_parts (n + 1) ≡ first_parts n ++ x ∷ [])
  ends_alone n d lt sound ends =
      let c = get_or cells n d in
      let whole = one_more n d lt in
      let e = Item.Leaf (Part.Number 0) in
      let last : is_leaf (get_or (opened c) (length (opened c) - 1) e) ≡ true =
      ap is_leaf (sym (last_behind (first_parts n) (opened c) e (some c sound))) ∙ ap (λ xs. is_leaf (get_or xs (length xs - 1) e)) (sym whole) ∙ ends e in
      let one = alone c e sound last in
      (one.0, whole ∙ ap (λ xs. first_parts n ++ xs) one.1)

  -- There are no more cells than items.
  pub few_parts : (n : ℕ) (now : List (Item Part)) → n ≤ length cells → All IsSound (take n cells) → first_parts n ≡ now → n ≤ length now
  few_parts n now few sound is = omega (arith, some_opened (take n cells) sound, length-take-le n cells few, ap length is)

  -- The items after one more cell is appended.
  pub put_behind : (n : ℕ) (c : Cell) (now : List (Item Part)) → n < length cells → first_parts n ≡ now → flat_map opened (take (n + 1) (set cells n c)) ≡ now ++ opened c
  put_behind n c now lt is = one_put n c lt ∙ ap (λ xs. xs ++ opened c) is

  -- The items after a leaf replaces the last item,
  pub put_last : (n : ℕ) (p : Part) (d : Cell) (now : List (Item Part)) → n < length cells → All IsSound (take (n + 1) cells) → first_parts (n + 1) ≡ now → EndsInLeaf now
      → flat_map opened (take (n + 1) (set cells n (Cell.Item (Item.Leaf p)))) ≡ take (length now - 1) now ++ Item.Leaf p ∷ []
  put_last n p d now lt sound is ends =
      let one = ends_alone n d lt (sound_at (n + 1) n d (omega arith) (omega (arith, lt)) sound) (subst EndsInLeaf (sym is) ends) in
      let whole : now ≡ first_parts n ++ one.0 ∷ [] = sym is ∙ one.1 in
      one_put n (Cell.Item (Item.Leaf p)) lt ∙ ap (λ xs. xs ++ Item.Leaf p ∷ []) (sym (without_last (first_parts n) one.0) ∙ ap (λ xs. take (length xs - 1) xs) (sym whole))

  -- and after a leaf replaces the last two.
  pub put_two : (n : ℕ) (p : Part) (d : Cell) (now : List (Item Part)) → n + 1 < length cells → All IsSound (take ((n + 1) + 1) cells) → first_parts ((n + 1) + 1) ≡ now → EndsInLeaf now
      → EndsInLeaf (take (length now - 1) now) → flat_map opened (take (n + 1) (set cells n (Cell.Item (Item.Leaf p)))) ≡ take (length now - 2) now ++ Item.Leaf p ∷ []
  put_two n p d now lt sound is right left =
      let y = ends_alone (n + 1) d lt (sound_at ((n + 1) + 1) (n + 1) d (omega arith) (omega (arith, lt)) sound) (subst EndsInLeaf (sym is) right) in
      let whole : now ≡ first_parts (n + 1) ++ y.0 ∷ [] = sym is ∙ y.1 in
      let before : take (length now - 1) now ≡ first_parts (n + 1) = ap (λ xs. take (length xs - 1) xs) whole ∙ without_last (first_parts (n + 1)) y.0 in
      let x = ends_alone n d (omega (arith, lt)) (sound_at ((n + 1) + 1) n d (omega arith) (omega (arith, lt)) sound) (subst EndsInLeaf before left) in
      let all : now ≡ first_parts n ++ (x.0 ∷ y.0 ∷ []) = whole ∙ ap (λ xs. xs ++ y.0 ∷ []) x.1 ∙ append_assoc (first_parts n) (x.0 ∷ []) (y.0 ∷ []) in
      let short : length now - 2 ≡ length (first_parts n) = omega (arith, ap length all, length-append (first_parts n) (x.0 ∷ y.0 ∷ [])) in
      let rest : take (length now - 2) now ≡ first_parts n = ap (λ k. take k now) short ∙ ap (take (length (first_parts n))) all ∙ take-append_seam (first_parts n) (x.0 ∷ y.0 ∷ []) in
      one_put n (Cell.Item (Item.Leaf p)) (omega (arith, lt)) ∙ ap (λ xs. xs ++ Item.Leaf p ∷ []) (sym rest)

  -- The last item is that of the last cell,
  pub last_is : (n : ℕ) (d : Cell) (e : Item Part) (now : List (Item Part)) → n < length cells → All IsSound (take (n + 1) cells) → first_parts (n + 1) ≡ now
      → get_or now (length now - 1) e ≡ get_or (opened (get_or cells n d)) (length (opened (get_or cells n d)) - 1) e
  last_is n d e now lt sound is =
      let c = get_or cells n d in
      let one = some c (sound_at (n + 1) n d (omega arith) (omega (arith, lt)) sound) in
      ap (λ xs. get_or xs (length xs - 1) e) (sym is ∙ one_more n d lt) ∙ last_behind (first_parts n) (opened c) e one

  -- and the one before it is that of the cell before, if the last item is a leaf.
  pub before_is : (n : ℕ) (d : Cell) (e : Item Part) (now : List (Item Part)) → n + 1 < length cells → All IsSound (take ((n + 1) + 1) cells) → first_parts ((n + 1) + 1) ≡ now → EndsInLeaf now
      → get_or now (length now - 2) e ≡ get_or (opened (get_or cells n d)) (length (opened (get_or cells n d)) - 1) e
  before_is n d e now lt sound is ends =
      let y = ends_alone (n + 1) d lt (sound_at ((n + 1) + 1) (n + 1) d (omega arith) (omega (arith, lt)) sound) (subst EndsInLeaf (sym is) ends) in
      let whole : now ≡ first_parts (n + 1) ++ y.0 ∷ [] = sym is ∙ y.1 in
      let c = get_or cells n d in
      let one = some c (sound_at ((n + 1) + 1) n d (omega arith) (omega (arith, lt)) sound) in
      let more = length-append (first_parts n) (opened c) in
      let parts = ap length (one_more n d (omega (arith, lt))) in
      let short : length now - 2 ≡ length (first_parts (n + 1)) - 1 = omega (arith, ap length whole, length-append (first_parts (n + 1)) (y.0 ∷ [])) in
      let within : length (first_parts (n + 1)) - 1 < length (first_parts (n + 1)) = omega (arith, one, more, parts) in
      ap (λ k. get_or now k e) short ∙ ap (λ xs. get_or xs (length (first_parts (n + 1)) - 1) e) whole
      ∙ get_or-append (first_parts (n + 1)) (y.0 ∷ []) e (length (first_parts (n + 1)) - 1) within
      ∙ last_is n d e (first_parts (n + 1)) (omega (arith, lt)) (sound_fewer ((n + 1) + 1) (n + 1) (omega arith) (omega (arith, lt)) sound) refl

  -- If there is only one cell, there are not two items that end in a leaf.
  pub not_two : (n : ℕ) (d : Cell) (now : List (Item Part)) → n < 2 → n ≤ length cells → All IsSound (take n cells) → first_parts n ≡ now → EndsInLeaf now → 2 ≤ length now → ⊥
  not_two zero d now lt few sound is ends two = absurd (omega (arith, two, ap length is))
  not_two (suc zero) d now lt few sound is ends two =
      let one = ends_alone 0 d (omega (arith, few)) (sound_at 1 0 d (omega arith) few sound) (subst EndsInLeaf (sym is) ends) in
      absurd (omega (arith, two, ap length (sym is ∙ one.1)))
  not_two (suc (suc n)) d now lt few sound is ends two = absurd (omega (arith, lt))

-- The same, given how many cells there are.
module _ (cells : List Cell) (len : ℕ) (now : List (Item Part)) (few : len ≤ length cells) (sound : All IsSound (take len cells)) (is : flat_map opened (take len cells) ≡ now) where
  pub room_for : (most : ℕ) → length now < most → length cells ≡ most → len < length cells
  room_for most less all = omega (arith, less, all, few_parts cells len now few sound is)

  pub some_parts : 1 ≤ length now → 1 ≤ len
  some_parts some = elim len as (λ n. flat_map opened (take n cells) ≡ now → 1 ≤ n) [ zero ↦ λ none. absurd (omega (arith, some, ap length none)) | suc n ↦ λ _. omega arith ] is

  pub last_put : (p : Part) (d : Cell) → 1 ≤ length now → EndsInLeaf now → flat_map opened (take len (set cells (len - 1) (Cell.Item (Item.Leaf p)))) ≡ take (length now - 1) now ++ Item.Leaf p ∷ []
  last_put p d some ends =
      let one : len ≡ (len - 1) + 1 = omega (arith, some_parts some) in
      ap (λ m. flat_map opened (take m (set cells (len - 1) (Cell.Item (Item.Leaf p))))) one
      ∙ put_last cells (len - 1) p d now (omega (arith, few, one)) (subst (λ m. All IsSound (take m cells)) one sound) (ap (λ m. flat_map opened (take m cells)) (sym one) ∙ is) ends

  pub last_of_all : (d : Cell) (e : Item Part) → 1 ≤ length now → get_or now (length now - 1) e ≡ get_or (opened (get_or cells (len - 1) d)) (length (opened (get_or cells (len - 1) d)) - 1) e
  last_of_all d e some =
      let one : len ≡ (len - 1) + 1 = omega (arith, some_parts some) in
      last_is cells (len - 1) d e now (omega (arith, few, one)) (subst (λ m. All IsSound (take m cells)) one sound) (ap (λ m. flat_map opened (take m cells)) (sym one) ∙ is)

  pub two_parts : (d : Cell) → 2 ≤ length now → EndsInLeaf now → 2 ≤ len
  two_parts d two ends = elim (cases_lt len 2) [ inl lt ↦ absurd (not_two cells len d now lt few sound is ends two) | inr ge ↦ ge ]

  pub two_put : (p : Part) (d : Cell) → 2 ≤ length now → EndsInLeaf now → EndsInLeaf (take (length now - 1) now)
      → flat_map opened (take (len - 1) (set cells ((len - 1) - 1) (Cell.Item (Item.Leaf p)))) ≡ take (length now - 2) now ++ Item.Leaf p ∷ []
  two_put p d two right left =
      let n = (len - 1) - 1 in
      let both : len ≡ (n + 1) + 1 = omega (arith, two_parts d two right) in
      ap (λ m. flat_map opened (take m (set cells n (Cell.Item (Item.Leaf p))))) (omega (arith, both))
      ∙ put_two cells n p d now (omega (arith, few, both)) (subst (λ m. All IsSound (take m cells)) both sound) (ap (λ m. flat_map opened (take m cells)) (sym both) ∙ is) right left

  pub before_last_of_all : (d : Cell) (e : Item Part) → 2 ≤ length now → EndsInLeaf now → get_or now (length now - 2) e ≡ get_or (opened (get_or cells (len - 2) d)) (length (opened (get_or cells (len - 2) d)) - 1) e
  before_last_of_all d e two ends =
      let n = len - 2 in
      let both : len ≡ (n + 1) + 1 = omega (arith, two_parts d two ends) in
      before_is cells n d e now (omega (arith, few, both)) (subst (λ m. All IsSound (take m cells)) both sound) (ap (λ m. flat_map opened (take m cells)) (sym both) ∙ is) ends

  pub two_put_sound : (p : Part) (d : Cell) → 2 ≤ length now → EndsInLeaf now → All IsSound (take (len - 1) (set cells ((len - 1) - 1) (Cell.Item (Item.Leaf p))))
  two_put_sound p d two right =
      let n = (len - 1) - 1 in
      let both : len ≡ (n + 1) + 1 = omega (arith, two_parts d two right) in
      subst (λ m. All IsSound (take m (set cells n (Cell.Item (Item.Leaf p))))) (omega (arith, both))
      (sound_put cells n (Cell.Item (Item.Leaf p)) (omega (arith, few, both)) (sound_fewer cells len n (omega (arith, both)) few sound) tt)
