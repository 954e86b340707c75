-- Changes of a directory that keep its rules.
use Rattle.std.proofs.Common.{◌≡◌, ◌≢◌, ◌⊎◌, ◌<◌, ℕ, true, List, sym, ap, subst, ◌∙◌, inl, inr}
use Rattle.cpm_image.specs.declared.kind.DiskKind.{DiskKind}
use Rattle.std.proofs.lemmas.Bool.{cases_eq}
use Rattle.cpm_image.specs.declared.directory.entry.Entry.{Entry}
use Rattle.cpm_image.specs.Directory.Entries.{at, block, is_extent}
use Rattle.cpm_image.specs.Directory.Rules.{AreBlocks, AreSameExtent, IsGood, IsSound}

-- each entry that is an extent is as it was
pub fewer : (kind : DiskKind) (before mixed : List Entry) → IsSound kind before → ((k : ℕ) → is_extent (at mixed k) ≡ true → at mixed k ≡ at before k) → IsSound kind mixed
fewer kind before mixed sound same =
    let was : (k : ℕ) → is_extent (at mixed k) ≡ true → is_extent (at before k) ≡ true = λ k e. subst (λ x. is_extent x ≡ true) (same k e) e in
    record {
      good = λ k e. subst (IsGood kind) (sym (same k e)) (sound.good k (was k e));
      blocks = λ k e. subst (AreBlocks kind) (sym (same k e)) (sound.blocks k (was k e));
      once = λ j k a b ej ek some equal. sound.once j k a b (was j ej) (was k ek)
          (subst (λ x. 0 < block kind x a) (same j ej) some)
          (sym (ap (λ x. block kind x a) (same j ej)) ∙ equal ∙ ap (λ x. block kind x b) (same k ek));
      named = λ j k ej ek equal. sound.named j k (was j ej) (was k ek)
          (subst (λ x. AreSameExtent x (at before k)) (same j ej) (subst (λ x. AreSameExtent (at mixed j) x) (same k ek) equal));
    }

-- an entry that can be at this number of a directory
pub record FitsAt (kind : DiskKind) (entries : List Entry) (number : ℕ) (e : Entry) : Type 0 where
  pub good : IsGood kind e
  pub blocks : AreBlocks kind e
  pub own : (a b : ℕ) → 0 < block kind e a → block kind e a ≡ block kind e b → a ≡ b
  pub apart : (k a b : ℕ) → k ≢ number → is_extent (at entries k) ≡ true → 0 < block kind e a → block kind (at entries k) b ≡ block kind e a → ⊥
  pub named : (k : ℕ) → k ≢ number → is_extent (at entries k) ≡ true → AreSameExtent (at entries k) e → ⊥

-- an entry is as it was, or it is the new one at this number
abbrev pub Stands : List Entry → ℕ → Entry → List Entry → ℕ → Type 0
Stands before number e mixed k = (at mixed k ≡ at before k) ⊎ ((k ≡ number) × (at mixed k ≡ e))

swapped : (d e : Entry) → AreSameExtent d e → AreSameExtent e d
swapped d e (user, name, extent) = (sym user, sym name, sym extent)

-- one entry is written
pub one_more : (kind : DiskKind) (before mixed : List Entry) (number : ℕ) (e : Entry) → IsSound kind before → FitsAt kind before number e → ((k : ℕ) → Stands before number e mixed k) → IsSound kind mixed
one_more kind before mixed number e sound fits stands =
    record {
      good = λ k ext. elim (stands k) as (λ _. IsGood kind (at mixed k)) [
        | inl same ↦ subst (IsGood kind) (sym same) (sound.good k (subst (λ x. is_extent x ≡ true) same ext))
        | inr put ↦ subst (IsGood kind) (sym put.1) fits.good
      ];
      blocks = λ k ext. elim (stands k) as (λ _. AreBlocks kind (at mixed k)) [
        | inl same ↦ subst (AreBlocks kind) (sym same) (sound.blocks k (subst (λ x. is_extent x ≡ true) same ext))
        | inr put ↦ subst (AreBlocks kind) (sym put.1) fits.blocks
      ];
      once = λ j k a b ej ek some equal. once j k a b ej ek some equal;
      named = λ j k ej ek equal. named j k ej ek equal;
    }
  where
    extent_of : (k : ℕ) (x : Entry) → at mixed k ≡ x → is_extent (at mixed k) ≡ true → is_extent x ≡ true
    extent_of k x is ext = subst (λ y. is_extent y ≡ true) is ext

    once : (j k a b : ℕ) → is_extent (at mixed j) ≡ true → is_extent (at mixed k) ≡ true → 0 < block kind (at mixed j) a → block kind (at mixed j) a ≡ block kind (at mixed k) b → (j ≡ k) × (a ≡ b)
    once j k a b ej ek some equal = elim (cases_eq j k) as (λ _. (j ≡ k) × (a ≡ b)) [
      | inl jk ↦ (let here : block kind (at mixed j) a ≡ block kind (at mixed j) b = equal ∙ ap (λ n. block kind (at mixed n) b) (sym jk) in
          elim (stands j) as (λ _. (j ≡ k) × (a ≡ b)) [
            | inl same ↦ (jk, (sound.once j j a b (extent_of j _ same ej) (extent_of j _ same ej) (subst (λ x. 0 < block kind x a) same some) (subst (λ x. block kind x a ≡ block kind x b) same here)).1)
            | inr put ↦ (jk, fits.own a b (subst (λ x. 0 < block kind x a) put.1 some) (subst (λ x. block kind x a ≡ block kind x b) put.1 here))
          ])
      | inr apart ↦ elim (stands j) as (λ _. (j ≡ k) × (a ≡ b)) [
        | inl same ↦ elim (stands k) as (λ _. (j ≡ k) × (a ≡ b)) [
          | inl too ↦ sound.once j k a b (extent_of j _ same ej) (extent_of k _ too ek) (subst (λ x. 0 < block kind x a) same some)
              (sym (ap (λ x. block kind x a) same) ∙ equal ∙ ap (λ x. block kind x b) too)
          | inr put ↦ (let level : block kind (at before j) a ≡ block kind e b = sym (ap (λ x. block kind x a) same) ∙ equal ∙ ap (λ x. block kind x b) put.1 in
              let more : 0 < block kind (at before j) a = subst (λ x. 0 < block kind x a) same some in
              absurd (fits.apart j b a (λ is. apart (is ∙ sym put.0)) (extent_of j _ same ej) (rw (← level) more) level))
        ]
        | inr put ↦ elim (stands k) as (λ _. (j ≡ k) × (a ≡ b)) [
          | inl too ↦ absurd (fits.apart k a b (λ is. apart (put.0 ∙ sym is)) (extent_of k _ too ek) (subst (λ x. 0 < block kind x a) put.1 some)
              (sym (ap (λ x. block kind x b) too) ∙ sym equal ∙ ap (λ x. block kind x a) put.1))
          | inr both ↦ absurd (apart (put.0 ∙ sym both.0))
        ]
      ]
    ]

    named : (j k : ℕ) → is_extent (at mixed j) ≡ true → is_extent (at mixed k) ≡ true → AreSameExtent (at mixed j) (at mixed k) → j ≡ k
    named j k ej ek equal = elim (cases_eq j k) as (λ _. j ≡ k) [
      | inl jk ↦ jk
      | inr apart ↦ elim (stands j) as (λ _. j ≡ k) [
        | inl same ↦ elim (stands k) as (λ _. j ≡ k) [
          | inl too ↦ sound.named j k (extent_of j _ same ej) (extent_of k _ too ek)
              (subst (λ x. AreSameExtent x (at before k)) same (subst (λ x. AreSameExtent (at mixed j) x) too equal))
          | inr put ↦ absurd (fits.named j (λ is. apart (is ∙ sym put.0)) (extent_of j _ same ej)
              (subst (λ x. AreSameExtent x e) same (subst (λ x. AreSameExtent (at mixed j) x) put.1 equal)))
        ]
        | inr put ↦ elim (stands k) as (λ _. j ≡ k) [
          | inl too ↦ absurd (fits.named k (λ is. apart (put.0 ∙ sym is)) (extent_of k _ too ek)
              (swapped e (at before k) (subst (λ x. AreSameExtent x (at before k)) put.1 (subst (λ x. AreSameExtent (at mixed j) x) too equal))))
          | inr both ↦ absurd (apart (put.0 ∙ sym both.0))
        ]
      ]
    ]
