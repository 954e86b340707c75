-- A program has one file under a choice, and one list of addresses.
use Rattle.std.proofs.Common.{◌≡◌, ◌⊎◌, ℕ, zero, suc, ◌+◌, ◌-◌, ◌≤◌, Bool, true, false, List, ◌++◌, Option, Some, None, length, take, refl, sym, ap, subst, ◌∙◌, arith, inl, inr, ℤ, pos, ◌+ℤ◌}
use Rattle.std.specs.List.{slice_range}
use Rattle.std.proofs.Math.IntN.{◌-ℤ◌, +ℤ_comm, +ℤ-neg_ℤ_cancel}
use Rattle.std.proofs.Math.Seq.{take-add}
use Rattle.std.proofs.lemmas.Grind.{same_number_lists}
use Rattle.std.proofs.lemmas.List.{length-map, take_all}
use Rattle.std.proofs.lemmas.Option.{slice_get_cases}
use Rattle.z80_instr.specs.declared.Instr.{Instr}
use Rattle.z80_instr.specs.declared.Branch.{Branch}
use Rattle.z80_instr.specs.declared.ShortCond.{ShortCond}
use Rattle.z80_instr.specs.Codes.{Codes}
use Rattle.z80_instr.specs.Table.{canonical, other}
use Rattle.relax.specs.declared.shape.Statement.{Statement as Sized}
use Rattle.relax.specs.Choice.{Choice, bytes_before, place}
use Rattle.relax.proofs.Places.{bytes-le, bytes-zero}
use Rattle.zmo_object.specs.Modules as object
use Rattle.zmo_object.specs.Modules.{ModuleStatement}
use Rattle.asm_stmt.specs.Made.{long_jump}
use Rattle.asm_module.specs.Program.Linked.{IsLinkedPiece}
use Rattle.asm_module.specs.Program.Pieces.{IsShortJump, short_jump}
use Rattle.zlink.specs.Program.Whole.{Placed}
use Rattle.zlink.specs.File.Objects.{IsPlaced, ReadsObjects, placed_shape}
use Rattle.zlink.specs.File.Places.{ArePlaces}
use Rattle.zlink.specs.File.Reads.{Pieces, ReadsBy}

-- an instruction that has only one encoding has one
one_spelling : (i : Instr) (a b : List ℕ) → other i ≡ None → Codes i a → Codes i b → a ≡ b
one_spelling i a b none x y = canon a x.spelled ∙ sym (canon b y.spelled) where
  canon : (bytes : List ℕ) → (bytes ≡ canonical i) ⊎ (other i ≡ Some bytes) → bytes ≡ canonical i
  canon bytes (inl e) = e
  canon bytes (inr e) = absurd (let no : ◌≡◌ {A = Option (List ℕ)} None (Some bytes) = sym none ∙ e in cc no)

displacement_is_one : (from to : ℕ) (e f : ℤ) → pos from +ℤ e ≡ pos to → pos from +ℤ f ≡ pos to → e ≡ f
displacement_is_one from to e f x y =
    sym (+ℤ-neg_ℤ_cancel e (pos from)) ∙ ap (λ n. n -ℤ pos from) (+ℤ_comm e (pos from) ∙ x ∙ sym y ∙ +ℤ_comm (pos from) f) ∙ +ℤ-neg_ℤ_cancel f (pos from)

short_has_one : (branch : Branch) (e : ℤ) → other (short_jump branch e) ≡ None
short_has_one (Branch.Relative None) e = refl
short_has_one (Branch.Relative (Some condition)) e = refl
short_has_one Branch.CountDown e = refl

long_has_one : (condition : Option ShortCond) (to : ℕ) → other (long_jump condition to) ≡ None
long_has_one None to = refl
long_has_one (Some condition) to = refl

leads_to_one : (from to : ℕ) (branch : Branch) (a b : List ℕ) → IsShortJump from to branch a → IsShortJump from to branch b → a ≡ b
leads_to_one from to branch a b x y =
    let same : x.0 ≡ y.0 = displacement_is_one (from + 2) to x.0 y.0 x.1 y.1 in
    one_spelling (short_jump branch y.0) a b (short_has_one branch y.0) (subst (λ e. Codes (short_jump branch e) a) same x.2) y.2

-- the bytes of a statement of a module at an address are unique
linked_is_one : (at : ℕ) (long : Bool) (places : ℕ → ℕ) (s : ModuleStatement) (a b : List ℕ) → IsLinkedPiece at long places s a → IsLinkedPiece at long places s b → a ≡ b
linked_is_one at long places (object.Bytes blank holes) a b x y = x ∙ sym y
linked_is_one at long places (object.Space size fill) a b x y = x ∙ sym y
linked_is_one at true places (object.Jump marked condition target) a b x y = one_spelling (long_jump condition (places target)) a b (long_has_one condition (places target)) x y
linked_is_one at false places (object.Jump marked condition target) a b x y = leads_to_one at (places target) (Branch.Relative condition) a b x y
linked_is_one at long places (object.Short branch target) a b x y = leads_to_one at (places target) branch a b x y

-- the front up to b is the front up to a and the range from a to b
front_and_part : (xs : List ℕ) (a b : ℕ) → a ≤ b → take b xs ≡ take a xs ++ slice_range xs a b
front_and_part xs a b le = let e : b ≡ a + (b - a) = omega arith in ap (λ n. take n xs) e ∙ take-add a (b - a) xs

-- a statement has one list of bytes
abbrev pub IsOne : {S : Type 0} → Pieces S → Type 0
IsOne IsPiece = (at : ℕ) (long : Bool) (places : ℕ → ℕ) (s : _) (a b : List ℕ) → IsPiece at long places s a → IsPiece at long places s b → a ≡ b

fronts : {S : Type 0} (IsPiece : Pieces S) → IsOne IsPiece → (file others : List ℕ) (shape : List Sized) (program : List S) (c : Choice) → ReadsBy IsPiece file shape program c → ReadsBy IsPiece others shape program c
    → (k : ℕ) → k ≤ length program → take (bytes_before c shape k) file ≡ take (bytes_before c shape k) others
fronts IsPiece one file others shape program c of_file of_others zero le = rw (bytes-zero c shape) refl
fronts IsPiece one file others shape program c of_file of_others (suc k) le =
    let next : suc k ≡ k + 1 = omega arith in
    let up = bytes-le c shape k (k + 1) (omega arith) in
    let before = fronts IsPiece one file others shape program c of_file of_others k (omega arith) in
    elim (slice_get_cases program k).1 as (λ _. take (bytes_before c shape (suc k)) file ≡ take (bytes_before c shape (suc k)) others) [
      | inl there ↦
          let here = one (place c shape k) (c k) (place c shape) there.0 _ _ (of_file.pieces k there.0 there.2) (of_others.pieces k there.0 there.2) in
          rw next
          (front_and_part file (bytes_before c shape k) (bytes_before c shape (k + 1)) up ∙ rw (before, here) refl
          ∙ sym (front_and_part others (bytes_before c shape k) (bytes_before c shape (k + 1)) up))
      | inr past ↦ absurd (let beyond = past.0 in omega arith)
    ]

one_by : {S : Type 0} (IsPiece : Pieces S) → IsOne IsPiece → (file others : List ℕ) (shape : List Sized) (program : List S) (c : Choice) → length program ≡ length shape → ReadsBy IsPiece file shape program c
    → ReadsBy IsPiece others shape program c → file ≡ others
one_by IsPiece one file others shape program c same of_file of_others =
    let all = fronts IsPiece one file others shape program c of_file of_others (length program) (omega arith) in
    let end : bytes_before c shape (length program) ≡ bytes_before c shape (length shape) = ap (bytes_before c shape) same in
    sym (take_all (bytes_before c shape (length program)) file (omega (arith, of_file.length_is, end))) ∙ all ∙ take_all (bytes_before c shape (length program)) others (omega (arith, of_others.length_is, end))

pub one_file : (file others : List ℕ) (program : List Placed) (c : Choice) → ReadsObjects file program c → ReadsObjects others program c → file ≡ others
one_file file others program c of_file of_others =
    one_by IsPlaced (λ at long places p. linked_is_one at long (λ ref. places (p.stands ref)) p.statement) file others (placed_shape program) program c (sym (length-map program _)) of_file of_others

pub one_list : (c : Choice) (shape : List Sized) (places others : List ℕ) → ArePlaces c shape places → ArePlaces c shape others → places ≡ others
one_list c shape places others of_places of_others =
    same_number_lists places others (of_places.len ∙ sym of_others.len)
    (λ k lt. (let le : k ≤ length shape = omega (arith, lt, of_places.len) in of_places.each k le ∙ sym (of_others.each k le)))
