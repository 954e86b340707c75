-- Bytes that are written one after the other.
use Rattle.std.proofs.Common.{◌≡◌, ◌≢◌, ◌<◌, ◌≤◌, ◌+◌, ◌-◌, ◌%◌, ℕ, List, get_or, set, length, map, refl, ap, sym, ◌∙◌, arith, inl, inr}
use Rattle.std.specs.List.{range_with_len}
use Rattle.std.proofs.lemmas.Bool.{cases_eq, cases_lt}
use Rattle.std.proofs.lemmas.List.{get_or_default, get_or-set_other, get_or-set_same, length-set, get_or_past}
use Rattle.std.proofs.lemmas.List.FromFn.{fill_by_all}
use Rattle.cpm_disk.specs.Control.Bytes.{distance_above, with_bytes}

-- the first `count` bytes are written, and all others are as they were
pub record ArePut (address count : ℕ) (bytes old now : List ℕ) : Type 0 where
  pub size : length now ≡ length old
  pub here : (k : ℕ) → k < length old → distance_above address k < count → get_or now k 0 ≡ get_or bytes (distance_above address k) 0
  pub rest : (k : ℕ) → k < length old → count ≤ distance_above address k → get_or now k 0 ≡ get_or old k 0

pub none_put : (address : ℕ) (bytes old : List ℕ) → ArePut address 0 bytes old old
none_put address bytes old = record { size = refl; here = λ k below none. absurd (omega arith); rest = λ k below from. refl }

there : (address i : ℕ) → i < 65536 → distance_above address ((address + i) % 65536) ≡ i
there address i below = omega arith

back : (address i k : ℕ) → k < 65536 → i < 65536 → distance_above address k ≡ i → k ≡ (address + i) % 65536
back address i k below small e = omega arith

pub one_more : (address i byte : ℕ) (bytes old now : List ℕ) → i < length bytes → i < 65536 → byte ≡ get_or bytes i 0
    → length old ≤ 65536 → ArePut address i bytes old now → ArePut address (i + 1) bytes old (set now ((address + i) % 65536) byte)
one_more address i byte bytes old now within small e most put = record {
  size = length-set now ((address + i) % 65536) byte ∙ put.size;
  here = λ k below up_to. elim (cases_eq k ((address + i) % 65536)) [
    | inl same ↦ ap (λ j. get_or (set now ((address + i) % 65536) byte) j 0) same
        ∙ get_or-set_same now ((address + i) % 65536) byte 0 (let long = put.size in omega arith)
        ∙ e ∙ ap (λ j. get_or bytes j 0) (sym (there address i small)) ∙ ap (λ j. get_or bytes (distance_above address j) 0) (sym same)
    | inr other ↦ get_or-set_other now ((address + i) % 65536) k byte 0 other
        ∙ put.here k below (let apart : distance_above address k ≢ i = λ d. other (back address i k (omega arith) small d) in omega arith)
  ];
  rest = λ k below from.
      get_or-set_other now ((address + i) % 65536) k byte 0 (λ same. let d = ap (distance_above address) same ∙ there address i small in absurd (omega arith))
      ∙ put.rest k below (omega arith);
}

pub all_put : (address : ℕ) (bytes old now : List ℕ) → ArePut address (length bytes) bytes old now → now ≡ with_bytes address bytes old
unfolding with_bytes
all_put address bytes old now put = fill_by_all (λ k. get_or bytes (distance_above address k) (get_or old k 0)) now (length old) 0 put.size (λ k below.
    elim (cases_lt (distance_above address k) (length bytes)) [
      | inl within ↦ put.here k below within ∙ get_or_default bytes (distance_above address k) 0 (get_or old k 0) within
      | inr past ↦ put.rest k below past ∙ sym (get_or_past bytes (distance_above address k) (get_or old k 0) past)
    ])

-- an address that has wrapped around is the same address
pub gone_round : (address : ℕ) (bytes memory : List ℕ) → with_bytes (address % 65536) bytes memory ≡ with_bytes address bytes memory
unfolding with_bytes
gone_round address bytes memory = ap (λ a. map (λ k. get_or bytes ((k + (65536 - a)) % 65536) (get_or memory k 0)) (range_with_len 0 (length memory))) (let e : address % 65536 % 65536 ≡ address % 65536 = omega arith in e)
