use Rattle.std.specs.Prelude.{◌≡◌, ℕ, ◌+◌, ◌<◌, ◌≤◌, ◌⊎◌, ◌≢◌, Bool, true, false, List, length, count_by}
use Rattle.std.specs.List.{slice_index_or}
use Rattle.relax.specs.declared.shape.Statement.{Statement}
use Rattle.relax.specs.declared.relaxable.RelaxableJump.{RelaxableJump}
use Rattle.relax.specs.Choice.{IsJump, chosen}
use Rattle.relax.specs.Probes.{jump_count}

-- Words for the functions of the worklist.

-- the number of the statement that is jump number p
abbrev pub statement_of : List RelaxableJump → ℕ → ℕ
statement_of jumps p = (slice_index_or jumps p (record { statement = 0; target = 0 })).statement

-- the number of the statement that jump number p goes to
abbrev pub target_of : List RelaxableJump → ℕ → ℕ
target_of jumps p = (slice_index_or jumps p (record { statement = 0; target = 0 })).target

-- all relaxable jumps of a shape, in order
pub record AreRelaxable (shape : List Statement) (jumps : List RelaxableJump) : Type 0 where
  pub each : (p : ℕ) → p < length jumps → IsJump shape (statement_of jumps p) (target_of jumps p)
  pub ascending : (p : ℕ) → p + 1 < length jumps → statement_of jumps p < statement_of jumps (p + 1)
  pub complete : (k t : ℕ) → IsJump shape k t → (p : ℕ) × (p < length jumps) × (statement_of jumps p ≡ k)
  pub count : length jumps ≡ jump_count shape

-- a jump from one statement to another goes over the bytes of statement k. If it goes forward, it does not go over its
-- target; if it goes back, it does
abbrev pub PassesOver : ℕ → ℕ → ℕ → Type 0
PassesOver from to k = ((from < k) × (k < to)) ⊎ ((to ≤ k) × (k < from))

-- no jump waits for a test below number p
abbrev pub NonePendingBelow : List Bool → ℕ → Type 0
NonePendingBelow pending p = (q : ℕ) → q < p → chosen pending q ≡ false

-- no jump waits for a test
abbrev pub NonePending : List Bool → Type 0
NonePending pending = (p : ℕ) → chosen pending p ≡ false

-- jump number p waits for a test and none below it does
pub record IsLowestPending (pending : List Bool) (p : ℕ) : Type 0 where
  pub set : chosen pending p ≡ true
  pub below : NonePendingBelow pending p

-- how many jumps wait for a test
abbrev pub pending_count : List Bool → ℕ
pending_count pending = count_by (λ b. b) pending

-- after jump p became long: short jumps within 63 of it that go over it wait again, and at most 126 jumps wait that did
-- not
pub record Requeued (jumps : List RelaxableJump) (long was is : List Bool) (p : ℕ) : Type 0 where
  pub len : length is ≡ length was
  pub kept : (q : ℕ) → chosen was q ≡ true → chosen is q ≡ true
  pub requeued :
      (q : ℕ) → q < length jumps → q ≢ p → q ≤ p + 63 → p ≤ q + 63 → chosen long q ≡ false
      → PassesOver (statement_of jumps q) (target_of jumps q) (statement_of jumps p) → chosen is q ≡ true
  pub short : (q : ℕ) → chosen was q ≡ false → chosen is q ≡ true → chosen long q ≡ false
  pub below : (q : ℕ) → q + 63 < p → chosen is q ≡ chosen was q
  pub least : pending_count was ≤ pending_count is
  pub most : pending_count is ≤ pending_count was + 126
