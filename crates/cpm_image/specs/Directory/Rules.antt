-- The rules of a directory, and the first fault of a directory that breaks one.
use Rattle.std.specs.Prelude.{◌≡◌, ◌<◌, ◌≤◌, ◌⊎◌, ℕ, ◌%◌, true, List, length, take, Result, Ok, Err, ⊤, All, AllPairs, Any}
use Rattle.cpm_image.specs.declared.directory.layout.TheConstants.{EXTENT_RECORDS, LAST_EXTENT, S2_VALUES}
use Rattle.cpm_image.specs.Directory.Types.{Broken, Entry, DiskFault}
use Rattle.cpm_image.specs.Kind.{block_count, first_block, last_high}
use Rattle.cpm_image.specs.declared.kind.DiskKind.{DiskKind}
use Rattle.cpm_image.specs.declared.directory.fault.DiskFault.TheVariants as fault
use Rattle.cpm_image.specs.Directory.Entries.{at, is_extent, block, extent_number}
use Rattle.cpm_image.specs.Directory.Letters.{letters}

-- the counts of an entry are in range: its records, EX, and the low six bits of S2
abbrev pub IsGood : DiskKind → Entry → Type 0
IsGood kind e = (e.records ≤ EXTENT_RECORDS) × (e.extent ≤ LAST_EXTENT) × (e.s2 % S2_VALUES ≤ last_high kind)

-- 0, or the number of a block for files; the blocks before those are the directory
abbrev pub IsBlock : DiskKind → ℕ → Type 0
IsBlock kind b = (b ≡ 0) ⊎ ((first_block kind ≤ b) × (b < block_count kind))

abbrev pub AreBlocks : DiskKind → Entry → Type 0
AreBlocks kind e = (i : ℕ) → IsBlock kind (block kind e i)

-- two entries are of the same extent of the same file
abbrev pub AreSameExtent : Entry → Entry → Type 0
AreSameExtent d e = (d.user ≡ e.user) × (letters d.name ≡ letters e.name) × (extent_number d ≡ extent_number e)

-- The rules. They are only about the entries of users 0 to 31.
pub record IsSound (kind : DiskKind) (entries : List Entry) : Type 0 where
  pub good : (k : ℕ) → is_extent (at entries k) ≡ true → IsGood kind (at entries k)
  pub blocks : (k : ℕ) → is_extent (at entries k) ≡ true → AreBlocks kind (at entries k)
  -- no block is in the directory twice
  pub once : (j k a b : ℕ) → is_extent (at entries j) ≡ true → is_extent (at entries k) ≡ true → 0 < block kind (at entries j) a → block kind (at entries j) a ≡ block kind (at entries k) b → (j ≡ k) × (a ≡ b)
  -- no extent of a file has two entries
  pub named : (j k : ℕ) → is_extent (at entries j) ≡ true → is_extent (at entries k) ≡ true → AreSameExtent (at entries j) (at entries k) → j ≡ k

-- no block is in the entry twice, or in it and in one of those before it
abbrev pub HasOwnBlocks : DiskKind → List Entry → Entry → Type 0
HasOwnBlocks kind before e = ((a b : ℕ) → 0 < block kind e a → block kind e a ≡ block kind e b → a ≡ b)
    × ((k a b : ℕ) → is_extent (at before k) ≡ true → 0 < block kind e a → block kind (at before k) b ≡ block kind e a → ⊥)

-- no entry before this one is the same extent of the same file
abbrev pub HasOwnName : List Entry → Entry → Type 0
HasOwnName before e = (k : ℕ) → is_extent (at before k) ≡ true → AreSameExtent (at before k) e → ⊥

-- an entry keeps the rules, compared with those before it
abbrev pub KeepsRules : DiskKind → List Entry → Entry → Type 0
KeepsRules kind before e = IsGood kind e × AreBlocks kind e × HasOwnBlocks kind before e × HasOwnName before e

-- the first rule that an entry breaks, compared with those before it
abbrev pub IsFaultOf : DiskKind → List Entry → Entry → DiskFault → Type 0
IsFaultOf kind before e fault.BadEntry = IsGood kind e → ⊥
IsFaultOf kind before e fault.BlockRange = IsGood kind e × (AreBlocks kind e → ⊥)
IsFaultOf kind before e fault.BlockTwice = IsGood kind e × AreBlocks kind e × (HasOwnBlocks kind before e → ⊥)
IsFaultOf kind before e fault.NameTwice = IsGood kind e × AreBlocks kind e × HasOwnBlocks kind before e × (HasOwnName before e → ⊥)
IsFaultOf kind before e _ = ⊥

-- the faults that a directory can have
abbrev pub IsRuleFault : DiskFault → Type 0
IsRuleFault fault.BadEntry = ⊤
IsRuleFault fault.BlockRange = ⊤
IsRuleFault fault.BlockTwice = ⊤
IsRuleFault fault.NameTwice = ⊤
IsRuleFault _ = ⊥

abbrev pub IsEntryJudged : DiskKind → List Entry → Entry → Result ⊤ DiskFault → Type 0
IsEntryJudged kind before e (Ok _) = KeepsRules kind before e
IsEntryJudged kind before e (Err f) = IsFaultOf kind before e f

-- this is the fault of the first entry that breaks a rule: all before it keep the rules
pub record IsFirstFault (kind : DiskKind) (entries : List Entry) (fault : DiskFault) : Type 0 where
  pub number : ℕ
  pub within : number < length entries
  pub extent : is_extent (at entries number) ≡ true
  pub fault_of : IsFaultOf kind (take number entries) (at entries number) fault
  pub before : (k : ℕ) → k < number → is_extent (at entries k) ≡ true → KeepsRules kind (take k entries) (at entries k)

abbrev pub IsJudged : DiskKind → List Entry → Result ⊤ DiskFault → Type 0
IsJudged kind entries (Ok _) = IsSound kind entries
IsJudged kind entries (Err f) = IsFirstFault kind entries f

-- an entry that breaks a rule, and the first rule that it breaks, compared with all before it
pub record IsBroken (kind : DiskKind) (entries : List Entry) (broken : Broken) : Type 0 where
  pub within : broken.number < length entries
  pub entry : broken.entry ≡ at entries broken.number
  pub extent : is_extent broken.entry ≡ true
  pub fault_of : IsFaultOf kind (take broken.number entries) broken.entry broken.fault

-- All entries that break a rule, in their order. Later entries are also compared with those that break a rule.
pub record AreBroken (kind : DiskKind) (entries : List Entry) (broken : List Broken) : Type 0 where
  pub each : All (IsBroken kind entries) broken
  -- every other entry of users 0 to 31 keeps the rules
  pub every : (k : ℕ) → is_extent (at entries k) ≡ true → KeepsRules kind (take k entries) (at entries k) ⊎ Any (λ b. b.number ≡ k) broken
  pub ordered : AllPairs (λ a b. a.number < b.number) broken
