-- Entries of a directory that break a rule.
use Rattle.std.proofs.Common.{List, [], ◌∷◌, IfSome, take, inl, arith}
use Rattle.cpm_image.specs.declared.kind.DiskKind.{DiskKind}
use Rattle.cpm_image.specs.Directory.Rules.{AreBroken, IsFaultOf, IsRuleFault}
use Rattle.cpm_image.specs.declared.directory.broken.Broken.{Broken}
use Rattle.cpm_image.specs.declared.directory.entry.Entry.{Entry}
use Rattle.cpm_image.specs.declared.directory.fault.DiskFault.{DiskFault}
use Rattle.cpm_image.specs.declared.directory.fault.DiskFault.TheVariants as fault
use Rattle.z80dev_disk.specs.Check.{first_broken_rule}
use Rattle.z80dev_disk.specs.Refusals.{IsRefusalOf, RefusesNone}

-- each fault of an entry is a fault of a rule
of_rule : (kind : DiskKind) (before : List Entry) (e : Entry) (why : DiskFault) → IsFaultOf kind before e why → IsRuleFault why
of_rule kind before e fault.BadEntry is = tt
of_rule kind before e fault.BlockRange is = tt
of_rule kind before e fault.BlockTwice is = tt
of_rule kind before e fault.NameTwice is = tt
of_rule kind before e _ is = absurd is

-- So the first fault is one of the refusals that every command has.
pub refuses : (kind : DiskKind) (entries : List Entry) (broken : List Broken) → AreBroken kind entries broken → IfSome (first_broken_rule broken) (IsRefusalOf RefusesNone)
refuses kind entries [] are = tt
refuses kind entries (first ∷ rest) are = inl (of_rule kind (take first.number entries) first.entry first.fault (are.each 0 first (omega arith)).fault_of)
