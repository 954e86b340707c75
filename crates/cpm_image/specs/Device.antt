-- When a device may report that it failed.
use Rattle.std.specs.Prelude.{◌≡◌, ◌<◌, ◌⊎◌, ◌^◌, ◌-◌, ℕ, Result, Ok, Err, ⊤}
use Rattle.cpm_image.specs.declared.device.DeviceFault.{DeviceFault}

-- a count of 64 bits has risen; at its greatest value it stays, and counts as risen
abbrev pub HasRisen : ℕ → ℕ → Type 0
HasRisen before now = (before < now) ⊎ ((before ≡ 2 ^ 64 - 1) × (now ≡ 2 ^ 64 - 1))

-- A call that succeeds leaves the number of faults as it was; a call fails only if that number has risen.
abbrev pub HasCountedFault : ℕ → ℕ → Result ⊤ DeviceFault → Type 0
HasCountedFault before now (Ok _) = now ≡ before
HasCountedFault before now (Err _) = HasRisen before now
