-- Values that are refused, or not.
use Rattle.std.proofs.Common.{◌≡◌, ◌∙◌, List, ℕ, Option, None, Some, Result, Ok, Err, String, inl, inr, refl, string_bytes, subst, sym}
use Rattle.std.specs.Global.{Global}
use Rattle.std.specs.Option.{option_map}
use Rattle.std.specs.Prelude.{IfOk, ◌⊎◌}
use Rattle.std.specs.declared.alloc.AllocError.{AllocError}
use Rattle.host.specs.Streams.Stream.{Stream}
use Rattle.host.specs.Files.{Folder}
use Rattle.host.specs.Reporting.{LacksMemory, UnlessBad, Untouched, JudgesBad, JudgesValues}
use Rattle.host.specs.Reading.{Reader}
use Rattle.host.specs.World.{World, world_of}

-- what `Judging` says, of the text for the first value that is wrong
abbrev pub Judged : Option (List ℕ) → (World → World → ℕ → Type 0) → World → World → ℕ → Type 0
Judged bad Does old new status = UnlessBad bad Does old new status ⊎ (Untouched old new × LacksMemory old.output new.output old.errors new.errors status)

pub refused : (bad : Option (List ℕ)) (Does : World → World → ℕ → Type 0) (folder : Folder) (input : Reader) (output old new : Stream) (status : ℕ)
    → JudgesValues bad old new (Some status) → Judged bad Does (world_of folder input output old) (world_of folder input output new) status
refused bad Does folder input output old new status (inl (why, is, refuses)) =
    inl (subst (λ b. UnlessBad b Does (world_of folder input output old) (world_of folder input output new) status) (sym is) (record { folder = refl; input = refl }, (refuses.0, refl, refuses.2)))
refused bad Does folder input output old new status (inr lacks) = inr (record { folder = refl; input = refl }, (lacks.0, refl, lacks.2))

pub goes_on : (bad : Option (List ℕ)) (Does : World → World → ℕ → Type 0) (old new : World) (status : ℕ) → bad ≡ None → Does old new status → Judged bad Does old new status
goes_on bad Does old new status none does = inl (subst (λ b. UnlessBad b Does old new status) (sym none) does)

-- nothing was found wrong
pub none_bad : (found : Result (Option (String Global)) AllocError) (bad : Option (List ℕ)) (old new : Stream) → JudgesBad found old new None → IfOk found (λ why. option_map string_bytes why ≡ bad) → (bad ≡ None) × (new ≡ old)
none_bad (Ok why) bad old new judged is = (sym is ∙ judged.0, judged.1)
none_bad (Err e) bad old new judged is = absurd judged

-- something was
pub some_bad : (found : Result (Option (String Global)) AllocError) (bad : Option (List ℕ)) (old new : Stream) (status : ℕ) → JudgesBad found old new (Some status) → IfOk found (λ why. option_map string_bytes why ≡ bad)
    → JudgesValues bad old new (Some status)
some_bad (Ok why) bad old new status judged is = subst (λ b. JudgesValues b old new (Some status)) is judged
some_bad (Err e) bad old new status judged is = inr judged
