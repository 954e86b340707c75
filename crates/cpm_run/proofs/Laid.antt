-- The parts of memory, written one after the other.
use Rattle.std.proofs.Common.{◌≡◌, ℕ, List, ap, ◌∙◌}
use Rattle.cpm_disk.specs.Control.Bytes.{with_bytes}

-- one more part is written
pub laid : (at : ℕ) (new old memory bytes part : List ℕ) → new ≡ with_bytes at bytes old → bytes ≡ part → old ≡ memory → new ≡ with_bytes at part memory
laid at new old memory bytes part is same before = is ∙ ap (λ b. with_bytes at b old) same ∙ ap (with_bytes at part) before
