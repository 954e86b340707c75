use Rattle.std.proofs.Common.{ℕ, List, [], ◌∷◌, length, refl, ap, ◌∙◌}
use Rattle.cpm_run.proofs.Laid.{laid}
use Rattle.cpm_run.proofs.starting.start_memory.Goals as goal

pub returns : goal.returns
returns c =
    laid 0xFF00 _ _ _ _ _ c.put_bytes-8.ensures refl
    (laid 0x0100 _ _ _ _ _ c.put_bytes-7.ensures refl
    (laid 0x0081 _ _ _ _ _ c.put_bytes-6.ensures c.requires.words
    (laid 0x0080 _ _ _ _ _ c.put_bytes-5.ensures (ap (λ (t : List ℕ). length t ∷ []) c.requires.words)
    (laid 0x006C _ _ _ _ _ c.put_bytes-4.ensures (c.deref-2.ensures.value ∙ c.in_ok-control_at-2.ensures.bytes)
    (laid 0x005C _ _ _ _ _ c.put_bytes-3.ensures (c.deref.ensures.value ∙ c.in_ok-control_at.ensures.bytes)
    (laid 0x0005 _ _ _ _ _ c.put_bytes-2.ensures refl
    (laid 0x0000 _ _ _ _ _ c.put_bytes.ensures refl c.in_ok-memory.ensures)))))))
