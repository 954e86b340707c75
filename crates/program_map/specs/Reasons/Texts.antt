-- The line that says how far a long jump is from being short.
use Rattle.std.specs.Prelude.{ℕ, List, ◌++◌, codes, decimal, if◌then◌else◌, nat_le}
use Rattle.program_map.specs.declared.reasons.long_jumps.LongJump.{LongJump}

-- how far the jump goes and how many bytes that is too many, given the name of its target and what comes after its distance and its excess
abbrev pub reach_text : List ℕ → ℕ → List ℕ → ℕ → List ℕ → List ℕ
reach_text name distance side excess limit = codes "`" ++ (name ++ (codes "` is " ++ (decimal distance ++ (side ++ (decimal excess ++ limit)))))

-- a short jump reaches 128 bytes back and 127 forward
abbrev pub long_jump_text : LongJump → List ℕ → List ℕ
long_jump_text j name =
    if nat_le j.target j.statement then reach_text name j.distance (codes " bytes back, ") j.excess (codes " too many for JR (at most 128 back)")
    else reach_text name j.distance (codes " bytes away, ") j.excess (codes " too many for JR (at most 127 forward)")
