-- How far a jump is from its target.
use Rattle.std.specs.Prelude.{ℕ, ◌+◌, ◌-◌, ◌&&◌, ◌||◌, Bool, List, if◌then◌else◌, nat_le, nat_lt}
use Rattle.relax.specs.declared.shape.Statement.{Statement}
use Rattle.relax.specs.Choice.{Choice, bytes_before}

-- A jump from statement `from` to statement `to` goes over the bytes of statement k. Forward, it does not go over its target; back, it does.
abbrev pub lies_between : ℕ → ℕ → ℕ → Bool
lies_between from to k = (nat_lt from k && nat_lt k to) || (nat_le to k && nat_lt k from)

-- How many bytes a short jump goes: from its end forward to its target, or back to it, which is over its own two bytes too.
abbrev pub jump_distance : Choice → List Statement → ℕ → ℕ → ℕ
jump_distance c shape from to =
    if nat_lt from to then bytes_before c shape to - bytes_before c shape (from + 1)
    else bytes_before c shape from + 2 - bytes_before c shape to

-- how many bytes a short jump can go: 127 forward, or 128 back
abbrev pub farthest : ℕ → ℕ → ℕ
farthest from to = if nat_lt from to then 127 else 128
