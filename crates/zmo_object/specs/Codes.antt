-- Things that take one byte in an object file, and the file's first four bytes, which say whether a JR may grow.
use Rattle.std.specs.Prelude.{ℕ, ◌==◌, ◌&&◌, not, if◌then◌else◌, Bool, true, false, List, Option, Some, None, slice_get, codes}
use Rattle.std.specs.Str.{bytes_eq}
use Rattle.z80_instr.specs.declared.Branch.{Branch}
use Rattle.z80_instr.specs.declared.ShortCond.{ShortCond}
use Rattle.zmo_object.specs.declared.module.hole.Width.{Width}
use Rattle.zmo_object.specs.declared.code.TheConstants.{BRANCHES, CONDITIONS}

-- the first four bytes of an object file: ZMO2 if it was assembled with --grow, ZMO1 otherwise
abbrev pub magic : Bool → List ℕ
magic true = codes "ZMO2"
magic false = codes "ZMO1"

abbrev pub grow_of : List ℕ → Option Bool
grow_of text = if bytes_eq text (magic false) then Some false else if bytes_eq text (magic true) then Some true else None

abbrev pub jump_condition_code : Option ShortCond → ℕ
jump_condition_code None = 0
jump_condition_code (Some ShortCond.NotZero) = 1
jump_condition_code (Some ShortCond.Zero) = 2
jump_condition_code (Some ShortCond.NotCarry) = 3
jump_condition_code (Some ShortCond.Carry) = 4

abbrev pub condition_of : ℕ → Option (Option ShortCond)
condition_of code = slice_get CONDITIONS code

abbrev pub branch_code : Branch → ℕ
branch_code (Branch.Relative condition) = jump_condition_code condition
branch_code Branch.CountDown = 5

-- The branch of a code. With --grow only DJNZ is always short, so JR has no code there.
abbrev pub branch_of : Bool → ℕ → Option Branch
branch_of grow code = if grow && not (code == 5) then None else slice_get BRANCHES code

abbrev pub width_code : Width → ℕ
width_code Width.Byte = 1
width_code Width.Word = 2

abbrev pub width_of : ℕ → Option Width
width_of code = if code == 1 then Some Width.Byte else if code == 2 then Some Width.Word else None
