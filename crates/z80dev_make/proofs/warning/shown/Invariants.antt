use Rattle.std.proofs.Common.{◌≡◌, ◌++◌, drop, map}
use Rattle.std.specs.List.{zip}
use Rattle.z80dev_make.specs.Private.Shown.{shown_in, shown_of}
use Rattle.z80dev_make.proofs.warning.shown.Given as goal

-- The sources so far and those that are left are all sources.
abbrev pub invariant-loop-number : goal.invariant-loop-number
invariant-loop-number l =
    map shown_of l.shown.items ++ map shown_in (zip (drop l.number l.files) (zip (drop l.number l.fn.lines) (drop l.number l.modules)))
    ≡ map shown_in (zip l.files (zip l.fn.lines l.modules))
