use Rattle.std.proofs.Common.{◌≡◌, ◌++◌, drop, map}
use Rattle.z80dev.specs.Outputs.{overwritten}
use Rattle.z80dev.proofs.programs.outputs.overwritten.Given as goal

abbrev pub invariant-loop-kind : goal.invariant-loop-kind
invariant-loop-kind l =
    let read = map (λ path. path.now) l.shared ++ map (λ path. path.now) l.sources in
    overwritten l.base (drop l.kind-index l.kinds) read ≡ overwritten l.base l.kinds read
