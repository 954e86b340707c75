use Rattle.std.proofs.Common.{◌≡◌, drop, map}
use Rattle.std.specs.List.{fold}
use Rattle.common.specs.Keys.{hashed}
use Rattle.common.proofs.name_key.KeyMixer.mix_all.Given as goal

abbrev pub invariant-loop-name : goal.invariant-loop-name
invariant-loop-name l = fold hashed l.self.mixed (map (λ name. name.items) (drop l.name-index l.names)) ≡ fold hashed l.fn.self.mixed (map (λ name. name.items) l.fn.names)
