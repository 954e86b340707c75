use Rattle.std.proofs.Common.{reverse, take}
use Rattle.source_warnings.specs.Private.Near.{AreNear, IsNear}
use Rattle.source_warnings.proofs.jumps.near.nears.Given as goal

-- The jumps so far are those of the statements so far.
abbrev pub invariant-loop-site : goal.invariant-loop-site
invariant-loop-site l = AreNear l.sizes l.site-index l.nears.items × IsNear (reverse (take l.site-index l.sizes)) l.near
