use Rattle.std.proofs.Common.{◌≡◌, ◌++◌, length, map, take}
use Rattle.zmo_object.specs.Modules.{statement_of}
use Rattle.zlink.specs.File.Objects.{sized_by}
use Rattle.zlink.specs.Private.Refs.{stands_by}
use Rattle.zlink.proofs.file.layout.put_sizes.Given as goal

abbrev pub invariant-loop-statement : goal.invariant-loop-statement
invariant-loop-statement l = l.sizes.items ≡ l.fn.sizes.items
    ++ map (sized_by (stands_by (length l.statements) l.links.base l.links.externals.items)) (map statement_of (take l.statement-index l.statements))
