use Rattle.std.proofs.Common.{◌+◌, length, vec_len, arith}
use Rattle.zmo_object.specs.Modules.{statement_of}
use Rattle.zlink.specs.Private.Refs.{IsSizable}
use Rattle.zlink.proofs.Files.Elements.{element}
use Rattle.zlink.proofs.file.layout.put_sizes.Goals as goal

pub sized-requires-clause-sizable : goal.sized-requires-clause-sizable
sized-requires-clause-sizable c =
    element (IsSizable (length c.args.statements.now + 1 + vec_len c.args.links.now.externals)) statement_of c.args.statements.now c.loop-statement.statement-index c.statement-item.result (omega arith) c.statement-item.is c.requires.sizable
