use Rattle.std.proofs.Common.{◌<◌, length, sym, ap, arith}
use Rattle.std.proofs.lemmas.List.{get_or_read}
use Rattle.relax.specs.declared.shape.Statement.TheVariants.{Jump, Short}
use Rattle.relax.proofs.Widening.{reaches-read}
use Rattle.relax.proofs.sums.Sums.reaches.Goals as goal

pub returns-clause-jump : goal.returns-clause-jump
returns-clause-jump c t jump =
    let shape = ap (λ v. v.shape) c.self.view_is in
    let long = ap (λ v. v.long) c.self.view_is in
    let same = c.self.invariant.same_spans in
    let within : c.args.k < length c.self.inside.statements.items = rw shape c.requires in
    let read = get_or_read c.self.inside.spans.items c.args.k c.index.result.now (omega arith) c.index.ensures 0 in
    rw (← shape, ← long) (reaches-read _ _ _ _ _ c.self.invariant c.args.k c.index.result.now (sym read) (Jump t) (rw shape jump))

pub returns-clause-short : goal.returns-clause-short
returns-clause-short c t jump =
    let shape = ap (λ v. v.shape) c.self.view_is in
    let long = ap (λ v. v.long) c.self.view_is in
    let same = c.self.invariant.same_spans in
    let within : c.args.k < length c.self.inside.statements.items = rw shape c.requires in
    let read = get_or_read c.self.inside.spans.items c.args.k c.index.result.now (omega arith) c.index.ensures 0 in
    rw (← shape, ← long) (reaches-read _ _ _ _ _ c.self.invariant c.args.k c.index.result.now (sym read) (Short t) (rw shape jump))
