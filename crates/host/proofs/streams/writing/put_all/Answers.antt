use Rattle.std.proofs.Common.{◌+◌, [], List, ℕ, Bor, take, drop, get_or, sym, subst, ap, ◌∙◌}
use Rattle.std.specs.List.{flat_map}
use Rattle.host.specs.Streams.Stream.{counted}
use Rattle.host.specs.Streams.Writing.{AppendsFront}
use Rattle.host.proofs.PartWritten.{front_of_all, not_put, parts}
use Rattle.host.proofs.streams.writing.put_all.Goals as goal

pub returns-in_err-put : goal.returns-in_err-put
returns-in_err-put g c =
    let old = g.S.Sink.stream c.args.sink.now in
    let mid = g.S.Sink.stream c.loop-piece.sink in
    let new = g.S.Sink.stream c.put.new.sink in
    let pieces : List (Bor (List ℕ)) = c.args.pieces.now in
    let k = c.loop-piece.piece-index in
    let none : Bor (List ℕ) = record { ref_ptr = (0, 0); now = [] } in
    let before : List ℕ = flat_map (λ p. p.now) (take k pieces) in
    let after : List ℕ = flat_map (λ p. p.now) (drop (k + 1) pieces) in
    let piece : List ℕ = (get_or pieces k none).now in
    let x = c.in_err-put.ensures in
    let front = front_of_all old mid new before piece after x.0.0 c.loop-piece.invariant.0 x.0.1 in
    not_put old new _ c.from_residual.result c.from_residual.ensures.0 (subst (AppendsFront old new) (sym (parts pieces k none c.loop-piece-test.true)) front) (x.1 ∙ ap counted c.loop-piece.invariant.1)
