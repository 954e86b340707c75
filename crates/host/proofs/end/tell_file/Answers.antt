use Rattle.std.proofs.Common.{◌≡◌, ◌++◌, codes, ap, [], ◌∷◌, subst, sym, List, ℕ}
use Rattle.std.proofs.lemmas.List.{append_assoc}
use Rattle.host.specs.Streams.Writing.{Puts}
use Rattle.host.proofs.end.tell_file.Goals as goal

pub returns : goal.returns
returns g c =
    let path : List ℕ = c.args.path.now in
    let last : List ℕ = c.args.ending.now in
    let pieces : codes "error: file " ++ (path ++ (last ++ (10 ∷ []))) ≡ codes "error: file " ++ (path ++ last ++ 10 ∷ []) =
    ap (λ x. codes "error: file " ++ x) (sym (append_assoc path last (10 ∷ []))) in
    subst (λ bytes. Puts (g.E.Sink.stream c.args.errors.now) (g.E.Sink.stream c.put_all.new.sink) bytes c.put_all.result) pieces c.put_all.ensures
