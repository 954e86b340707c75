use Rattle.std.proofs.Common.{◌≡◌, ◌+◌, ◌++◌, ℕ, List, [], ◌∷◌, length, map, slice_index, take, refl, ap, sym, ◌∙◌, arith}
use Rattle.std.proofs.lemmas.List.{append_assoc, map-append, take_more}
use Rattle.zlink.specs.Built.{origins_by}
use Rattle.zlink.proofs.Coming_from.{pushed}
use Rattle.zlink.proofs.origins.put_origins.Goals as goal

pub loop-line-preserved : goal.loop-line-preserved
loop-line-preserved c = λ before so_far.
    let place : c.place_of.result ≡ slice_index c.args.places.now (length c.loop-line.origins.items) = c.place_of.ensures ∙ ap (slice_index c.args.places.now) (omega (arith, c.len.ensures, c.loop-line.origins.ok)) in
    let i : ℕ = c.loop-line.line-index in
    let lines : List ℕ = c.args.lines.now in
    let front : List (ℕ × ℕ) = before ++ map (λ line. (c.args.source, line)) (take i lines) in
    let more : map (λ line. (c.args.source, line)) (take (i + 1) lines) ≡ map (λ line. (c.args.source, line)) (take i lines) ++ (c.args.source, slice_index lines i) ∷ [] =
    ap (map (λ line. (c.args.source, line))) (take_more lines i 0 (omega arith)) ∙ map-append (λ line. (c.args.source, line)) (take i lines) (slice_index lines i ∷ []) in
    pushed (λ k. slice_index c.args.places.now k) c.loop-line.origins.items _ _ front c.args.source (slice_index lines i) (c.loop-line.invariant before so_far) c.in_ok-push.ensures.items place refl refl
    ∙ ap (origins_by (λ k. slice_index c.args.places.now k)) (append_assoc before (map (λ line. (c.args.source, line)) (take i lines)) ((c.args.source, slice_index lines i) ∷ []) ∙ ap (λ rest. before ++ rest) (sym more))
