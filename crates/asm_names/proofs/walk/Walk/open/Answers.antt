use Rattle.std.proofs.Common.{rules, ◌≡◌, ◌∷◌, [], ℕ, length, reverse, List}
use Rattle.std.proofs.lemmas.List.{reverse-append}
use Rattle.asm_names.specs.declared.walk.Frame.{Frame}
use Rattle.asm_names.proofs.Orders.Opened.{opened}
use Rattle.asm_names.proofs.walk.Walk.open.Goals as goal

pub returns-clause-standing : goal.returns-clause-standing
returns-clause-standing c =
    let top : Frame = record { start = c.len-place.result; low = c.len-place.result } in
    let e : c.len-place.result ≡ length c.args.self.now.path.items = search rules in
    rw c.in_ok-push.ensures.items (rw c.in_ok-push-2.ensures.items (rw (reverse-append c.args.self.now.frames.items (top ∷ [])) (rw e
    (opened _ _ _ _ _ _ c.args.definition c.requires.standing c.requires.few c.requires.new c.requires.led))))
