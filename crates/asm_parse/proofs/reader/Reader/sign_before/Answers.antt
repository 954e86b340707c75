use Rattle.std.proofs.Common.{◌≡◌, refl, sym, ap, subst, ◌∙◌, arith}
use Rattle.asm_parse.specs.Private.Readers.{Reads, room_in}
use Rattle.asm_parse.specs.Private.Parsing.{room}
use Rattle.asm_parse.proofs.Readers.{refused, no_room, in_room, room_in-pendings}
use Rattle.asm_parse.proofs.reader.Reader.sign_before.Goals as goal

pub returns-then-level_of-room_in : goal.returns-then-level_of-room_in
returns-then-level_of-room_in c = λ frames h.
    let here : c.room_in.result ≡ room frames = c.room_in.ensures ∙ ap room_in (c.deref.ensures ∙ h.waiting) ∙ room_in-pendings frames in
    refused _ _ _ _ _ (no_room c.args.sign frames c.in-Some.prefix c.in_default.not-Open c.in-Some.ensures (omega (arith, here, c.level_of.ensures)))

pub returns : goal.returns
returns c = λ frames h.
    let here : c.room_in.result ≡ room frames = c.room_in.ensures ∙ ap room_in (c.deref.ensures ∙ h.waiting) ∙ room_in-pendings frames in
    let next = in_room c.args.sign frames c.in-Some.prefix c.in_default.not-Open c.in-Some.ensures (omega (arith, here, c.level_of.ensures)) in
    subst (λ n. Reads n c.begin-2.result c.begin-2.new.self) (sym next) (c.begin-2.ensures frames h refl)
