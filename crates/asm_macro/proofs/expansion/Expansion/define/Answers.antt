use Rattle.std.proofs.Common.{◌≡◌, ◌∙◌, ◌+◌, ◌||◌, nat_lt, ap, sym, subst, arith}
use Rattle.std.specs.Map.{lookup}
use Rattle.std.specs.Option.{option_map}
use Rattle.std.specs.Str.{bytes_eq}
use Rattle.common.specs.Words.{is_reserved, upper}
use Rattle.asm_line.specs.Replacing.Views.{texts}
use Rattle.asm_line.specs.FormViews.{form_seen}
use Rattle.asm_text.specs.Prepared.{macro_seen, macros_seen}
use Rattle.asm_macro.specs.State.{macro_named}
use Rattle.asm_macro.specs.Ahead.{seen}
use Rattle.asm_macro.specs.Private.Moves.{Resumes, moved, rest_of, state_of}
use Rattle.asm_macro.proofs.Heads.{defined_is, none_new, some_mapped}
use Rattle.asm_macro.proofs.Stacks.{depth_is}
use Rattle.asm_macro.proofs.expansion.Expansion.define.Goals as goal

pub returns-clause-taken : goal.returns-clause-taken
returns-clause-taken c =
    let x = c.args.self.now in
    let f = form_seen c.args.form in
    let key = c.in_ok-key.ensures.ok in
    let found = sym c.in_ok-found.ensures ∙ ap (option_map (λ all. texts all.items)) c.in-Some.is in
    let depth : c.len.result + x.turns ≡ (rest_of x).depth = omega (arith, c.len.ensures, depth_is x) in
    let reserved = c.is_reserved.ensures ∙ ap is_reserved (c.deref.ensures.value ∙ key) in
    let stands = ap (λ b. (b || nat_lt 0 (rest_of x).depth) || is_reserved (upper c.args.name.now)) (some_mapped (λ name. name.now) c.args.form.label ∙ sym c.is_some.ensures)
    ∙ ap (λ n. (c.is_some.result || nat_lt 0 n) || is_reserved (upper c.args.name.now)) (sym depth)
    ∙ ap (λ b. (c.is_some.result || nat_lt 0 (c.len.result + x.turns)) || b) (sym reserved) ∙ sym c.if-may_not_stand.ensures in
    let none = none_new (λ m. macro_seen x.lines m.now) c.macro_of.result (macro_named (state_of x) (upper c.args.name.now))
    (c.macro_of.ensures.found x.lines ∙ ap (λ k. lookup (bytes_eq k) (macros_seen x.lines x.macros.entries)) (c.deref-2.ensures.value ∙ key)) (sym c.is_some-2.ensures ∙ c.if-is_some.false) in
    subst (λ p. Resumes c.keep.result (rest_of c.keep.new.self) (moved (rest_of x).depth (rest_of x).around p))
    (sym (defined_is (rest_of x).depth (state_of x) (seen c.args.line) f c.args.name.now c.in_ok-key.key.items (rest_of x).text (texts c.in-Some.parameters.items) key found stands none)) c.keep.ensures.taken
