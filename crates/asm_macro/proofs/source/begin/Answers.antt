use Rattle.std.proofs.Common.{◌≡◌, ◌∙◌, sym, ap, subst, refl, length, map, reverse, arith, [], None}
use Rattle.std.proofs.lemmas.List.Elements.{All-nil, All-same}
use Rattle.bstr.specs.Text.{lines_of, without_terminator}
use Rattle.asm_text.specs.Kept.{IsCall, IsKeptMacro}
use Rattle.asm_macro.specs.declared.expansion.Expansion.{Expansion}
use Rattle.asm_macro.specs.Texts.{numbered}
use Rattle.asm_macro.specs.State.{start}
use Rattle.asm_macro.specs.Expands.{long, short}
use Rattle.asm_macro.specs.Ahead.{Remains, Within}
use Rattle.asm_macro.specs.Private.Frames.{AreBooks, innermost, turns_in}
use Rattle.asm_macro.specs.Private.Moves.{tables_in}
use Rattle.asm_macro.proofs.Begun.{begun_rest, from_begin}
use Rattle.asm_macro.proofs.source.begin.Goals as goal

pub returns-then-text-gt-LONGEST_TEXT : goal.returns-then-text-gt-LONGEST_TEXT
returns-then-text-gt-LONGEST_TEXT c = long c.if-text-gt-LONGEST_TEXT.true

pub returns : goal.returns
returns c =
    let x : Expansion = record { alloc = c.args.alloc; lines = c.in_ok-lines.lines; macros = c.with_hasher.result; constants = c.new.result; counter = 0; count = 0; text = record { at = 0; end = c.len-end.result; number = None }; around = c.new-2.result; calls = c.new-3.result; turns = 0; book = c.new-4.result; books = c.new-5.result; source = c.new-6.result } in
    let text : x.text ≡ record { at = 0; end = length c.in_ok-lines.lines; number = None } = ap (λ n. record { at = 0; end = n; number = None }) c.len-end.ensures in
    let rest = begun_rest x c.with_hasher.ensures.empty c.new.ensures refl refl c.new-3.ensures.items c.new-2.ensures.items refl text in
    let read = c.in_ok-lines.ensures.lines ∙ ap (λ part. map without_terminator (lines_of part)) c.source_part.ensures.part in (
      record {
        short = omega (arith, c.in_ok-lines.ensures.few, c.source_part.ensures.within, c.if-text-gt-LONGEST_TEXT.false);
        turns = sym (ap (λ fs. turns_in (reverse fs)) c.new-2.ensures.items);
        shallow = omega (arith, ap length c.new-3.ensures.items);
        few = omega arith;
        source = c.new-6.ensures x.lines None;
        macros = All-same (λ e. IsKeptMacro x.lines e.1) x.macros.entries [] c.with_hasher.ensures.empty (All-nil (λ e. IsKeptMacro x.lines e.1));
        open_calls = All-same (IsCall x.lines) x.calls.items [] c.new-3.ensures.items (All-nil (IsCall x.lines));
        book = c.new-4.ensures x.lines (innermost (tables_in x));
        books = subst (λ bs. AreBooks x.lines (tables_in x) (reverse bs)) (sym c.new-5.ensures.items) tt;
      },
      refl,
      λ lines end r. short (omega (arith, c.if-text-gt-LONGEST_TEXT.false)) (from_begin c.args.text.now lines end (subst (λ y. Remains (Within y) lines end) (rest ∙ ap (λ ts. record { depth = 0; state = start; text = numbered 1 ts; around = [] }) read) r)),
    )
