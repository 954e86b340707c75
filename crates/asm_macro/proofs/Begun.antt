-- The expansion of a source before its first line.
use Rattle.std.proofs.Common.{◌≡◌, ◌+◌, ◌-◌, ◌∙◌, sym, ap, refl, ℕ, List, [], ◌∷◌, ◌++◌, None, map, length, take, reverse, arith, subst, append-nil}
use Rattle.std.proofs.Math.Seq.{take-length}
use Rattle.asm_text.specs.Prepared.{said, macro_seen}
use Rattle.asm_macro.specs.declared.expansion.Expansion.{Expansion}
use Rattle.asm_text.specs.Lines.{Numbered}
use Rattle.asm_macro.specs.Texts.{numbered, source_lines}
use Rattle.asm_macro.specs.Expands.{End, Expands}
use Rattle.asm_macro.specs.State.{start}
use Rattle.asm_macro.specs.Ahead.{Remains, Within}
use Rattle.asm_macro.specs.Private.Frames.{around_seen, innermost}
use Rattle.asm_text.specs.Spans.{lines_from, text_of}
use Rattle.asm_macro.specs.Private.Moves.{rest_of, state_of}

numbered_is : (at : ℕ) (texts : List (List ℕ)) → lines_from None at None texts ≡ numbered (at + 1) texts
numbered_is at [] = refl
numbered_is at (t ∷ ts) = ap (λ ls. record { number = at + 1; text = t } ∷ ls) (numbered_is (at + 1) ts)

whole : (texts : List (List ℕ)) → text_of texts None (record { at = 0; end = length texts; number = None }) ≡ numbered 1 texts
whole texts =
    let all : length texts - 0 ≡ length texts = omega arith in
    ap (λ ts. lines_from None 0 None ts) (ap (λ j. take j texts) all ∙ take-length texts) ∙ numbered_is 0 texts

begun_state : (x : Expansion) → x.macros.entries ≡ [] → x.constants ≡ [] → x.counter ≡ 0 → x.count ≡ 0 → state_of x ≡ start
begun_state x m k c n =
    ap (λ es. record { macros = map (λ m. (m.0.items, macro_seen x.lines m.1)) es; constants = x.constants; counter = x.counter; count = x.count }) m
    ∙ ap (λ k. record { macros = []; constants = k; counter = x.counter; count = x.count }) k
    ∙ ap (λ c. record { macros = []; constants = []; counter = c; count = x.count }) c
    ∙ ap (λ n. record { macros = []; constants = []; counter = 0; count = n }) n

pub begun_rest : (x : Expansion) → x.macros.entries ≡ [] → x.constants ≡ [] → x.counter ≡ 0 → x.count ≡ 0 → x.calls.items ≡ [] → x.around.items ≡ [] → x.turns ≡ 0
    → x.text ≡ record { at = 0; end = length x.lines; number = None }
    → rest_of x ≡ record { depth = 0; state = start; text = numbered 1 x.lines; around = [] }
begun_rest x m k c n calls around turns text =
    let t = x.lines in
    ap (λ cs. record {
      depth = length (map (λ call. said call) (reverse cs)) + x.turns;
      state = state_of x;
      text = text_of t (innermost (map (λ call. said call) (reverse cs))) x.text;
      around = around_seen t (map (λ call. said call) (reverse cs)) (reverse x.around.items);
    }) calls
    ∙ ap (λ fs. record { depth = 0 + x.turns; state = state_of x; text = text_of t None x.text; around = around_seen t [] (reverse fs) }) around
    ∙ ap (λ n. record { depth = 0 + n; state = state_of x; text = text_of t None x.text; around = [] }) turns
    ∙ ap (λ s. record { depth = 0; state = s; text = text_of t None x.text; around = [] }) (begun_state x m k c n)
    ∙ ap (λ ls. record { depth = 0; state = start; text = ls; around = [] }) (ap (text_of t None) text ∙ whole t)

pub from_begin : (text : List ℕ) (lines : List Numbered) (end : End) → Remains (Within (record { depth = 0; state = start; text = numbered 1 (source_lines text); around = [] })) lines end
    → Expands 0 start (numbered 1 (source_lines text)) lines end
from_begin text lines end r =
    let all : r.0 ≡ lines = sym (r.5 ∙ ap (λ more. r.0 ++ more) r.4.0 ∙ append-nil r.0) in
    subst (λ ls. Expands 0 start (numbered 1 (source_lines text)) ls end) all (subst (λ e. Expands 0 start (numbered 1 (source_lines text)) r.0 e) (sym r.4.1) r.3)
