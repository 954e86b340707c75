use Rattle.std.proofs.Common.{◌∙◌, ◌+◌, ◌++◌, ◌∷◌, [], ap, sym, subst, length}
use Rattle.bstr.specs.Text.{lines_of}
use Rattle.asm_text.proofs.Line_ends.{Found, none_found, one_found}
use Rattle.asm_text.proofs.lines.Lines.of.Goals as goal

pub loop-line-init : goal.loop-line-init
loop-line-init c =
    let text = c.args.text.now in
    let all = c.into_iter-line-iterator.ensures.into_iter_gives ∙ c.lines_with_terminator-line-items.ensures.value in
    record {
      can_next = tt;
      finite = tt;
      found = subst (Found text c.new-ends.result.items 0) (sym all) (subst (λ es. Found text es 0 (lines_of text)) (sym c.new-ends.ensures.items) (none_found text));
    }

pub loop-line-preserved : goal.loop-line-preserved
loop-line-preserved c =
    let text = c.args.text.now in
    let ends = c.loop-line.ends.items in
    let line = c.in-Some.line.now in
    let to = c.loop-line.end + length line in
    let pushed = c.in_ok-push.ensures.items ∙ ap (λ p. ends ++ p ∷ []) c.in-Ok.ensures.1 in
    let now = subst (Found text ends c.loop-line.end) c.in-Some.ensures.steps c.loop-line.invariant.found in
    record {
      can_next = tt;
      finite = tt;
      found = subst (λ es. Found text es to c.next.new.self) (sym pushed) (one_found text ends c.loop-line.end line c.next.new.self now);
    }
