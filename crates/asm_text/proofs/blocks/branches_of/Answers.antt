use Rattle.std.proofs.Common.{◌<◌, ◌+◌, ◌-◌, ◌∙◌, ◌∷◌, ◌++◌, [], ap, sym, subst, arith, map, length, drop, drop_of_length-le, sum, Some, IfSome}
use Rattle.std.specs.Option.{option_map}
use Rattle.std.proofs.lemmas.List.{drop_more, length-map, map-append}
use Rattle.asm_text.specs.Nesting.Blocks.{between, branch_lengths}
use Rattle.asm_text.specs.Nesting.Views.{lengths_seen}
use Rattle.asm_text.specs.Prepared.{said}
use Rattle.asm_text.specs.Lines.{form_of}
use Rattle.asm_text.specs.Sections.Blocks.{branches_of_lengths}
use Rattle.asm_text.specs.Roles.{role_of_head, roles}
use Rattle.asm_text.specs.Sections.Sections.{front_of, section_of}
use Rattle.asm_text.specs.Spans.{text_of}
use Rattle.asm_text.specs.Private.Chosen.{Has}
use Rattle.asm_text.proofs.Sections.Texts.{room}
use Rattle.asm_text.proofs.Sections.Branches.{left_fits, reached_all, start, step}
use Rattle.asm_text.proofs.blocks.branches_of.Goals as goal

pub front-first-requires : goal.front-first-requires
front-first-requires c =
    let names = option_map (λ c. said c.now) c.args.call in
    let seen = c.args.lines.now in
    let links = c.opened-book.result.now.links in
    let text = ap (λ f. between f c.saturating_sub-to.result links) c.saturating_sub-from.ensures ∙ ap (λ t. between (c.args.span.at - c.opened-book.result.now.at) t links) c.saturating_sub-to.ensures ∙ subst (Has (roles (text_of seen names c.args.span)) c.args.span) (sym c.opened-book.ensures) c.in_ok-plain.ensures.has in
    let lengths = lengths_seen c.in-Some.found in
    let fits = subst (λ rs. lengths.0 + sum (map (λ n. n + 1) lengths.1) < length rs) text
    (subst (λ o. IfSome o (λ b. b.first + sum (map (λ n. n + 1) b.others.items) < length (between c.saturating_sub-from.result c.saturating_sub-to.result links))) c.in-Some.is c.in_ok-found.ensures.within) in
    let lines = length-map (text_of seen names c.args.span) (λ l. role_of_head (form_of l.text).head) in
    room seen names c.args.span c.in-Some.found.first (omega (arith, fits, lines)) c.requires.few

pub behind-rest-requires : goal.behind-rest-requires
behind-rest-requires c =
    let names = option_map (λ c. said c.now) c.args.call in
    let seen = c.args.lines.now in
    let links = c.opened-book.result.now.links in
    let text = ap (λ f. between f c.saturating_sub-to.result links) c.saturating_sub-from.ensures ∙ ap (λ t. between (c.args.span.at - c.opened-book.result.now.at) t links) c.saturating_sub-to.ensures ∙ subst (Has (roles (text_of seen names c.args.span)) c.args.span) (sym c.opened-book.ensures) c.in_ok-plain.ensures.has in
    let lengths = lengths_seen c.in-Some.found in
    let fits = subst (λ rs. lengths.0 + sum (map (λ n. n + 1) lengths.1) < length rs) text
    (subst (λ o. IfSome o (λ b. b.first + sum (map (λ n. n + 1) b.others.items) < length (between c.saturating_sub-from.result c.saturating_sub-to.result links))) c.in-Some.is c.in_ok-found.ensures.within) in
    let lines = length-map (text_of seen names c.args.span) (λ l. role_of_head (form_of l.text).head) in
    room seen names c.args.span c.in-Some.found.first (omega (arith, fits, lines)) c.requires.few

pub loop-at-init : goal.loop-at-init
loop-at-init c =
    let names = option_map (λ c. said c.now) c.args.call in
    let seen = c.args.lines.now in
    let links = c.opened-book.result.now.links in
    let text = ap (λ f. between f c.saturating_sub-to.result links) c.saturating_sub-from.ensures ∙ ap (λ t. between (c.args.span.at - c.opened-book.result.now.at) t links) c.saturating_sub-to.ensures ∙ subst (Has (roles (text_of seen names c.args.span)) c.args.span) (sym c.opened-book.ensures) c.in_ok-plain.ensures.has in
    let lengths = lengths_seen c.in-Some.found in
    let fits = subst (λ rs. lengths.0 + sum (map (λ n. n + 1) lengths.1) < length rs) text
    (subst (λ o. IfSome o (λ b. b.first + sum (map (λ n. n + 1) b.others.items) < length (between c.saturating_sub-from.result c.saturating_sub-to.result links))) c.in-Some.is c.in_ok-found.ensures.within) in
    let lines = length-map (text_of seen names c.args.span) (λ l. role_of_head (form_of l.text).head) in
    (omega arith, rw (c.behind-rest.ensures, c.front-first.ensures, c.new-others.ensures.items) (start seen names c.args.span lengths (omega (arith, fits, lines))))

pub front-requires : goal.front-requires
front-requires c =
    let names = option_map (λ c. said c.now) c.args.call in
    let seen = c.args.lines.now in
    let i = c.loop-at.invariant in
    let lens = c.in-Some.found.others.items in
    let n = c.index-len.result.now in
    let at : c.loop-at.at < length lens = omega (arith, c.loop-at-test.true, c.len.ensures) in
    let left = drop_more lens c.loop-at.at n at ∙ ap (λ n. n ∷ drop (c.loop-at.at + 1) lens) (sym c.index-len.ensures) in
    let less = left_fits (drop c.loop-at.at lens) n (drop (c.loop-at.at + 1) lens) (length (text_of seen names c.loop-at.rest)) left i.1.fits in
    room seen names c.loop-at.rest n (omega (arith, less)) c.requires.few

pub behind-rest-requires-in-loop-at : goal.behind-rest-requires-in-loop-at
behind-rest-requires-in-loop-at c =
    let names = option_map (λ c. said c.now) c.args.call in
    let seen = c.args.lines.now in
    let i = c.loop-at.invariant in
    let lens = c.in-Some.found.others.items in
    let n = c.index-len.result.now in
    let at : c.loop-at.at < length lens = omega (arith, c.loop-at-test.true, c.len.ensures) in
    let left = drop_more lens c.loop-at.at n at ∙ ap (λ n. n ∷ drop (c.loop-at.at + 1) lens) (sym c.index-len.ensures) in
    let less = left_fits (drop c.loop-at.at lens) n (drop (c.loop-at.at + 1) lens) (length (text_of seen names c.loop-at.rest)) left i.1.fits in
    room seen names c.loop-at.rest n (omega (arith, less)) c.requires.few

pub loop-at-preserved : goal.loop-at-preserved
loop-at-preserved c =
    let names = option_map (λ c. said c.now) c.args.call in
    let seen = c.args.lines.now in
    let i = c.loop-at.invariant in
    let lens = c.in-Some.found.others.items in
    let n = c.index-len.result.now in
    let at : c.loop-at.at < length lens = omega (arith, c.loop-at-test.true, c.len.ensures) in
    let left = drop_more lens c.loop-at.at n at ∙ ap (λ n. n ∷ drop (c.loop-at.at + 1) lens) (sym c.index-len.ensures) in
    let pushed = ap (map (section_of seen names)) (c.in_ok-push.ensures.items ∙ ap (λ x. c.loop-at.others.items ++ x ∷ []) c.front.ensures) ∙ map-append (section_of seen names) c.loop-at.others.items (front_of c.loop-at.rest n ∷ []) in (
      omega (arith, at),
      rw c.behind-rest-in-loop-at.ensures (step seen names c.args.span c.loop-at.rest (lengths_seen c.in-Some.found) (drop c.loop-at.at lens) n (drop (c.loop-at.at + 1) lens)
          (section_of seen names c.front-first.result) (map (section_of seen names) c.loop-at.others.items) (map (section_of seen names) c.push.new.self.items) i.1 left pushed),
    )

pub returns-clause-branches : goal.returns-clause-branches
returns-clause-branches c =
    let names = option_map (λ c. said c.now) c.args.call in
    let seen = c.args.lines.now in
    let links = c.opened-book.result.now.links in
    let text = ap (λ f. between f c.saturating_sub-to.result links) c.saturating_sub-from.ensures ∙ ap (λ t. between (c.args.span.at - c.opened-book.result.now.at) t links) c.saturating_sub-to.ensures ∙ subst (Has (roles (text_of seen names c.args.span)) c.args.span) (sym c.opened-book.ensures) c.in_ok-plain.ensures.has in
    let lens = c.in-Some.found.others.items in
    let is = sym (ap (option_map lengths_seen) c.in-Some.is) ∙ c.in_ok-found.ensures.is ∙ ap (branch_lengths 0 0) text in
    let over = drop_of_length-le lens (omega (arith, c.loop-at-test.false, c.len.ensures)) in
    ap Some (sym (reached_all seen names c.args.span c.loop-at.rest (lengths_seen c.in-Some.found) (drop c.loop-at.at lens) (section_of seen names c.front-first.result) (map (section_of seen names) c.loop-at.others.items) c.loop-at.invariant.1 over))
    ∙ ap (option_map (branches_of_lengths (text_of seen names c.args.span))) is
