use Rattle.std.proofs.Common.{◌≡◌, ◌++◌, ◌-◌, length}
use Rattle.std.specs.Option.{option_map}
use Rattle.asm_text.specs.Prepared.{said}
use Rattle.asm_text.specs.Roles.{roles}
use Rattle.asm_text.specs.Spans.{text_of}
use Rattle.asm_text.proofs.book.roles_of.Given as goal

-- The roles found so far, and those of the lines that are left, are the roles of the span.
abbrev pub invariant-loop-at : goal.invariant-loop-at
invariant-loop-at l =
    let seen = l.lines in
    let names = option_map (λ c. said c.now) l.call in
    roles (text_of seen names l.span) ≡ l.found.items ++ roles (text_of seen names (record l.span { at = l.at }))

abbrev pub decreases-loop-at : goal.decreases-loop-at
decreases-loop-at l = length l.lines - l.at
