use Rattle.std.proofs.Common.{◌≡◌, ◌≤◌, ◌∙◌, ℕ, List, Vec, length, map, take, sym, ap, arith}
use Rattle.std.proofs.lemmas.List.{length-map, take_all}
use Rattle.std.specs.Global.{Global}
use Rattle.asm_names.specs.declared.kind.SourceLine.{SourceLine}
use Rattle.asm_names.specs.Lines.{lines_of, taken_of}
use Rattle.asm_names.specs.Names.{Names}
use Rattle.asm_names.specs.Private.Bounds.{AreBelow}
use Rattle.asm_names.proofs.Below.{names_below}
use Rattle.asm_names.proofs.Uses.{are_defined, ordered, uses_in}
use Rattle.asm_names.proofs.circles.turns_of.Goals as goal

pub uses_of-requires : goal.uses_of-requires
uses_of-requires c = λ name at is.
    let below : AreBelow (length (lines_of c.args.lines.now)) c.args.names.now = rw c.requires.names (names_below (lines_of c.args.lines.now)) in
    let lt = below name at is in
    omega (arith, lt, length-map c.args.lines.now taken_of, c.requires.few)

-- the uses of all lines, once all are read
all_used : (uses : List (Vec ℕ Global)) (names : Names) (lines : List SourceLine) (at : ℕ) → length lines ≤ at → map (λ some. some.items) uses ≡ uses_in names (lines_of (take at lines))
    → map (λ some. some.items) uses ≡ uses_in names (lines_of lines)
all_used uses names lines at le is = is ∙ ap (λ ls. uses_in names (lines_of ls)) (take_all at lines le)

pub order-requires-clause-defined : goal.order-requires-clause-defined
order-requires-clause-defined c =
    let below : AreBelow (length (lines_of c.args.lines.now)) c.args.names.now = rw c.requires.names (names_below (lines_of c.args.lines.now)) in
    let used = all_used c.loop-line.uses.items c.args.names.now c.args.lines.now c.loop-line.line-index c.loop-line-test.false c.loop-line.invariant in
    rw c.deref.ensures.value (are_defined c.loop-line.uses.items c.args.names.now (lines_of c.args.lines.now) used below)

pub returns : goal.returns
returns c =
    let used = all_used c.loop-line.uses.items c.args.names.now c.args.lines.now c.loop-line.line-index c.loop-line-test.false c.loop-line.invariant in
    let order = rw c.deref.ensures.value at c.in_ok-turns.ensures in
    rw (sym (length-map c.args.lines.now taken_of)) (ordered c.loop-line.uses.items c.args.names.now (lines_of c.args.lines.now) c.in_ok-turns.turns.items used order)
