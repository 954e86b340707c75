use Rattle.std.proofs.Common.{rules, ◌≡◌, ◌<◌, ◌≤◌, ◌∙◌, length, ap, List, arith}
use Rattle.asm_names.specs.Lines.{Taken, taken_of}
use Rattle.asm_names.specs.Private.Steps.{IsBehind}
use Rattle.asm_names.proofs.TakenUp.{Comes, comes_sound, comes_too_many}
use Rattle.asm_names.proofs.naming.Naming.take.Goals as goal

pub returns-then-len-gt-MOST_NAMES : goal.returns-then-len-gt-MOST_NAMES
returns-then-len-gt-MOST_NAMES c = λ before is.
    let d = c.in_ok-define.ensures in
    let n = c.in_ok-count.ensures in
    let comes : Comes before c.args.at (taken_of c.args.line.now) c.args.self.now c.count.new.self = record { behind = is; once = d.0; few = n.0; new_is = rw d.1 at n.1 } in
    comes_too_many before c.args.at (taken_of c.args.line.now) c.args.self.now c.count.new.self comes (rw c.len.ensures at c.if-len-gt-MOST_NAMES.true)

pub returns : goal.returns
returns c = λ before is.
    let d = c.in_ok-define.ensures in
    let n = c.in_ok-count.ensures in
    let comes : Comes before c.args.at (taken_of c.args.line.now) c.args.self.now c.count.new.self = record { behind = is; once = d.0; few = n.0; new_is = rw d.1 at n.1 } in
    comes_sound before c.args.at (taken_of c.args.line.now) c.args.self.now c.count.new.self comes (rw c.len.ensures at c.if-len-gt-MOST_NAMES.false)
