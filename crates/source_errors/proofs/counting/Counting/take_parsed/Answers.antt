use Rattle.std.proofs.Common.{◌≡◌, ◌∙◌, ap, sym, length, true, false}
use Rattle.std.proofs.lemmas.Result.{on_ok_weaker}
use Rattle.asm_spell.specs.Line.{line_of}
use Rattle.asm_names.specs.Lines.{lines_of}
use Rattle.asm_names.specs.Names.{defines, has_clash, names}
use Rattle.source_errors.specs.Private.State.{numbered_of}
use Rattle.source_errors.proofs.Taking.{takes_itself, takes_twice}
use Rattle.source_errors.proofs.counting.Counting.take_parsed.Goals as goal

pub returns-then-clashes : goal.returns-then-clashes
returns-then-clashes c =
    let at = length (lines_of c.args.self.now.lines.items) in
    let twice : has_clash (names (lines_of c.args.self.now.lines.items)) (defines at (line_of c.args.parsed)) ≡ true =
    ap (λ t. has_clash t (defines at (line_of c.args.parsed))) (sym c.requires.sound.table) ∙ sym (c.clashes.ensures at) ∙ c.if-clashes.true in
    on_ok_weaker c.refuse.result (takes_twice c.args.self.now c.refuse.new.self (numbered_of c.args.line) c.requires.sound (line_of c.args.parsed) c.requires.read twice) c.refuse.ensures

pub returns : goal.returns
returns c =
    let at = length (lines_of c.args.self.now.lines.items) in
    let once : has_clash (names (lines_of c.args.self.now.lines.items)) (defines at (line_of c.args.parsed)) ≡ false =
    ap (λ t. has_clash t (defines at (line_of c.args.parsed))) (sym c.requires.sound.table) ∙ sym (c.clashes.ensures at) ∙ c.if-clashes.false in
    on_ok_weaker c.append.result (takes_itself c.args.self.now c.append.new.self (numbered_of c.args.line) (line_of c.args.parsed) c.requires.sound c.requires.read once) c.append.ensures
