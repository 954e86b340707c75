use Rattle.std.proofs.Common.{◌≡◌, ◌∙◌, ◌++◌, ◌-◌, [], true, false, ap, sym, append-nil, map, get_or}
use Rattle.std.specs.Option.{option_map}
use Rattle.std.specs.Prelude.{option_copied}
use Rattle.std.specs.Str.{bytes_eq}
use Rattle.asm_spell.specs.Line.{line_of}
use Rattle.source_warnings.specs.Warnings.{is_own, parsed_line, warning_of}
use Rattle.source_warnings.specs.Private.Known.{line_seen}
use Rattle.source_warnings.proofs.Lined.{other_known, other_said, own_known, own_said}
use Rattle.source_warnings.proofs.found.put_line.Goals as goal

pub returns-in_ok-put_own : goal.returns-in_ok-put_own
returns-in_ok-put_own c text earlier lines was =
    let own : is_own text (line_seen c.args.line.now) ≡ true = ap (λ ls. bytes_eq c.args.line.now.text.items (get_or ls (c.args.line.now.number - 1) [])) (sym lines) ∙ sym c.if-is_own.ensures in
    let said = c.in_ok-put_own.ensures in
    let read : option_map line_of (option_copied c.as_ref.result) ≡ parsed_line c.args.line.now.text.items = ap (option_map line_of) c.as_ref.ensures.value ∙ (c.in_ok-read.ensures ∙ ap parsed_line c.deref.ensures.value) in
    let warnings = rw read at said.warnings in
    let publics = rw read at said.publics in
    let externals = rw read at said.externals in (
      warnings ∙ ap (λ l. map warning_of c.args.found.now.items ++ l) (own_said text earlier (line_seen c.args.line.now) c.args.before.now was own),
      own_known text earlier (line_seen c.args.line.now) c.args.before.now was own c.put_own.new.before said.mentioned publics externals,
    )

pub returns-else-is_own : goal.returns-else-is_own
returns-else-is_own c text earlier lines was =
    let other : is_own text (line_seen c.args.line.now) ≡ false = ap (λ ls. bytes_eq c.args.line.now.text.items (get_or ls (c.args.line.now.number - 1) [])) (sym lines) ∙ sym c.if-is_own.ensures in
    (sym (ap (λ l. map warning_of c.args.found.now.items ++ l) (other_said text earlier (line_seen c.args.line.now) c.args.before.now was other) ∙ append-nil _), other_known text earlier (line_seen c.args.line.now) c.args.before.now was other)
