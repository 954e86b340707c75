use Rattle.std.proofs.Common.{false, Ok, Err, map, refl, sym, subst, arith}
use Rattle.std.proofs.lemmas.List.{length-map}
use Rattle.std.proofs.lemmas.Result.{err_from_is_err_and}
use Rattle.asm_line.specs.Tokens.{lexeme, lexemes}
use Rattle.asm_parse.specs.Grammar.{symbol}
use Rattle.asm_parse.specs.Private.Parsing.{step}
use Rattle.asm_parse.specs.Private.Stacks.{part_symbol}
use Rattle.asm_parse.specs.Private.Readers.{Reads}
use Rattle.asm_parse.proofs.Readers.{read_start, read_end, read_next, read_stops, symbol_at}
use Rattle.asm_parse.proofs.Alone.{spelled}
use Rattle.asm_parse.proofs.Parsed.{only_parsed}
use Rattle.asm_parse.proofs.reader.parse.Goals as goal

pub loop-token-init : goal.loop-token-init
loop-token-init c = read_start _ (record { pending = c.new.result; items = c.in_ok-with_capacity.field-0; deepest = 0; complete = false }) c.new.ensures.items c.in_ok-with_capacity.ensures.items refl refl

pub loop-token-preserved : goal.loop-token-preserved
loop-token-preserved c =
    let tokens = c.args.tokens.now in
    let x = part_symbol c.in_ok-part_of.field-0 in
    let s = c.loop-token.invariant in
    let at = symbol_at tokens c.loop-token.token-index _ x (omega arith) c.in_ok-part_of.ensures.part in
    read_next (map symbol (lexemes tokens)) c.loop-token.token-index x c.loop-token.reader c.take.new.self (omega (arith, length-map tokens lexeme, length-map (lexemes tokens) symbol)) s
    (subst (λ y. Reads (step y s.state) {A = Unit {0}} (Ok tt) c.take.new.self) (sym at) (c.in_ok-take.ensures s.state s.holds))

pub returns-in_err-take-clause-spelled : goal.returns-in_err-take-clause-spelled
returns-in_err-take-clause-spelled c =
    let tokens = c.args.tokens.now in
    let x = part_symbol c.in_ok-part_of.field-0 in
    let s = c.loop-token.invariant in
    let at = symbol_at tokens c.loop-token.token-index _ x (omega arith) c.in_ok-part_of.ensures.part in
    let p = err_from_is_err_and c.from_residual-in_err-take.result c.from_residual-in_err-take.ensures.1 in
    rw (p.1, p.2) (read_stops (map symbol (lexemes tokens)) c.loop-token.token-index x c.loop-token.reader c.take.new.self c.in_err-take.field-0.0 (omega (arith, length-map tokens lexeme, length-map (lexemes tokens) symbol)) s
    (subst (λ y. Reads (step y s.state) {A = Unit {0}} (Err c.in_err-take.field-0.0) c.take.new.self) (sym at) (c.in_err-take.ensures s.state s.holds)))

pub returns-in_err-take-clause-parsed : goal.returns-in_err-take-clause-parsed
returns-in_err-take-clause-parsed c = only_parsed (map symbol (lexemes c.args.tokens.now)) _ (returns-in_err-take-clause-spelled c)

pub returns-clause-parsed : goal.returns-clause-parsed
returns-clause-parsed c =
    let symbols = map symbol (lexemes c.args.tokens.now) in
    let s = c.loop-token.invariant in
    let all = read_end symbols c.loop-token.token-index c.loop-token.reader (omega (arith, length-map c.args.tokens.now lexeme, length-map (lexemes c.args.tokens.now) symbol)) s in
    only_parsed symbols c.finish.result (c.finish.ensures symbols s.state s.holds all)

pub returns-in-len1-clause-spelled : goal.returns-in-len1-clause-spelled
returns-in-len1-clause-spelled c = spelled c.args.tokens.now _ c.term_alone.result c.in-len1.len_at_least c.in-len1.len_below c.term_alone.ensures
