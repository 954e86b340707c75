use Rattle.std.proofs.Common.{◌<◌, ◌∙◌, Ok, ap, refl, subst, drop, length, arith}
use Rattle.std.proofs.lemmas.Result.{err_from_is_err_and, IfOk-from_err}
use Rattle.asm_line.specs.Tokens.{lexemes, BeginsFault}
use Rattle.asm_line.specs.Lines.{IsEnd, Scans}
use Rattle.asm_line.specs.Scanned.{scanned}
use Rattle.asm_line.proofs.Cuts.{token_at, fault_at, push_token, spans, few, only_answer, scans, scans_stop, end_from_empty, end_from_comment}
use Rattle.asm_line.proofs.scan.tokens.Goals as goal
use Rattle.asm_line.proofs.scan.tokens.Goals.{then-is_empty-via-then-is_empty, then-is_empty-via-else-is_empty+then-start-eq59}

pub returns-then-is_empty : goal.returns-then-is_empty
returns-then-is_empty c =
    let start_is = c.split_at.ensures.back ∙ ap (λ n. drop n c.loop-start.rest.now) c.blank_len.ensures.len in
    let ended : IsEnd c.split_at.result.1.now = elim c.then-is_empty.branch [
      | then-is_empty-via-then-is_empty w ↦ end_from_empty c.split_at.result.1.now c.is_empty.result c.is_empty.ensures w.if-is_empty.true
      | then-is_empty-via-else-is_empty+then-start-eq59 w ↦ end_from_comment c.split_at.result.1.now w.if-start-eq59.true
    ] in
    let cut : Scans c.args.line.now (Ok (lexemes c.loop-start.found.items)) = (omega arith, record { rest = c.loop-start.rest.now; begins = c.loop-start.invariant; ended = subst IsEnd start_is ended }) in
    record {
      cut = cut;
      fault = tt;
      only = only_answer c.args.line.now (Ok c.loop-start.found) cut tt;
      scanned = only_answer c.args.line.now (Ok c.loop-start.found) cut tt (scanned c.args.line.now) (scans c.args.line.now);
      too_long = λ long. absurd (omega arith);
      spans = spans c.args.line.now c.loop-start.rest.now _ c.loop-start.invariant;
      few = few c.args.line.now c.loop-start.rest.now c.loop-start.found.items c.loop-start.invariant;
    }

pub returns-in_err-kind-clause-fault : goal.returns-in_err-kind-clause-fault
returns-in_err-kind-clause-fault c =
    let from = err_from_is_err_and c.from_residual-in_err-kind.result c.from_residual-in_err-kind.ensures.1 in
    let e = c.in_err-kind.field-0.0 in
    let start_is = c.split_at.ensures.back ∙ ap (λ n. drop n c.loop-start.rest.now) c.blank_len.ensures.len in
    let stopped = fault_at c.split_at.result.1.now e c.is_empty.result c.is_empty.ensures c.if-is_empty.false c.if-start-eq59.false c.in_err-kind.ensures in
    rw (from.1, from.2) (λ other. scans_stop c.args.line.now e (omega arith) (record { tokens = lexemes c.loop-start.found.items; rest = c.loop-start.rest.now; begins = c.loop-start.invariant; stopped = subst (λ x. BeginsFault e x) start_is stopped }))

pub returns-in_err-kind-clause-only : goal.returns-in_err-kind-clause-only
returns-in_err-kind-clause-only c = only_answer c.args.line.now c.from_residual-in_err-kind.result (IfOk-from_err c.from_residual-in_err-kind.result _ c.from_residual-in_err-kind.ensures.0) (returns-in_err-kind-clause-fault c)

pub returns-in_err-kind-clause-scanned : goal.returns-in_err-kind-clause-scanned
returns-in_err-kind-clause-scanned c = returns-in_err-kind-clause-only c (scanned c.args.line.now) (scans c.args.line.now)

pub split_at-requires-in-loop-start : goal.split_at-requires-in-loop-start
split_at-requires-in-loop-start c = (token_at c.split_at.result.1.now c.in_ok-kind.kind c.in_ok-kind.len c.is_empty.result c.is_empty.ensures c.if-is_empty.false c.if-start-eq59.false c.in_ok-kind.ensures).within

pub loop-start-smaller : goal.loop-start-smaller
loop-start-smaller c =
    let read = token_at c.split_at.result.1.now c.in_ok-kind.kind c.in_ok-kind.len c.is_empty.result c.is_empty.ensures c.if-is_empty.false c.if-start-eq59.false c.in_ok-kind.ensures in
    let less : length c.split_at-in-loop-start.result.1.now < length c.loop-start.rest.now = omega (arith, read.some, read.within, c.split_at.ensures.back_len, c.split_at-in-loop-start.ensures.back_len) in
    less

pub loop-start-preserved : goal.loop-start-preserved
loop-start-preserved c =
    let start_is = c.split_at.ensures.back ∙ ap (λ n. drop n c.loop-start.rest.now) c.blank_len.ensures.len in
    let read = token_at c.split_at.result.1.now c.in_ok-kind.kind c.in_ok-kind.len c.is_empty.result c.is_empty.ensures c.if-is_empty.false c.if-start-eq59.false c.in_ok-kind.ensures in
    push_token c.args.line.now c.loop-start.rest.now c.split_at.result.1.now c.split_at-in-loop-start.result.0.now c.split_at-in-loop-start.result.1.now c.loop-start.found.items c.push.new.self.items
    (record { kind = c.in_ok-kind.kind; text = c.split_at-in-loop-start.result.0 }) c.in_ok-kind.len start_is c.split_at-in-loop-start.ensures.front c.split_at-in-loop-start.ensures.back read refl c.in_ok-push.ensures.items c.loop-start.invariant
