use Rattle.std.proofs.Common.{◌∙◌, sym, arith}
use Rattle.asm_line.proofs.Strings.{past_plain, past_pair, at_control}
use Rattle.asm_line.proofs.quoted.string_len.Goals as goal

pub loop-len-preserved-then-bytes-len : goal.loop-len-preserved-then-bytes-len
loop-len-preserved-then-bytes-len c = record {
  within = omega arith;
  same = past_pair c.args.quote c.args.bytes.now c.loop-len.len c.loop-len.invariant.same (omega arith) c.if-bytes-len.true c.if-bytes-len-2.false;
}

pub loop-len-preserved : goal.loop-len-preserved
loop-len-preserved c = record {
  within = omega arith;
  same = past_plain c.args.quote c.args.bytes.now c.loop-len.len c.loop-len.invariant.same c.loop-len-test.true c.if-bytes-len.false (sym c.is_control.ensures ∙ c.if-is_control.false);
}

pub returns-then-is_control-clause-len : goal.returns-then-is_control-clause-len
returns-then-is_control-clause-len c = at_control c.args.quote c.args.bytes.now c.loop-len.len c.loop-len.invariant.same c.loop-len-test.true c.if-bytes-len.false (sym c.is_control.ensures ∙ c.if-is_control.true)
