use Rattle.std.proofs.Common.{◌∙◌, ap, sym, List, ℕ, Some}
use Rattle.std.specs.Prelude.{get_or}
use Rattle.machine_history.proofs.Cutting.{read_byte}
use Rattle.machine_history.proofs.recorded.byte_of.Goals as goal

pub returns-in-Ok : goal.returns-in-Ok
returns-in-Ok c = λ byte lt is.
    let read = read_byte byte c.args.digits.now c.decode_to_slice.new.out c.decode_to_slice.result lt is c.decode_to_slice.ensures.value in
    ap (λ (out : List ℕ). Some (get_or out 0 0)) read.1

pub returns-in-Err : goal.returns-in-Err
returns-in-Err c = λ byte lt is.
    let read = read_byte byte c.args.digits.now c.decode_to_slice.new.out c.decode_to_slice.result lt is c.decode_to_slice.ensures.value in
    let both = sym read.0 ∙ c.in-Err.is in
    cc
