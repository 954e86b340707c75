use Rattle.std.proofs.Common.{◌∙◌, sym, refl}
use Rattle.std.proofs.lemmas.Bool.Decides.{Decides-eqb}
use Rattle.std.proofs.lemmas.Slice.Eq.{slice_eq-Decides}
use Rattle.disassembler.proofs.disassembly.builds_to.Goals as goal

pub returns-in-Ok : goal.returns-in-Ok
returns-in-Ok c = λ same. record {
  source = record { name = c.as_bytes-name.result; text = c.args.text };
  text_is = refl;
  built = c.in-Ok.built;
  builds = c.in-Ok.ensures.answer;
  same = sym c.as_slice.ensures.value ∙ (slice_eq-Decides Decides-eqb _ _ _ c.eq.ensures).0 same;
}
