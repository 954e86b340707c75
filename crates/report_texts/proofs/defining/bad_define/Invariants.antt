use Rattle.std.proofs.Common.{◌≡◌, drop, map}
use Rattle.report_texts.specs.Defines.{first_bad}
use Rattle.report_texts.proofs.defining.bad_define.Given as goal

abbrev pub invariant-loop-word : goal.invariant-loop-word
invariant-loop-word l = first_bad (map (λ word. word.now) l.defines) ≡ first_bad (map (λ word. word.now) (drop l.word-index l.defines))
