use Rattle.std.proofs.Common.{◌≡◌, ◌++◌, take}
use Rattle.std.specs.List.{flat_map}
use Rattle.asm_macro.specs.Texts.{source_part}
use Rattle.report_texts.specs.Front.{with_end}
use Rattle.report_texts.proofs.front.put_files.Given as goal

abbrev pub invariant-loop-file : goal.invariant-loop-file
invariant-loop-file l = l.text.items ≡ l.initial.text.items ++ flat_map (λ file. with_end (source_part file.text.now)) (take l.file-index l.files)
