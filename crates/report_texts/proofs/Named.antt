-- Sources after a front, one by one.
use Rattle.std.proofs.Common.{◌≡◌, List, [], ◌∷◌, ◌++◌, map, sym, ap, ◌∙◌}
use Rattle.std.specs.List.{AllZip}
use Rattle.zlink.specs.declared.source.Source.{Source}
use Rattle.report_texts.specs.declared.front.SourceFile.{SourceFile}
use Rattle.report_texts.specs.declared.front.Front.{Front}
use Rattle.report_texts.specs.Behind.{IsBehind, IsSource}
use Rattle.report_texts.specs.Front.{front_text}
use Rattle.report_texts.specs.Private.Steps.{AreNamed}

module _ (front : Front) where
  pub are_behind : (files : List SourceFile) (sources : List Source) → AreNamed (map (λ file. file.path.now) files) (map (λ file. front_text front ++ file.text.now) files) sources → AllZip (IsBehind front) files sources
  are_behind [] [] are = tt
  are_behind [] (s ∷ ss) are = let e = are.0 in absurd (cc)
  are_behind (f ∷ fs) [] are = let e = are.0 in absurd (cc)
  are_behind (f ∷ fs) (s ∷ ss) are = let names = are.0 in let texts = are.1 in ((cc, cc), are_behind fs ss (cc, cc))

  -- after a front without text, a source is as it is
  pub alone_behind : front_text front ≡ [] → (files : List SourceFile) (sources : List Source) → AllZip IsSource files sources → AllZip (IsBehind front) files sources
  alone_behind none [] [] are = tt
  alone_behind none [] (s ∷ ss) are = absurd are
  alone_behind none (f ∷ fs) [] are = absurd are
  alone_behind none (f ∷ fs) (s ∷ ss) are = ((are.0.0, are.0.1 ∙ ap (λ before. before ++ f.text.now) (sym none)), alone_behind none fs ss are.1)
