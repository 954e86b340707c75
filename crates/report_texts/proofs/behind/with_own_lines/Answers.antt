use Rattle.std.proofs.Common.{map, length, refl, sym, ap, ◌∙◌}
use Rattle.std.proofs.lemmas.List.{length-map, with_items_is}
use Rattle.report_texts.specs.Behind.{earlier_lines, earlier_origin}
use Rattle.report_texts.specs.Front.{earlier, front_lines}
use Rattle.report_texts.proofs.Modules.{own_pair}
use Rattle.report_texts.proofs.behind.with_own_lines.Goals as goal

pub returns : goal.returns
returns c =
    let all = front_lines c.args.front in
    let origins = c.number_origins.ensures all c.front_lines-lines.ensures in
    let lines = c.number_lines.ensures all c.front_lines-lines.ensures in
    let modules = c.number_modules.ensures all c.front_lines-lines.ensures in
    let long = sym (length-map c.number_modules.new.modules own_pair) ∙ ap length modules ∙ length-map c.deref_mut-3.result.now (earlier_lines all) in
    record {
      file = refl;
      sizes = refl;
      cert = refl;
      symbols = refl;
      grown = refl;
      modules = refl;
      lines =
          ap (map own_pair) (with_items_is c.args.built.lines c.number_modules.new.modules (long ∙ c.deref_mut-3.ensures.len))
          ∙ modules ∙ ap (map (earlier_lines all)) c.deref_mut-3.ensures.value;
      statements =
          with_items_is c.args.built.statements c.number_origins.new.origins (ap length origins ∙ length-map c.deref_mut.result.now (earlier_origin all) ∙ c.deref_mut.ensures.len)
          ∙ origins ∙ ap (map (earlier_origin all)) c.deref_mut.ensures.value;
      last =
          with_items_is c.args.built.last c.number_lines.new.numbers (ap length lines ∙ length-map c.deref_mut-2.result.now (earlier all) ∙ c.deref_mut-2.ensures.len)
          ∙ lines ∙ ap (map (earlier all)) c.deref_mut-2.ensures.value;
    }
