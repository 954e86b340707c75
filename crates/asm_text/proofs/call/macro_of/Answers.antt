use Rattle.std.proofs.Common.{◌∙◌, ap, sym}
use Rattle.std.specs.Option.{option_map}
use Rattle.asm_text.specs.Prepared.{macro_seen}
use Rattle.asm_text.specs.Kept.{IsKeptMacro}
use Rattle.asm_text.proofs.Macros.{copied, lookup-macros, of_entry}
use Rattle.asm_text.proofs.call.macro_of.Goals as goal

pub returns-clause-found : goal.returns-clause-found
returns-clause-found c = λ texts. copied (macro_seen texts) c.get.result ∙ ap (option_map (macro_seen texts)) c.get.ensures.value ∙ sym (lookup-macros texts c.args.macros.now.entries c.args.name.now)

pub returns-clause-kept : goal.returns-clause-kept
returns-clause-kept c = λ texts all. of_entry (IsKeptMacro texts) c.args.macros.now.entries c.args.name.now c.get.result c.get.ensures.value all
