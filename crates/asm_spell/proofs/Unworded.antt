-- A line that does not begin with a word.
use Rattle.std.proofs.Common.{◌≡◌, ◌≤◌, ℕ, List, [], ◌∷◌, Option, Err, length, refl, arith}
use Rattle.std.specs.Option.{option_map}
use Rattle.asm_line.specs.declared.token.Token.{Token}
use Rattle.asm_line.specs.Tokens.{lexemes}
use Rattle.asm_line.specs.declared.forms.Form.{Form}
use Rattle.asm_line.specs.declared.forms.Head.{Head}
use Rattle.asm_line.specs.Forms as front
use Rattle.asm_line.specs.FormViews.{form_seen}
use Rattle.asm_spell.specs.declared.fault.StmtFault.{StmtFault}
use Rattle.asm_spell.specs.Spelling.{line_by}

no_word : (label : Option (List ℕ)) (rest : List Token) → 1 ≤ length rest → line_by label front.Nothing (lexemes rest) ≡ Err StmtFault.UnknownWord
no_word label [] some = absurd (omega arith)
no_word label (t ∷ ts) some = refl

pub unworded : (f : Form) (g : front.Form) → form_seen f ≡ g → f.head ≡ Head.Nothing → 1 ≤ length f.rest.now → line_by g.label g.head g.rest ≡ Err StmtFault.UnknownWord
unworded f g e h some = rw (← e, h) (no_word (option_map (λ name. name.now) f.label) f.rest.now some)
