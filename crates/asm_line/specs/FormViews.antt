-- The code's form of a line, without where its bytes are in memory.
use Rattle.std.specs.Option.{option_map}
use Rattle.asm_line.specs.Tokens.{lexemes}
use Rattle.asm_line.specs.declared.forms.Head.{Head}
use Rattle.asm_line.specs.declared.forms.Form.{Form}
use Rattle.asm_line.specs.Forms as line

abbrev pub head_seen : Head → line.Head
head_seen (Head.Equ name) = line.Equ name.now
head_seen (Head.Macro name) = line.Macro name.now
head_seen (Head.Block block) = line.Block block
head_seen (Head.Word name) = line.Word name.now
head_seen Head.Nothing = line.Nothing

abbrev pub form_seen : Form → line.Form
form_seen f = record { label = option_map (λ name. name.now) f.label; head = head_seen f.head; rest = lexemes f.rest.now }
