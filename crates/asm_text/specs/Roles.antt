-- The roles of lines: whether they open, divide or close a block.
-- In words: docs/LANGUAGE.md, section 'Macros'.
use Rattle.std.specs.Prelude.{Bool, not, ◌&&◌, is_some, nat_le, length, List, map}
use Rattle.asm_line.specs.declared.forms.BlockWord.{BlockWord}
use Rattle.asm_line.specs.Forms as line
use Rattle.asm_line.specs.Forms.{Form}
use Rattle.asm_text.specs.declared.matching.Role.{Role}
use Rattle.asm_text.specs.Lines.{Numbered, form_of}

abbrev pub role_of_word : BlockWord → Role
role_of_word BlockWord.Macro = Role.OpensBody
role_of_word BlockWord.Rept = Role.OpensBody
role_of_word BlockWord.If = Role.OpensIf
role_of_word BlockWord.Else = Role.Else
role_of_word BlockWord.EndIf = Role.EndIf
role_of_word BlockWord.EndM = Role.EndBody
role_of_word BlockWord.Local = Role.Other

-- the role of a line by its head, whether or not it has a label
abbrev pub role_of_head : line.Head → Role
role_of_head (line.Macro name) = Role.OpensBody
role_of_head (line.Block word) = role_of_word word
role_of_head _ = Role.Other

abbrev pub roles : List Numbered → List Role
roles lines = map (λ l. role_of_head (form_of l.text).head) lines

-- The line has only a head: no label, and nothing after the head. An ELSE, ENDIF or ENDM of an open block has to be so.
abbrev pub is_alone : Form → Bool
is_alone form = not (is_some form.label) && nat_le (length form.rest) 0
