-- The object file of a module, byte by byte.
use Rattle.std.specs.Prelude.{ℕ, ◌+◌, if◌then◌else◌, List, [], ◌∷◌, ◌++◌, Option, Some, None, length}
use Rattle.std.specs.List.{flat_map}
use Rattle.std.specs.Option.{is_some}
use Rattle.zmo_object.specs.Fields.Texts.{word_bytes, with_length, expr_text}
use Rattle.zmo_object.specs.declared.module.hole.Hole.{Hole}
use Rattle.zmo_object.specs.Modules as object
use Rattle.zmo_object.specs.Modules.{Label, Module, ModuleStatement}
use Rattle.zmo_object.specs.Codes.{branch_code, jump_condition_code, magic, width_code}

abbrev pub hole_text : Hole → List ℕ
hole_text h = word_bytes h.offset ++ width_code h.width ∷ with_length (expr_text h.value)

abbrev pub statement_text : ModuleStatement → List ℕ
statement_text (object.Bytes bytes holes) = 1 ∷ word_bytes (length bytes) ++ bytes ++ word_bytes (length holes) ++ flat_map hole_text holes
statement_text (object.Jump marked condition target) = (if marked then 5 else 2) ∷ jump_condition_code condition ∷ word_bytes target
statement_text (object.Short branch target) = 3 ∷ branch_code branch ∷ word_bytes target
statement_text (object.Space size fill) = 4 ∷ word_bytes size ++ fill ∷ []

abbrev pub label_text : Label → List ℕ
label_text l = word_bytes l.statement ++ with_length l.name

-- bit 0: the module says ORG 0100H; bit 1: it has an entry
abbrev pub flags : Module → ℕ
flags m = (if m.begins then 1 else 0) + (if is_some m.entry then 2 else 0)

abbrev pub entry_text : Option ℕ → List ℕ
entry_text None = []
entry_text (Some label) = word_bytes label

-- the numbers of statements, labels, publics and externals
abbrev pub counts_text : Module → List ℕ
counts_text m = word_bytes (length m.statements) ++ word_bytes (length m.labels) ++ word_bytes (length m.publics) ++ word_bytes (length m.externals)

abbrev pub header_text : Module → List ℕ
header_text m = magic m.grow ++ with_length m.name ++ flags m ∷ counts_text m ++ entry_text m.entry

abbrev pub module_text : Module → List ℕ
module_text m =
    header_text m ++ flat_map statement_text m.statements ++ flat_map label_text m.labels ++ flat_map word_bytes m.publics
    ++ flat_map with_length m.externals
