-- Which module some bytes are, or the first error. Fields are read in order, and each is judged once all its bytes are there.
-- In words: docs/FORMATS.md, section 'Objects'.
use Rattle.std.specs.Prelude.{◌≡◌, ℕ, ◌+◌, ◌-◌, ◌%◌, ◌==◌, ◌&&◌, not, if◌then◌else◌, Bool, true, false, nat_le, nat_lt, List, [], ◌∷◌, ◌++◌, Option, Some, None, Result, Ok, Err, length, take, drop, map}
use Rattle.std.specs.List.{list_all, list_any}
use Rattle.std.specs.Option.{option_and_then}
use Rattle.std.specs.Str.{bytes_eq}
use Rattle.common.specs.declared.limits.TheConstants.{MOST_BYTES, MOST_NAMES, MOST_STATEMENTS}
use Rattle.common.specs.Results.{◌>>=◌}
use Rattle.common.specs.Words.{is_reserved, upper}
use Rattle.asm_line.specs.Classes.{begins_name, continues_name}
use Rattle.asm_parse.specs.declared.item.Item.{Item}
use Rattle.asm_parse.specs.declared.values.atom.Atom.{Atom}
use Rattle.asm_parse.specs.Values.Items.{is_within}
use Rattle.zmo_object.specs.declared.module.hole.Hole.{Hole}
use Rattle.zmo_object.specs.declared.module.hole.Width.{Width}
use Rattle.zmo_object.specs.Holes.{ends_in_byte, width_size}
use Rattle.zmo_object.specs.Modules as object
use Rattle.zmo_object.specs.Modules.{Label, Module, ModuleStatement, module_of}
use Rattle.zmo_object.specs.declared.module.Module as whole
use Rattle.zmo_object.specs.declared.field_fault.FieldFault.{FieldFault}
use Rattle.zmo_object.specs.declared.field_fault.FieldFault.TheVariants as field
use Rattle.zmo_object.specs.Fields.Field.{Field, byte_field, bytes_field, code_field, counted_at, each_field, field_if_some, judged, tested_field, many, number_at, word_field}
use Rattle.zmo_object.specs.Fields.Postfix.{expr_of}
use Rattle.zmo_object.specs.declared.fault.ObjectFault.{ObjectFault}
use Rattle.zmo_object.specs.declared.fault.ObjectFault.TheVariants as fault
use Rattle.zmo_object.specs.Codes.{branch_of, condition_of, grow_of, width_of}

abbrev pub are_zeros : List ℕ → Bool
are_zeros bytes = list_all (λ b. b == 0) bytes

-- The bytes that a fix-up fills come after those of the fix-up before, are in the statement, and are 0.
abbrev pub is_place : List ℕ → ℕ → ℕ → ℕ → Bool
is_place content from offset size = nat_le from offset && nat_le (offset + size) (length content) && are_zeros (take size (drop offset content))

abbrev pub fits_width : Width → List (Item Atom) → Bool
fits_width Width.Byte items = ends_in_byte items
fits_width Width.Word items = true

-- the expression, if it fits the width and all its refs are below `refs`
abbrev pub fitting : ℕ → Width → List (Item Atom) → Option (List (Item Atom))
fitting refs width items = if fits_width width items && list_all (is_within refs) items then Some items else None

-- the expression of a fix-up
abbrev pub hole_expression : ℕ → Width → List ℕ → Option (List (Item Atom))
hole_expression refs width text = option_and_then (fitting refs width) (expr_of text)

-- the expression of a fix-up; if it is wrong, the error points to the byte after its length
abbrev pub value_at : ℕ → Width → List ℕ → Field (List (Item Atom))
value_at refs width bytes = do
  text ← counted_at bytes
  field_if_some (hole_expression refs width text.0) (drop 1 bytes) text.1

-- A fix-up. Its position is judged as soon as its width is known, before its expression is read.
abbrev pub hole_at : ℕ → List ℕ → ℕ → List ℕ → Field Hole
hole_at refs content from bytes = do
  offset ← word_field bytes
  width ← code_field width_of offset.1
  placed ← judged (is_place content from offset.0 (width_size width.0)) bytes width
  value ← value_at refs placed.0 placed.1
  Ok (record { offset = offset.0; width = placed.0; value = value.0 }, value.1)

-- a ref: a number below `refs`
abbrev pub ref_at : ℕ → List ℕ → Field ℕ
ref_at refs = number_at 0 refs

abbrev pub content_at : ℕ → List ℕ → Field ModuleStatement
content_at refs bytes = do
  size ← number_at 1 (MOST_BYTES + 1) bytes
  content ← bytes_field size.0 size.1
  count ← word_field content.1
  holes ← many (hole_at refs content.0) (λ _ h. h.offset + width_size h.width) 0 count.0 count.1
  Ok (object.Bytes content.0 holes.0, holes.1)

abbrev pub jump_at : Bool → ℕ → List ℕ → Field ModuleStatement
jump_at marked refs bytes = do
  condition ← code_field condition_of bytes
  target ← ref_at refs condition.1
  Ok (object.Jump marked condition.0 target.0, target.1)

abbrev pub short_at : Bool → ℕ → List ℕ → Field ModuleStatement
short_at grow refs bytes = do
  branch ← code_field (branch_of grow) bytes
  target ← ref_at refs branch.1
  Ok (object.Short branch.0 target.0, target.1)

abbrev pub space_at : List ℕ → Field ModuleStatement
space_at bytes = do
  size ← number_at 1 (MOST_BYTES + 1) bytes
  fill ← byte_field size.1
  Ok (object.Space size.0 fill.0, fill.1)

-- A statement after its tag, which is its first byte: 1 bytes with fix-ups, 2 a JP that may be short, 3 a JR or DJNZ, 4 space, and in a file
-- of --grow 5, a JR that may be long.
abbrev pub tagged_at : Bool → ℕ → List ℕ → ℕ → List ℕ → Field ModuleStatement
tagged_at grow refs bytes tag rest =
    if tag == 1 then content_at refs rest
    else if tag == 2 then jump_at false refs rest
    else if tag == 3 then short_at grow refs rest
    else if tag == 4 then space_at rest
    else if tag == 5 && grow then jump_at true refs rest
    else Err (field.BadField (length bytes))

abbrev pub statement_at : Bool → ℕ → List ℕ → Field ModuleStatement
statement_at grow refs bytes = do
  tag ← byte_field bytes
  tagged_at grow refs bytes tag.0 tag.1

abbrev pub is_spelled : List ℕ → Bool
is_spelled [] = false
is_spelled (b ∷ more) = begins_name b && list_all continues_name more

-- Whether a source can define the name: it is a name in upper case and not reserved.
abbrev pub is_definable : List ℕ → Bool
is_definable name = is_spelled name && bytes_eq (upper name) name && not (is_reserved name)

-- a source can define the name, and no name before is equal to it
abbrev pub is_new : List (List ℕ) → List ℕ → Bool
is_new before name = is_definable name && not (list_any (bytes_eq name) before)

abbrev pub name_at : List (List ℕ) → List ℕ → Field (List ℕ)
name_at before = tested_field (is_new before) counted_at

abbrev pub with_further_name : List (List ℕ) → List ℕ → List (List ℕ)
with_further_name before name = before ++ name ∷ []

abbrev pub with_label : List (List ℕ) → Label → List (List ℕ)
with_label before l = with_further_name before l.name

abbrev pub label_field : ℕ → List (List ℕ) → List ℕ → Field Label
label_field statements before bytes = do
  statement ← number_at 0 (statements + 1) bytes
  name ← name_at before statement.1
  Ok (record { statement = statement.0; name = name.0 }, name.1)

-- the numbers of statements, labels, publics and externals
pub record Counts : Type 0 where
  pub statements : ℕ
  pub labels : ℕ
  pub publics : ℕ
  pub externals : ℕ

abbrev pub counts_at : List ℕ → Field Counts
counts_at bytes = do
  statements ← number_at 0 (MOST_STATEMENTS + 1) bytes
  labels ← number_at 0 (MOST_NAMES + 1) statements.1
  publics ← word_field labels.1
  externals ← number_at 0 (MOST_NAMES + 1 - labels.0) publics.1
  Ok (record { statements = statements.0; labels = labels.0; publics = publics.0; externals = externals.0 }, externals.1)

abbrev pub entry_field : Bool → ℕ → List ℕ → Field (Option ℕ)
entry_field false labels bytes = Ok (None, bytes)
entry_field true labels bytes = do
  label ← number_at 0 labels bytes
  Ok (Some label.0, label.1)

-- the flags: a byte below 4
abbrev pub flags_at : List ℕ → Field ℕ
flags_at = tested_field (λ f. nat_lt f 4) byte_field

pub record Header : Type 0 where
  pub name : List ℕ
  pub begins : Bool
  pub counts : Counts
  pub entry : Option ℕ

abbrev pub header_at : List ℕ → Field Header
header_at bytes = do
  name ← counted_at bytes
  flags ← flags_at name.1
  counts ← counts_at flags.1
  entry ← entry_field (nat_le 2 flags.0) counts.0.labels counts.1
  Ok (record { name = name.0; begins = flags.0 % 2 == 1; counts = counts.0; entry = entry.0 }, entry.1)

abbrev pub statements_at : Bool → Counts → List ℕ → Field (List ModuleStatement)
statements_at grow counts bytes = each_field (statement_at grow ((counts.statements + 1) + counts.externals)) counts.statements bytes

abbrev pub labels_at : Counts → List ℕ → Field (List Label)
labels_at counts bytes = many (label_field counts.statements) with_label [] counts.labels bytes

-- the number of a label: below `labels`, and `least` or more, so publics ascend
abbrev pub public_at : ℕ → ℕ → List ℕ → Field ℕ
public_at labels least = number_at least labels

abbrev pub publics_at : Counts → List ℕ → Field (List ℕ)
publics_at counts bytes = many (public_at counts.labels) (λ _ p. p + 1) 0 counts.publics bytes

abbrev pub externals_at : Counts → List (List ℕ) → List ℕ → Field (List (List ℕ))
externals_at counts labels bytes = many name_at with_further_name labels counts.externals bytes

pub record Lists : Type 0 where
  pub labels : List Label
  pub publics : List ℕ
  pub externals : List (List ℕ)

abbrev pub lists_at : Counts → List ℕ → Field Lists
lists_at counts bytes = do
  labels ← labels_at counts bytes
  publics ← publics_at counts labels.1
  externals ← externals_at counts (map (λ l. l.name) labels.0) publics.1
  Ok (record { labels = labels.0; publics = publics.0; externals = externals.0 }, externals.1)

abbrev pub module_at : Bool → List ℕ → Field Module
module_at grow bytes = do
  header ← header_at bytes
  statements ← statements_at grow header.0.counts header.1
  lists ← lists_at header.0.counts statements.1
  Ok (
    record {
      name = header.0.name;
      begins = header.0.begins;
      entry = header.0.entry;
      grow = grow;
      statements = statements.0;
      labels = lists.0.labels;
      publics = lists.0.publics;
      externals = lists.0.externals;
    },
    lists.1,
  )

-- the error of a field as an error of the whole file of `len` bytes: how many bytes are before the field, not how many are left
abbrev pub fault_in : ℕ → FieldFault → ObjectFault
fault_in len field.Truncated = fault.Truncated
fault_in len (field.BadField left) = fault.BadField (len - left)
fault_in len field.NoMemory = fault.NoMemory

-- no bytes may be left after the module
abbrev pub unless_bytes_left : {A : Type 0} → A → List ℕ → Result A ObjectFault
unless_bytes_left m [] = Ok m
unless_bytes_left m (b ∷ rest) = Err fault.Trailing

abbrev pub all_of : {A : Type 0} → ℕ → Field A → Result A ObjectFault
all_of len (Ok x) = unless_bytes_left x.0 x.1
all_of len (Err f) = Err (fault_in len f)

abbrev pub read_behind : Option Bool → List ℕ → Result Module ObjectFault
read_behind None bytes = Err fault.Magic
read_behind (Some grow) bytes = all_of (length bytes) (module_at grow (drop 4 bytes))

abbrev pub read_of : List ℕ → Result Module ObjectFault
read_of bytes = read_behind (grow_of (take 4 bytes)) bytes

-- a call's answer, with the module as definitions see it
abbrev pub answered_module : Result whole.Module ObjectFault → Result Module ObjectFault
answered_module (Ok m) = Ok (module_of m)
answered_module (Err f) = Err f

-- The call answered what `read_of` gives. If memory ran out, nothing is claimed.
abbrev pub AnswersAsRead : Result Module ObjectFault → Result Module ObjectFault → Type 0
AnswersAsRead (Ok m) read = read ≡ Ok m
AnswersAsRead (Err fault.NoMemory) read = Unit {0}
AnswersAsRead (Err fault.Magic) read = read ≡ Err fault.Magic
AnswersAsRead (Err fault.Truncated) read = read ≡ Err fault.Truncated
AnswersAsRead (Err (fault.BadField offset)) read = read ≡ Err (fault.BadField offset)
AnswersAsRead (Err fault.Trailing) read = read ≡ Err fault.Trailing
