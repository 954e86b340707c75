-- The numbers of an instruction that depend on addresses.
use Rattle.std.proofs.Common.{◌≡◌, ◌⊎◌, inl, inr, ◌<◌, ℕ, suc, ◌-◌, ◌/◌, ◌%◌, true, ◌||◌, List, [], ◌∷◌, ◌++◌, Some, ℤ, All, length, refl, sym, ap, subst, ◌∙◌, arith, length-append}
use Rattle.std.proofs.lemmas.Bool.{lt-ltb}
use Rattle.asm_parse.specs.declared.item.Item.{Item}
use Rattle.asm_expr.specs.Below.{Atom, value, tree}
use Rattle.z80_instr.specs.Codes.{in_range}
use Rattle.z80_instr.specs.Table.{canonical, octal_of, word}
use Rattle.z80_instr.specs.declared.InterruptMode.{InterruptMode}
use Rattle.z80_instr.specs.declared.Octal.{Octal}
use Rattle.z80_instr.specs.declared.Instr.{Instr}
use Rattle.z80_form.specs.declared.field.Field.{Field}
use Rattle.z80_form.specs.Numbers.{allows, but_last, is_negative, mode_of, number_field, signed, with_bit, with_byte, with_displacement, with_distance, with_mode, with_number, with_restart, with_word_operand}
use Rattle.asm_stmt.specs.declared.cell.Filling.{Filling}
use Rattle.zmo_object.specs.declared.module.hole.Width.{Width}
use Rattle.asm_stmt.specs.Cells.{hole, number_or_0, written}
use Rattle.zmo_object.specs.Holes.{width_size}
use Rattle.asm_stmt.specs.Made.{code_hole}
use Rattle.asm_module.specs.Program.Linked.{filled}
use Rattle.asm_module.proofs.Program.Fillings.{IsFit, worth_at}
use Rattle.asm_module.proofs.Program.Holes.{one_filled}
use Rattle.asm_module.proofs.Program.Rows.{Rows}

-- A displacement and another number may be put in in either order.
byte_first : (d : ℤ) (n : ℕ) (instr : Instr) → with_displacement d (with_byte n instr) ≡ with_byte n (with_displacement d instr)
byte_first d n (Instr.LoadByte m k) = refl
byte_first d n instr = refl

word_first : (d : ℤ) (n : ℕ) (instr : Instr) → with_displacement d (with_word_operand n instr) ≡ with_word_operand n (with_displacement d instr)
word_first d n (Instr.Jump k) = refl
word_first d n instr = refl

distance_first : (d e : ℤ) (instr : Instr) → with_displacement d (with_distance e instr) ≡ with_distance e (with_displacement d instr)
distance_first d e (Instr.Djnz k) = refl
distance_first d e instr = refl

bit_first : (d : ℤ) (b : Octal) (instr : Instr) → with_displacement d (with_bit b instr) ≡ with_bit b (with_displacement d instr)
bit_first d b (Instr.Bit c m) = refl
bit_first d b instr = refl

mode_first : (d : ℤ) (mode : InterruptMode) (instr : Instr) → with_displacement d (with_mode mode instr) ≡ with_mode mode (with_displacement d instr)
mode_first d mode (Instr.Im other) = refl
mode_first d mode instr = refl

restart_first : (d : ℤ) (b : Octal) (instr : Instr) → with_displacement d (with_restart b instr) ≡ with_restart b (with_displacement d instr)
restart_first d b (Instr.Restart c) = refl
restart_first d b instr = refl

pub swapped : (n : ℕ) (f : Field) (a : ℕ) (instr : Instr) → (f ≡ Field.Displacement → ⊥)
    → with_number Field.Displacement n (with_number f a instr) ≡ with_number f a (with_number Field.Displacement n instr)
swapped n Field.Byte a instr other = byte_first (signed n) (a % 256) instr
swapped n Field.Word a instr other = word_first (signed n) a instr
swapped n Field.Displacement a instr other = absurd (other refl)
swapped n Field.Distance a instr other = distance_first (signed n) (signed a) instr
swapped n Field.Bit a instr other = bit_first (signed n) (octal_of a) instr
swapped n Field.Mode a instr other = mode_first (signed n) (mode_of a) instr
swapped n Field.Restart a instr other = restart_first (signed n) (octal_of (a / 8)) instr

-- a field of an instruction is its displacement or its number
abbrev pub IsField : Instr → Field → Type 0
IsField instr f = (f ≡ Field.Displacement) ⊎ (number_field instr ≡ Some f)

pub byte_field : (instr : Instr) → IsField instr Field.Byte → number_field instr ≡ Some Field.Byte
byte_field instr (inl bad) = cc
byte_field instr (inr is) = is

pub word_field : (instr : Instr) → IsField instr Field.Word → number_field instr ≡ Some Field.Word
word_field instr (inl bad) = cc
word_field instr (inr is) = is

last_filled : (places : ℕ → ℕ) (front : List ℕ) (w : Width) (items : List (Item Atom)) (size : ℕ) → size - width_size w ≡ length front
    → filled places (front ++ written w 0) (hole (size - width_size w) w (Filling.Varying items)) ≡ front ++ written w (value places (tree items))
last_filled places front Width.Byte items size same =
    ap (λ n. filled places (front ++ written Width.Byte 0) (hole n Width.Byte (Filling.Varying items))) same ∙ one_filled places front Width.Byte (Filling.Varying items) [] []
last_filled places front Width.Word items size same =
    ap (λ n. filled places (front ++ written Width.Word 0) (hole n Width.Word (Filling.Varying items))) same ∙ one_filled places front Width.Word (Filling.Varying items) [] []

-- The fix-up of a number is filled.
pub number_filled : Rows → (places : ℕ → ℕ) (instr : Instr) (f : Field) (x : Filling) (size : ℕ) → size ≡ length (canonical instr) → IsField instr f → IsFit f x
    → filled places (canonical (with_number f (number_or_0 x) instr)) (code_hole size (f, x)) ≡ canonical (with_number f (worth_at places x) instr)
number_filled rows places instr f (Filling.Number n) size same is fit = refl
number_filled rows places instr f Filling.Unknown size same is fit = refl
number_filled rows places instr Field.Byte (Filling.Varying items) size same is fit =
    let row = λ (n : ℕ). rows.byte instr n (byte_field instr is) in
    let front = but_last 1 (canonical instr) in
    let far : size - 1 ≡ length front = omega (arith, same, rows.size Field.Byte 0 instr, ap length (row 0), length-append front (0 ∷ [])) in
    ap (λ bs. filled places bs (code_hole size (Field.Byte, Filling.Varying items))) (row 0) ∙ last_filled places front Width.Byte items size far ∙ sym (row (value places (tree items)))
number_filled rows places instr Field.Word (Filling.Varying items) size same is fit =
    let row = λ (n : ℕ). rows.word instr n (word_field instr is) in
    let front = but_last 2 (canonical instr) in
    let far : size - 2 ≡ length front = omega (arith, same, rows.size Field.Word 0 instr, ap length (row 0), length-append front (word 0)) in
    ap (λ bs. filled places bs (code_hole size (Field.Word, Filling.Varying items))) (row 0) ∙ last_filled places front Width.Word items size far ∙ sym (row (value places (tree items)))
number_filled rows places instr Field.Displacement (Filling.Varying items) size same is fit = absurd fit
number_filled rows places instr Field.Distance (Filling.Varying items) size same is fit = absurd fit
number_filled rows places instr Field.Bit (Filling.Varying items) size same is fit = absurd fit
number_filled rows places instr Field.Mode (Filling.Varying items) size same is fit = absurd fit
number_filled rows places instr Field.Restart (Filling.Varying items) size same is fit = absurd fit

-- A number that is put in is in the range of its type. For a word its bytes show this.
pub is_small : (front : List ℕ) (a b : ℕ) → All (λ n. n < 256) (front ++ a ∷ b ∷ []) → b < 256
is_small [] a b all = all 1 0 (omega arith)
is_small (x ∷ front) a b all = is_small front a b (λ k d h. all (suc k) d (omega (arith, h)))

byte_range : Rows → (instr : Instr) (n : ℕ) → in_range instr ≡ true → in_range (with_number Field.Byte n instr) ≡ true
byte_range rows instr n ok =
    let low : n % 256 < 256 = omega arith in
    let twice : (n % 256) % 256 ≡ n % 256 = omega arith in
    let allowed : allows Field.Byte (n % 256) ≡ true = ap (λ b. b || is_negative (n % 256)) (lt-ltb (n % 256) 256 low) in
    ap (λ k. in_range (with_byte k instr)) (sym twice) ∙ rows.range Field.Byte (n % 256) instr allowed ok

pub number_range : Rows → (places : ℕ → ℕ) (instr : Instr) (f : Field) (x : Filling) → IsField instr f → IsFit f x → in_range instr ≡ true
    → All (λ n. n < 256) (canonical (with_number f (worth_at places x) instr)) → in_range (with_number f (worth_at places x) instr) ≡ true
number_range rows places instr Field.Byte x is fit ok all = byte_range rows instr (worth_at places x) ok
number_range rows places instr Field.Word x is fit ok all =
    let v = worth_at places x in
    let high : v / 256 < 256 = is_small (but_last 2 (canonical instr)) (v % 256) (v / 256) (subst (All (λ n. n < 256)) (rows.word instr v (word_field instr is)) all) in
    let low : v < 65536 = omega (arith, high) in
    rows.range Field.Word v instr (lt-ltb v 65536 low) ok
number_range rows places instr Field.Displacement (Filling.Number n) is fit ok all = rows.range Field.Displacement n instr fit ok
number_range rows places instr Field.Distance (Filling.Number n) is fit ok all = rows.range Field.Distance n instr fit ok
number_range rows places instr Field.Bit (Filling.Number n) is fit ok all = rows.range Field.Bit n instr fit ok
number_range rows places instr Field.Mode (Filling.Number n) is fit ok all = rows.range Field.Mode n instr fit ok
number_range rows places instr Field.Restart (Filling.Number n) is fit ok all = rows.range Field.Restart n instr fit ok
number_range rows places instr f x is fit ok all = absurd fit
