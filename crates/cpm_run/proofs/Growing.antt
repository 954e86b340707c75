-- The echo of a line grows with its bytes.
use Rattle.std.proofs.Common.{◌≡◌, ◌++◌, ◌∷◌, ℕ, Bool, true, false, List, [], map, refl, sym, ap, ◌∙◌, append_assoc, append-nil}
use Rattle.std.specs.Prelude.{◌==◌, if◌then◌else◌, length, nat_le}
use Rattle.cpm_console.specs.Dialog.{Event, Put, Took, put_by}
use Rattle.cpm_console.specs.Line.{Edit, EditedLine, NoInput, Transcript, WarmBoot, after_edit, after_key, edited, key_of, line_ended, line_transcript, preceded_by, transcript}
use Rattle.cpm_console.specs.Screen.{column_after}
use Rattle.cpm_console.specs.Text.{text_shown}

-- the second puts what the first puts, and then some bytes
abbrev pub Grows : Transcript → Transcript → Type 0
Grows few many = (rest : List ℕ) × (put_by many.events ≡ put_by few.events ++ rest)

same : (t : Transcript) → Grows t t
same t = ([], sym (append-nil (put_by t.events)))

put_first : (bytes : List ℕ) (events : List Event) → put_by (map Put bytes ++ events) ≡ bytes ++ put_by events
put_first [] events = refl
put_first (byte ∷ bytes) events = ap (λ l. byte ∷ l) (put_first bytes events)

after_edit_grows : (e : Edit) (line : EditedLine) (few many : EditedLine → Transcript) → ((l : EditedLine) → Grows (few l) (many l)) → Grows (after_edit e line few) (after_edit e line many)
after_edit_grows e line few many grows =
    let bytes = text_shown line.column e.text in
    let after : EditedLine = record { bytes = e.bytes; start = e.start; column = column_after line.column bytes } in
    let more = grows after in (
      more.0,
      put_first bytes (many after).events ∙ ap (λ (l : List ℕ). bytes ++ l) more.1 ∙ sym (append_assoc bytes (put_by (few after).events) more.0)
          ∙ ap (λ (l : List ℕ). l ++ more.0) (sym (put_first bytes (few after).events)),
    )

tested : {A : Type 0} (P : A → Type 0) (b : Bool) (one other : A) → P one → P other → P (if b then one else other)
tested P true one other first second = first
tested P false one other first second = second

-- what holds of the meaning of each byte
by_byte : {A : Type 0} (P : A → Type 0) (byte : ℕ) (end take_out rub_out anew wipe_out new_line retype break other : A) → P end → P take_out → P rub_out → P anew → P wipe_out → P new_line → P retype → P break → P other
    → P (if byte == 0x0D then end else if byte == 0x0A then end else if byte == 0x08 then take_out else if byte == 0x7F then rub_out else if byte == 0x15 then anew else if byte == 0x18 then wipe_out
    else if byte == 0x05 then new_line else if byte == 0x12 then retype else if byte == 0x03 then break else other)
by_byte P byte end take_out rub_out anew wipe_out new_line retype break other ends takes rubs anews wipes lines retypes breaks others =
    tested P (byte == 0x0D) end _ ends (tested P (byte == 0x0A) end _ ends (tested P (byte == 0x08) take_out _ takes (tested P (byte == 0x7F) rub_out _ rubs (tested P (byte == 0x15) anew _ anews
    (tested P (byte == 0x18) wipe_out _ wipes (tested P (byte == 0x05) new_line _ lines (tested P (byte == 0x12) retype _ retypes (tested P (byte == 0x03) break _ breaks others))))))))

-- A key puts the same whatever follows. 41H is an ordinary byte.
after_key_grows : (byte : ℕ) (line : EditedLine) (few many : EditedLine → Transcript) → ((l : EditedLine) → Grows (few l) (many l)) → Grows (after_key (key_of byte) byte line few) (after_key (key_of byte) byte line many)
after_key_grows byte line few many grows =
    by_byte (λ key. Grows (after_key key byte line few) (after_key key byte line many)) byte (key_of 0x0D) (key_of 0x08) (key_of 0x7F) (key_of 0x15) (key_of 0x18) (key_of 0x05) (key_of 0x12) (key_of 0x03) (key_of 0x41)
    (same (line_ended line))
    (after_edit_grows (edited (key_of 0x08) byte line) line few many grows)
    (after_edit_grows (edited (key_of 0x7F) byte line) line few many grows)
    (after_edit_grows (edited (key_of 0x15) byte line) line few many grows)
    (after_edit_grows (edited (key_of 0x18) byte line) line few many grows)
    (after_edit_grows (edited (key_of 0x05) byte line) line few many grows)
    (after_edit_grows (edited (key_of 0x12) byte line) line few many grows) (by_bytes (length line.bytes == 0))
    (after_edit_grows (edited (key_of 0x41) byte line) line few many grows)
  where
    by_bytes : (none : Bool) → Grows (if none then transcript [] WarmBoot else after_edit (edited (key_of 0x03) byte line) line few) (if none then transcript [] WarmBoot else after_edit (edited (key_of 0x03) byte line) line many)
    by_bytes true = same (transcript [] WarmBoot)
    by_bytes false = after_edit_grows (edited (key_of 0x03) byte line) line few many grows

-- A line is read from left to right, so what is put for its first bytes is put first whatever follows them.
pub line_grows : (room : ℕ) (line : EditedLine) (input more : List ℕ) → Grows (line_transcript room line input) (line_transcript room line (input ++ more))
line_grows room line [] [] = same (line_transcript room line [])
line_grows room line [] (byte ∷ more) = by_room (nat_le room (length line.bytes)) where
  by_room : (full : Bool) → Grows (if full then line_ended line else transcript [] NoInput)
      (if full then line_ended line else preceded_by (Took byte ∷ []) (after_key (key_of byte) byte line (λ l. line_transcript room l more)))
  by_room true = same (line_ended line)
  by_room false = (put_by (after_key (key_of byte) byte line (λ l. line_transcript room l more)).events, refl)
line_grows room line (byte ∷ input) more = by_room (nat_le room (length line.bytes)) (λ l. line_grows room l input more) where
  by_room : (full : Bool) → ((l : EditedLine) → Grows (line_transcript room l input) (line_transcript room l (input ++ more)))
      → Grows (if full then line_ended line else preceded_by (Took byte ∷ []) (after_key (key_of byte) byte line (λ l. line_transcript room l input)))
      (if full then line_ended line else preceded_by (Took byte ∷ []) (after_key (key_of byte) byte line (λ l. line_transcript room l (input ++ more))))
  by_room true grows = same (line_ended line)
  by_room false grows = after_key_grows byte line (λ l. line_transcript room l input) (λ l. line_transcript room l (input ++ more)) grows
