-- What the code finds out about a macro once, and what it then knows about each call.
use Rattle.std.specs.Prelude.{◌≡◌, ◌⊎◌, ◌≤◌, ◌<◌, ◌++◌, ℕ, Bool, true, false, List, [], Option, Some, None, length}
use Rattle.std.specs.List.{Contains}
use Rattle.std.specs.Map.{lookup}
use Rattle.std.specs.Option.{option_map}
use Rattle.std.specs.Str.{bytes_eq}
use Rattle.asm_line.specs.declared.replacing.names.Names.{Names}
use Rattle.asm_line.specs.Replacing.Replaced.{SaySame, ReplacementTable, arguments_of, local_names}
use Rattle.asm_line.specs.Replacing.Views.{in_call}
use Rattle.asm_line.specs.Replacing.Views as replaced
use Rattle.asm_text.specs.declared.call.Call.{Call}
use Rattle.asm_text.specs.declared.call.Macro.{Macro}
use Rattle.asm_text.specs.declared.open.Opened as open_by
use Rattle.asm_text.specs.declared.signs.Sign.{Sign}
use Rattle.asm_text.specs.declared.varying.Varying.{Varying}
use Rattle.asm_text.specs.Calls.{Opened, opened}
use Rattle.asm_text.specs.Prepared.{body_texts, said}
use Rattle.asm_text.specs.Stands.{Stands}
use Rattle.asm_text.specs.Plain.{ArePlain}

abbrev pub opened_seen : List (List ℕ) → open_by.Opened → Opened
opened_seen all o = record { locals = replaced.texts o.locals.items; lines = body_texts all o.rest }

-- Each name of the table t is one of the table u.
abbrev pub HasOnly : ReplacementTable → ReplacementTable → Type 0
HasOnly t u = (name : List ℕ) → lookup (bytes_eq name) u ≡ None → lookup (bytes_eq name) t ≡ None

-- In a call that replaces names by the table, only the lines at these places may have another role than they have as written, among
-- those from `from` to the one before `to`.
abbrev pub Suffice : List (List ℕ) → ℕ → ℕ → List ℕ → ReplacementTable → Type 0
Suffice texts from to places t = (k : ℕ) → from ≤ k → k < to → k < length texts → Contains places k ⊎ Stands texts (Some t) k

-- the places of the lines that may have another role, given whether all replacements are known to be plain to Sign.Word and to
-- Sign.Second
abbrev pub places_where : Bool → Bool → Varying → List ℕ
places_where false false v = v.places.items
places_where true false v = v.with_word.items
places_where false true v = v.with_second.items
places_where true true v = v.with_both.items

-- Whatever replaces these names, the lists of `Varying` name all lines whose role may differ; the shorter lists do if the
-- replacements are plain to their signs.
abbrev pub IsVarying : List (List ℕ) → ReplacementTable → Varying → Type 0
IsVarying texts names v =
    (t : ReplacementTable) → HasOnly t names → (word second : Bool) → (word ≡ true → ArePlain Sign.Word t) → (second ≡ true → ArePlain Sign.Second t)
    → Suffice texts v.at v.end (places_where word second v) t

-- The lists are right for the names of an opened body, and their range is all lines of it after the LOCAL lines.
abbrev pub VariesIn : List (List ℕ) → Names → Option open_by.Opened → Varying → Type 0
VariesIn texts names None v = Unit {0}
VariesIn texts names (Some o) v = (v.at ≡ o.rest.at) × (v.end ≡ o.rest.end) × IsVarying texts (in_call names [] 0) v

-- With any arguments and LOCAL numbers, the names of an opened body give the same replacements as its parameters and LOCAL names
-- do.
abbrev pub AreNames : List (List ℕ) → Option open_by.Opened → Names → Type 0
AreNames parameters None names = Unit {0}
AreNames parameters (Some o) names =
    (some : List (List ℕ)) (counter : ℕ) → SaySame (in_call names some counter) (arguments_of parameters some ++ local_names counter (replaced.texts o.locals.items))

-- What the code keeps about a macro is right: the opened body, its names, and the lines whose role may vary.
abbrev pub IsKeptMacro : List (List ℕ) → Macro → Type 0
IsKeptMacro texts m =
    (option_map (opened_seen texts) m.opened ≡ opened (body_texts texts m.body)) × AreNames (replaced.texts m.parameters.items) m.opened m.names.value
    × VariesIn texts m.names.value m.opened m.varying.value

-- the places of the lines that may have another role in this call
abbrev pub asked_places : Call → List ℕ
asked_places c = places_where c.plain.word c.plain.second c.varying.value

-- In the range of the call, only the lines at these places may have another role in the call than they have as written.
abbrev pub IsCall : List (List ℕ) → Call → Type 0
IsCall texts c = Suffice texts c.varying.value.at c.varying.value.end (asked_places c) (said c)
