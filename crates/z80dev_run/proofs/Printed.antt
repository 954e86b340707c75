-- What is printed for bytes, and then for more.
use Rattle.std.proofs.Common.{◌≡◌, ◌∙◌, ◌≢◌, ℕ, Bool, List, [], ◌∷◌, ◌++◌, Option, ap, append_assoc, refl, sym}
use Rattle.std.specs.Io.KnownBytes.{Appends, Keeps, append_known}
use Rattle.std.proofs.KnownBytes.{append_known-moved}
use Rattle.cpm_console.specs.Codes.{next, next_for, screen_text, shown_for}
use Rattle.cpm_console.specs.declared.codes.Codes.{Codes}
use Rattle.cpm_console.specs.declared.codes.Codes.TheVariants.{Plain, Adm3a, Vt52}
use Rattle.cpm_console.specs.declared.codes.Pending.{Pending}
use Rattle.cpm_console.specs.Seat.{ShowsBytes}
use Rattle.z80dev_run.specs.Desk.{printed_for, seat_of}
use Rattle.z80dev_run.specs.declared.desk.Keys.{Keys}

pub screen_text-append : (whose : Codes) (pending : Pending) (bytes more : List ℕ)
    → screen_text whose pending (bytes ++ more) ≡ screen_text whose pending bytes ++ screen_text whose (next whose pending bytes) more
screen_text-append whose pending [] more = refl
screen_text-append whose pending (byte ∷ bytes) more =
    ap (λ text. shown_for whose pending byte ++ text) (screen_text-append whose (next_for whose pending byte) bytes more)
    ∙ sym (append_assoc (shown_for whose pending byte) (screen_text whose (next_for whose pending byte) bytes) _)

-- Codes that are shown: what was printed for bytes stays in output, and what is printed for more comes after it.
pub printed_on : (whose : Codes) (pending : Pending) (bytes more : List ℕ) (old new : Option (List ℕ)) → whose ≢ Plain → Appends old new (screen_text whose pending bytes)
    → Keeps (append_known old (printed_for whose pending (bytes ++ more))) (append_known new (printed_for whose (next whose pending bytes) more))
printed_on Plain pending bytes more old new coded printed = absurd (coded refl)
printed_on Adm3a pending bytes more old new coded printed = append_known-moved old new _ _ _ printed (screen_text-append Adm3a pending bytes more)
printed_on Vt52 pending bytes more old new coded printed = append_known-moved old new _ _ _ printed (screen_text-append Vt52 pending bytes more)

pub shows_bytes : (whose after : Codes) (pending begun : Pending) (keys : Keys) (is_leaving : Bool) (input old new : Option (List ℕ)) (bytes : List ℕ)
    → whose ≢ Plain → after ≡ whose → begun ≡ next whose pending bytes → Appends old new (screen_text whose pending bytes)
    → ShowsBytes bytes (seat_of whose pending keys is_leaving input old) (seat_of after begun keys is_leaving input new)
shows_bytes whose after pending begun keys is_leaving input old new bytes coded same_codes goes_on printed = record {
  screen = λ more. rw (same_codes, goes_on) (printed_on whose pending bytes more old new coded printed);
  coming = refl;
  leaves = refl;
  events = refl;
}
