-- The labels and the listing of a program that is debugged.
use Rattle.std.proofs.Common.{◌≡◌, ℕ, Bor, List, [], Option, None, Some, Ok, Err, Vec, ap, map, option_map, refl, sym}
use Rattle.std.specs.Prelude.{unwrap_or}
use Rattle.std.specs.Global.{Global}
use Rattle.state_text.specs.Labelled.{symbol_parts}
use Rattle.state_text.specs.declared.labels.Symbol.{Symbol}
use Rattle.disassembler.specs.Reading.{label_parts}
use Rattle.host.specs.declared.end.End.{End}
use Rattle.z80dev_jobs.specs.Private.Debugging.{AreSymbols}
use Rattle.z80dev_jobs.specs.Runs.Telling.{AreKnown, AreNotKnown}
use Rattle.z80dev_run.specs.Labelled.{Known}

pub not_known : (text : Option (List ℕ)) (e : End) → AreSymbols text (Err e) → AreNotKnown text e
not_known None e is = is
not_known (Some text) e is = is

-- the labels that symbols are
pub record AreLabelsOf (text : Option (List ℕ)) (size : ℕ) (symbols : List (ℕ × List ℕ)) : Type 0 where
  pub known : Known
  pub are : AreKnown text size known
  pub same : symbols ≡ known.labels

pub known_by : (text : Option (List ℕ)) (size : ℕ) (symbols : Vec Symbol Global) → AreSymbols text (Ok symbols) → AreLabelsOf text size (map symbol_parts symbols.items)
known_by None size symbols is = record { known = record { labels = []; size = size }; are = refl; same = ap (map symbol_parts) is }
known_by (Some text) size symbols (found, labels, same) = record { known = record { labels = map label_parts found.items; size = size }; are = (found, labels, refl); same = same }

-- no listing is an empty one
pub listed : (given : Option (Bor (List ℕ))) (bytes : Option (List ℕ)) (other : Bor (List ℕ)) → option_map (λ b. b.now) given ≡ bytes → other.now ≡ []
    → (unwrap_or given other).now ≡ unwrap_or bytes []
listed None None other same is = is
listed None (Some text) other same is = absurd (cc)
listed (Some given) None other same is = absurd (cc)
listed (Some given) (Some text) other same is = let e : given.now ≡ text = cc in e
