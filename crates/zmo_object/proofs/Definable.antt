-- Decides by a test which names a source can define.
use Rattle.std.proofs.Common.{◌≡◌, ◌&&◌, ℕ, Bool, false, not, List, [], ◌∷◌}
use Rattle.std.specs.Bool.{Decides}
use Rattle.std.specs.List.{list_all}
use Rattle.std.specs.Str.{bytes_eq}
use Rattle.std.proofs.lemmas.Bool.{not-true, not_from_false}
use Rattle.std.proofs.lemmas.Bool.Decides.{Decides-and, Decides-like}
use Rattle.std.proofs.lemmas.List.Sums.{AllPass-from_list_all, list_all-from_AllPass}
use Rattle.std.proofs.lemmas.Slice.Eq.{bytes_eq-Decides}
use Rattle.asm_line.specs.Classes.{begins_name, continues_name}
use Rattle.asm_line.specs.Tokens.{IsName}
use Rattle.common.specs.Words.{upper, is_reserved}
use Rattle.asm_parse.specs.Names.{IsDefinable}
use Rattle.zmo_object.specs.Reading.{is_definable, is_spelled}

spelled : (name : List ℕ) → Decides (is_spelled name) (IsName name)
spelled [] = (λ e. cc, λ n. absurd n)
spelled (b ∷ more) =
    Decides-and (begins_name b) (list_all continues_name more) (λ e. e, λ e. e)
    (AllPass-from_list_all continues_name more, list_all-from_AllPass continues_name more)

free : (b : Bool) → Decides (not b) (b ≡ false)
free b = (not-true b, not_from_false b)

pub definable : (name : List ℕ) → Decides (is_definable name) (IsDefinable name)
definable name =
    let tests = Decides-and (is_spelled name && bytes_eq (upper name) name) (not (is_reserved name))
    (Decides-and (is_spelled name) (bytes_eq (upper name) name) (spelled name) (bytes_eq-Decides (upper name) name)) (free (is_reserved name)) in
    Decides-like (is_definable name) (λ d. record { name = d.0.0; upper_case = d.0.1; free = d.1 }) (λ d. ((d.name, d.upper_case), d.free)) tests
