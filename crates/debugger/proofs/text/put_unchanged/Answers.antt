use Rattle.std.proofs.Common.{◌≡◌, ◌++◌, ◌∷◌, ◌∙◌, ℕ, List, [], Result, Ok, Err, OnOk, ap, append_assoc, codes}
use Rattle.std.specs.Bool.{if◌then◌else◌}
use Rattle.std.specs.Result.{is_ok}
use Rattle.debugger.specs.Addresses.{address_with_label}
use Rattle.debugger.proofs.text.put_unchanged.Goals as goal

-- three texts, one after the other; there may be no room for the last
three : {T E : Type 0} (r : Result T E) (old first mid middle next last new : List ℕ) → mid ≡ old ++ first → next ≡ mid ++ middle → new ≡ (if is_ok r then next ++ last else next)
    → OnOk r (new ≡ old ++ (first ++ (middle ++ last)))
three (Ok done) old first mid middle next last new a b d =
    d ∙ ap (λ (xs : List ℕ). xs ++ last) (b ∙ ap (λ (xs : List ℕ). xs ++ middle) a) ∙ append_assoc (old ++ first) middle last ∙ append_assoc old first (middle ++ last)
three (Err fault) old first mid middle next last new a b d = tt

pub returns : goal.returns
returns c =
    three c.extend_from_slice-2.result c.args.text.now.items (codes "no turn has changed ") c.extend_from_slice.new.self.items (address_with_label c.args.labels.now c.args.address) c.put_address.new.text.items (10 ∷ []) c.extend_from_slice-2.new.self.items
    c.in_ok-extend_from_slice.ensures.items c.in_ok-put_address.ensures c.extend_from_slice-2.ensures.items
