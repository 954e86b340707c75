use Rattle.std.proofs.Common.{◌≡◌, ◌++◌, ◌∙◌, ℕ, List, Result, Ok, Err, OnOk, ap, append_assoc}
use Rattle.state_text.specs.Labelled.{label_after, target_label}
use Rattle.state_text.specs.Printing.Columns.{word_text}
use Rattle.debugger.specs.Addresses.{address_with_label}
use Rattle.debugger.proofs.text.put_address.Goals as goal

-- two texts, one after the other; there may be no room for the second
two : {T E : Type 0} (r : Result T E) (old first mid second meant new : List ℕ) → mid ≡ old ++ first → second ≡ meant → OnOk r (new ≡ mid ++ second) → OnOk r (new ≡ old ++ (first ++ meant))
two (Ok done) old first mid second meant new a same b =
    b ∙ ap (λ (xs : List ℕ). xs ++ second) a ∙ append_assoc old first second ∙ ap (λ (xs : List ℕ). old ++ (first ++ xs)) same
two (Err fault) old first mid second meant new a same b = tt

pub returns : goal.returns
unfolding address_with_label
returns c =
    two c.put_label_after.result c.args.text.now.items (word_text c.args.address) c.put_word.new.out.items _ (label_after (target_label c.args.labels.now c.args.address)) c.put_label_after.new.text.items
    c.in_ok-put_word.ensures (ap label_after c.target.ensures) c.put_label_after.ensures
