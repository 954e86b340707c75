-- Addresses as the answers of a session print them.
use Rattle.std.specs.Prelude.{ℕ, List}
use Rattle.state_text.specs.Labelled.{Known, labelled_address}

-- an address with its label; under a name that proofs do not open by themselves, since nearly every answer has such an address
unfoldable pub address_with_label : Known → ℕ → List ℕ
address_with_label known address = labelled_address known address
