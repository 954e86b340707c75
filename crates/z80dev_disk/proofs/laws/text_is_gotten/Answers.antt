use Rattle.z80dev_disk.proofs.Put_is_gotten.{text_is_gotten}
use Rattle.z80dev_disk.proofs.laws.text_is_gotten.Goals as goal

pub returns : goal.returns
returns c = text_is_gotten
