use Rattle.z80dev_disk.proofs.Put_is_gotten.{put_is_gotten}
use Rattle.z80dev_disk.proofs.laws.put_is_gotten.Goals as goal

pub returns : goal.returns
returns c = put_is_gotten
