-- What a command works on, as a promise sees it.
use Rattle.host.specs.Streams.Stream.{Stream}
use Rattle.host.specs.Files.{Folder}
use Rattle.host.specs.Reading.{Reader}

-- the files, standard input, standard output and standard error
pub record World : Type 0 where
  pub folder : Folder
  pub input : Reader
  pub output : Stream
  pub errors : Stream

abbrev pub world_of : Folder → Reader → Stream → Stream → World
world_of folder input output errors = record { folder = folder; input = input; output = output; errors = errors }
