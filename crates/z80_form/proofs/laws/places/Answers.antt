use Rattle.z80_form.proofs.laws.places.Goals as goal
use Rattle.z80_form.proofs.Places.{byte_last, word_last, distance_last, displacement_third}

pub returns-clause-byte : goal.returns-clause-byte
returns-clause-byte c = byte_last

pub returns-clause-word : goal.returns-clause-word
returns-clause-word c = word_last

pub returns-clause-distance : goal.returns-clause-distance
returns-clause-distance c = distance_last

pub returns-clause-displacement : goal.returns-clause-displacement
returns-clause-displacement c = displacement_third
