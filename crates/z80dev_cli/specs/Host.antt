-- The files of the system as a promise sees them: what they hold is not known.
use Rattle.std.specs.Prelude.{Bool, None, String, string_bytes, true}
use Rattle.host.specs.Files.{Claim, Lock, Part, Placement, lock_of}
use Rattle.std.specs.Global.{Global}
use Rattle.z80dev_cli.specs.declared.files.lock.HeldLock.{HeldLock}
use Rattle.z80dev_cli.specs.declared.files.part.Part as part

abbrev pub held_lock : HeldLock → Lock
held_lock l = lock_of (string_bytes l.path) l.is_wanted l.is_held

-- Which bytes were read and written is not known, so the tests accept all.
abbrev pub held_claim : String Global → Claim
held_claim path = record { path = string_bytes path; accepts = λ _. true }

abbrev pub written_part : part.Part → Part
written_part p = record { path = string_bytes p.names.path; bytes = None; accepts = λ _. true; synced = p.is_synced }

abbrev pub placement_by : Bool → Placement
placement_by keep = record { accepts = λ _. true; keep = keep }
