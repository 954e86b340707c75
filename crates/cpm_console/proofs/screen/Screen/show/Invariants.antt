use Rattle.std.proofs.Common.{◌≡◌, ◌++◌, drop}
use Rattle.cpm_console.specs.Codes.{next, screen_text}
use Rattle.cpm_console.proofs.screen.Screen.show.Given as goal

abbrev pub invariant-loop-byte : goal.invariant-loop-byte
invariant-loop-byte l = record {
  codes : l.self.codes ≡ l.initial.self.codes;
  text : l.text.items ++ screen_text l.self.codes l.self.pending (drop l.byte-index l.bytes) ≡ l.initial.text.items ++ screen_text l.initial.self.codes l.initial.self.pending l.bytes;
  next : next l.self.codes l.self.pending (drop l.byte-index l.bytes) ≡ next l.initial.self.codes l.initial.self.pending l.bytes;
}
