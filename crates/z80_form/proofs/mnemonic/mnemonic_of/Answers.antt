use Rattle.std.proofs.Common.{◌≡◌, ◌∙◌, ap, sym, refl}
use Rattle.z80_form.specs.Named.{mnemonic_named}
use Rattle.z80_form.specs.Private.Lists.{mnemonic_read}
use Rattle.z80_form.proofs.mnemonic.mnemonic_of.Goals as goal
use Rattle.z80_form.proofs.Words.Lookup.{mnemonic_named_is, mnemonic_spelled, long_mnemonic}

read : (c : goal.After-read) → c.read.result ≡ mnemonic_named c.args.name.now
read c = c.read.ensures ∙ ap mnemonic_read (c.as_slice.ensures ∙ c.in_ok-buffer.ensures.short) ∙ sym (mnemonic_named_is c.args.name.now)

pub returns-clause-spelled : goal.returns-clause-spelled
returns-clause-spelled c = λ m. rw (read c) (mnemonic_spelled c.args.name.now m)

pub returns-clause-named : goal.returns-clause-named
returns-clause-named c = read c

pub returns-in_err-buffer-clause-named : goal.returns-in_err-buffer-clause-named
returns-in_err-buffer-clause-named c = c.from_residual.ensures ∙ sym (long_mnemonic c.args.name.now (c.in_err-buffer.ensures.long refl))
