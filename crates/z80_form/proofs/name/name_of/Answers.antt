use Rattle.std.proofs.Common.{◌≡◌, ◌∙◌, ap, sym, refl}
use Rattle.z80_form.specs.Named.{name_named}
use Rattle.z80_form.specs.Private.Lists.{name_read}
use Rattle.z80_form.proofs.name.name_of.Goals as goal
use Rattle.z80_form.proofs.Words.Lookup.{name_named_is, name_spelled, long_name}

read : (c : goal.After-read) → c.read.result ≡ name_named c.args.word.now
read c = c.read.ensures ∙ ap name_read (c.as_slice.ensures ∙ c.in_ok-buffer.ensures.short) ∙ sym (name_named_is c.args.word.now)

pub returns-clause-spelled : goal.returns-clause-spelled
returns-clause-spelled c = λ n. rw (read c) (name_spelled c.args.word.now n)

pub returns-clause-named : goal.returns-clause-named
returns-clause-named c = read c

pub returns-in_err-buffer-clause-named : goal.returns-in_err-buffer-clause-named
returns-in_err-buffer-clause-named c = c.from_residual.ensures ∙ sym (long_name c.args.word.now (c.in_err-buffer.ensures.long refl))
