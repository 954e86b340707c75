use Rattle.zmo_object.specs.Modules.{module_of}
use Rattle.zmo_object.specs.Rules.{refs_of}
use Rattle.zmo_object.proofs.Fits.{externals_short, header_fits, labels_short, statements_fit}
use Rattle.zmo_object.proofs.writing.write.Goals as goal

pub put_header-requires : goal.put_header-requires
put_header-requires c = header_fits (module_of c.args.«module».now) c.requires

pub put_statements-requires : goal.put_statements-requires
put_statements-requires c = rw c.deref.ensures.value (statements_fit c.args.«module».now.grow (refs_of (module_of c.args.«module».now)) c.args.«module».now.statements.items c.requires.statements)

pub put_labels-requires : goal.put_labels-requires
put_labels-requires c = rw c.deref-2.ensures.value (labels_short c.args.«module».now.labels.items _ c.requires.labels)

pub put_externals-requires : goal.put_externals-requires
put_externals-requires c = rw c.deref-4.ensures.value (externals_short c.args.«module».now.externals.items c.requires.externals)
