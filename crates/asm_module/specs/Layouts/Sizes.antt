-- The sizes of the statements of a module.
use Rattle.std.specs.Prelude.{length, List, map}
use Rattle.asm_expr.specs.Types.{Statement}
use Rattle.zmo_object.specs.Modules as object

-- a relaxable jump has no fixed size; any other statement takes the same number of bytes in every choice
abbrev pub size_in_module : object.ModuleStatement → Statement
size_in_module (object.Bytes bytes holes) = Statement.Sized (length bytes)
size_in_module (object.Jump marked condition target) = Statement.Relaxable
size_in_module (object.Short branch target) = Statement.Sized 2
size_in_module (object.Space size fill) = Statement.Sized size

abbrev pub sizes : List object.ModuleStatement → List Statement
sizes statements = map size_in_module statements
