use Rattle.std.proofs.Common.{◌≡◌, ◌++◌, length, map}
use Rattle.std.specs.List.{flat_map}
use Rattle.zlink.specs.Built.{origin_of}
use Rattle.program_map.specs.Listings.Listing.{file_bytes, listed_statements}
use Rattle.program_map.specs.Private.Runs.{cells_in}
use Rattle.program_map.proofs.listings.cells.all_cells.Given as goal

-- The bytes so far and those of the statements that are left are all bytes.
abbrev pub invariant-loop-origin : goal.invariant-loop-origin
invariant-loop-origin l =
    l.cells.items ++ flat_map cells_in (listed_statements (file_bytes l.file) (map origin_of l.rest)) ≡ flat_map cells_in (listed_statements (file_bytes l.file) (map origin_of l.fn.statements))

abbrev pub decreases-loop-origin : goal.decreases-loop-origin
decreases-loop-origin l = length l.rest
