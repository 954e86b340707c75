use Rattle.std.proofs.Common.{◌≡◌, ◌++◌, ◌≤◌, drop, map}
use Rattle.std.specs.List.{enumerate_from, flat_map, zip}
use Rattle.zlink.specs.Built.{origin_of}
use Rattle.program_map.specs.Listings.Listing.{file_bytes, listed_source, listed_statements}
use Rattle.program_map.specs.Listings.Listing as spec
use Rattle.program_map.specs.Private.Runs.{HasLines, cells_in}
use Rattle.program_map.proofs.listings.lines.listing.Given as goal

-- The sources so far and those that are left are all sources, and the cells that are left are all cells of the sources that are left.
abbrev pub invariant-loop-number : goal.invariant-loop-number
invariant-loop-number l =
    let statements = listed_statements (file_bytes l.built.com.items) (map origin_of l.built.statements.items) in
    record {
      rest : HasLines (λ source line. l.number ≤ source) l.rest (flat_map cells_in statements);
      all : l.out.items ++ flat_map (λ s. listed_source statements s.0 s.1.0 s.1.1.text.now) (enumerate_from l.number (zip (drop l.number l.built.last.items) (drop l.number l.sources)))
          ≡ spec.listing l.built l.sources;
    }
