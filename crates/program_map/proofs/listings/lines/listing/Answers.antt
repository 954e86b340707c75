use Rattle.std.proofs.Common.{◌≡◌, ◌∙◌, [], append-nil, drop, map}
use Rattle.std.proofs.lemmas.List.{drop_all}
use Rattle.zlink.specs.Built.{origin_of}
use Rattle.program_map.specs.Listings.Listing.{file_bytes, listed_statements}
use Rattle.program_map.proofs.Listed.Whole.{source_more, sources_more, zip_nil}
use Rattle.program_map.proofs.listings.lines.listing.Goals as goal

pub loop-number-preserved : goal.loop-number-preserved
loop-number-preserved c =
    let before = c.loop-number.invariant in
    let b = c.args.built.now in
    let text = rw (c.in-Some.ensures.lookup.3.1 0, c.deref-in-loop-number.ensures.value) at c.in_ok-rest.ensures.text in
    let within = rw c.deref-in-loop-number.ensures.value at c.in-Some.ensures.lookup.3.0 in
    record {
      rest = source_more c.loop-number.number _ _ _ c.in_ok-rest.ensures.rest before.rest;
      all = sources_more (listed_statements (file_bytes b.com.items) (map origin_of b.statements.items)) c.loop-number.number b.last.items c.args.sources.now 0 _ c.loop-number.rest.now
          c.loop-number.out.items _ within c.loop-number-test.true before.rest text ∙ before.all;
    }

pub returns : goal.returns
returns c =
    let none : drop c.loop-number.number c.args.sources.now ≡ [] = drop_all _ _ c.loop-number-test.false in
    let all = rw (none, zip_nil, append-nil) at c.loop-number.invariant.all in
    all
