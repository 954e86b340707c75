use Rattle.std.proofs.Common.{rules, tests, ◌≡◌, ℕ, Option, sym, ◌∙◌}
use Rattle.cpm_image.specs.Directory.Entries.{is_of, record_end}
use Rattle.std.proofs.lemmas.Iterator.{YieldsList-from_slice, YieldsList-from_map}
use Rattle.std.proofs.lemmas.Iterator.Adapters.{option_map_id}
use Rattle.std.proofs.lemmas.Iterator.Consumers.{YieldsList-from_filter, max_from_yields_List, YieldsList-at}
use Rattle.cpm_image.specs.Directory.Searches.{size}
use Rattle.cpm_image.proofs.Sizes.{reduce-filter, size_most}
use Rattle.cpm_image.proofs.directory.searches.size.Goals as goal

size_is : (c : goal.After-max) → ◌≡◌ {A = Option ℕ} c.max.result (size c.args.user c.args.name.now c.args.entries.now)
size_is c =
    sym (option_map_id c.max.result) ∙ max_from_yields_List {v = λ x. x} _ c.max.result c.max.ensures.ran
    (YieldsList-from_map _ record_end
    (YieldsList-at c.map.ensures.source (YieldsList-from_filter _ (is_of c.args.user c.args.name.now) (YieldsList-from_slice c.args.entries.now cc) c.filter.ensures.closure (λ x r q k. search (rules, tests))))
    c.map.ensures.closure (λ x r q k. search (rules, tests)))
    ∙ reduce-filter (is_of c.args.user c.args.name.now) record_end c.args.entries.now

pub returns-clause-size : goal.returns-clause-size
returns-clause-size c = size_is c

pub returns-clause-most : goal.returns-clause-most
returns-clause-most c = λ kind low sound. rw (size_is c) (size_most kind c.args.user c.args.name.now c.args.entries.now low sound)
