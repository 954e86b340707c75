use Rattle.std.proofs.Common.{◌≡◌, ◌∙◌, [], ap, sym, arith, length, map}
use Rattle.std.specs.List.{flat_map}
use Rattle.std.proofs.lemmas.List.{length-map, take_all}
use Rattle.std.proofs.lemmas.Slice.Zip.{AllZip-long}
use Rattle.zmo_object.specs.Modules.{module_of}
use Rattle.zlink.specs.Sources.{Assembly, IsAssembly}
use Rattle.zlink.specs.declared.source.Source.{Source}
use Rattle.program_map.specs.Kinds.{kinds}
use Rattle.program_map.proofs.All_sources.{Few, all_even, even_at, same_at, told_more, whole_kinds, zip_at}
use Rattle.program_map.proofs.maps.kinds.kinds_of.Goals as goal

pub loop-number-preserved : goal.loop-number-preserved
loop-number-preserved c = λ grow all assembled modules count.
    let i = c.loop-number.number in
    let few : Few = λ grow source a is. c.told_sources.ensures.few source.name.now source.text.now grow a.assembled a.program is.assembled is.stated in
    let at = zip_at (IsAssembly grow) c.args.sources.now all i (record { name = record { ref_ptr = (0, 0); now = [] }; text = record { ref_ptr = (0, 0); now = [] } }) assembled c.loop-number-test.true in
    let found = c.in-Some.ensures.lookup in
    let own = same_at module_of (λ (a : Assembly). a.assembled.holds) c.args.modules.now all i c.in-Some.module.now at.0 modules found.3.0 found.1 at.1 in
    let long = even_at (λ (a : Assembly). length a.assembled.holds.statements ≡ length a.program) all i at.0 (all_even few grow c.args.sources.now all assembled count) at.2 at.1 in
    told_more c.loop-number.kinds.items _ all i at.0 (c.loop-number.invariant grow all assembled modules count) (c.in_ok-put_source.ensures _ grow at.0.assembled at.0.program at.3.assembled at.3.stated own long) at.2 at.1

pub returns-in_default : goal.returns-in_default
returns-in_default c = λ grow all assembled modules count.
    let none = c.in_default.ensures.lookup in
    let past = none.3 in
    let long : length all ≡ length c.args.sources.now = AllZip-long (IsAssembly grow) c.args.sources.now all assembled in
    let same : length c.args.modules.now ≡ length all = sym (length-map c.args.modules.now module_of) ∙ ap length modules ∙ length-map all (λ (a : Assembly). a.assembled.holds) in
    absurd (omega arith)

pub returns : goal.returns
returns c = λ grow all assembled modules count.
    let long : length all ≡ length c.args.sources.now = AllZip-long (IsAssembly grow) c.args.sources.now all assembled in
    c.loop-number.invariant grow all assembled modules count ∙ ap (flat_map (λ a. kinds a.program)) (take_all c.loop-number.number all (omega arith)) ∙ sym (whole_kinds all)
