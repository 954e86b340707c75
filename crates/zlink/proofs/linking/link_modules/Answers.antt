use Rattle.std.proofs.Common.{◌≡◌, ℕ, List, length, map, slice_index, ap, subst, ◌∙◌, arith}
use Rattle.std.proofs.Math.Path.{fun_ext}
use Rattle.relax.specs.declared.shape.Statement.{Statement as Sized}
use Rattle.relax.specs.Choice.{IsShape, chosen, place}
use Rattle.relax.specs.declared.growth.Growth.{Growth}
use Rattle.relax.specs.declared.growth.Verdict.TheVariants.{Best}
use Rattle.relax.specs.Growth.{IsGrowth, after}
use Rattle.zmo_object.specs.Modules.{Module, module_of}
use Rattle.zlink.specs.Program.Whole.{program}
use Rattle.zlink.specs.File.Objects.{ReadsObjects, grown, placed_shape, sized_by}
use Rattle.zlink.specs.File.Places.{ArePlaces}
use Rattle.zlink.specs.declared.fault.Misfit.TheVariants.{Range, TooLarge}
use Rattle.zlink.specs.Certified.{IsCertified}
use Rattle.zlink.specs.Linked.{IsOutput, Output, all_symbols}
use Rattle.zlink.proofs.Judging.{best, unfit}
use Rattle.zlink.proofs.Symbols.{symbols_same}
use Rattle.std.proofs.lemmas.List.{length-map}
use Rattle.zlink.proofs.linking.link_modules.Goals as goal

grows : (s t : List Sized) (g : Growth) → s ≡ t → IsGrowth s g → IsGrowth t g
grows s t g e is = subst (λ x. IsGrowth x g) e is

certifies : (s t : List Sized) (g : Growth) (sizes cert : List ℕ) → s ≡ t → IsCertified s g.order.items g.verdict sizes cert → IsCertified t g.order.items g.verdict sizes cert
certifies s t g sizes cert e is = subst (λ x. IsCertified x g.order.items g.verdict sizes cert) e is

-- the shape of the whole program
abbrev whole_of : List Module → List Sized
whole_of modules = placed_shape (program modules)

module _ (modules : List Module) (g : Growth) (is : IsGrowth (whole_of modules) g) where
  same_choice : chosen g.long.items ≡ after g.order.items
  same_choice = fun_ext is.long

  -- the other outputs are those of the choice after the order
  told : (n : ℕ) (o : Output) (places : List ℕ) → IsShape (whole_of modules) → g.verdict ≡ Best n → IsCertified (whole_of modules) g.order.items g.verdict o.sizes o.cert
      → ReadsObjects o.file (program modules) (chosen g.long.items)
      → o.symbols ≡ all_symbols (λ k. slice_index places k) modules → all_symbols (λ k. slice_index places k) modules ≡ all_symbols (place (chosen g.long.items) (whole_of modules)) modules
      → o.grown ≡ grown (program modules) (chosen g.long.items) → IsOutput modules g.order.items o
  told n o places is_shape e certified reads named same marked = record {
    judged = best (whole_of modules) g n o.sizes o.cert is_shape e is certified;
    reads = subst (ReadsObjects o.file (program modules)) same_choice reads;
    symbols = named ∙ same ∙ ap (λ c. all_symbols (place c (whole_of modules)) modules) same_choice;
    grown = marked ∙ ap (grown (program modules)) same_choice;
  }

pub returns-in-Range : goal.returns-in-Range
returns-in-Range c =
    let whole = placed_shape (program (map module_of c.args.modules.now)) in
    let g = c.in_ok-growth.growth in (
      c.in_ok-links.ensures.0,
      unfit whole g (Range c.in-Range.statement) _ _ (subst IsShape c.in_ok-shape.ensures (subst IsShape c.shape.view_is c.shape.invariant)) c.in-Range.is (grows _ _ g c.in_ok-shape.ensures c.in_ok-growth.ensures.growth)
          (certifies _ _ g _ _ c.in_ok-shape.ensures c.in_ok-sizes.ensures),
    )

pub returns : goal.returns
returns c =
    let whole = placed_shape (program (map module_of c.args.modules.now)) in
    let g = c.in_ok-growth.growth in (
      c.in_ok-links.ensures.0,
      unfit whole g (TooLarge c.in-TooLarge.total) _ _ (subst IsShape c.in_ok-shape.ensures (subst IsShape c.shape.view_is c.shape.invariant)) c.in-TooLarge.is (grows _ _ g c.in_ok-shape.ensures c.in_ok-growth.ensures.growth)
          (certifies _ _ g _ _ c.in_ok-shape.ensures c.in_ok-sizes.ensures),
    )

pub returns-in-Best : goal.returns-in-Best
returns-in-Best c =
    let modules = map module_of c.args.modules.now in
    let g = c.in_ok-growth.growth in
    let is = grows _ _ g c.in_ok-shape.ensures c.in_ok-growth.ensures.growth in
    let places = subst (λ s. ArePlaces (chosen g.long.items) s c.in_ok-places-in-Best.places.items) c.in_ok-shape.ensures
    (subst (λ s. ArePlaces (chosen g.long.items) s c.in_ok-places-in-Best.places.items) c.statements.ensures.value
    (subst (λ l. ArePlaces (chosen l) c.statements.result.now c.in_ok-places-in-Best.places.items) c.deref-in-Best.ensures.value c.in_ok-places-in-Best.ensures)) in
    let count = c.laid_out.ensures.count modules in
    let sizes : length (whole_of modules) ≡ length (program modules) = length-map (program modules) (λ p. sized_by p.stands p.statement) in (
      c.in_ok-links.ensures.0,
      g.order.items,
      told modules g is c.in-Best.field-0 _ c.in_ok-places-in-Best.places.items (subst IsShape c.in_ok-shape.ensures (subst IsShape c.shape.view_is c.shape.invariant)) c.in-Best.is (certifies _ _ g _ _ c.in_ok-shape.ensures c.in_ok-sizes.ensures)
          (subst (λ l. ReadsObjects c.in_ok-emit-in-Best.field-0.items (program modules) (chosen l)) c.deref-in-Best-4.ensures.value c.in_ok-emit-in-Best.ensures)
          (c.in_ok-symbols_of-in-Best.ensures ∙ ap (λ ps. all_symbols (λ k. slice_index ps k) modules) c.deref-in-Best-6.ensures.value)
          (symbols_same (λ k. slice_index c.in_ok-places-in-Best.places.items k) (place (chosen g.long.items) (whole_of modules)) (length (whole_of modules)) modules (omega (arith, count, sizes)) places.each c.requires)
          (c.in_ok-grown-in-Best.ensures ∙ ap (λ l. grown (program modules) (chosen l)) c.deref-in-Best-7.ensures.value),
      subst (λ choice. ArePlaces choice (whole_of modules) c.in_ok-places-in-Best.places.items) (same_choice modules g is) places,
    )
