-- What the answer for the modules says about the sources that they were assembled from.
use Rattle.std.proofs.Common.{◌≡◌, ◌+◌, ◌<◌, ℕ, Bool, List, [], ◌∷◌, ◌++◌, Err, All, Vec, length, map, slice_index, refl, sym, ap, subst, ◌∙◌, arith}
use Rattle.std.specs.List.{enumerate_from, flat_map}
use Rattle.std.specs.Global.{Global}
use Rattle.std.proofs.lemmas.List.{length-map}
use Rattle.std.proofs.lemmas.List.Concat.{flat_map-cons}
use Rattle.relax.specs.Choice.{place}
use Rattle.relax.specs.Growth.{after}
use Rattle.asm_module.specs.declared.assembling.Lines as listing
use Rattle.zmo_object.specs.Modules.{module_of}
use Rattle.zmo_object.specs.Rules.{IsModule}
use Rattle.zmo_object.specs.declared.module.Module as made
use Rattle.zlink.specs.Program.Laws.{statement_count}
use Rattle.zlink.specs.Program.Whole as object
use Rattle.zlink.specs.File.Objects as file
use Rattle.zlink.specs.File.Places.{ArePlaces}
use Rattle.zlink.specs.declared.fault.BuildFault.TheVariants as build
use Rattle.zlink.specs.declared.fault.LinkFault.{LinkFault}
use Rattle.zlink.specs.declared.fault.LinkFault.TheVariants as link
use Rattle.zlink.specs.declared.linking.Linked.{Linked}
use Rattle.zlink.specs.declared.origins.Origin as origin
use Rattle.zlink.specs.declared.source.Source.{Source}
use Rattle.zlink.specs.Built as built
use Rattle.zlink.specs.Built.{IsBuilt, built_output, lines_of_statements, origin_of, origins_by}
use Rattle.zlink.specs.Judged.{IsBestAfter, IsUnfit}
use Rattle.zlink.specs.Linked.{IsLinked, IsOutput, linked_output}
use Rattle.zlink.specs.Reads.{shape, sized_as}
use Rattle.zlink.specs.Sources.{AreAssembled, Assembly, modules_of, program_of}
use Rattle.zlink.specs.Private.Assembling.{lines_in}
use Rattle.zlink.proofs.Carried.{Laid, carried, same_shape}
use Rattle.zlink.proofs.Coming_from.{count_lines, origins_same}

-- the lines of all sources, from a list of lines for each source
abbrev lines_from : ℕ → List (List ℕ) → List (ℕ × ℕ)
lines_from n all = flat_map (λ l. map (λ line. (l.0, line)) l.1) (enumerate_from n all)

by_map : {A : Type 0} (f : A → List ℕ) (n : ℕ) (xs : List A) → flat_map (λ l. map (λ line. (l.0, line)) (f l.1)) (enumerate_from n xs) ≡ lines_from n (map f xs)
by_map f n [] = refl
by_map f n (x ∷ xs) =
    flat_map-cons (λ l. map (λ line. (l.0, line)) (f l.1)) (n, x) (enumerate_from (n + 1) xs)
    ∙ ap (λ rest. map (λ line. (n, line)) (f x) ++ rest) (by_map f (n + 1) xs)
    ∙ sym (flat_map-cons (λ l. map (λ line. (l.0, line)) l.1) (n, f x) (enumerate_from (n + 1) (map f xs)))

same_lines : (lines : List listing.Lines) (sources : List Assembly) → map (λ l. l.each.items) lines ≡ map (λ a. a.assembled.each) sources → lines_in lines ≡ lines_of_statements sources
same_lines lines sources same = by_map (λ l. l.each.items) 0 lines ∙ ap (lines_from 0) same ∙ sym (by_map (λ a. a.assembled.each) 0 sources)

module _ (grow : Bool) (sources : List Source) (these : List Assembly) (are : AreAssembled grow sources these) (laid : Laid these) where
  -- If the modules cannot be linked, the sources cannot be built, for the same reason.
  pub refused : (fault : LinkFault) → IsLinked (modules_of these) (Err fault) → IsBuilt grow sources (Err (build.Link fault))
  refused (link.NoFit why sizes cert) is = (these, are, is.0, same_shape these laid, subst (λ s. IsUnfit s why sizes.items cert.items) (same_shape these laid) is.1)
  refused link.NoMemory is = tt
  refused link.TooManyStatements is = (these, are, is.0, is.1, is.2)
  refused (link.BeginsNotFirst m) is = (these, are, is.0, is.1, is.2)
  refused (link.DefinedTwice m l) is = (these, are, is.0, is.1, is.2)
  refused (link.Unresolved m x) is = (these, are, is.0, is.1, is.2)
  refused (link.EntryNotFirst m) is = (these, are, is.0, is.1, is.2)

  -- There are as many lines as statements in all modules, since each statement comes from one line.
  lines_are : length (lines_of_statements these) ≡ statement_count (modules_of these)
  lines_are = count_lines these (λ k d lt. (laid.kept k d lt).lines)

  -- There are as many lines as statements in the program of the sources.
  as_many : length (object.program (modules_of these)) ≡ statement_count (modules_of these) → length (lines_of_statements these) ≡ length (program_of these)
  as_many count =
      let sizes : length (file.placed_shape (object.program (modules_of these))) ≡ length (object.program (modules_of these)) = length-map (object.program (modules_of these)) (λ p. file.sized_by p.stands p.statement) in
      lines_are ∙ sym count ∙ sym sizes ∙ ap length (same_shape these laid) ∙ length-map (program_of these) sized_as

  -- The addresses that the lines are listed with are those of the choice.
  placed : (order : List ℕ) (l : Linked) → (length (object.program (modules_of these)) ≡ statement_count (modules_of these)) → ArePlaces (after order) (file.placed_shape (object.program (modules_of these))) l.places.items
      → origins_by (λ k. slice_index l.places.items k) (lines_of_statements these) ≡ origins_by (place (after order) (shape (program_of these))) (lines_of_statements these)
  placed order l count places =
      let sizes : length (file.placed_shape (object.program (modules_of these))) ≡ length (object.program (modules_of these)) = length-map (object.program (modules_of these)) (λ p. file.sized_by p.stands p.statement) in
      let all = lines_are in
      origins_same (λ k. slice_index l.places.items k) (place (after order) (file.placed_shape (object.program (modules_of these)))) (lines_of_statements these) (λ k lt. places.each k (omega (arith, all, sizes, count)))
      ∙ ap (λ s. origins_by (place (after order) s) (lines_of_statements these)) (same_shape these laid)

  -- The file of the modules is the file of the sources.
  pub of_file : (order : List ℕ) (l : Linked) (whole : Vec made.Module Global) (lines : Vec listing.Lines Global) (from : Vec origin.Origin Global) (last : Vec ℕ Global) → (length (object.program (modules_of these)) ≡ statement_count (modules_of these))
      → IsOutput (modules_of these) order (linked_output l) → ArePlaces (after order) (file.placed_shape (object.program (modules_of these))) l.places.items
      → All (λ b. b < 256) l.com.items → map (λ x. x.each.items) lines.items ≡ map (λ a. a.assembled.each) these → map (λ x. x.last) lines.items ≡ map (λ a. a.assembled.last) these
      → map origin_of from.items ≡ origins_by (λ k. slice_index l.places.items k) (lines_in lines.items) → last.items ≡ map (λ x. x.last) lines.items → map module_of whole.items ≡ modules_of these → All IsModule (modules_of these)
      → built.IsBuiltFile these order (record { «com» = l.com; sizes = l.sizes; cert = l.cert; symbols = l.symbols; statements = from; last = last; grown = l.grown; modules = whole; lines = lines })
  of_file order l whole lines from last count f places small each lasts origins last_are modules_are kept = record {
    judged = subst (λ s. IsBestAfter s order l.sizes.items l.cert.items) (same_shape these laid) f.judged;
    reads = carried these l.com.items (after order) laid small f.reads;
    linked = f;
    each = as_many count;
    statements = origins ∙ ap (origins_by (λ k. slice_index l.places.items k)) (same_lines lines.items these each) ∙ placed order l count places;
    last = last_are ∙ lasts;
    modules = modules_are;
    lines = each;
    kept = kept;
  }
