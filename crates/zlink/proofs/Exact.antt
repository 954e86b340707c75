-- Sources have one program, and `IsBuilt` leaves only one answer for it.
use Rattle.std.proofs.Common.{◌≡◌, inl, inr, ◌<◌, ℕ, Bool, List, [], ◌∷◌, Option, Some, None, Result, Ok, Err, take, refl, sym, ap, subst, ◌∙◌, arith}
use Rattle.std.specs.Prelude.{◌⊎◌, IsOk}
use Rattle.std.specs.List.{slice_get}
use Rattle.std.specs.Option.{IsSomeAnd, MatchOption}
use Rattle.std.proofs.lemmas.Bool.{cases_lt}
use Rattle.std.proofs.lemmas.List.{get_or-take, length-take-le}
use Rattle.std.proofs.lemmas.Option.{get_or_from_slice_get, slice_get-get_or, slice_get_within}
use Rattle.std.proofs.lemmas.Slice.Zip.{AllZip-left}
use Rattle.asm_module.specs.declared.fault.AsmFault.{AsmFault}
use Rattle.asm_module.specs.Assembled.{Assembled, Assembles, HasCause}
use Rattle.asm_module.specs.Program.Described.{IsProgramOfSource}
use Rattle.asm_module.specs.Program.Statement.{Statement}
use Rattle.relax.specs.Choice.{Choice, IsValid}
use Rattle.zlink.specs.declared.program.fault.JoinFault.{JoinFault}
use Rattle.zlink.specs.Program.Faults.{first_fault}
use Rattle.zlink.specs.declared.building.Built.{Built}
use Rattle.zlink.specs.declared.fault.BuildFault.{BuildFault}
use Rattle.zlink.specs.declared.fault.BuildFault.TheVariants as build
use Rattle.zlink.specs.declared.fault.LinkFault.{LinkFault}
use Rattle.zlink.specs.declared.fault.LinkFault.TheVariants as link
use Rattle.zlink.specs.declared.source.Source.{Source}
use Rattle.zlink.specs.Built.{IsBuilt}
use Rattle.zlink.specs.Program.Whole as object
use Rattle.zlink.specs.File.Objects as linked
use Rattle.zmo_object.specs.Modules.{Module}
use Rattle.zlink.specs.declared.linking.Linked.{Linked}
use Rattle.zlink.specs.Linked.{IsExactLink, IsLinked, link_fault}
use Rattle.zlink.specs.Reads.{shape}
use Rattle.zlink.specs.Sources.{AreAssembled, Assembly, IsAssembly, IsFirstFaulty, modules_of, program_of}

-- The law of `asm_module` that a source has one module or one first error.
abbrev pub OneAnswer : Type 0
OneAnswer = (name text : List ℕ) (grow : Bool) (a b : Result Assembled AsmFault) → HasCause a → HasCause b → Assembles name text grow a → Assembles name text grow b → a ≡ b

-- The law of `asm_module` that a source describes one program.
abbrev pub OneProgram : Type 0
OneProgram = (text : List ℕ) (grow : Bool) (a b : List Statement) → IsProgramOfSource text grow a → IsProgramOfSource text grow b → a ≡ b

module _ (law : OneAnswer) (programs : OneProgram) (grow : Bool) where
  -- A source has one assembly.
  same_assembly : (s : Source) (x y : Assembly) → IsAssembly grow s x → IsAssembly grow s y → x ≡ y
  same_assembly s x y a b =
      let answers : ◌≡◌ {A = Result Assembled AsmFault} (Ok x.assembled) (Ok y.assembled) = law s.name.now s.text.now grow (Ok x.assembled) (Ok y.assembled) tt tt a.assembled b.assembled in
      let same : x.assembled ≡ y.assembled = cc in
      ap (λ w. record { assembled = w; program = x.program }) same ∙ ap (λ p. record { assembled = y.assembled; program = p }) (programs s.text.now grow x.program y.program a.stated b.stated)

  -- A list of sources has one list of assemblies.
  pub one_program : (sources : List Source) (xs ys : List Assembly) → AreAssembled grow sources xs → AreAssembled grow sources ys → xs ≡ ys
  one_program [] [] [] a b = refl
  one_program [] [] (y ∷ ys) a b = absurd b
  one_program [] (x ∷ xs) ys a b = absurd a
  one_program (s ∷ ss) [] ys a b = absurd a
  one_program (s ∷ ss) (x ∷ xs) [] a b = absurd b
  one_program (s ∷ ss) (x ∷ xs) (y ∷ ys) a b = ap (λ z. z ∷ xs) (same_assembly s x y a.0 b.0) ∙ ap (λ zs. y ∷ zs) (one_program ss xs ys a.1 b.1)

  -- A source that assembles has no error.
  pub not_faulty : (sources : List Source) (these : List Assembly) (number : ℕ) (source : Source) (fault : AsmFault) → AreAssembled grow sources these → slice_get sources number ≡ Some source
      → HasCause (Err fault) → Assembles source.name.now source.text.now grow (Err fault) → ⊥
  not_faulty sources these number source fault are there caused faulty =
      by (slice_get these number)
      (subst (λ o. MatchOption o (Unit {0}) (λ x. IsSomeAnd (slice_get these number) (IsAssembly grow x))) there (AllZip-left (IsAssembly grow) sources these are number))
    where
      by : (o : Option Assembly) → IsSomeAnd o (IsAssembly grow source) → ⊥
      by None is = is
      by (Some a) is = (let same = law source.name.now source.text.now grow (Ok a.assembled) (Err fault) tt caused is.assembled faulty in cc)

  -- A source before the first one with an error has no error.
  not_before : (sources : List Source) (n m : ℕ) (f g : AsmFault) → n < m → IsFirstFaulty grow sources n f → IsFirstFaulty grow sources m g → ⊥
  not_before sources n m f g lt first later =
      let inside = slice_get_within sources m later.source later.there in
      let count = length-take-le m sources (omega (arith, inside)) in
      let there : slice_get (take m sources) n ≡ Some first.source =
      slice_get-get_or (take m sources) n first.source (omega (arith, count, lt)) ∙ ap Some (get_or-take m sources n first.source lt ∙ get_or_from_slice_get sources n first.source first.source first.there) in
      not_faulty (take m sources) later.before n first.source f later.good there first.caused first.faulty

  -- The first source with an error, and its error, are unique.
  same_fault : (sources : List Source) (n m : ℕ) (f g : AsmFault) → IsFirstFaulty grow sources n f → IsFirstFaulty grow sources m g → (n ≡ m) × (f ≡ g)
  same_fault sources n m f g first other =
      elim (cases_lt n m) [
        | inl before ↦ absurd (not_before sources n m f g before first other)
        | inr behind ↦
            elim (cases_lt m n) [
              | inl before ↦ absurd (not_before sources m n g f before other first)
              | inr there ↦ (let here : n ≡ m = omega arith in (here, both here))
            ]
      ]
    where
      both : n ≡ m → f ≡ g
      both here =
          let met : ◌≡◌ {A = Option Source} (Some first.source) (Some other.source) = sym first.there ∙ ap (slice_get sources) here ∙ other.there in
          let same : first.source ≡ other.source = cc in
          let faulty : Assembles first.source.name.now first.source.text.now grow (Err g) = subst (λ s. Assembles s.name.now s.text.now grow (Err g)) (sym same) other.faulty in
          let answers : ◌≡◌ {A = Result Assembled AsmFault} (Err f) (Err g) = law first.source.name.now first.source.text.now grow (Err f) (Err g) first.caused other.caused first.faulty faulty in
          cc

  pub exactly : (sources : List Source) (r : Result Built BuildFault) → IsBuilt grow sources r → (number : ℕ) (fault : AsmFault) → IsFirstFaulty grow sources number fault → (r ≡ Err (build.Asm number fault)) ⊎ (r ≡ Err (build.Link link.NoMemory))
  exactly sources (Ok b) is number fault f = absurd (not_faulty sources is.0 number f.source fault is.1 f.there f.caused f.faulty)
  exactly sources (Err (build.Asm n g)) is number fault f = (let same = same_fault sources n number g fault is f in inl (ap (λ k. Err (build.Asm k g)) same.0 ∙ ap (λ x. Err (build.Asm number x)) same.1))
  exactly sources (Err (build.Link (link.NoFit why sizes cert))) is number fault f = absurd (not_faulty sources is.0 number f.source fault is.1 f.there f.caused f.faulty)
  exactly sources (Err (build.Link link.NoMemory)) is number fault f = inr refl
  exactly sources (Err (build.Link link.TooManyStatements)) is number fault f = absurd (not_faulty sources is.0 number f.source fault is.1 f.there f.caused f.faulty)
  exactly sources (Err (build.Link (link.BeginsNotFirst m))) is number fault f = absurd (not_faulty sources is.0 number f.source fault is.1 f.there f.caused f.faulty)
  exactly sources (Err (build.Link (link.DefinedTwice m l))) is number fault f = absurd (not_faulty sources is.0 number f.source fault is.1 f.there f.caused f.faulty)
  exactly sources (Err (build.Link (link.Unresolved m x))) is number fault f = absurd (not_faulty sources is.0 number f.source fault is.1 f.there f.caused f.faulty)
  exactly sources (Err (build.Link (link.EntryNotFirst m))) is number fault f = absurd (not_faulty sources is.0 number f.source fault is.1 f.there f.caused f.faulty)

  -- If the modules have no error together, they have no first error.
  faultless : (sources : List Source) (these others : List Assembly) (first : JoinFault) → AreAssembled grow sources these → AreAssembled grow sources others
      → first_fault (modules_of others) ≡ None → first_fault (modules_of these) ≡ Some first → ⊥
  faultless sources these others first are other none there =
      let same : first_fault (modules_of these) ≡ first_fault (modules_of others) = ap (λ xs. first_fault (modules_of xs)) (one_program sources these others are other) in
      cc

  -- why the modules of the sources are refused
  abbrev IsFaultOf : List Source → LinkFault → Type 0
  IsFaultOf sources fault = (others : List Assembly) × AreAssembled grow sources others × (first : JoinFault) × (first_fault (modules_of others) ≡ Some first) × (link_fault first ≡ fault)

  -- If the modules have a first error together, the answer is that error.
  module _ (sources : List Source) (these : List Assembly) (are : AreAssembled grow sources these) where
    module _ (first : JoinFault) (there : first_fault (modules_of these) ≡ Some first) where
      same_first : (fault : LinkFault) → IsFaultOf sources fault → ◌≡◌ {A = Result Built BuildFault} (Err (build.Link fault)) (Err (build.Link (link_fault first)))
      same_first fault is =
          let same : first_fault (modules_of these) ≡ first_fault (modules_of is.0) = ap (λ xs. first_fault (modules_of xs)) (one_program sources these is.0 are is.1) in
          let firsts : ◌≡◌ {A = Option JoinFault} (Some first) (Some is.2) = sym there ∙ same ∙ is.3 in
          let one : first ≡ is.2 = cc in
          ap (λ f. Err (build.Link f)) (sym is.4 ∙ ap link_fault (sym one))

      pub of_modules : (r : Result Built BuildFault) → IsBuilt grow sources r → (r ≡ Err (build.Link (link_fault first))) ⊎ (r ≡ Err (build.Link link.NoMemory))
      of_modules (Ok b) is = absurd (faultless sources these is.0 first are is.1 is.2 there)
      of_modules (Err (build.Asm n g)) is = absurd (not_faulty sources these n is.source g are is.there is.caused is.faulty)
      of_modules (Err (build.Link (link.NoFit why sizes cert))) is = absurd (faultless sources these is.0 first are is.1 is.2 there)
      of_modules (Err (build.Link link.NoMemory)) is = inr refl
      of_modules (Err (build.Link link.TooManyStatements)) is = inl (same_first link.TooManyStatements is)
      of_modules (Err (build.Link (link.BeginsNotFirst m))) is = inl (same_first (link.BeginsNotFirst m) is)
      of_modules (Err (build.Link (link.DefinedTwice m l))) is = inl (same_first (link.DefinedTwice m l) is)
      of_modules (Err (build.Link (link.Unresolved m x))) is = inl (same_first (link.Unresolved m x) is)
      of_modules (Err (build.Link (link.EntryNotFirst m))) is = inl (same_first (link.EntryNotFirst m) is)

    -- If some choice fits, the answer is a file.
    module _ (none : first_fault (modules_of these) ≡ None) (c : Choice) (fits : IsValid c (shape (program_of these))) where
      not_first : (fault : LinkFault) → IsFaultOf sources fault → ⊥
      not_first fault is = faultless sources is.0 these is.2 is.1 are none is.3

      pub of_fitting : (r : Result Built BuildFault) → IsBuilt grow sources r → IsOk r ⊎ (r ≡ Err (build.Link link.NoMemory))
      of_fitting (Ok b) is = inl refl
      of_fitting (Err (build.Asm n g)) is = absurd (not_faulty sources these n is.source g are is.there is.caused is.faulty)
      of_fitting (Err (build.Link (link.NoFit why sizes cert))) is = absurd (is.4.none c (subst (λ xs. IsValid c (shape (program_of xs))) (one_program sources these is.0 are is.1) fits))
      of_fitting (Err (build.Link link.NoMemory)) is = inr refl
      of_fitting (Err (build.Link link.TooManyStatements)) is = absurd (not_first link.TooManyStatements is)
      of_fitting (Err (build.Link (link.BeginsNotFirst m))) is = absurd (not_first (link.BeginsNotFirst m) is)
      of_fitting (Err (build.Link (link.DefinedTwice m l))) is = absurd (not_first (link.DefinedTwice m l) is)
      of_fitting (Err (build.Link (link.Unresolved m x))) is = absurd (not_first (link.Unresolved m x) is)
      of_fitting (Err (build.Link (link.EntryNotFirst m))) is = absurd (not_first (link.EntryNotFirst m) is)

-- The answer of `link` is exact: it is what `IsExactLink` says of the modules.
module _ (modules : List Module) where
  -- why the modules are refused
  abbrev IsFaultOfModules : LinkFault → Type 0
  IsFaultOfModules fault = (first : JoinFault) × (first_fault modules ≡ Some first) × (link_fault first ≡ fault)

  abbrev TellsFault : Result Linked LinkFault → Type 0
  TellsFault r = (first : JoinFault) → first_fault modules ≡ Some first → (r ≡ Err (link_fault first)) ⊎ (r ≡ Err link.NoMemory)

  abbrev TellsFile : Result Linked LinkFault → Type 0
  TellsFile r = (c : Choice) → first_fault modules ≡ None → IsValid c (linked.placed_shape (object.program modules)) → IsOk r ⊎ (r ≡ Err link.NoMemory)

  first_told : (fault : LinkFault) → IsFaultOfModules fault → TellsFault (Err fault)
  first_told fault is first there =
      let firsts : ◌≡◌ {A = Option JoinFault} (Some first) (Some is.0) = sym there ∙ is.1 in
      let one : first ≡ is.0 = cc in
      inl (ap Err (sym is.2 ∙ ap link_fault (sym one)))

  none_fits : (fault : LinkFault) → IsFaultOfModules fault → TellsFile (Err fault)
  none_fits fault is c none fits = (let some = is.1 in absurd cc)

  pub exact_link : (r : Result Linked LinkFault) → IsLinked modules r → IsExactLink modules r
  exact_link (Ok l) is = (let none = is.0 in record { faults = λ first there. absurd cc; fits = λ c _ fits. inl refl })
  exact_link (Err (link.NoFit why sizes cert)) is = (let none = is.0 in record { faults = λ first there. absurd cc; fits = λ c _ fits. absurd (is.1.none c fits) })
  exact_link (Err link.NoMemory) is = record { faults = λ first there. inr refl; fits = λ c none fits. inr refl }
  exact_link (Err link.TooManyStatements) is = record { faults = first_told link.TooManyStatements is; fits = none_fits link.TooManyStatements is }
  exact_link (Err (link.BeginsNotFirst m)) is = record { faults = first_told (link.BeginsNotFirst m) is; fits = none_fits (link.BeginsNotFirst m) is }
  exact_link (Err (link.DefinedTwice m l)) is = record { faults = first_told (link.DefinedTwice m l) is; fits = none_fits (link.DefinedTwice m l) is }
  exact_link (Err (link.Unresolved m x)) is = record { faults = first_told (link.Unresolved m x) is; fits = none_fits (link.Unresolved m x) is }
  exact_link (Err (link.EntryNotFirst m)) is = record { faults = first_told (link.EntryNotFirst m) is; fits = none_fits (link.EntryNotFirst m) is }
