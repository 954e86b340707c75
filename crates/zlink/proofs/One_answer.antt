-- Linking a list of modules has one answer, and building sources has the answer of linking their modules.
use Rattle.std.proofs.Common.{◌≡◌, inl, inr, ℕ, Bool, List, Option, Some, None, Result, Ok, Err, map, refl, sym, ap, subst, ◌∙◌}
use Rattle.std.specs.Prelude.{◌⊎◌}
use Rattle.cert_check.specs.Texts.{cert_text}
use Rattle.asm_module.specs.declared.fault.AsmFault.{AsmFault}
use Rattle.relax.specs.declared.shape.Statement.{Statement as Sized}
use Rattle.relax.specs.Choice.{Choice, place}
use Rattle.relax.specs.declared.growth.Verdict.{Verdict}
use Rattle.relax.specs.Growth.{Holds, IsLeastFirst, after}
use Rattle.zmo_object.specs.Modules.{Module}
use Rattle.zlink.specs.declared.program.fault.JoinFault.{JoinFault}
use Rattle.zlink.specs.Program.Faults.{first_fault}
use Rattle.zlink.specs.Program.Whole.{Placed, program}
use Rattle.zlink.specs.File.Objects as file
use Rattle.zlink.specs.File.Objects.{ReadsObjects, grown}
use Rattle.zlink.specs.File.Places.{ArePlaces}
use Rattle.zlink.specs.declared.building.Built.{Built}
use Rattle.zlink.specs.declared.fault.BuildFault.{BuildFault}
use Rattle.zlink.specs.declared.fault.BuildFault.TheVariants as build
use Rattle.zlink.specs.declared.fault.LinkFault.{LinkFault}
use Rattle.zlink.specs.declared.fault.LinkFault.TheVariants as link
use Rattle.zlink.specs.declared.fault.Misfit.{Misfit}
use Rattle.zlink.specs.declared.fault.Misfit.TheVariants as misfit
use Rattle.zlink.specs.declared.linking.Linked.{Linked}
use Rattle.zlink.specs.declared.source.Source.{Source}
use Rattle.zlink.specs.Built.{IsBuilt, built_output, lines_of_statements, origin_of, origins_by}
use Rattle.zlink.specs.Certified.{told_verdict}
use Rattle.zlink.specs.Judged.{IsUnfit, verdict_of}
use Rattle.zlink.specs.Linked.{IsLinked, IsOutput, Output, link_fault, linked_output}
use Rattle.zlink.specs.Outcomes.{Outcome, Makes, FitsNowhere, IsNoProgram, IsFaulty, AreSame, built_outcome, linked_outcome}
use Rattle.zlink.specs.Reads.{shape}
use Rattle.zlink.specs.Sources.{AreAssembled, Assembly, modules_of, program_of}
use Rattle.zlink.proofs.Exact.{OneAnswer, OneProgram, exactly, not_faulty, one_program}

-- A shape has one least-first order.
abbrev pub OneOrder : Type 0
OneOrder = (s : List Sized) (a b : List ℕ) → IsLeastFirst s a → IsLeastFirst s b → a ≡ b

-- A choice has one verdict.
abbrev pub OneVerdict : Type 0
OneVerdict = (c : Choice) (s : List Sized) (v w : Verdict) → Holds c s v → Holds c s w → v ≡ w

-- Statements have one file under a choice.
abbrev pub OneFile : Type 0
OneFile = (one other : List ℕ) (p : List Placed) (c : Choice) → ReadsObjects one p c → ReadsObjects other p c → one ≡ other

-- A shape has one list of addresses under a choice.
abbrev pub OnePlaces : Type 0
OnePlaces = (c : Choice) (s : List Sized) (places other : List ℕ) → ArePlaces c s places → ArePlaces c s other → places ≡ other

-- what each outcome says about the modules
abbrev IsOutcome : List Module → Outcome → Type 0
IsOutcome modules (Makes o) = (first_fault modules ≡ None) × (order : List ℕ) × IsOutput modules order o
IsOutcome modules (FitsNowhere why sizes cert) = (first_fault modules ≡ None) × IsUnfit (file.placed_shape (program modules)) why sizes cert
IsOutcome modules (IsNoProgram fault) = (fault ≡ link.NoMemory) ⊎ ((first : JoinFault) × (first_fault modules ≡ Some first) × (link_fault first ≡ fault))
IsOutcome modules (IsFaulty source fault) = ⊥

of_linked : (modules : List Module) (r : Result Linked LinkFault) → IsLinked modules r → IsOutcome modules (linked_outcome r)
of_linked modules (Ok l) is = (is.0, is.1, is.2)
of_linked modules (Err (link.NoFit why sizes cert)) is = is
of_linked modules (Err link.NoMemory) is = inl refl
of_linked modules (Err link.TooManyStatements) is = inr is
of_linked modules (Err (link.BeginsNotFirst m)) is = inr is
of_linked modules (Err (link.DefinedTwice m l)) is = inr is
of_linked modules (Err (link.Unresolved m x)) is = inr is
of_linked modules (Err (link.EntryNotFirst m)) is = inr is

misfit_is_one : (a b : Misfit) → verdict_of a ≡ verdict_of b → a ≡ b
misfit_is_one (misfit.Range j) (misfit.Range k) e = let same : j ≡ k = cc in ap misfit.Range same
misfit_is_one (misfit.Range j) (misfit.TooLarge n) e = absurd cc
misfit_is_one (misfit.TooLarge m) (misfit.Range k) e = absurd cc
misfit_is_one (misfit.TooLarge m) (misfit.TooLarge n) e = let same : m ≡ n = cc in ap misfit.TooLarge same

module _ (orders : OneOrder) (verdicts : OneVerdict) (files : OneFile) (modules : List Module) where
  module _ (a b : Output) (p q : List ℕ) (one : IsOutput modules p a) (other : IsOutput modules q b) where
    same_order : p ≡ q
    same_order = orders (file.placed_shape (program modules)) p q one.judged.least_first other.judged.least_first

    moved : IsOutput modules p b
    moved = subst (λ order. IsOutput modules order b) (sym same_order) other

    same_output : a ≡ b
    same_output =
        let files_are : a.file ≡ b.file = files a.file b.file (program modules) (after p) one.reads moved.reads in
        let sizes_are : a.sizes ≡ b.sizes = one.judged.certified.own ∙ sym moved.judged.certified.own in
        let certs_are : a.cert ≡ b.cert = one.judged.certified.spelled ∙ sym moved.judged.certified.spelled in
        let symbols_are : a.symbols ≡ b.symbols = one.symbols ∙ sym moved.symbols in
        let grown_are : a.grown ≡ b.grown = one.grown ∙ sym moved.grown in
        ap (λ x. record { file = x; sizes = a.sizes; cert = a.cert; symbols = a.symbols; grown = a.grown }) files_are
        ∙ ap (λ x. record { file = b.file; sizes = x; cert = a.cert; symbols = a.symbols; grown = a.grown }) sizes_are
        ∙ ap (λ x. record { file = b.file; sizes = b.sizes; cert = x; symbols = a.symbols; grown = a.grown }) certs_are
        ∙ ap (λ x. record { file = b.file; sizes = b.sizes; cert = b.cert; symbols = x; grown = a.grown }) symbols_are
        ∙ ap (λ x. record { file = b.file; sizes = b.sizes; cert = b.cert; symbols = b.symbols; grown = x }) grown_are

  same_misfit : (s : List Sized) (v w : Misfit) (sizes cert others texts : List ℕ) → IsUnfit s v sizes cert → IsUnfit s w others texts → FitsNowhere v sizes cert ≡ FitsNowhere w others texts
  same_misfit s v w sizes cert others texts one other =
      let order : one.order ≡ other.order = orders s one.order other.order one.judged.least_first other.judged.least_first in
      let verdict : verdict_of v ≡ verdict_of w =
      verdicts (after other.order) s (verdict_of v) (verdict_of w) (subst (λ o. Holds (after o) s (verdict_of v)) order one.judged.verdict) other.judged.verdict in
      let why : v ≡ w = misfit_is_one v w verdict in
      let sizes_are : sizes ≡ others = one.judged.certified.own ∙ sym other.judged.certified.own in
      let certs_are : cert ≡ texts =
      one.judged.certified.spelled ∙ ap (λ o. cert_text o (told_verdict (verdict_of v))) order ∙ ap (λ x. cert_text other.order (told_verdict x)) verdict ∙ sym other.judged.certified.spelled in
      ap (λ x. FitsNowhere x sizes cert) why ∙ ap (λ x. FitsNowhere w x cert) sizes_are ∙ ap (λ x. FitsNowhere w others x) certs_are

  -- if no choice fits, there is no file
  apart : (o : Output) (order : List ℕ) (why : Misfit) (sizes cert : List ℕ) → IsOutput modules order o → IsUnfit (file.placed_shape (program modules)) why sizes cert → ⊥
  apart o order why sizes cert makes unfit = unfit.none (after order) makes.judged.verdict.0.valid

  pub one_outcome : (a b : Outcome) → IsOutcome modules a → IsOutcome modules b → AreSame a b
  one_outcome (Makes o) (Makes x) a b = inl (ap Makes (same_output o x a.1 b.1 a.2 b.2))
  one_outcome (Makes o) (FitsNowhere why sizes cert) a b = absurd (apart o a.1 why sizes cert a.2 b.1)
  one_outcome (Makes o) (IsNoProgram fault) a (inl e) = inr (inr (ap IsNoProgram e))
  one_outcome (Makes o) (IsNoProgram fault) a (inr b) = absurd (let none = a.0 in let some = b.1 in cc)
  one_outcome (FitsNowhere why sizes cert) (Makes o) a b = absurd (apart o b.1 why sizes cert b.2 a.1)
  one_outcome (FitsNowhere why sizes cert) (FitsNowhere other others texts) a b = inl (same_misfit (file.placed_shape (program modules)) why other sizes cert others texts a.1 b.1)
  one_outcome (FitsNowhere why sizes cert) (IsNoProgram fault) a (inl e) = inr (inr (ap IsNoProgram e))
  one_outcome (FitsNowhere why sizes cert) (IsNoProgram fault) a (inr b) = absurd (let none = a.0 in let some = b.1 in cc)
  one_outcome (IsNoProgram fault) b (inl e) of_b = inr (inl (ap IsNoProgram e))
  one_outcome (IsNoProgram fault) (Makes o) (inr a) b = absurd (let none = b.0 in let some = a.1 in cc)
  one_outcome (IsNoProgram fault) (FitsNowhere why sizes cert) (inr a) b = absurd (let none = b.0 in let some = a.1 in cc)
  one_outcome (IsNoProgram fault) (IsNoProgram other) (inr a) (inl e) = inr (inr (ap IsNoProgram e))
  one_outcome (IsNoProgram fault) (IsNoProgram other) (inr a) (inr b) =
      let firsts : ◌≡◌ {A = Option JoinFault} (Some a.0) (Some b.0) = sym a.1 ∙ b.1 in
      let first : a.0 ≡ b.0 = cc in
      inl (ap IsNoProgram (sym a.2 ∙ ap link_fault first ∙ b.2))
  one_outcome (IsNoProgram fault) (IsFaulty source why) (inr a) b = absurd b
  one_outcome (IsFaulty source why) b a of_b = absurd a
  one_outcome a (IsFaulty source why) of_a b = absurd b

  pub one_answer : (a b : Result Linked LinkFault) → IsLinked modules a → IsLinked modules b → AreSame (linked_outcome a) (linked_outcome b)
  one_answer a b of_a of_b = one_outcome (linked_outcome a) (linked_outcome b) (of_linked modules a of_a) (of_linked modules b of_b)

  pub one_places : OnePlaces → (a b : Linked) → IsLinked modules (Ok a) → IsLinked modules (Ok b) → a.places.items ≡ b.places.items
  one_places lists a b of_a of_b =
      let same = same_order (linked_output a) (linked_output b) of_a.1 of_b.1 of_a.2 of_b.2 in
      lists (after of_b.1) (file.placed_shape (program modules)) a.places.items b.places.items (subst (λ o. ArePlaces (after o) (file.placed_shape (program modules)) a.places.items) same of_a.3) of_b.3

-- What building the sources answers is what linking their modules answers.
module _ (law : OneAnswer) (programs : OneProgram) (grow : Bool) (sources : List Source) (these : List Assembly) (are : AreAssembled grow sources these) where
  same : (others : List Assembly) → AreAssembled grow sources others → others ≡ these
  same others other = one_program law programs grow sources others these other are

  of_fault : (fault : LinkFault) (others : List Assembly) → AreAssembled grow sources others → (first : JoinFault) → first_fault (modules_of others) ≡ Some first → link_fault first ≡ fault
      → IsOutcome (modules_of these) (IsNoProgram fault)
  of_fault fault others other first there e = inr (first, subst (λ xs. first_fault (modules_of xs) ≡ Some first) (same others other) there, e)

  pub of_built : (r : Result Built BuildFault) → IsBuilt grow sources r → IsOutcome (modules_of these) (built_outcome r)
  of_built (Ok b) is = subst (λ xs. IsOutcome (modules_of xs) (Makes (built_output b))) (same is.0 is.1) (is.2, is.4.0, is.4.1.linked)
  of_built (Err (build.Asm n fault)) is = absurd (not_faulty law programs grow sources these n is.source fault are is.there is.caused is.faulty)
  of_built (Err (build.Link (link.NoFit why sizes cert))) is =
      subst (λ xs. IsOutcome (modules_of xs) (FitsNowhere why sizes.items cert.items)) (same is.0 is.1)
      (is.2, subst (λ s. IsUnfit s why sizes.items cert.items) (sym is.3) is.4)
  of_built (Err (build.Link link.NoMemory)) is = inl refl
  of_built (Err (build.Link link.TooManyStatements)) is = of_fault link.TooManyStatements is.0 is.1 is.2 is.3 is.4
  of_built (Err (build.Link (link.BeginsNotFirst m))) is = of_fault (link.BeginsNotFirst m) is.0 is.1 is.2 is.3 is.4
  of_built (Err (build.Link (link.DefinedTwice m l))) is = of_fault (link.DefinedTwice m l) is.0 is.1 is.2 is.3 is.4
  of_built (Err (build.Link (link.Unresolved m x))) is = of_fault (link.Unresolved m x) is.0 is.1 is.2 is.3 is.4
  of_built (Err (build.Link (link.EntryNotFirst m))) is = of_fault (link.EntryNotFirst m) is.0 is.1 is.2 is.3 is.4

  pub built_is_linked : OneOrder → OneVerdict → OneFile → (a : Result Built BuildFault) (b : Result Linked LinkFault) → IsBuilt grow sources a → IsLinked (modules_of these) b → AreSame (built_outcome a) (linked_outcome b)
  built_is_linked orders verdicts files a b of_a of_b =
      one_outcome orders verdicts files (modules_of these) (built_outcome a) (linked_outcome b) (of_built a of_a) (of_linked (modules_of these) b of_b)

-- Building the same sources has one answer.
module _ (law : OneAnswer) (programs : OneProgram) (orders : OneOrder) (verdicts : OneVerdict) (files : OneFile) (grow : Bool) (sources : List Source) where
  by_modules : (these : List Assembly) → AreAssembled grow sources these → (a b : Result Built BuildFault) → IsBuilt grow sources a → IsBuilt grow sources b → AreSame (built_outcome a) (built_outcome b)
  by_modules these are a b of_a of_b =
      one_outcome orders verdicts files (modules_of these) (built_outcome a) (built_outcome b) (of_built law programs grow sources these are a of_a) (of_built law programs grow sources these are b of_b)

  by_fault : (number : ℕ) (fault : AsmFault) (b : Result Built BuildFault) → (b ≡ Err (build.Asm number fault)) ⊎ (b ≡ Err (build.Link link.NoMemory)) → AreSame (IsFaulty number fault) (built_outcome b)
  by_fault number fault b (inl e) = inl (sym (ap built_outcome e))
  by_fault number fault b (inr e) = inr (inr (ap built_outcome e))

  pub one_built : (a b : Result Built BuildFault) → IsBuilt grow sources a → IsBuilt grow sources b → AreSame (built_outcome a) (built_outcome b)
  one_built (Ok x) b of_a of_b = by_modules of_a.0 of_a.1 (Ok x) b of_a of_b
  one_built (Err (build.Asm number fault)) b of_a of_b = by_fault number fault b (exactly law programs grow sources b of_b number fault of_a)
  one_built (Err (build.Link (link.NoFit why sizes cert))) b of_a of_b = by_modules of_a.0 of_a.1 (Err (build.Link (link.NoFit why sizes cert))) b of_a of_b
  one_built (Err (build.Link link.NoMemory)) b of_a of_b = inr (inl refl)
  one_built (Err (build.Link link.TooManyStatements)) b of_a of_b = by_modules of_a.0 of_a.1 (Err (build.Link link.TooManyStatements)) b of_a of_b
  one_built (Err (build.Link (link.BeginsNotFirst m))) b of_a of_b = by_modules of_a.0 of_a.1 (Err (build.Link (link.BeginsNotFirst m))) b of_a of_b
  one_built (Err (build.Link (link.DefinedTwice m l))) b of_a of_b = by_modules of_a.0 of_a.1 (Err (build.Link (link.DefinedTwice m l))) b of_a of_b
  one_built (Err (build.Link (link.Unresolved m x))) b of_a of_b = by_modules of_a.0 of_a.1 (Err (build.Link (link.Unresolved m x))) b of_a of_b
  one_built (Err (build.Link (link.EntryNotFirst m))) b of_a of_b = by_modules of_a.0 of_a.1 (Err (build.Link (link.EntryNotFirst m))) b of_a of_b

  pub one_listing : (a b : Built) → IsBuilt grow sources (Ok a) → IsBuilt grow sources (Ok b) → (map origin_of a.statements.items ≡ map origin_of b.statements.items) × (a.last.items ≡ b.last.items)
  one_listing a b of_a of_b =
      let these : of_a.0 ≡ of_b.0 = one_program law programs grow sources of_a.0 of_b.0 of_a.1 of_b.1 in
      let order : of_a.4.0 ≡ of_b.4.0 =
      orders (shape (program_of of_b.0)) of_a.4.0 of_b.4.0 (subst (λ xs. IsLeastFirst (shape (program_of xs)) of_a.4.0) these of_a.4.1.judged.least_first) of_b.4.1.judged.least_first in (
        of_a.4.1.statements ∙ ap (λ o. origins_by (place (after o) (shape (program_of of_a.0))) (lines_of_statements of_a.0)) order
            ∙ ap (λ xs. origins_by (place (after of_b.4.0) (shape (program_of xs))) (lines_of_statements xs)) these ∙ sym of_b.4.1.statements,
        of_a.4.1.last ∙ ap (map (λ x. x.assembled.last)) these ∙ sym of_b.4.1.last,
      )
