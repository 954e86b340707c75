-- Each list of sources is a list of programs, or has a first source with an error.
use Rattle.std.proofs.Common.{◌≡◌, ◌⊎◌, inl, inr, refl, ℕ, suc, Bool, List, [], ◌∷◌, Option, Some, None, Result, Ok, Err}
use Rattle.asm_text.specs.Lines.{Numbered}
use Rattle.asm_names.specs.Faults.{first}
use Rattle.asm_module.specs.Reads.Read.{taken}
use Rattle.asm_module.specs.declared.fault.AsmFault.{AsmFault}
use Rattle.asm_module.specs.Assembled.{Assembled, Assembles, HasCause, answer}
use Rattle.asm_module.specs.Program.Described.{IsProgramOfSource}
use Rattle.asm_module.specs.Below.{layout}
use Rattle.asm_module.specs.Source.{first_equ_line_fault, first_pass, state_fault}
use Rattle.asm_module.specs.Program.Statement.{Statement}
use Rattle.zlink.specs.declared.source.Source.{Source}
use Rattle.zlink.specs.Sources.{Assembly, AreAssembled, IsFirstFaulty}

-- The source is a program.
abbrev States : List ℕ → Bool → Type 0
States text grow = (p : List Statement) × IsProgramOfSource text grow p

by_pass : (text : List ℕ) (grow : Bool) (lines : List Numbered) (circle : ℕ → Bool) (whole a : Assembled) (pass equ state : Option AsmFault) → (pass ≡ None → States text grow) → answer (first (pass ∷ equ ∷ state ∷ [])) whole ≡ Ok a → States text grow
by_pass text grow lines circle whole a None equ state stated comes = stated refl
by_pass text grow lines circle whole a (Some fault) equ state stated comes = absurd (cc comes)

states : (name text : List ℕ) (grow : Bool) (a : Assembled) → Assembles name text grow (Ok a) → States text grow
states name text grow a (Err stop, is, circle, tells, comes) = absurd (cc comes)
states name text grow a (Ok lines, is, circle, tells, comes) =
    by_pass text grow lines circle _ a (first_pass lines) (first_equ_line_fault (taken lines) circle (layout grow (taken lines) circle)) (state_fault (taken lines) circle (layout grow (taken lines) circle))
    (λ none. (_, (lines, is, (circle, tells none, refl)))) comes

abbrev Answers : Bool → List Source → Type 0
Answers grow sources = ((assemblies : List Assembly) × AreAssembled grow sources assemblies) ⊎ ((number : ℕ) × (fault : AsmFault) × IsFirstFaulty grow sources number fault)

-- a source, and others after it
before : (grow : Bool) (s : Source) (sources : List Source) (result : Result Assembled AsmFault) → HasCause result → Assembles s.name.now s.text.now grow result → Answers grow sources → Answers grow (s ∷ sources)
before grow s sources (Err fault) caused is others = inr (0, fault, record { before = []; good = tt; source = s; there = refl; faulty = is; caused = caused })
before grow s sources (Ok a) caused is (inl all) =
    let p = states s.name.now s.text.now grow a is in
    inl (record { assembled = a; program = p.0 } ∷ all.0, (record { assembled = is; stated = p.1 }, all.1))
before grow s sources (Ok a) caused is (inr (number, fault, f)) =
    let p = states s.name.now s.text.now grow a is in
    inr (suc number, fault, record { before = record { assembled = a; program = p.0 } ∷ f.before; good = (record { assembled = is; stated = p.1 }, f.good); source = f.source; there = f.there; faulty = f.faulty; caused = f.caused })

-- given the clauses of `some_answer`
pub some_sources : ((name text : List ℕ) (grow : Bool) → (result : Result Assembled AsmFault) × HasCause result × Assembles name text grow result) → (grow : Bool) (sources : List Source) → Answers grow sources
some_sources some grow [] = inl ([], tt)
some_sources some grow (s ∷ sources) =
    let one = some s.name.now s.text.now grow in
    before grow s sources one.0 one.1 one.2 (some_sources some grow sources)
