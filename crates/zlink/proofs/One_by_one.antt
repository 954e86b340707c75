-- Sources that are assembled one by one.
use Rattle.std.proofs.Common.{◌≡◌, ◌+◌, ◌<◌, ℕ, Bool, List, [], ◌∷◌, ◌++◌, Option, Some, None, Result, Ok, Err, length, map, get_or, take, refl, sym, ap, subst, ◌∙◌, arith}
use Rattle.std.specs.Prelude.{◌≢◌}
use Rattle.std.proofs.lemmas.List.{length-map, map-append, take_more}
use Rattle.std.proofs.lemmas.List.Elements.{All-append}
use Rattle.std.proofs.lemmas.Option.{slice_get-get_or}
use Rattle.asm_macro.specs.declared.fault.MacroFault.{MacroFault}
use Rattle.asm_text.specs.Lines.{Numbered}
use Rattle.asm_module.specs.declared.assembling.Lines as listing
use Rattle.asm_module.specs.declared.fault.AsmFault.{AsmFault}
use Rattle.asm_module.specs.declared.fault.Why.{Why}
use Rattle.asm_module.specs.Assembled.{Assembled, Assembles, IsRefused, answer, assembled, assembled_of}
use Rattle.asm_module.specs.Program.Described.{AreOfSource}
use Rattle.asm_module.specs.Source.{source_fault as lines_fault}
use Rattle.asm_module.specs.Below.{layout, numbered_statements, source_table}
use Rattle.asm_module.specs.Reads.Read.{taken}
use Rattle.zmo_object.specs.declared.module.Module as whole
use Rattle.zmo_object.specs.Modules.{module_of}
use Rattle.zmo_object.specs.Rules.{IsModule}
use Rattle.zlink.specs.declared.source.Source.{Source}
use Rattle.zlink.specs.Sources.{AreAssembled, Assembly, IsAssembly, IsFirstFaulty}
use Rattle.zlink.specs.Private.Assembling.{AreHeld, IsKept, IsStop, fault_by}
use Rattle.zlink.proofs.Carried.{zipped-append}

-- Each statement of a module has a line.
lines_kept : (whole a : Assembled) (fault : Option AsmFault) → length whole.each ≡ length whole.holds.statements → answer fault whole ≡ Ok a → length a.each ≡ length a.holds.statements
lines_kept whole a (Some fault) same is = absurd (cc is)
lines_kept whole a None same is = (let e : whole ≡ a = cc in subst (λ x. length x.each ≡ length x.holds.statements) e same)

lines_of_answer : (name : List ℕ) (grow : Bool) (count : ℕ) (circle : ℕ → Bool) (r : Result (List Numbered) (ℕ × MacroFault)) (a : Assembled) → assembled name grow count circle r ≡ Ok a → length a.each ≡ length a.holds.statements
lines_of_answer name grow count circle (Err stop) a is = absurd (cc is)
lines_of_answer name grow count circle (Ok lines) a is =
    let all = numbered_statements grow (source_table (taken lines) circle (layout grow (taken lines) circle)) (layout grow (taken lines) circle) (taken lines) in
    lines_kept _ a (lines_fault grow lines circle) (length-map all (λ n. n.0) ∙ sym (length-map all (λ n. n.1))) is

pub each_line : (name text : List ℕ) (grow : Bool) (a : Assembled) → Assembles name text grow (Ok a) → length a.each ≡ length a.holds.statements
each_line name text grow a is = lines_of_answer name grow _ is.2 is.0 a is.4

-- The sources before this number are assembled, and the code's lists hold their modules and lines.
pub record SoFar (grow : Bool) (sources : List Source) (number : ℕ) (modules : List whole.Module) (lines : List listing.Lines) : Type 0 where
  pub assemblies : List Assembly
  pub are : AreAssembled grow (take number sources) assemblies
  pub held : AreHeld modules lines assemblies

pub nothing_yet : (grow : Bool) (sources : List Source) → SoFar grow sources 0 [] []
nothing_yet grow sources = record { assemblies = []; are = tt; held = record { modules_are = refl; each = refl; last = refl; kept = λ k d lt. absurd (omega arith) } }

-- one more source is assembled
pub one_more : (grow : Bool) (sources : List Source) (number : ℕ) (d : Source) (modules : List whole.Module) (lines : List listing.Lines) (m : whole.Module) (own : listing.Lines) (new_modules : List whole.Module) (new_lines : List listing.Lines)
    → number < length sources → SoFar grow sources number modules lines
    → Assembles (get_or sources number d).name.now (get_or sources number d).text.now grow (Ok (assembled_of (m, own))) → IsModule (module_of m) → AreOfSource (get_or sources number d).text.now grow (module_of m).statements
    → new_modules ≡ modules ++ m ∷ [] → new_lines ≡ lines ++ own ∷ [] → SoFar grow sources (number + 1) new_modules new_lines
one_more grow sources number d modules lines m own new_modules new_lines lt so_far answered rules states with_module with_lines =
    let a : Assembly = record { assembled = assembled_of (m, own); program = states.0 } in
    let all : List Assembly = so_far.assemblies ++ a ∷ [] in
    let longer : take (number + 1) sources ≡ take number sources ++ get_or sources number d ∷ [] = take_more sources number d lt in
    record {
      assemblies = all;
      are = subst (λ ss. AreAssembled grow ss all) (sym longer)
          (zipped-append (IsAssembly grow) (take number sources) (get_or sources number d ∷ []) so_far.assemblies (a ∷ []) so_far.are (record { assembled = answered; stated = states.1 }, tt));
      held = record {
        modules_are = ap (map module_of) with_module ∙ map-append module_of modules (m ∷ []) ∙ ap (λ ms. ms ++ module_of m ∷ []) so_far.held.modules_are ∙ sym (map-append (λ x. x.assembled.holds) so_far.assemblies (a ∷ []));
        each = ap (map (λ l. l.each.items)) with_lines ∙ map-append (λ l. l.each.items) lines (own ∷ []) ∙ ap (λ ls. ls ++ own.each.items ∷ []) so_far.held.each ∙ sym (map-append (λ x. x.assembled.each) so_far.assemblies (a ∷ []));
        last = ap (map (λ l. l.last)) with_lines ∙ map-append (λ l. l.last) lines (own ∷ []) ∙ ap (λ ls. ls ++ own.last ∷ []) so_far.held.last ∙ sym (map-append (λ x. x.assembled.last) so_far.assemblies (a ∷ []));
        kept = All-append IsKept so_far.assemblies (a ∷ []) so_far.held.kept (one a (record { rules = rules; placed = states.2; lines = each_line (get_or sources number d).name.now (get_or sources number d).text.now grow (assembled_of (m, own)) answered }));
      };
    }
  where
    one : (a : Assembly) → IsKept a → (k : ℕ) (d : Assembly) → k < 1 → IsKept (get_or (a ∷ []) k d)
    one a kept k d lt = let first : k ≡ 0 = omega arith in subst (λ n. IsKept (get_or (a ∷ []) n d)) (sym first) kept

-- If this source has an error, it is the first one that has.
first_faulty : (grow : Bool) (sources : List Source) (number : ℕ) (d : Source) (modules : List whole.Module) (lines : List listing.Lines) (fault : AsmFault) → number < length sources
    → SoFar grow sources number modules lines → Assembles (get_or sources number d).name.now (get_or sources number d).text.now grow (Err fault) → fault.why ≢ Why.NoMemory → IsFirstFaulty grow sources number fault
first_faulty grow sources number d modules lines fault lt so_far faulty caused = record {
  before = so_far.assemblies;
  good = so_far.are;
  source = get_or sources number d;
  there = slice_get-get_or sources number d lt;
  faulty = faulty;
  caused = caused;
}

pub stops : (grow : Bool) (sources : List Source) (number : ℕ) (d : Source) (modules : List whole.Module) (lines : List listing.Lines) (fault : AsmFault) → number < length sources
    → SoFar grow sources number modules lines → IsRefused fault.why (get_or sources number d).name.now (get_or sources number d).text.now grow fault → IsStop grow sources (fault_by fault.why number fault)
stops grow sources number d modules lines fault lt so_far refused = by fault.why refl refused
  where
    by : (w : Why) → fault.why ≡ w → IsRefused w (get_or sources number d).name.now (get_or sources number d).text.now grow fault → IsStop grow sources (fault_by w number fault)
    by (Why.Macro why) was refused = first_faulty grow sources number d modules lines fault lt so_far refused (λ e. cc)
    by (Why.Stmt why) was refused = first_faulty grow sources number d modules lines fault lt so_far refused (λ e. cc)
    by Why.Duplicate was refused = first_faulty grow sources number d modules lines fault lt so_far refused (λ e. cc)
    by Why.Undefined was refused = first_faulty grow sources number d modules lines fault lt so_far refused (λ e. cc)
    by Why.PublicNotLabel was refused = first_faulty grow sources number d modules lines fault lt so_far refused (λ e. cc)
    by Why.EquCircle was refused = first_faulty grow sources number d modules lines fault lt so_far refused (λ e. cc)
    by Why.TooManyStatements was refused = first_faulty grow sources number d modules lines fault lt so_far refused (λ e. cc)
    by Why.TooManyNames was refused = first_faulty grow sources number d modules lines fault lt so_far refused (λ e. cc)
    by Why.NoMemory was refused = tt
