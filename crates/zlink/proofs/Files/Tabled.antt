-- The table of a module has the address of what each of its refs stands for.
use Rattle.std.proofs.Common.{◌≡◌, inl, inr, ℕ, ◌+◌, ◌-◌, ◌<◌, Bool, true, false, List, ◌++◌, Some, All, cond, length, map, take, drop, slice_index, refl, sym, ap, ◌∙◌, arith, length-append, length-drop}
use Rattle.std.specs.Prelude.{nat_le}
use Rattle.std.specs.List.{slice_get, slice_range}
use Rattle.std.proofs.lemmas.Bool.{cases_lt, leb-false, leb-true}
use Rattle.std.proofs.lemmas.List.{get_or-append_right, get_or-drop, get_or-map, get_or-take, get_or_append_left, length-map, length-take-le}
use Rattle.zmo_object.specs.Modules.{Module, ModuleStatement}
use Rattle.zmo_object.specs.Rules.{IsModuleStatement, refs_of}
use Rattle.zlink.specs.declared.program.joining.Links.{Links}
use Rattle.zlink.specs.Program.Laws.{IsWithin, part_at}
use Rattle.zlink.specs.Program.Parts.{ModulePart, parts, all_publics}
use Rattle.zlink.specs.Program.Whole.{program, stands}
use Rattle.zlink.specs.Private.Refs.{stands_by, table_of}
use Rattle.zlink.proofs.Files.Elements.{at-element}
use Rattle.zlink.proofs.Files.FileSoFar.{Follow, IsTabled}
use Rattle.zlink.proofs.Files.Linking.{IsHere, refs-same, stands-same}

-- each statement of a module is in the program, after the statements of the modules before it
abbrev pub StatementsLaw : Type 0
StatementsLaw = (modules : List Module) (m i : ℕ) (p : ModulePart) (s : ModuleStatement) → slice_get (parts modules) m ≡ Some p → slice_get p.holds.statements i ≡ Some s
    → slice_get (program modules) (p.base + i) ≡ Some (record { statement = s; stands = stands (all_publics (parts modules)) p })

own-length : (count base : ℕ) (places : List ℕ) → base + count < length places → length (slice_range places base (base + count + 1)) ≡ count + 1
own-length count base places lt =
    let n : (base + count + 1) - base ≡ count + 1 = omega arith in
    ap (λ k. length (take k (drop base places))) n ∙ length-take-le (count + 1) (drop base places) (omega (arith, length-drop base places))

table-length : (count base : ℕ) (externals places : List ℕ) → base + count < length places → length (table_of count base externals places) ≡ count + 1 + length externals
table-length count base externals places lt =
    omega (arith, own-length count base places lt, length-append (slice_range places base (base + count + 1)) (map (slice_index places) externals), length-map externals (slice_index places))

table-at : (count base : ℕ) (externals places : List ℕ) (ref : ℕ) → base + count < length places → ref < count + 1 + length externals
    → slice_index (table_of count base externals places) ref ≡ slice_index places (stands_by count base externals ref)
table-at count base externals places ref lt within = by (nat_le ref count) refl
  where
    own : List ℕ
    own = slice_range places base (base + count + 1)

    others : List ℕ
    others = map (slice_index places) externals

    by : (b : Bool) → nat_le ref count ≡ b → slice_index (own ++ others) ref ≡ slice_index places (cond b (base + ref) (slice_index externals (ref - (count + 1))))
    by true test =
        let le = leb-true ref count test in
        get_or_append_left own others 0 ref (omega (arith, own-length count base places lt))
        ∙ get_or-take ((base + count + 1) - base) (drop base places) ref 0 (omega arith) ∙ get_or-drop base places ref 0
    by false test =
        let above = leb-false ref count test in
        get_or-append_right own others (count + 1) ref 0 (own-length count base places lt) (omega arith)
        ∙ get_or-map (slice_index places) externals (ref - (count + 1)) 0 0 (omega arith)

module _ (modules : List Module) (k : ℕ) (m : Module) (l : Links) (count : ℕ) (places table : List ℕ) (h : IsHere modules k m l) (counted : count ≡ length m.statements) (room : l.base + count < length places)
    (filled : table ≡ table_of count l.base l.externals.items places) where
  abbrev meaning : ℕ → ℕ
  meaning = stands (all_publics (parts modules)) (part_at modules k m)

  refs-are : refs_of m ≡ count + 1 + length l.externals.items
  refs-are = omega (arith, refs-same modules k m l h, l.externals.ok)

  long : length table ≡ refs_of m
  long = ap length filled ∙ table-length count l.base l.externals.items places room ∙ sym refs-are

  at : (ref : ℕ) → ref < refs_of m → slice_index table ref ≡ slice_index places (meaning ref)
  at ref lt = ap (λ t. slice_index t ref) filled ∙ table-at count l.base l.externals.items places ref room (omega (arith, refs-are))
      ∙ ap (slice_index places) (ap (λ n. stands_by n l.base l.externals.items ref) counted ∙ stands-same modules k m l ref h lt)

  tabled : (s : ModuleStatement) → IsModuleStatement m.grow (refs_of m) s → IsWithin (length (program modules)) (record { statement = s; stands = meaning }) → IsTabled (length (program modules)) places table (record { statement = s; stands = meaning })
  tabled s rules within = elim (cases_lt within.refs (refs_of m)) [
    | inl less ↦ record { grow = within.grow; refs = within.refs; rules = within.rules; fits = omega (arith, long); stands = within.stands; each = λ ref lt. at ref (omega arith) }
    | inr more ↦ record { grow = m.grow; refs = refs_of m; rules = rules; fits = omega (arith, long); stands = λ ref lt. within.stands ref (omega arith); each = at }
  ]

  -- the statements of a module are in the program from its base on
  pub follow : StatementsLaw → (ss : List ModuleStatement) → ss ≡ m.statements → All (IsWithin (length (program modules))) (program modules)
      → Follow (program modules) places table (stands (all_publics (parts modules)) (part_at modules k m)) l.base ss
  follow law ss same all = record {
    there = there;
    tabled = λ i s is. tabled s (at-element (IsModuleStatement m.grow (refs_of m)) m.statements i s h.rules.statements (own i s is)) (at-element (IsWithin (length (program modules))) (program modules) (l.base + i) (record { statement = s; stands = meaning }) all (there i s is));
  }
    where
      own : (i : ℕ) (s : ModuleStatement) → slice_get ss i ≡ Some s → slice_get m.statements i ≡ Some s
      own i s is = ap (λ xs. slice_get xs i) (sym same) ∙ is

      there : (i : ℕ) (s : ModuleStatement) → slice_get ss i ≡ Some s → slice_get (program modules) (l.base + i) ≡ Some (record { statement = s; stands = meaning })
      there i s is = ap (λ n. slice_get (program modules) (n + i)) h.linked.base ∙ law modules k i (part_at modules k m) s h.part (own i s is)
