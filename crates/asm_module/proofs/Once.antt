-- A source has one answer and describes one program: which EQU lines lead back to themselves depends only on the lines.
use Rattle.std.proofs.Common.{◌≡◌, ◌<◌, ◌∙◌, sym, ap, refl, subst, ℕ, zero, suc, Bool, true, false, List, [], ◌∷◌, Some, All, length, map, slice_get, slice_index_or, arith}
use Rattle.std.specs.List.{IsDistinct}
use Rattle.std.specs.Option.{option_map}
use Rattle.std.specs.Str.{bytes_eq}
use Rattle.std.proofs.lemmas.Cmp.{nat_list_eq_equiv}
use Rattle.std.proofs.lemmas.List.Elements.{All-head, All-tail}
use Rattle.std.proofs.lemmas.List.FromFn.{get_or-enumerate_from, length-enumerate_from}
use Rattle.std.proofs.lemmas.Map.Entries.{lookup_from_place}
use Rattle.std.proofs.lemmas.Option.{slice_get-get_or, slice_get_within}
use Rattle.asm_expr.specs.Equating.{equated}
use Rattle.asm_expr.specs.Below.{source_tree}
use Rattle.asm_names.specs.Circles.{TellsCircles, items_at}
use Rattle.asm_names.specs.declared.equ_fault.EquFault.{EquFault}
use Rattle.asm_names.specs.Layout.{Layout}
use Rattle.asm_names.specs.Meanings as equ
use Rattle.asm_names.specs.Meanings.{Entries, after_rounds, name_meanings, meaning, meaning_by, table_at, undefined, expression_fault}
use Rattle.asm_module.specs.Layouts.Laid.{laid}
use Rattle.asm_names.specs.declared.kind.Kind.{Kind}
use Rattle.asm_names.specs.Faults.{first, if_so}
use Rattle.asm_names.specs.Lines.{Taken, placed}
use Rattle.asm_names.specs.Names.{kind_of_name, names}
use Rattle.asm_spell.specs.Line as line
use Rattle.asm_spell.specs.Line.{ExpressionItems, Line}
use Rattle.asm_module.specs.Program.Lines.{program_of_lines}
use Rattle.asm_module.specs.Module.Stated as stated
use Rattle.asm_module.specs.Module.Stated.{numbered_statements}
use Rattle.asm_module.specs.Outlines.{layout, no_layout, source_table}
use Rattle.asm_module.specs.Source.{fault_on_line, first_equ_line_fault, module_by, state_fault, statement_lines}
use Rattle.asm_module.specs.Whys.{equ_why, state_why}

-- if two functions agree on each element, the mapped lists are equal
map_alike : {A B : Type 0} (f g : A → B) (xs : List A) → All (λ x. f x ≡ g x) xs → map f xs ≡ map g xs
map_alike f g [] all = refl
map_alike f g (x ∷ xs) all = ap (λ y. y ∷ map f xs) (All-head (λ y. f y ≡ g y) x xs all) ∙ ap (λ ys. g x ∷ ys) (map_alike f g xs (All-tail (λ y. f y ≡ g y) x xs all))

one_test : (a b : Bool) → (a ≡ true → b ≡ true) → (b ≡ true → a ≡ true) → a ≡ b
one_test true b to from = sym (to refl)
one_test false true to from = from refl
one_test false false to from = refl

-- the number of each line is below the number of lines
placed_below : (lines : List Taken) → All (λ l. l.0 < length lines) (placed lines)
placed_below lines k d lt =
    let room : k < length lines = subst (λ n. k < n) (length-enumerate_from 0 lines) lt in
    subst (λ (l : ℕ × Taken). l.0 < length lines) (sym (get_or-enumerate_from 0 lines k d room)) (omega (arith, room))

-- the laws of `asm_names` that are used here
pub record OfLines : Type 0 where
  pub given : (lines : List Taken) (name : List ℕ) (at : ℕ) → kind_of_name (names lines) name ≡ Some (Kind.Equ at) → (l : Taken) × (slice_get lines at ≡ Some l) × ((e : ExpressionItems) × (l.line ≡ line.Equ name e))
  pub distinct : (lines : List Taken) → IsDistinct bytes_eq (map (λ d. d.0) (names lines))

-- If two functions both say which lines lead back to themselves, everything else is the same with either.
module _ (laws : OfLines) (lines : List Taken) (c d : ℕ → Bool) (c_tells : TellsCircles (names lines) lines c) (d_tells : TellsCircles (names lines) lines d) where
  same : (at : ℕ) → at < length lines → c at ≡ d at
  same at room = one_test (c at) (d at) (λ is. (d_tells at room).1 ((c_tells at room).0 is)) (λ is. (c_tells at room).1 ((d_tells at room).0 is))

  each_known : All (λ e. kind_of_name (names lines) e.0 ≡ Some e.1) (names lines)
  each_known k e lt = lookup_from_place nat_list_eq_equiv (names lines) k _ _ (laws.distinct lines) (slice_get-get_or (names lines) k e lt)

  meaning_same : (layout : Layout) (known : Entries) (x : List ℕ) (k : Kind) → kind_of_name (names lines) x ≡ Some k → meaning (names lines) lines c layout known x k ≡ meaning (names lines) lines d layout known x k
  meaning_same layout known x (Kind.Label at) is = refl
  meaning_same layout known x Kind.External is = refl
  meaning_same layout known x (Kind.Equ at) is =
      let l = laws.given lines x at is in
      let e = items_at lines at in
      let t = table_at layout known at in
      ap (λ b. meaning_by (first (undefined (names lines) e ∷ if_so EquFault.EquCircle b ∷ expression_fault t e ∷ [])) (equated t (source_tree e))) (same at (slice_get_within lines at l.0 l.1))

  rounds_same : (n : ℕ) (layout : Layout) → after_rounds n (names lines) lines c layout ≡ after_rounds n (names lines) lines d layout
  rounds_same zero layout = refl
  rounds_same (suc n) layout =
      let known = after_rounds n (names lines) lines d layout in
      ap (λ k. map (λ e. (e.0, meaning (names lines) lines c layout k e.0 e.1)) (names lines)) (rounds_same n layout)
      ∙ map_alike (λ e. (e.0, meaning (names lines) lines c layout known e.0 e.1)) (λ e. (e.0, meaning (names lines) lines d layout known e.0 e.1)) (names lines)
      (λ k e lt. let x = slice_index_or (names lines) k e in ap (λ m. (x.0, m)) (meaning_same layout known x.0 x.1 (each_known k e lt)))

  table_same : (layout : Layout) → source_table lines c layout ≡ source_table lines d layout
  table_same layout = ap (λ es. table_at layout es 0) (rounds_same (suc (length lines)) layout)

  -- the errors of EQU lines
  line_same : (layout : Layout) (known : Entries) (at : ℕ) (l : Line) → at < length lines → equ.equ_line_fault (names lines) c layout known at l ≡ equ.equ_line_fault (names lines) d layout known at l
  line_same layout known at (line.Equ name e) room = ap (λ b. first (undefined (names lines) e ∷ if_so EquFault.EquCircle b ∷ expression_fault (table_at layout known at) e ∷ [])) (same at room)
  line_same layout known at (line.Statement label body) room = refl

  equs_same : (layout : Layout) → equ.first_equ_fault (names lines) lines c layout ≡ equ.first_equ_fault (names lines) lines d layout
  equs_same layout =
      let known = name_meanings (names lines) lines d layout in
      ap (λ k. first (map (λ l. option_map (λ why. (l.1.number, why)) (equ.equ_line_fault (names lines) c layout k l.0 l.1.line)) (placed lines))) (rounds_same (suc (length lines)) layout)
      ∙ ap first (map_alike
      (λ l. option_map (λ why. (l.1.number, why)) (equ.equ_line_fault (names lines) c layout known l.0 l.1.line))
      (λ l. option_map (λ why. (l.1.number, why)) (equ.equ_line_fault (names lines) d layout known l.0 l.1.line))
      (placed lines)
      (λ k e lt. let l = slice_index_or (placed lines) k e in ap (option_map (λ why. (l.1.number, why))) (line_same layout known l.0 l.1.line (placed_below lines k e lt))))

  module _ (grow : Bool) where
    layout_same : layout grow lines c ≡ layout grow lines d
    layout_same = ap (λ t. laid grow t lines) (table_same no_layout)

    pub program_same : program_of_lines grow (source_table lines c (layout grow lines c)) (layout grow lines c) lines ≡ program_of_lines grow (source_table lines d (layout grow lines d)) (layout grow lines d) lines
    program_same = ap (λ l. program_of_lines grow (source_table lines c l) l lines) layout_same ∙ ap (λ t. program_of_lines grow t (layout grow lines d) lines) (table_same (layout grow lines d))

    numbered_same : numbered_statements grow (source_table lines c (layout grow lines c)) (layout grow lines c) lines ≡ numbered_statements grow (source_table lines d (layout grow lines d)) (layout grow lines d) lines
    numbered_same = ap (λ l. numbered_statements grow (source_table lines c l) l lines) layout_same ∙ ap (λ t. numbered_statements grow t (layout grow lines d) lines) (table_same (layout grow lines d))

    pub equ_fault_same : first_equ_line_fault lines c (layout grow lines c) ≡ first_equ_line_fault lines d (layout grow lines d)
    equ_fault_same = ap (first_equ_line_fault lines c) layout_same ∙ ap (fault_on_line equ_why) (equs_same (layout grow lines d))

    pub state_fault_same : state_fault lines c (layout grow lines c) ≡ state_fault lines d (layout grow lines d)
    state_fault_same = ap (state_fault lines c) layout_same ∙ ap (λ t. fault_on_line state_why (stated.first_statement_fault (names lines) t (layout grow lines d) lines)) (table_same (layout grow lines d))

    pub module_same : (name : List ℕ) → module_by name grow lines c (layout grow lines c) ≡ module_by name grow lines d (layout grow lines d)
    module_same name =
        ap (module_by name grow lines c) layout_same
        ∙ ap (λ t. record (module_by name grow lines d (layout grow lines d)) { statements = map (λ n. n.1) (numbered_statements grow t (layout grow lines d) lines) }) (table_same (layout grow lines d))

    pub lines_same : statement_lines grow lines c (layout grow lines c) ≡ statement_lines grow lines d (layout grow lines d)
    lines_same = ap (map (λ n. n.0)) numbered_same
