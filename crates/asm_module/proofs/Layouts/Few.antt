-- How many statements lines have, and tables by which lines have the same statements.
use Rattle.std.proofs.Common.{◌≡◌, ◌≤◌, ◌+◌, ◌∙◌, sym, ap, refl, subst, ℕ, Bool, true, false, cond, List, [], ◌∷◌, Option, Some, None, length, count_by, map, take, inl, inr, ◌⊎◌, arith}
use Rattle.std.specs.List.{cons_option, filter_map}
use Rattle.std.specs.Option.{option_map}
use Rattle.std.proofs.Math.Path.{fun_ext}
use Rattle.std.proofs.lemmas.List.Sums.{sum_by-append}
use Rattle.asm_expr.specs.Types.{Statement}
use Rattle.asm_expr.specs.declared.meaning.Meaning.{Meaning}
use Rattle.asm_expr.specs.Names.{Table, found}
use Rattle.z80_instr.specs.declared.Branch.{Branch}
use Rattle.std.specs.Prelude.{is_some}
use Rattle.asm_stmt.specs.Made.{ref_of}
use Rattle.asm_spell.specs.Line as line
use Rattle.asm_spell.specs.Line.{Body, Line}
use Rattle.asm_names.specs.Lines.{Taken, has_statement, is_statement, placed}
use Rattle.asm_stmt.specs.Sized.{IsLike, Kind, kind, sized}
use Rattle.asm_module.specs.Layouts.Laid.{laid, line_sized, may_grow, statements}

count_one : (has : Bool) (o : Option Statement) (rest : List Statement) (n : ℕ) → (o ≡ None) ⊎ (has ≡ true) → length rest ≤ n → length (cons_option o rest) ≤ cond has 1 0 + n
count_one has None rest n told le = omega (arith, le)
count_one true (Some s) rest n told le = omega (arith, le)
count_one false (Some s) rest n (inl none) le = absurd cc
count_one false (Some s) rest n (inr is) le = absurd cc

word_counts : (grow : Bool) (t : Table) (body : Body) → (option_map (may_grow grow t body) (sized t body) ≡ None) ⊎ (is_statement body ≡ true)
word_counts grow t (line.Code instr numbers) = inr refl
word_counts grow t (line.Jump condition target) = inr refl
word_counts grow t (line.Short branch target) = inr refl
word_counts grow t (line.Bytes values) = inr refl
word_counts grow t (line.Words fields) = inr refl
word_counts grow t (line.Space size fill) = inr refl
word_counts grow t (line.Public list) = inl refl
word_counts grow t (line.External list) = inl refl
word_counts grow t (line.Origin e) = inl refl
word_counts grow t (line.End entry) = inl refl
word_counts grow t line.Z80 = inl refl

line_counts : (grow : Bool) (t : Table) (l : Line) → (line_sized grow t l ≡ None) ⊎ (has_statement l ≡ true)
line_counts grow t (line.Equ name e) = inl refl
line_counts grow t (line.Statement label None) = inl refl
line_counts grow t (line.Statement label (Some body)) = word_counts grow t body

count_more : (l : Taken) (ls : List Taken) → count_by (λ m. has_statement m.line) (l ∷ ls) ≡ cond (has_statement l.line) 1 0 + count_by (λ m. has_statement m.line) ls
count_more l ls = sum_by-append (λ m. cond (has_statement m.line) 1 0) (l ∷ []) ls ∙ ap (λ n. n + count_by (λ m. has_statement m.line) ls) (omega arith)

pub few_statements : (grow : Bool) (t : Table) (lines : List Taken) → length (statements grow t lines) ≤ count_by (λ l. has_statement l.line) lines
few_statements grow t [] = omega arith
few_statements grow t (l ∷ ls) =
    subst (λ n. length (statements grow t (l ∷ ls)) ≤ n) (sym (count_more l ls)) (count_one (has_statement l.line) (line_sized grow t l.line) (statements grow t ls) (count_by (λ l. has_statement l.line) ls) (line_counts grow t l.line) (few_statements grow t ls))

-- A name stands for a label or an external in both tables, or in neither.
abbrev is_place : Kind → Bool
is_place Kind.Place = true
is_place _ = false

place_kind : (m : Option Meaning) → is_some (ref_of m) ≡ is_place (kind m)
place_kind (Some (Meaning.Label r)) = refl
place_kind (Some (Meaning.External r)) = refl
place_kind (Some (Meaning.Constant n)) = refl
place_kind (Some Meaning.UnknownConstant) = refl
place_kind (Some (Meaning.Equ e)) = refl
place_kind (Some Meaning.Faulty) = refl
place_kind None = refl

pub grows_alike : (grow : Bool) (t u : Table) → IsLike t u → (body : Body) (s : Statement) → may_grow grow t body s ≡ may_grow grow u body s
grows_alike true t u same (line.Short (Branch.Relative condition) target) s =
    ap (λ b. cond b Statement.Relaxable s) (place_kind (found t target) ∙ ap is_place (same target) ∙ sym (place_kind (found u target)))
grows_alike grow t u same body s = refl

line_alike : ((t u : Table) (b : Body) → IsLike t u → sized t b ≡ sized u b) → (grow : Bool) (t u : Table) → IsLike t u → (l : Line) → line_sized grow t l ≡ line_sized grow u l
line_alike like grow t u same (line.Equ name e) = refl
line_alike like grow t u same (line.Statement label None) = refl
line_alike like grow t u same (line.Statement label (Some body)) = ap (option_map (may_grow grow t body)) (like t u body same) ∙ ap (λ f. option_map f (sized u body)) (fun_ext (grows_alike grow t u same body))

pub laid_alike : ((t u : Table) (b : Body) → IsLike t u → sized t b ≡ sized u b) → (grow : Bool) (t u : Table) (lines : List Taken) → IsLike t u → laid grow t lines ≡ laid grow u lines
laid_alike like grow t u lines same =
    let alike : (λ (l : Taken). line_sized grow t l.line) ≡ (λ (l : Taken). line_sized grow u l.line) = fun_ext (λ l. line_alike like grow t u same l.line) in
    ap (λ f. record { next = map (λ l. length (filter_map f (take l.0 lines))) (placed lines); statements = filter_map f lines }) alike
