-- Cutting operands from left to right.
use Rattle.std.proofs.Common.{◌≡◌, ◌≤◌, ◌<◌, ◌+◌, ◌-◌, ◌&&◌, ◌==◌, ℕ, suc, nat_eq, inl, inr, true, false, List, [], ◌∷◌, ◌++◌, Option, Some, None, Result, Ok, Err, length, take, drop, get_or, cond, refl, ap, sym, ◌∙◌, append_assoc, arith}
use Rattle.std.specs.Borrow.{Bor}
use Rattle.std.proofs.lemmas.List.{take_all, drop_all, at_drop_more, length-drop}
use Rattle.std.proofs.lemmas.Bool.Decides.{eqb_tells}
use Rattle.asm_line.specs.declared.token.Token.{Token}
use Rattle.asm_line.specs.Tokens.{Lexeme, lexeme, lexemes}
use Rattle.asm_line.specs.Commas.{open_behind}
use Rattle.asm_line.specs.Single.{is_comma}
use Rattle.common.specs.Results.{◌>>=◌}
use Rattle.asm_spell.specs.declared.fault.StmtFault.{StmtFault}
use Rattle.asm_spell.specs.Faults.{Fails, each}
use Rattle.asm_spell.specs.Operands.{pieces, with_first, closed_by_last, is_last}
use Rattle.asm_spell.specs.Private.Cutting.{first_len, behind}

-- how many more times the loop can run
abbrev pub room : Option (Bor (List Token)) → ℕ
room None = 0
room (Some rest) = length rest.now + 1

-- The pieces after a comma, if there is one.
abbrev behind_comma : List Lexeme → List (List Lexeme)
behind_comma [] = []
behind_comma (comma ∷ rest) = pieces 0 rest

cut : (depth : ℕ) (ts : List Token) → pieces depth (lexemes ts) ≡ lexemes (take (first_len depth (lexemes ts)) ts) ∷ behind_comma (lexemes (drop (first_len depth (lexemes ts)) ts))
cut depth [] = refl
cut depth (t ∷ ts) =
    elim ((depth == 0) && is_comma (lexeme t)) as (λ b. cond b ([] ∷ pieces 0 (lexemes ts)) (with_first (lexeme t) (pieces (open_behind depth t.kind) (lexemes ts)))
    ≡ lexemes (take (cond b 0 (suc (first_len (open_behind depth t.kind) (lexemes ts)))) (t ∷ ts)) ∷ behind_comma (lexemes (drop (cond b 0 (suc (first_len (open_behind depth t.kind) (lexemes ts)))) (t ∷ ts)))) [
      | true ↦ refl
      | false ↦ ap (with_first (lexeme t)) (cut (open_behind depth t.kind) ts)
    ]

-- There is always a first operand, which may be empty.
pub some_piece : (ts : List Token) → (p : List Lexeme) × (ps : List (List Lexeme)) × (pieces 0 (lexemes ts) ≡ p ∷ ps)
some_piece ts = (_, _, cut 0 ts)

-- The first operand, and the pieces after it.
parted : (ts front back : List Token) (n : ℕ) → n ≡ first_len 0 (lexemes ts) → front ≡ take n ts → back ≡ drop n ts → pieces 0 (lexemes ts) ≡ lexemes front ∷ behind_comma (lexemes back)
parted ts front back n e f b = cut 0 ts ∙ rw (← e, ← f, ← b) refl

last_one : (back : List Token) → length back < 1 → behind_comma (lexemes back) ≡ []
last_one [] none = refl
last_one (t ∷ ts) none = absurd (omega arith)

others : (back : List Token) → 1 ≤ length back → behind_comma (lexemes back) ≡ pieces 0 (lexemes (take (length back - 1) (drop 1 back)))
others [] some = absurd (omega arith)
others (t ∷ ts) some = ap (λ xs. pieces 0 (lexemes xs)) (sym (take_all (length (t ∷ ts) - 1) ts (omega arith)))

pub one_operand : (ts front back : List Token) (n : ℕ) → n ≡ first_len 0 (lexemes ts) → front ≡ take n ts → back ≡ drop n ts → length back < 1 → pieces 0 (lexemes ts) ≡ lexemes front ∷ []
one_operand ts front back n e f b none = parted ts front back n e f b ∙ ap (λ ps. lexemes front ∷ ps) (last_one back none)

pub more_operands : (ts front back : List Token) (n : ℕ) → n ≡ first_len 0 (lexemes ts) → front ≡ take n ts → back ≡ drop n ts → 1 ≤ length back
    → pieces 0 (lexemes ts) ≡ lexemes front ∷ pieces 0 (lexemes (take (length back - 1) (drop 1 back)))
more_operands ts front back n e f b some = parted ts front back n e f b ∙ ap (λ ps. lexemes front ∷ ps) (others back some)

-- Reading one operand after the other.
joined : {B : Type 0} (before : List B) (y : B) (rest : Result (List B) StmtFault) → behind before (rest >>= λ ys. Ok (y ∷ ys)) ≡ behind (before ++ y ∷ []) rest
joined before y (Ok ys) = ap Ok (sym (append_assoc before (y ∷ []) ys))
joined before y (Err fault) = refl

pub first_read : {A B : Type 0} (reads : A → Result B StmtFault) (before : List B) (p : A) (ps : List A) (y : B) → reads p ≡ Ok y
    → behind before (each reads (p ∷ ps)) ≡ behind (before ++ y ∷ []) (each reads ps)
first_read reads before p ps y e = rw e (joined before y (each reads ps))

pub first_fails : {A B : Type 0} (reads : A → Result B StmtFault) (before : List B) (p : A) (ps : List A) (fault : StmtFault) → Fails fault (reads p)
    → Fails fault (behind before (each reads (p ∷ ps)))
first_fails reads before p ps StmtFault.NoMemory e = tt
first_fails reads before p ps _ e = rw e refl

-- The partner of the parenthesis that was opened first.
last_at : (n : ℕ) (ts : List Token) → n ≤ length ts → is_last (lexemes (drop n ts)) ≡ nat_eq n (length ts)
last_at n ts h = elim (eqb_tells n (length ts)) as (λ _. is_last (lexemes (drop n ts)) ≡ nat_eq n (length ts)) [
  | inl same ↦ ap (λ xs. is_last (lexemes xs)) (drop_all n ts (omega (arith, same.1))) ∙ sym same.0
  | inr other ↦ some_left (drop n ts) (omega (arith, length-drop n ts, other.1)) ∙ sym other.0
]
  where
    some_left : (rest : List Token) → 1 ≤ length rest → is_last (lexemes rest) ≡ false
    some_left [] none = absurd (omega arith)
    some_left (t ∷ rest) some = refl

pub closed_here : (depth k : ℕ) (ts : List Token) (d : Token) → k < length ts → open_behind depth (get_or ts k d).kind ≡ 0
    → closed_by_last depth (lexemes (drop k ts)) ≡ nat_eq (k + 1) (length ts)
closed_here depth k ts d h e = at_drop_more (λ xs. closed_by_last depth (lexemes xs)) ts k d h ∙ rw e (last_at (k + 1) ts (omega arith))
