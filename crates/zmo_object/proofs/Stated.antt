-- Statements: reading gives a statement with exactly these bytes, and reading the bytes of a statement gives this statement.
use Rattle.std.proofs.Common.{◌≡◌, ◌≤◌, ◌<◌, ◌+◌, ◌&&◌, ℕ, zero, suc, Bool, true, false, not, cond, eqb, List, [], ◌∷◌, ◌++◌, Option, Some, None, Ok, Err, length, slice_get, refl, sym, ap, subst, ◌∙◌, append_assoc, arith, inl, inr}
use Rattle.std.specs.List.{flat_map}
use Rattle.std.specs.Option.{IfSome}
use Rattle.std.proofs.lemmas.Bool.{and_parts, cases_eq, eq-eqb, eqb-true, ne_eqb}
use Rattle.common.specs.declared.limits.TheConstants.{MOST_BYTES}
use Rattle.z80_instr.specs.declared.Branch.{Branch}
use Rattle.z80_instr.specs.declared.ShortCond.{ShortCond}
use Rattle.zmo_object.specs.declared.module.hole.Hole.{Hole}
use Rattle.zmo_object.specs.Holes.{width_size}
use Rattle.zmo_object.specs.Modules as object
use Rattle.zmo_object.specs.Modules.{ModuleStatement}
use Rattle.zmo_object.specs.Rules.{IsModuleStatement, IsAlwaysShort}
use Rattle.zmo_object.specs.declared.field_fault.FieldFault.TheVariants as field
use Rattle.zmo_object.specs.Fields.Texts.{word_bytes}
use Rattle.zmo_object.specs.Fields.Field.{Field, IsBytes, byte_field, bytes_field, code_field, many, number_at, word_field}
use Rattle.zmo_object.proofs.Fields.Taken.{Reads, Takes, byte_takes, bytes_again, bytes_takes, coded_again, coded_takes, is_below, is_least, joins, many_again, many_takes, number_again, number_takes, then_is, then_takes, word_again, word_takes}
use Rattle.zmo_object.specs.declared.code.TheConstants.{BRANCHES}
use Rattle.zmo_object.specs.Codes.{branch_code, branch_of, jump_condition_code, condition_of}
use Rattle.zmo_object.specs.Texts.{hole_text, statement_text}
use Rattle.zmo_object.specs.Reading.{content_at, hole_at, jump_at, short_at, space_at, statement_at, tagged_at}
use Rattle.zmo_object.proofs.Values.{HoleGood, chained, hole_again, hole_takes, lie_within}

-- The codes of conditions and branches.

conditions : (code : ℕ) → IfSome (condition_of code) (λ c. jump_condition_code c ≡ code)
conditions zero = refl
conditions (suc zero) = refl
conditions (suc (suc zero)) = refl
conditions (suc (suc (suc zero))) = refl
conditions (suc (suc (suc (suc zero)))) = refl
conditions (suc (suc (suc (suc (suc code))))) = tt

condition_again : (c : Option ShortCond) → condition_of (jump_condition_code c) ≡ Some c
condition_again None = refl
condition_again (Some ShortCond.NotZero) = refl
condition_again (Some ShortCond.Zero) = refl
condition_again (Some ShortCond.NotCarry) = refl
condition_again (Some ShortCond.Carry) = refl

-- the branch read from a code has this code, and a source can write it with --grow or without, as grow says
branches_told : (grow : Bool) (code : ℕ) → IfSome (branch_of grow code) (λ b. (branch_code b ≡ code) × IsAlwaysShort grow b)
branches_told false zero = (refl, refl)
branches_told false (suc zero) = (refl, refl)
branches_told false (suc (suc zero)) = (refl, refl)
branches_told false (suc (suc (suc zero))) = (refl, refl)
branches_told false (suc (suc (suc (suc zero)))) = (refl, refl)
branches_told false (suc (suc (suc (suc (suc zero))))) = (refl, tt)
branches_told false (suc (suc (suc (suc (suc (suc code)))))) = tt
branches_told true zero = tt
branches_told true (suc zero) = tt
branches_told true (suc (suc zero)) = tt
branches_told true (suc (suc (suc zero))) = tt
branches_told true (suc (suc (suc (suc zero)))) = tt
branches_told true (suc (suc (suc (suc (suc zero))))) = (refl, tt)
branches_told true (suc (suc (suc (suc (suc (suc code)))))) = above (eqb (suc (suc (suc (suc (suc (suc code)))))) 5)
  where
    above : (five : Bool) → IfSome (cond (not five) None (slice_get BRANCHES (suc (suc (suc (suc (suc (suc code)))))))) (λ b. (branch_code b ≡ suc (suc (suc (suc (suc (suc code)))))) × IsAlwaysShort true b)
    above true = tt
    above false = tt

branches : (grow : Bool) (code : ℕ) → IfSome (branch_of grow code) (λ b. branch_code b ≡ code)
branches grow code = by (branch_of grow code) (branches_told grow code)
  where
    by : (found : Option Branch) → IfSome found (λ b. (branch_code b ≡ code) × IsAlwaysShort grow b) → IfSome found (λ b. branch_code b ≡ code)
    by None is = tt
    by (Some b) is = is.0

branch_again : (grow : Bool) (b : Branch) → IsAlwaysShort grow b → branch_of grow (branch_code b) ≡ Some b
branch_again false (Branch.Relative None) written = refl
branch_again false (Branch.Relative (Some ShortCond.NotZero)) written = refl
branch_again false (Branch.Relative (Some ShortCond.Zero)) written = refl
branch_again false (Branch.Relative (Some ShortCond.NotCarry)) written = refl
branch_again false (Branch.Relative (Some ShortCond.Carry)) written = refl
branch_again false Branch.CountDown written = refl
branch_again true (Branch.Relative c) written = cc
branch_again true Branch.CountDown written = refl

branch_written : (grow : Bool) (b : Branch) → branch_of grow (branch_code b) ≡ Some b → IsAlwaysShort grow b
branch_written grow b found = by (branch_of grow (branch_code b)) (branches_told grow (branch_code b)) found
  where
    by : (some : Option Branch) → IfSome some (λ other. (branch_code other ≡ branch_code b) × IsAlwaysShort grow other) → some ≡ Some b → IsAlwaysShort grow b
    by None is e = cc
    by (Some other) is e = let same : other ≡ b = cc in subst (IsAlwaysShort grow) same is.1

-- A statement of bytes, after its tag.

content_takes : (grow : Bool) (count : ℕ) (bytes : List ℕ) → IsBytes bytes → Reads (Takes statement_text (IsModuleStatement grow count) (1 ∷ bytes)) (content_at count bytes)
content_takes grow count bytes fits =
    then_takes (number_at 1 (MOST_BYTES + 1) bytes) _ (number_takes 1 (MOST_BYTES + 1) bytes fits) (λ size first.
    then_takes (bytes_field size.0 size.1) _ (bytes_takes size.0 size.1 first.rest) (λ content second.
    then_takes (word_field content.1) _ (word_takes content.1 second.rest) (λ number third.
    then_takes (many (hole_at count content.0) (λ _ h. h.offset + width_size h.width) 0 number.0 number.1) _
    (many_takes (hole_at count content.0) (λ _ h. h.offset + width_size h.width) hole_text (HoleGood count content.0) (hole_takes count content.0) 0 number.0 number.1 third.rest) (λ holes fourth.
    let least = is_least 1 (MOST_BYTES + 1) size.0 first.good.1 in
    let below = is_below 1 (MOST_BYTES + 1) size.0 first.good.1 in
    let within = lie_within count content.0 0 holes.0 fourth.good.1 in
    let head : 1 ∷ bytes ≡ (1 ∷ word_bytes size.0) ++ size.1 = ap (λ more. 1 ∷ more) first.spelled in
    let whole : 1 ∷ bytes ≡ ((((1 ∷ word_bytes size.0) ++ content.0) ++ word_bytes number.0) ++ flat_map hole_text holes.0) ++ holes.1 =
    joins (((1 ∷ word_bytes size.0) ++ content.0) ++ word_bytes number.0) (flat_map hole_text holes.0) number.1 holes.1 (1 ∷ bytes)
    (joins ((1 ∷ word_bytes size.0) ++ content.0) (word_bytes number.0) content.1 number.1 (1 ∷ bytes)
    (joins (1 ∷ word_bytes size.0) content.0 size.1 content.1 (1 ∷ bytes) head second.spelled) third.spelled) fourth.spelled in
    (record {
      value = record {
        spelled = whole ∙ ap (λ n. ((((1 ∷ word_bytes n) ++ content.0) ++ word_bytes number.0) ++ flat_map hole_text holes.0) ++ holes.1) (sym second.good.0)
            ∙ ap (λ n. ((((1 ∷ word_bytes (length content.0)) ++ content.0) ++ word_bytes n) ++ flat_map hole_text holes.0) ++ holes.1) (sym fourth.good.0);
        rest = fourth.rest;
        good = ((omega (arith, second.good.0), omega (arith, second.good.0)), within.0, within.1);
      };
    })))))

jump_takes : (marked grow : Bool) (count : ℕ) (bytes : List ℕ) → (marked ≡ true → grow ≡ true) → IsBytes bytes
    → Reads (Takes statement_text (IsModuleStatement grow count) (cond marked 5 2 ∷ bytes)) (jump_at marked count bytes)
jump_takes marked grow count bytes may fits =
    then_takes (code_field condition_of bytes) _ (coded_takes condition_of jump_condition_code conditions bytes fits) (λ condition first.
    then_takes (number_at 0 count condition.1) _ (number_takes 0 count condition.1 first.rest) (λ target second.
    let head : cond marked 5 2 ∷ bytes ≡ (cond marked 5 2 ∷ jump_condition_code condition.0 ∷ []) ++ condition.1 = ap (λ more. cond marked 5 2 ∷ more) first.spelled in
    (record {
      value = record {
        spelled = joins (cond marked 5 2 ∷ jump_condition_code condition.0 ∷ []) (word_bytes target.0) condition.1 target.1 (cond marked 5 2 ∷ bytes) head second.spelled;
        rest = second.rest;
        good = (may, is_below 0 count target.0 second.good.1);
      };
    })))

short_takes : (grow : Bool) (count : ℕ) (bytes : List ℕ) → IsBytes bytes → Reads (Takes statement_text (IsModuleStatement grow count) (3 ∷ bytes)) (short_at grow count bytes)
short_takes grow count bytes fits =
    then_takes (code_field (branch_of grow) bytes) _ (coded_takes (branch_of grow) branch_code (branches grow) bytes fits) (λ branch first.
    then_takes (number_at 0 count branch.1) _ (number_takes 0 count branch.1 first.rest) (λ target second.
    let head : 3 ∷ bytes ≡ (3 ∷ branch_code branch.0 ∷ []) ++ branch.1 = ap (λ more. 3 ∷ more) first.spelled in
    (record {
      value = record {
        spelled = joins (3 ∷ branch_code branch.0 ∷ []) (word_bytes target.0) branch.1 target.1 (3 ∷ bytes) head second.spelled;
        rest = second.rest;
        good = (branch_written grow branch.0 first.good, is_below 0 count target.0 second.good.1);
      };
    })))

space_takes : (grow : Bool) (count : ℕ) (bytes : List ℕ) → IsBytes bytes → Reads (Takes statement_text (IsModuleStatement grow count) (4 ∷ bytes)) (space_at bytes)
space_takes grow count bytes fits =
    then_takes (number_at 1 (MOST_BYTES + 1) bytes) _ (number_takes 1 (MOST_BYTES + 1) bytes fits) (λ size first.
    then_takes (byte_field size.1) _ (byte_takes size.1 first.rest) (λ fill second.
    let least = is_least 1 (MOST_BYTES + 1) size.0 first.good.1 in
    let below = is_below 1 (MOST_BYTES + 1) size.0 first.good.1 in
    let head : 4 ∷ bytes ≡ (4 ∷ word_bytes size.0) ++ size.1 = ap (λ more. 4 ∷ more) first.spelled in
    (record {
      value = record {
        spelled = joins (4 ∷ word_bytes size.0) (fill.0 ∷ []) size.1 fill.1 (4 ∷ bytes) head second.spelled;
        rest = second.rest;
        good = (least, omega arith);
      };
    })))

-- A whole statement.

abbrev Taken : Bool → ℕ → ℕ → List ℕ → Field ModuleStatement → Type 0
Taken grow count tag rest r = Reads (Takes statement_text (IsModuleStatement grow count) (tag ∷ rest)) r

tagged_takes : (grow : Bool) (count : ℕ) (bytes : List ℕ) (tag : ℕ) (rest : List ℕ) → IsBytes rest → Reads (Takes statement_text (IsModuleStatement grow count) (tag ∷ rest)) (tagged_at grow count bytes tag rest)
tagged_takes grow count bytes tag rest fits =
    elim (cases_eq tag 1) as (λ _. Taken grow count tag rest (tagged_at grow count bytes tag rest)) [
      | inl e ↦ rw (eq-eqb tag 1 e) (moved 1 e _ (content_takes grow count rest fits))
      | inr not1 ↦ elim (cases_eq tag 2) as (λ _. Taken grow count tag rest (tagged_at grow count bytes tag rest)) [
        | inl e ↦ rw (ne_eqb tag 1 not1, eq-eqb tag 2 e) (moved 2 e _ (jump_takes false grow count rest (λ never. cc) fits))
        | inr not2 ↦ elim (cases_eq tag 3) as (λ _. Taken grow count tag rest (tagged_at grow count bytes tag rest)) [
          | inl e ↦ rw (ne_eqb tag 1 not1, ne_eqb tag 2 not2, eq-eqb tag 3 e) (moved 3 e _ (short_takes grow count rest fits))
          | inr not3 ↦ elim (cases_eq tag 4) as (λ _. Taken grow count tag rest (tagged_at grow count bytes tag rest)) [
            | inl e ↦ rw (ne_eqb tag 1 not1, ne_eqb tag 2 not2, ne_eqb tag 3 not3, eq-eqb tag 4 e) (moved 4 e _ (space_takes grow count rest fits))
            | inr not4 ↦ rw (ne_eqb tag 1 not1, ne_eqb tag 2 not2, ne_eqb tag 3 not3, ne_eqb tag 4 not4) (last (eqb tag 5 && grow) refl)
          ]
        ]
      ]
    ]
  where
    moved : (n : ℕ) → tag ≡ n → (r : Field ModuleStatement) → Reads (Takes statement_text (IsModuleStatement grow count) (n ∷ rest)) r → Reads (Takes statement_text (IsModuleStatement grow count) (tag ∷ rest)) r
    moved n e r taken = subst (λ t. Reads (Takes statement_text (IsModuleStatement grow count) (t ∷ rest)) r) (sym e) taken

    last : (b : Bool) → (eqb tag 5 && grow) ≡ b → Reads (Takes statement_text (IsModuleStatement grow count) (tag ∷ rest)) (cond b (jump_at true count rest) (Err (field.BadField (length bytes))))
    last true e =
        let both = and_parts (eqb tag 5) grow e in
        moved 5 (eqb-true tag 5 both.0) (jump_at true count rest) (jump_takes true grow count rest (λ _. both.1) fits)
    last false e = record { value = tt }

pub statement_takes : (grow : Bool) (count : ℕ) (bytes : List ℕ) → IsBytes bytes → Reads (Takes statement_text (IsModuleStatement grow count) bytes) (statement_at grow count bytes)
statement_takes grow count bytes fits =
    then_takes (byte_field bytes) _ (byte_takes bytes fits) (λ tag first.
    subst (λ all. Reads (Takes statement_text (IsModuleStatement grow count) all) (tagged_at grow count bytes tag.0 tag.1)) (sym first.spelled) (tagged_takes grow count bytes tag.0 tag.1 first.rest))

content_laid : (grow : Bool) (count : ℕ) (content : List ℕ) (holes : List Hole) (bytes b1 b2 b3 rest : List ℕ) → IsModuleStatement grow count (object.Bytes content holes)
    → bytes ≡ word_bytes (length content) ++ b1 → b1 ≡ content ++ b2 → b2 ≡ word_bytes (length holes) ++ b3 → b3 ≡ flat_map hole_text holes ++ rest → content_at count bytes ≡ Ok (object.Bytes content holes, rest)
content_laid grow count content holes bytes b1 b2 b3 rest rule e1 e2 e3 e4 =
    let below : length content < MOST_BYTES + 1 = omega (arith, rule.0.1) in
    let chain = chained count content 0 holes rule.1 rule.2 in
    then_is (length content, b1) (number_at 1 (MOST_BYTES + 1) bytes) _ (ap (number_at 1 (MOST_BYTES + 1)) e1 ∙ number_again 1 (MOST_BYTES + 1) (length content) b1 rule.0.0 below)
    (then_is (content, b2) (bytes_field (length content) b1) _ (ap (bytes_field (length content)) e2 ∙ bytes_again content b2)
    (then_is (length holes, b3) (word_field b2) _ (ap word_field e3 ∙ word_again (length holes) b3)
    (then_is (holes, rest) (many (hole_at count content) (λ _ h. h.offset + width_size h.width) 0 (length holes) b3) _
    (ap (many (hole_at count content) (λ _ h. h.offset + width_size h.width) 0 (length holes)) e4
    ∙ many_again (hole_at count content) (λ _ h. h.offset + width_size h.width) hole_text (HoleGood count content) (λ from h more good. hole_again count content from h more good) 0 holes rest chain) refl)))

jump_laid : (marked : Bool) (count : ℕ) (condition : Option ShortCond) (target : ℕ) (bytes b1 rest : List ℕ) → target < count
    → bytes ≡ jump_condition_code condition ∷ b1 → b1 ≡ word_bytes target ++ rest → jump_at marked count bytes ≡ Ok (object.Jump marked condition target, rest)
jump_laid marked count condition target bytes b1 rest below e1 e2 =
    then_is (condition, b1) (code_field condition_of bytes) _ (ap (code_field condition_of) e1 ∙ coded_again condition_of jump_condition_code condition b1 (condition_again condition))
    (then_is (target, rest) (number_at 0 count b1) _ (ap (number_at 0 count) e2 ∙ number_again 0 count target rest (omega arith) below) refl)

short_laid : (grow : Bool) (count : ℕ) (branch : Branch) (target : ℕ) (bytes b1 rest : List ℕ) → IsAlwaysShort grow branch → target < count
    → bytes ≡ branch_code branch ∷ b1 → b1 ≡ word_bytes target ++ rest → short_at grow count bytes ≡ Ok (object.Short branch target, rest)
short_laid grow count branch target bytes b1 rest written below e1 e2 =
    then_is (branch, b1) (code_field (branch_of grow) bytes) _ (ap (code_field (branch_of grow)) e1 ∙ coded_again (branch_of grow) branch_code branch b1 (branch_again grow branch written))
    (then_is (target, rest) (number_at 0 count b1) _ (ap (number_at 0 count) e2 ∙ number_again 0 count target rest (omega arith) below) refl)

space_laid : (size fill : ℕ) (bytes b1 rest : List ℕ) → 1 ≤ size → size ≤ MOST_BYTES → bytes ≡ word_bytes size ++ b1 → b1 ≡ fill ∷ rest → space_at bytes ≡ Ok (object.Space size fill, rest)
space_laid size fill bytes b1 rest least most e1 e2 =
    then_is (size, b1) (number_at 1 (MOST_BYTES + 1) bytes) _ (ap (number_at 1 (MOST_BYTES + 1)) e1 ∙ number_again 1 (MOST_BYTES + 1) size b1 least (omega arith))
    (then_is (fill, rest) (byte_field b1) _ (ap byte_field e2) refl)

pub statement_again : (grow : Bool) (count : ℕ) (s : ModuleStatement) (rest : List ℕ) → IsModuleStatement grow count s → statement_at grow count (statement_text s ++ rest) ≡ Ok (s, rest)
statement_again grow count (object.Bytes content holes) rest rule =
    let laid = flat_map hole_text holes ++ rest in
    let regrouped : ((content ++ word_bytes (length holes)) ++ flat_map hole_text holes) ++ rest ≡ content ++ (word_bytes (length holes) ++ laid) =
    append_assoc (content ++ word_bytes (length holes)) (flat_map hole_text holes) rest ∙ append_assoc content (word_bytes (length holes)) laid in
    ap (λ more. content_at count (word_bytes (length content) ++ more)) regrouped
    ∙ content_laid grow count content holes (word_bytes (length content) ++ (content ++ (word_bytes (length holes) ++ laid))) (content ++ (word_bytes (length holes) ++ laid)) (word_bytes (length holes) ++ laid) laid rest rule refl refl refl refl
statement_again true count (object.Jump true condition target) rest rule =
    jump_laid true count condition target (jump_condition_code condition ∷ (word_bytes target ++ rest)) (word_bytes target ++ rest) rest rule.1 refl refl
statement_again false count (object.Jump true condition target) rest rule = let never : ◌≡◌ {A = Bool} false true = rule.0 refl in cc
statement_again grow count (object.Jump false condition target) rest rule =
    jump_laid false count condition target (jump_condition_code condition ∷ (word_bytes target ++ rest)) (word_bytes target ++ rest) rest rule.1 refl refl
statement_again grow count (object.Short branch target) rest rule =
    short_laid grow count branch target (branch_code branch ∷ (word_bytes target ++ rest)) (word_bytes target ++ rest) rest rule.0 rule.1 refl refl
statement_again grow count (object.Space size fill) rest rule = space_laid size fill (word_bytes size ++ (fill ∷ rest)) (fill ∷ rest) rest rule.0 rule.1 refl refl
