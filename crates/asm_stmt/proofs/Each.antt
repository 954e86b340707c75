-- The elements are read from left to right: those in `done` are read, and `rest` is still to come.
use Rattle.std.proofs.Common.{◌≡◌, List, [], ◌∷◌, ◌++◌, Result, Ok, Err, refl, sym, ap, subst, ◌∙◌, append_assoc, append-nil}
use Rattle.common.specs.Results.{◌>>=◌}
use Rattle.asm_spell.specs.declared.fault.StmtFault.{StmtFault}
use Rattle.std.proofs.lemmas.List.Concat.{flat_map-append}
use Rattle.asm_spell.specs.Faults.{Fails, each}
use Rattle.asm_stmt.specs.declared.cell.Cell.{Cell}
use Rattle.asm_stmt.specs.declared.data.Laid.{Laid}
use Rattle.asm_stmt.specs.Made.{Fillings, Made, items_made, cells_made, number_filled}
use Rattle.asm_stmt.specs.Private.Laying.{Codes, Lays, Puts}
use Rattle.asm_stmt.specs.declared.code.Coded.{Coded}
use Rattle.asm_stmt.proofs.Making.{flat}
use Rattle.asm_expr.specs.Names.{Table}
use Rattle.asm_spell.specs.Line.{ExpressionItems}
use Rattle.z80_instr.specs.declared.Instr.{Instr}
use Rattle.z80_form.specs.declared.field.Field.{Field}

abbrev pub Goes : {A B : Type 0} → (A → Result B StmtFault) → List A → List B → List A → Type 0
Goes read all done rest = each read all ≡ (each read rest >>= λ more. Ok (done ++ more))

pub start : {A B : Type 0} (read : A → Result B StmtFault) (all : List A) → Goes read all [] all
start read all = elim (each read all) as (λ r. r ≡ (r >>= λ more. Ok ([] ++ more))) [
  | Ok ys ↦ refl
  | Err why ↦ refl
]

pub step : {A B : Type 0} (read : A → Result B StmtFault) (all rest : List A) (done : List B) (x : A) (y : B) → read x ≡ Ok y → Goes read all done (x ∷ rest) → Goes read all (done ++ y ∷ []) rest
step read all rest done x y is goes =
    goes ∙ ap (λ r. (r >>= λ z. each read rest >>= λ zs. Ok (z ∷ zs)) >>= λ more. Ok (done ++ more)) is
    ∙ elim (each read rest) as (λ r. ((r >>= λ zs. Ok (y ∷ zs)) >>= λ more. Ok (done ++ more)) ≡ (r >>= λ more. Ok ((done ++ y ∷ []) ++ more))) [
      | Ok ys ↦ ap (λ zs. Ok zs) (sym (append_assoc done (y ∷ []) ys))
      | Err why ↦ refl
    ]

pub refused : {A B : Type 0} (read : A → Result B StmtFault) (all rest : List A) (done : List B) (x : A) (why : StmtFault) → read x ≡ Err why → Goes read all done (x ∷ rest) → each read all ≡ Err why
refused read all rest done x why is goes = goes ∙ ap (λ r. (r >>= λ z. each read rest >>= λ zs. Ok (z ∷ zs)) >>= λ more. Ok (done ++ more)) is

pub ended : {A B : Type 0} (read : A → Result B StmtFault) (all : List A) (done : List B) → Goes read all done [] → each read all ≡ Ok done
ended read all done goes = goes ∙ ap (λ xs. Ok xs) (append-nil done)

-- If an error of the first call means the same error of the second, then the first call's failure is the second one's.
pub fails_so : {B C : Type 0} (why : StmtFault) (r : Result B StmtFault) (s : Result C StmtFault) → (r ≡ Err why → s ≡ Err why) → Fails why r → Fails why s
fails_so StmtFault.NoMemory r s so f = tt
fails_so StmtFault.UnknownWord r s so f = so f
fails_so StmtFault.BadOperands r s so f = so f
fails_so StmtFault.ByteRange r s so f = so f
fails_so StmtFault.NeedsLowOrHigh r s so f = so f
fails_so StmtFault.ShortNeedsLabel r s so f = so f
fails_so StmtFault.SizeNamesLabel r s so f = so f
fails_so StmtFault.BadOrg r s so f = so f
fails_so StmtFault.NeedsNumber r s so f = so f
fails_so StmtFault.ReservedName r s so f = so f
fails_so (StmtFault.Expr why) r s so f = so f

-- The fields read so far are in `l`, one after the other.
pub record Reads {A : Type 0} (read : A → Result (List Cell) StmtFault) (all rest : List A) (l : Laid) : Type 0 where
  pub done : List (List Cell)
  pub goes : Goes read all done rest
  pub lays : Lays (flat done) l

pub reads_start : {A : Type 0} (read : A → Result (List Cell) StmtFault) (all : List A) (l : Laid) → Lays [] l → Reads read all all l
reads_start read all l lays = record { done = []; goes = start read all; lays = lays }

pub reads_step : {A : Type 0} (read : A → Result (List Cell) StmtFault) (all rest : List A) (x : A) (old new : Laid) → (r : Reads read all (x ∷ rest) old) → Puts (flat r.done) (read x) (Ok tt) new → Reads read all rest new
reads_step read all rest x old new r p = record {
  done = r.done ++ p.0 ∷ [];
  goes = step read all rest r.done x p.0 p.1 r.goes;
  lays = subst (λ cells. Lays cells new) (ap (λ cs. flat r.done ++ cs) (sym (append-nil p.0)) ∙ sym (flat_map-append (λ some. some) r.done (p.0 ∷ []))) p.2;
}

pub reads_refused : {A : Type 0} (read : A → Result (List Cell) StmtFault) (all rest : List A) (x : A) (l : Laid) (why : StmtFault) → Reads read all (x ∷ rest) l → Fails why (read x) → Fails why (items_made (each read all))
reads_refused read all rest x l why r f = fails_so why (read x) (items_made (each read all)) (λ is. ap items_made (refused read all rest r.done x why is r.goes)) f

pub reads_end : {A : Type 0} (read : A → Result (List Cell) StmtFault) (all : List A) (l : Laid) (m : Made) → (r : Reads read all [] l) → m ≡ cells_made (flat r.done) → items_made (each read all) ≡ Ok m
reads_end read all l m r is = ap items_made (ended read all r.done r.goes) ∙ ap (λ x. Ok x) (sym is)

-- The numbers read so far are put into the instruction.
pub record Numbered (t : Table) (instr : Instr) (all rest : List (Field × ExpressionItems)) (c : Coded) : Type 0 where
  pub done : Fillings
  pub goes : Goes (number_filled t) all done rest
  pub codes : Codes instr done c
