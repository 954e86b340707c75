-- Tests over all words.
use Rattle.std.proofs.Common.{◌≡◌, List, [], ◌∷◌, ap, get_or}
use Rattle.z80_instr.proofs.Finite.{Finite, ◌⊗◌, operations, rotations, block_operations, block_steps}
use Rattle.z80_form.specs.Types.{Name, Mnemonic}

abbrev pub names_of : (X : Type 0) → (Name → X) → List X
names_of X f = f Name.A ∷ f Name.B ∷ f Name.C ∷ f Name.D ∷ f Name.E ∷ f Name.H ∷ f Name.L ∷ f Name.I ∷ f Name.R ∷ f Name.Af ∷ f Name.OtherAf ∷ f Name.Bc ∷ f Name.De ∷ f Name.Hl ∷ f Name.Ix ∷ f Name.Iy ∷ f Name.Sp ∷ f Name.Nz ∷ f Name.Z ∷ f Name.Nc ∷ f Name.Po ∷ f Name.Pe ∷ f Name.P ∷ f Name.M ∷ []

pub names_agree : (X : Type 0) (f g : Name → X) → names_of X f ≡ names_of X g → (v : Name) → f v ≡ g v
names_agree X f g e Name.A = ap (λ xs. get_or xs 0 (f Name.A)) e
names_agree X f g e Name.B = ap (λ xs. get_or xs 1 (f Name.A)) e
names_agree X f g e Name.C = ap (λ xs. get_or xs 2 (f Name.A)) e
names_agree X f g e Name.D = ap (λ xs. get_or xs 3 (f Name.A)) e
names_agree X f g e Name.E = ap (λ xs. get_or xs 4 (f Name.A)) e
names_agree X f g e Name.H = ap (λ xs. get_or xs 5 (f Name.A)) e
names_agree X f g e Name.L = ap (λ xs. get_or xs 6 (f Name.A)) e
names_agree X f g e Name.I = ap (λ xs. get_or xs 7 (f Name.A)) e
names_agree X f g e Name.R = ap (λ xs. get_or xs 8 (f Name.A)) e
names_agree X f g e Name.Af = ap (λ xs. get_or xs 9 (f Name.A)) e
names_agree X f g e Name.OtherAf = ap (λ xs. get_or xs 10 (f Name.A)) e
names_agree X f g e Name.Bc = ap (λ xs. get_or xs 11 (f Name.A)) e
names_agree X f g e Name.De = ap (λ xs. get_or xs 12 (f Name.A)) e
names_agree X f g e Name.Hl = ap (λ xs. get_or xs 13 (f Name.A)) e
names_agree X f g e Name.Ix = ap (λ xs. get_or xs 14 (f Name.A)) e
names_agree X f g e Name.Iy = ap (λ xs. get_or xs 15 (f Name.A)) e
names_agree X f g e Name.Sp = ap (λ xs. get_or xs 16 (f Name.A)) e
names_agree X f g e Name.Nz = ap (λ xs. get_or xs 17 (f Name.A)) e
names_agree X f g e Name.Z = ap (λ xs. get_or xs 18 (f Name.A)) e
names_agree X f g e Name.Nc = ap (λ xs. get_or xs 19 (f Name.A)) e
names_agree X f g e Name.Po = ap (λ xs. get_or xs 20 (f Name.A)) e
names_agree X f g e Name.Pe = ap (λ xs. get_or xs 21 (f Name.A)) e
names_agree X f g e Name.P = ap (λ xs. get_or xs 22 (f Name.A)) e
names_agree X f g e Name.M = ap (λ xs. get_or xs 23 (f Name.A)) e

abbrev pub names : Finite Name
names = record { Values = List; values = names_of; agree = names_agree }

-- The mnemonics without parameters, one after the other.
abbrev pub plain : (X : Type 0) → (Mnemonic → X) → List X
plain X f = f Mnemonic.Ld ∷ f Mnemonic.Push ∷ f Mnemonic.Pop ∷ f Mnemonic.Ex ∷ f Mnemonic.Exx ∷ f Mnemonic.Inc ∷ f Mnemonic.Dec ∷ f Mnemonic.Daa ∷ f Mnemonic.Cpl ∷ f Mnemonic.Neg ∷ f Mnemonic.Ccf ∷ f Mnemonic.Scf ∷ f Mnemonic.Nop ∷ f Mnemonic.Halt ∷ f Mnemonic.Di ∷ f Mnemonic.Ei ∷ f Mnemonic.Im ∷ f Mnemonic.Rlca ∷ f Mnemonic.Rla ∷ f Mnemonic.Rrca ∷ f Mnemonic.Rra ∷ f Mnemonic.Rld ∷ f Mnemonic.Rrd ∷ f Mnemonic.Bit ∷ f Mnemonic.Set ∷ f Mnemonic.Res ∷ f Mnemonic.Jp ∷ f Mnemonic.Jr ∷ f Mnemonic.Djnz ∷ f Mnemonic.Call ∷ f Mnemonic.Ret ∷ f Mnemonic.Reti ∷ f Mnemonic.Retn ∷ f Mnemonic.Rst ∷ f Mnemonic.In ∷ f Mnemonic.Out ∷ []

-- the mnemonics without parameters, and the families of those with parameters
abbrev pub Mnemonics : Type 0 → Type 0
Mnemonics X = List X × (block_operations ⊗ block_steps).Values X × operations.Values X × rotations.Values X

abbrev pub mnemonics_of : (X : Type 0) → (Mnemonic → X) → Mnemonics X
mnemonics_of X f = (plain X f, (block_operations ⊗ block_steps).values X (λ p. f (Mnemonic.Block p.0 p.1)), operations.values X (λ a. f (Mnemonic.Alu a)), rotations.values X (λ t. f (Mnemonic.Rotate t)))

pub mnemonics_agree : (X : Type 0) (f g : Mnemonic → X) → mnemonics_of X f ≡ mnemonics_of X g → (v : Mnemonic) → f v ≡ g v
mnemonics_agree X f g e Mnemonic.Ld = ap (λ v. get_or v.0 0 (f Mnemonic.Ld)) e
mnemonics_agree X f g e Mnemonic.Push = ap (λ v. get_or v.0 1 (f Mnemonic.Ld)) e
mnemonics_agree X f g e Mnemonic.Pop = ap (λ v. get_or v.0 2 (f Mnemonic.Ld)) e
mnemonics_agree X f g e Mnemonic.Ex = ap (λ v. get_or v.0 3 (f Mnemonic.Ld)) e
mnemonics_agree X f g e Mnemonic.Exx = ap (λ v. get_or v.0 4 (f Mnemonic.Ld)) e
mnemonics_agree X f g e Mnemonic.Inc = ap (λ v. get_or v.0 5 (f Mnemonic.Ld)) e
mnemonics_agree X f g e Mnemonic.Dec = ap (λ v. get_or v.0 6 (f Mnemonic.Ld)) e
mnemonics_agree X f g e Mnemonic.Daa = ap (λ v. get_or v.0 7 (f Mnemonic.Ld)) e
mnemonics_agree X f g e Mnemonic.Cpl = ap (λ v. get_or v.0 8 (f Mnemonic.Ld)) e
mnemonics_agree X f g e Mnemonic.Neg = ap (λ v. get_or v.0 9 (f Mnemonic.Ld)) e
mnemonics_agree X f g e Mnemonic.Ccf = ap (λ v. get_or v.0 10 (f Mnemonic.Ld)) e
mnemonics_agree X f g e Mnemonic.Scf = ap (λ v. get_or v.0 11 (f Mnemonic.Ld)) e
mnemonics_agree X f g e Mnemonic.Nop = ap (λ v. get_or v.0 12 (f Mnemonic.Ld)) e
mnemonics_agree X f g e Mnemonic.Halt = ap (λ v. get_or v.0 13 (f Mnemonic.Ld)) e
mnemonics_agree X f g e Mnemonic.Di = ap (λ v. get_or v.0 14 (f Mnemonic.Ld)) e
mnemonics_agree X f g e Mnemonic.Ei = ap (λ v. get_or v.0 15 (f Mnemonic.Ld)) e
mnemonics_agree X f g e Mnemonic.Im = ap (λ v. get_or v.0 16 (f Mnemonic.Ld)) e
mnemonics_agree X f g e Mnemonic.Rlca = ap (λ v. get_or v.0 17 (f Mnemonic.Ld)) e
mnemonics_agree X f g e Mnemonic.Rla = ap (λ v. get_or v.0 18 (f Mnemonic.Ld)) e
mnemonics_agree X f g e Mnemonic.Rrca = ap (λ v. get_or v.0 19 (f Mnemonic.Ld)) e
mnemonics_agree X f g e Mnemonic.Rra = ap (λ v. get_or v.0 20 (f Mnemonic.Ld)) e
mnemonics_agree X f g e Mnemonic.Rld = ap (λ v. get_or v.0 21 (f Mnemonic.Ld)) e
mnemonics_agree X f g e Mnemonic.Rrd = ap (λ v. get_or v.0 22 (f Mnemonic.Ld)) e
mnemonics_agree X f g e Mnemonic.Bit = ap (λ v. get_or v.0 23 (f Mnemonic.Ld)) e
mnemonics_agree X f g e Mnemonic.Set = ap (λ v. get_or v.0 24 (f Mnemonic.Ld)) e
mnemonics_agree X f g e Mnemonic.Res = ap (λ v. get_or v.0 25 (f Mnemonic.Ld)) e
mnemonics_agree X f g e Mnemonic.Jp = ap (λ v. get_or v.0 26 (f Mnemonic.Ld)) e
mnemonics_agree X f g e Mnemonic.Jr = ap (λ v. get_or v.0 27 (f Mnemonic.Ld)) e
mnemonics_agree X f g e Mnemonic.Djnz = ap (λ v. get_or v.0 28 (f Mnemonic.Ld)) e
mnemonics_agree X f g e Mnemonic.Call = ap (λ v. get_or v.0 29 (f Mnemonic.Ld)) e
mnemonics_agree X f g e Mnemonic.Ret = ap (λ v. get_or v.0 30 (f Mnemonic.Ld)) e
mnemonics_agree X f g e Mnemonic.Reti = ap (λ v. get_or v.0 31 (f Mnemonic.Ld)) e
mnemonics_agree X f g e Mnemonic.Retn = ap (λ v. get_or v.0 32 (f Mnemonic.Ld)) e
mnemonics_agree X f g e Mnemonic.Rst = ap (λ v. get_or v.0 33 (f Mnemonic.Ld)) e
mnemonics_agree X f g e Mnemonic.In = ap (λ v. get_or v.0 34 (f Mnemonic.Ld)) e
mnemonics_agree X f g e Mnemonic.Out = ap (λ v. get_or v.0 35 (f Mnemonic.Ld)) e
mnemonics_agree X f g e (Mnemonic.Block operation step) = (block_operations ⊗ block_steps).agree X (λ p. f (Mnemonic.Block p.0 p.1)) (λ p. g (Mnemonic.Block p.0 p.1)) (ap (λ v. v.1) e) (operation, step)
mnemonics_agree X f g e (Mnemonic.Alu operation) = operations.agree X (λ a. f (Mnemonic.Alu a)) (λ a. g (Mnemonic.Alu a)) (ap (λ v. v.2) e) operation
mnemonics_agree X f g e (Mnemonic.Rotate rotation) = rotations.agree X (λ t. f (Mnemonic.Rotate t)) (λ t. g (Mnemonic.Rotate t)) (ap (λ v. v.3) e) rotation

abbrev pub mnemonics : Finite Mnemonic
mnemonics = record { Values = Mnemonics; values = mnemonics_of; agree = mnemonics_agree }
