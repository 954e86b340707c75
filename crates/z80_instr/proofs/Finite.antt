-- Tests over the values of the finite types.
use Rattle.std.proofs.Common.{◌≡◌, ℕ, ◌<◌, List, [], ◌∷◌, ap, sym, ◌∙◌, get_or, map, arith}
use Rattle.std.specs.List.{range_with_len}
use Rattle.std.proofs.lemmas.List.FromFn.{get_or-map-range_with_len}
use Rattle.z80_instr.specs.Types.{Register, IndexRegister, RegisterPair, Addend, Cond, ShortCond, AluOperation, Rotation, Octal, BlockOperation, BlockStep}

-- Two functions that agree over a list of the numbers below n agree at each of them.
pub agree_below : {X : Type 0} (f g : ℕ → X) (n : ℕ) → map f (range_with_len 0 n) ≡ map g (range_with_len 0 n) → (b : ℕ) → b < n → f b ≡ g b
agree_below f g n e b h =
    sym (get_or-map-range_with_len f 0 n b b (f 0) h (omega arith))
    ∙ ap (λ xs. get_or xs b (f 0)) e
    ∙ get_or-map-range_with_len g 0 n b b (f 0) h (omega arith)

-- A type with finitely many values: two functions that agree on the list of all of them agree at each.
pub record Finite (A : Type 0) : Type 1 where
  pub Values : Type 0 → Type 0
  pub values : (X : Type 0) → (A → X) → Values X
  pub agree : (X : Type 0) (f g : A → X) → values X f ≡ values X g → (a : A) → f a ≡ g a

-- the pairs of two such types
infixl 20 ◌⊗◌
abbrev pub ◌⊗◌ : {A B : Type 0} → Finite A → Finite B → Finite (A × B)
V ⊗ W = record {
  Values = λ X. V.Values (W.Values X);
  values = λ X f. V.values (W.Values X) (λ a. W.values X (λ b. f (a, b)));
  agree = λ X f g e p. W.agree X (λ b. f (p.0, b)) (λ b. g (p.0, b)) (V.agree (W.Values X) (λ a. W.values X (λ b. f (a, b))) (λ a. W.values X (λ b. g (a, b))) e p.0) p.1;
}

pub registers_agree : (X : Type 0) (f g : Register → X) → f Register.B ∷ f Register.C ∷ f Register.D ∷ f Register.E ∷ f Register.H ∷ f Register.L ∷ f Register.A ∷ [] ≡ g Register.B ∷ g Register.C ∷ g Register.D ∷ g Register.E ∷ g Register.H ∷ g Register.L ∷ g Register.A ∷ [] → (v : Register) → f v ≡ g v
registers_agree X f g e Register.B = ap (λ xs. get_or xs 0 (f Register.B)) e
registers_agree X f g e Register.C = ap (λ xs. get_or xs 1 (f Register.B)) e
registers_agree X f g e Register.D = ap (λ xs. get_or xs 2 (f Register.B)) e
registers_agree X f g e Register.E = ap (λ xs. get_or xs 3 (f Register.B)) e
registers_agree X f g e Register.H = ap (λ xs. get_or xs 4 (f Register.B)) e
registers_agree X f g e Register.L = ap (λ xs. get_or xs 5 (f Register.B)) e
registers_agree X f g e Register.A = ap (λ xs. get_or xs 6 (f Register.B)) e

abbrev pub registers : Finite Register
registers = record { Values = List; values = λ X f. f Register.B ∷ f Register.C ∷ f Register.D ∷ f Register.E ∷ f Register.H ∷ f Register.L ∷ f Register.A ∷ []; agree = registers_agree }

pub indexes_agree : (X : Type 0) (f g : IndexRegister → X) → f IndexRegister.Ix ∷ f IndexRegister.Iy ∷ [] ≡ g IndexRegister.Ix ∷ g IndexRegister.Iy ∷ [] → (v : IndexRegister) → f v ≡ g v
indexes_agree X f g e IndexRegister.Ix = ap (λ xs. get_or xs 0 (f IndexRegister.Ix)) e
indexes_agree X f g e IndexRegister.Iy = ap (λ xs. get_or xs 1 (f IndexRegister.Ix)) e

abbrev pub indexes : Finite IndexRegister
indexes = record { Values = List; values = λ X f. f IndexRegister.Ix ∷ f IndexRegister.Iy ∷ []; agree = indexes_agree }

pub pairs_agree : (X : Type 0) (f g : RegisterPair → X) → f RegisterPair.Bc ∷ f RegisterPair.De ∷ f RegisterPair.Hl ∷ f RegisterPair.Sp ∷ [] ≡ g RegisterPair.Bc ∷ g RegisterPair.De ∷ g RegisterPair.Hl ∷ g RegisterPair.Sp ∷ [] → (v : RegisterPair) → f v ≡ g v
pairs_agree X f g e RegisterPair.Bc = ap (λ xs. get_or xs 0 (f RegisterPair.Bc)) e
pairs_agree X f g e RegisterPair.De = ap (λ xs. get_or xs 1 (f RegisterPair.Bc)) e
pairs_agree X f g e RegisterPair.Hl = ap (λ xs. get_or xs 2 (f RegisterPair.Bc)) e
pairs_agree X f g e RegisterPair.Sp = ap (λ xs. get_or xs 3 (f RegisterPair.Bc)) e

abbrev pub pairs : Finite RegisterPair
pairs = record { Values = List; values = λ X f. f RegisterPair.Bc ∷ f RegisterPair.De ∷ f RegisterPair.Hl ∷ f RegisterPair.Sp ∷ []; agree = pairs_agree }

pub addends_agree : (X : Type 0) (f g : Addend → X) → f Addend.Bc ∷ f Addend.De ∷ f Addend.Itself ∷ f Addend.Sp ∷ [] ≡ g Addend.Bc ∷ g Addend.De ∷ g Addend.Itself ∷ g Addend.Sp ∷ [] → (v : Addend) → f v ≡ g v
addends_agree X f g e Addend.Bc = ap (λ xs. get_or xs 0 (f Addend.Bc)) e
addends_agree X f g e Addend.De = ap (λ xs. get_or xs 1 (f Addend.Bc)) e
addends_agree X f g e Addend.Itself = ap (λ xs. get_or xs 2 (f Addend.Bc)) e
addends_agree X f g e Addend.Sp = ap (λ xs. get_or xs 3 (f Addend.Bc)) e

abbrev pub addends : Finite Addend
addends = record { Values = List; values = λ X f. f Addend.Bc ∷ f Addend.De ∷ f Addend.Itself ∷ f Addend.Sp ∷ []; agree = addends_agree }

pub conditions_agree : (X : Type 0) (f g : Cond → X) → f Cond.NotZero ∷ f Cond.Zero ∷ f Cond.NotCarry ∷ f Cond.Carry ∷ f Cond.ParityOdd ∷ f Cond.ParityEven ∷ f Cond.Plus ∷ f Cond.Minus ∷ [] ≡ g Cond.NotZero ∷ g Cond.Zero ∷ g Cond.NotCarry ∷ g Cond.Carry ∷ g Cond.ParityOdd ∷ g Cond.ParityEven ∷ g Cond.Plus ∷ g Cond.Minus ∷ [] → (v : Cond) → f v ≡ g v
conditions_agree X f g e Cond.NotZero = ap (λ xs. get_or xs 0 (f Cond.NotZero)) e
conditions_agree X f g e Cond.Zero = ap (λ xs. get_or xs 1 (f Cond.NotZero)) e
conditions_agree X f g e Cond.NotCarry = ap (λ xs. get_or xs 2 (f Cond.NotZero)) e
conditions_agree X f g e Cond.Carry = ap (λ xs. get_or xs 3 (f Cond.NotZero)) e
conditions_agree X f g e Cond.ParityOdd = ap (λ xs. get_or xs 4 (f Cond.NotZero)) e
conditions_agree X f g e Cond.ParityEven = ap (λ xs. get_or xs 5 (f Cond.NotZero)) e
conditions_agree X f g e Cond.Plus = ap (λ xs. get_or xs 6 (f Cond.NotZero)) e
conditions_agree X f g e Cond.Minus = ap (λ xs. get_or xs 7 (f Cond.NotZero)) e

abbrev pub conditions : Finite Cond
conditions = record { Values = List; values = λ X f. f Cond.NotZero ∷ f Cond.Zero ∷ f Cond.NotCarry ∷ f Cond.Carry ∷ f Cond.ParityOdd ∷ f Cond.ParityEven ∷ f Cond.Plus ∷ f Cond.Minus ∷ []; agree = conditions_agree }

pub short_conditions_agree : (X : Type 0) (f g : ShortCond → X) → f ShortCond.NotZero ∷ f ShortCond.Zero ∷ f ShortCond.NotCarry ∷ f ShortCond.Carry ∷ [] ≡ g ShortCond.NotZero ∷ g ShortCond.Zero ∷ g ShortCond.NotCarry ∷ g ShortCond.Carry ∷ [] → (v : ShortCond) → f v ≡ g v
short_conditions_agree X f g e ShortCond.NotZero = ap (λ xs. get_or xs 0 (f ShortCond.NotZero)) e
short_conditions_agree X f g e ShortCond.Zero = ap (λ xs. get_or xs 1 (f ShortCond.NotZero)) e
short_conditions_agree X f g e ShortCond.NotCarry = ap (λ xs. get_or xs 2 (f ShortCond.NotZero)) e
short_conditions_agree X f g e ShortCond.Carry = ap (λ xs. get_or xs 3 (f ShortCond.NotZero)) e

abbrev pub short_conditions : Finite ShortCond
short_conditions = record { Values = List; values = λ X f. f ShortCond.NotZero ∷ f ShortCond.Zero ∷ f ShortCond.NotCarry ∷ f ShortCond.Carry ∷ []; agree = short_conditions_agree }

pub operations_agree : (X : Type 0) (f g : AluOperation → X) → f AluOperation.Add ∷ f AluOperation.Adc ∷ f AluOperation.Sub ∷ f AluOperation.Sbc ∷ f AluOperation.And ∷ f AluOperation.Xor ∷ f AluOperation.Or ∷ f AluOperation.Cp ∷ [] ≡ g AluOperation.Add ∷ g AluOperation.Adc ∷ g AluOperation.Sub ∷ g AluOperation.Sbc ∷ g AluOperation.And ∷ g AluOperation.Xor ∷ g AluOperation.Or ∷ g AluOperation.Cp ∷ [] → (v : AluOperation) → f v ≡ g v
operations_agree X f g e AluOperation.Add = ap (λ xs. get_or xs 0 (f AluOperation.Add)) e
operations_agree X f g e AluOperation.Adc = ap (λ xs. get_or xs 1 (f AluOperation.Add)) e
operations_agree X f g e AluOperation.Sub = ap (λ xs. get_or xs 2 (f AluOperation.Add)) e
operations_agree X f g e AluOperation.Sbc = ap (λ xs. get_or xs 3 (f AluOperation.Add)) e
operations_agree X f g e AluOperation.And = ap (λ xs. get_or xs 4 (f AluOperation.Add)) e
operations_agree X f g e AluOperation.Xor = ap (λ xs. get_or xs 5 (f AluOperation.Add)) e
operations_agree X f g e AluOperation.Or = ap (λ xs. get_or xs 6 (f AluOperation.Add)) e
operations_agree X f g e AluOperation.Cp = ap (λ xs. get_or xs 7 (f AluOperation.Add)) e

abbrev pub operations : Finite AluOperation
operations = record { Values = List; values = λ X f. f AluOperation.Add ∷ f AluOperation.Adc ∷ f AluOperation.Sub ∷ f AluOperation.Sbc ∷ f AluOperation.And ∷ f AluOperation.Xor ∷ f AluOperation.Or ∷ f AluOperation.Cp ∷ []; agree = operations_agree }

pub rotations_agree : (X : Type 0) (f g : Rotation → X) → f Rotation.Rlc ∷ f Rotation.Rrc ∷ f Rotation.Rl ∷ f Rotation.Rr ∷ f Rotation.Sla ∷ f Rotation.Sra ∷ f Rotation.Srl ∷ [] ≡ g Rotation.Rlc ∷ g Rotation.Rrc ∷ g Rotation.Rl ∷ g Rotation.Rr ∷ g Rotation.Sla ∷ g Rotation.Sra ∷ g Rotation.Srl ∷ [] → (v : Rotation) → f v ≡ g v
rotations_agree X f g e Rotation.Rlc = ap (λ xs. get_or xs 0 (f Rotation.Rlc)) e
rotations_agree X f g e Rotation.Rrc = ap (λ xs. get_or xs 1 (f Rotation.Rlc)) e
rotations_agree X f g e Rotation.Rl = ap (λ xs. get_or xs 2 (f Rotation.Rlc)) e
rotations_agree X f g e Rotation.Rr = ap (λ xs. get_or xs 3 (f Rotation.Rlc)) e
rotations_agree X f g e Rotation.Sla = ap (λ xs. get_or xs 4 (f Rotation.Rlc)) e
rotations_agree X f g e Rotation.Sra = ap (λ xs. get_or xs 5 (f Rotation.Rlc)) e
rotations_agree X f g e Rotation.Srl = ap (λ xs. get_or xs 6 (f Rotation.Rlc)) e

abbrev pub rotations : Finite Rotation
rotations = record { Values = List; values = λ X f. f Rotation.Rlc ∷ f Rotation.Rrc ∷ f Rotation.Rl ∷ f Rotation.Rr ∷ f Rotation.Sla ∷ f Rotation.Sra ∷ f Rotation.Srl ∷ []; agree = rotations_agree }

pub octals_agree : (X : Type 0) (f g : Octal → X) → f Octal.Zero ∷ f Octal.One ∷ f Octal.Two ∷ f Octal.Three ∷ f Octal.Four ∷ f Octal.Five ∷ f Octal.Six ∷ f Octal.Seven ∷ [] ≡ g Octal.Zero ∷ g Octal.One ∷ g Octal.Two ∷ g Octal.Three ∷ g Octal.Four ∷ g Octal.Five ∷ g Octal.Six ∷ g Octal.Seven ∷ [] → (v : Octal) → f v ≡ g v
octals_agree X f g e Octal.Zero = ap (λ xs. get_or xs 0 (f Octal.Zero)) e
octals_agree X f g e Octal.One = ap (λ xs. get_or xs 1 (f Octal.Zero)) e
octals_agree X f g e Octal.Two = ap (λ xs. get_or xs 2 (f Octal.Zero)) e
octals_agree X f g e Octal.Three = ap (λ xs. get_or xs 3 (f Octal.Zero)) e
octals_agree X f g e Octal.Four = ap (λ xs. get_or xs 4 (f Octal.Zero)) e
octals_agree X f g e Octal.Five = ap (λ xs. get_or xs 5 (f Octal.Zero)) e
octals_agree X f g e Octal.Six = ap (λ xs. get_or xs 6 (f Octal.Zero)) e
octals_agree X f g e Octal.Seven = ap (λ xs. get_or xs 7 (f Octal.Zero)) e

abbrev pub octals : Finite Octal
octals = record { Values = List; values = λ X f. f Octal.Zero ∷ f Octal.One ∷ f Octal.Two ∷ f Octal.Three ∷ f Octal.Four ∷ f Octal.Five ∷ f Octal.Six ∷ f Octal.Seven ∷ []; agree = octals_agree }

pub block_operations_agree : (X : Type 0) (f g : BlockOperation → X) → f BlockOperation.Load ∷ f BlockOperation.Compare ∷ f BlockOperation.Input ∷ f BlockOperation.Output ∷ [] ≡ g BlockOperation.Load ∷ g BlockOperation.Compare ∷ g BlockOperation.Input ∷ g BlockOperation.Output ∷ [] → (v : BlockOperation) → f v ≡ g v
block_operations_agree X f g e BlockOperation.Load = ap (λ xs. get_or xs 0 (f BlockOperation.Load)) e
block_operations_agree X f g e BlockOperation.Compare = ap (λ xs. get_or xs 1 (f BlockOperation.Load)) e
block_operations_agree X f g e BlockOperation.Input = ap (λ xs. get_or xs 2 (f BlockOperation.Load)) e
block_operations_agree X f g e BlockOperation.Output = ap (λ xs. get_or xs 3 (f BlockOperation.Load)) e

abbrev pub block_operations : Finite BlockOperation
block_operations = record { Values = List; values = λ X f. f BlockOperation.Load ∷ f BlockOperation.Compare ∷ f BlockOperation.Input ∷ f BlockOperation.Output ∷ []; agree = block_operations_agree }

pub block_steps_agree : (X : Type 0) (f g : BlockStep → X) → f BlockStep.Increment ∷ f BlockStep.Decrement ∷ f BlockStep.IncrementRepeat ∷ f BlockStep.DecrementRepeat ∷ [] ≡ g BlockStep.Increment ∷ g BlockStep.Decrement ∷ g BlockStep.IncrementRepeat ∷ g BlockStep.DecrementRepeat ∷ [] → (v : BlockStep) → f v ≡ g v
block_steps_agree X f g e BlockStep.Increment = ap (λ xs. get_or xs 0 (f BlockStep.Increment)) e
block_steps_agree X f g e BlockStep.Decrement = ap (λ xs. get_or xs 1 (f BlockStep.Increment)) e
block_steps_agree X f g e BlockStep.IncrementRepeat = ap (λ xs. get_or xs 2 (f BlockStep.Increment)) e
block_steps_agree X f g e BlockStep.DecrementRepeat = ap (λ xs. get_or xs 3 (f BlockStep.Increment)) e

abbrev pub block_steps : Finite BlockStep
block_steps = record { Values = List; values = λ X f. f BlockStep.Increment ∷ f BlockStep.Decrement ∷ f BlockStep.IncrementRepeat ∷ f BlockStep.DecrementRepeat ∷ []; agree = block_steps_agree }
