-- What a word names, as functions: the word is looked up in the list of all mnemonics, or of all registers and conditions. These
-- are here for definitions about the words of a source; laws::named says the same in terms of specs/Words.antt.
use Rattle.std.specs.Prelude.{ℕ, List, [], ◌∷◌, Option}
use Rattle.std.specs.List.{find}
use Rattle.std.specs.Str.{bytes_eq}
use Rattle.z80_instr.specs.declared.AluOperation.{AluOperation}
use Rattle.z80_instr.specs.declared.Rotation.{Rotation}
use Rattle.z80_instr.specs.declared.BlockOperation.{BlockOperation}
use Rattle.z80_instr.specs.declared.BlockStep.{BlockStep}
use Rattle.z80_form.specs.Types.{Name, Mnemonic}
use Rattle.z80_form.specs.Words.{upper_letters, mnemonic_word, operand_word}

abbrev pub each_mnemonic : List Mnemonic
each_mnemonic =
    Mnemonic.Alu AluOperation.Adc ∷ Mnemonic.Alu AluOperation.Add ∷ Mnemonic.Alu AluOperation.And ∷ Mnemonic.Bit ∷
    Mnemonic.Call ∷ Mnemonic.Ccf ∷ Mnemonic.Alu AluOperation.Cp ∷
    Mnemonic.Block BlockOperation.Compare BlockStep.Decrement ∷
    Mnemonic.Block BlockOperation.Compare BlockStep.DecrementRepeat ∷
    Mnemonic.Block BlockOperation.Compare BlockStep.Increment ∷
    Mnemonic.Block BlockOperation.Compare BlockStep.IncrementRepeat ∷ Mnemonic.Cpl ∷ Mnemonic.Daa ∷ Mnemonic.Dec ∷
    Mnemonic.Di ∷ Mnemonic.Djnz ∷ Mnemonic.Ei ∷ Mnemonic.Ex ∷ Mnemonic.Exx ∷ Mnemonic.Halt ∷ Mnemonic.Im ∷
    Mnemonic.In ∷ Mnemonic.Inc ∷ Mnemonic.Block BlockOperation.Input BlockStep.Decrement ∷
    Mnemonic.Block BlockOperation.Input BlockStep.DecrementRepeat ∷
    Mnemonic.Block BlockOperation.Input BlockStep.Increment ∷
    Mnemonic.Block BlockOperation.Input BlockStep.IncrementRepeat ∷ Mnemonic.Jp ∷ Mnemonic.Jr ∷ Mnemonic.Ld ∷
    Mnemonic.Block BlockOperation.Load BlockStep.Decrement ∷
    Mnemonic.Block BlockOperation.Load BlockStep.DecrementRepeat ∷
    Mnemonic.Block BlockOperation.Load BlockStep.Increment ∷
    Mnemonic.Block BlockOperation.Load BlockStep.IncrementRepeat ∷ Mnemonic.Neg ∷ Mnemonic.Nop ∷
    Mnemonic.Alu AluOperation.Or ∷ Mnemonic.Block BlockOperation.Output BlockStep.DecrementRepeat ∷
    Mnemonic.Block BlockOperation.Output BlockStep.IncrementRepeat ∷ Mnemonic.Out ∷
    Mnemonic.Block BlockOperation.Output BlockStep.Decrement ∷
    Mnemonic.Block BlockOperation.Output BlockStep.Increment ∷ Mnemonic.Pop ∷ Mnemonic.Push ∷ Mnemonic.Res ∷
    Mnemonic.Ret ∷ Mnemonic.Reti ∷ Mnemonic.Retn ∷ Mnemonic.Rotate Rotation.Rl ∷ Mnemonic.Rla ∷
    Mnemonic.Rotate Rotation.Rlc ∷ Mnemonic.Rlca ∷ Mnemonic.Rld ∷ Mnemonic.Rotate Rotation.Rr ∷ Mnemonic.Rra ∷
    Mnemonic.Rotate Rotation.Rrc ∷ Mnemonic.Rrca ∷ Mnemonic.Rrd ∷ Mnemonic.Rst ∷ Mnemonic.Alu AluOperation.Sbc ∷
    Mnemonic.Scf ∷ Mnemonic.Set ∷ Mnemonic.Rotate Rotation.Sla ∷ Mnemonic.Rotate Rotation.Sra ∷
    Mnemonic.Rotate Rotation.Srl ∷ Mnemonic.Alu AluOperation.Sub ∷ Mnemonic.Alu AluOperation.Xor ∷ []

-- the mnemonic whose word this is, in upper or lower case
unfoldable pub mnemonic_named : List ℕ → Option Mnemonic
mnemonic_named name = find (λ m. bytes_eq (upper_letters name) (mnemonic_word m)) each_mnemonic

abbrev pub each_name : List Name
each_name =
    Name.A ∷ Name.B ∷ Name.C ∷ Name.D ∷ Name.E ∷ Name.H ∷ Name.L ∷ Name.I ∷ Name.R ∷ Name.Af ∷ Name.OtherAf ∷ Name.Bc ∷
    Name.De ∷ Name.Hl ∷ Name.Ix ∷ Name.Iy ∷ Name.Sp ∷ Name.Nz ∷ Name.Z ∷ Name.Nc ∷ Name.Po ∷ Name.Pe ∷ Name.P ∷
    Name.M ∷ []

-- the register or condition whose word this is, in upper or lower case
unfoldable pub name_named : List ℕ → Option Name
name_named name = find (λ n. bytes_eq (upper_letters name) (operand_word n)) each_name
