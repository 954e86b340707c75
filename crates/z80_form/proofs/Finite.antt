-- Tests over all forms of an operand.
use Rattle.std.proofs.Common.{◌≡◌, List, [], ◌∷◌, ap, get_or}
use Rattle.z80_instr.proofs.Finite.{Finite, indexes}
use Rattle.z80_form.proofs.Words.Finite.{names}
use Rattle.z80_form.specs.Types.{Pointed, Form}

-- the forms that are no name and contain no index register
abbrev pub others : (X : Type 0) → (Form → X) → List X
others X f = f (Form.At Pointed.Hl) ∷ f (Form.At Pointed.Bc) ∷ f (Form.At Pointed.De) ∷ f (Form.At Pointed.Sp) ∷ f (Form.At Pointed.C) ∷ f Form.AtNumber ∷ f Form.Number ∷ []

abbrev pub Forms : Type 0 → Type 0
Forms X = names.Values X × indexes.Values X × indexes.Values X × List X

abbrev pub forms_of : (X : Type 0) → (Form → X) → Forms X
forms_of X f = (names.values X (λ n. f (Form.Name n)), indexes.values X (λ x. f (Form.AtIndex x)), indexes.values X (λ x. f (Form.Displaced x)), others X f)

pub forms_agree : (X : Type 0) (f g : Form → X) → forms_of X f ≡ forms_of X g → (v : Form) → f v ≡ g v
forms_agree X f g e (Form.Name n) = names.agree X (λ n. f (Form.Name n)) (λ n. g (Form.Name n)) (ap (λ v. v.0) e) n
forms_agree X f g e (Form.AtIndex x) = indexes.agree X (λ x. f (Form.AtIndex x)) (λ x. g (Form.AtIndex x)) (ap (λ v. v.1) e) x
forms_agree X f g e (Form.Displaced x) = indexes.agree X (λ x. f (Form.Displaced x)) (λ x. g (Form.Displaced x)) (ap (λ v. v.2) e) x
forms_agree X f g e (Form.At Pointed.Hl) = ap (λ v. get_or v.3 0 (f Form.Number)) e
forms_agree X f g e (Form.At Pointed.Bc) = ap (λ v. get_or v.3 1 (f Form.Number)) e
forms_agree X f g e (Form.At Pointed.De) = ap (λ v. get_or v.3 2 (f Form.Number)) e
forms_agree X f g e (Form.At Pointed.Sp) = ap (λ v. get_or v.3 3 (f Form.Number)) e
forms_agree X f g e (Form.At Pointed.C) = ap (λ v. get_or v.3 4 (f Form.Number)) e
forms_agree X f g e Form.AtNumber = ap (λ v. get_or v.3 5 (f Form.Number)) e
forms_agree X f g e Form.Number = ap (λ v. get_or v.3 6 (f Form.Number)) e

abbrev pub operand_forms : Finite Form
operand_forms = record { Values = Forms; values = forms_of; agree = forms_agree }
