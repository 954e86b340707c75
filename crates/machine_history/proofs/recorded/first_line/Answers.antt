use Rattle.std.proofs.Common.{◌≡◌, ◌∙◌, ◌++◌, ◌∷◌, [], ℕ, ap, sym, refl, codes, decimal, arith}
use Rattle.hex.specs.Hex.{encode_upper}
use Rattle.machine_history.specs.declared.recorded.Line.TheVariants as line
use Rattle.machine_history.proofs.Cutting.{arrival_parts, closing_parts, decimal_lacks, end_lacks, hex_lacks, no_cut, one_cut}
use Rattle.machine_history.proofs.recorded.first_line.Goals as goal

pub returns-in_err-digits-clause-byte : goal.returns-in_err-digits-clause-byte
returns-in_err-digits-clause-byte c = λ a rest fits is. absurd (no_cut 32 c.args.text.now (decimal a.turn) ((encode_upper (a.byte ∷ [])) ++ 10 ∷ rest) c.in_err-digits.ensures.parts (is ∙ arrival_parts a rest))

pub returns-in_err-word-clause-byte : goal.returns-in_err-word-clause-byte
returns-in_err-word-clause-byte c = λ a rest fits is.
    let first = one_cut 32 c.in_ok-digits.digits.now (decimal a.turn) c.in_ok-digits.rest.now (encode_upper (a.byte ∷ []) ++ 10 ∷ rest) c.in_ok-digits.ensures.parts.0 (decimal_lacks a.turn 32 (omega arith) fits.0) (sym c.in_ok-digits.ensures.parts.1 ∙ is ∙ arrival_parts a rest) in
    absurd (no_cut 10 c.in_ok-digits.rest.now (encode_upper (a.byte ∷ [])) rest c.in_err-word.ensures.parts first.1)

pub returns-in_err-number-clause-byte : goal.returns-in_err-number-clause-byte
returns-in_err-number-clause-byte c = λ a rest fits is.
    let first = one_cut 32 c.in_ok-digits.digits.now (decimal a.turn) c.in_ok-digits.rest.now (encode_upper (a.byte ∷ []) ++ 10 ∷ rest) c.in_ok-digits.ensures.parts.0 (decimal_lacks a.turn 32 (omega arith) fits.0) (sym c.in_ok-digits.ensures.parts.1 ∙ is ∙ arrival_parts a rest) in
    let both = sym c.in_err-number.was ∙ c.number_of.ensures a.turn fits.0 first.0 in
    cc

pub returns-in_err-line-clause-byte : goal.returns-in_err-line-clause-byte
returns-in_err-line-clause-byte c = λ a rest fits is.
    let first = one_cut 32 c.in_ok-digits.digits.now (decimal a.turn) c.in_ok-digits.rest.now (encode_upper (a.byte ∷ []) ++ 10 ∷ rest) c.in_ok-digits.ensures.parts.0 (decimal_lacks a.turn 32 (omega arith) fits.0) (sym c.in_ok-digits.ensures.parts.1 ∙ is ∙ arrival_parts a rest) in
    let second = one_cut 10 c.in_ok-word.word.now (encode_upper (a.byte ∷ [])) c.in_ok-word.after.now rest c.in_ok-word.ensures.parts.0 (hex_lacks a.byte 10 refl fits.1) (sym c.in_ok-word.ensures.parts.1 ∙ first.1) in
    let both = sym c.in_err-line.was ∙ c.line_of.ensures.byte a.byte fits.1 second.0 in
    cc

pub returns-clause-byte : goal.returns-clause-byte
returns-clause-byte c = λ a rest fits is.
    let first = one_cut 32 c.in_ok-digits.digits.now (decimal a.turn) c.in_ok-digits.rest.now (encode_upper (a.byte ∷ []) ++ 10 ∷ rest) c.in_ok-digits.ensures.parts.0 (decimal_lacks a.turn 32 (omega arith) fits.0) (sym c.in_ok-digits.ensures.parts.1 ∙ is ∙ arrival_parts a rest) in
    let second = one_cut 10 c.in_ok-word.word.now (encode_upper (a.byte ∷ [])) c.in_ok-word.after.now rest c.in_ok-word.ensures.parts.0 (hex_lacks a.byte 10 refl fits.1) (sym c.in_ok-word.ensures.parts.1 ∙ first.1) in
    let number : c.in_ok-number.number ≡ a.turn = let both = sym c.in_ok-number.was ∙ c.number_of.ensures a.turn fits.0 first.0 in cc in
    let told : c.in_ok-line.line ≡ line.Byte (record { turn = c.in_ok-number.number; byte = a.byte }) = let both = sym c.in_ok-line.was ∙ c.line_of.ensures.byte a.byte fits.1 second.0 in cc in
    (told ∙ ap (λ (m : ℕ). line.Byte (record { turn = m; byte = a.byte })) number, second.1)

pub returns-in_err-digits-clause-end : goal.returns-in_err-digits-clause-end
returns-in_err-digits-clause-end c = λ n rest fits is. absurd (no_cut 32 c.args.text.now (decimal n) ((codes "END") ++ 10 ∷ rest) c.in_err-digits.ensures.parts (is ∙ closing_parts n rest))

pub returns-in_err-word-clause-end : goal.returns-in_err-word-clause-end
returns-in_err-word-clause-end c = λ n rest fits is.
    let first = one_cut 32 c.in_ok-digits.digits.now (decimal n) c.in_ok-digits.rest.now (codes "END" ++ 10 ∷ rest) c.in_ok-digits.ensures.parts.0 (decimal_lacks n 32 (omega arith) fits) (sym c.in_ok-digits.ensures.parts.1 ∙ is ∙ closing_parts n rest) in
    absurd (no_cut 10 c.in_ok-digits.rest.now (codes "END") rest c.in_err-word.ensures.parts first.1)

pub returns-in_err-number-clause-end : goal.returns-in_err-number-clause-end
returns-in_err-number-clause-end c = λ n rest fits is.
    let first = one_cut 32 c.in_ok-digits.digits.now (decimal n) c.in_ok-digits.rest.now (codes "END" ++ 10 ∷ rest) c.in_ok-digits.ensures.parts.0 (decimal_lacks n 32 (omega arith) fits) (sym c.in_ok-digits.ensures.parts.1 ∙ is ∙ closing_parts n rest) in
    let both = sym c.in_err-number.was ∙ c.number_of.ensures n fits first.0 in
    cc

pub returns-in_err-line-clause-end : goal.returns-in_err-line-clause-end
returns-in_err-line-clause-end c = λ n rest fits is.
    let first = one_cut 32 c.in_ok-digits.digits.now (decimal n) c.in_ok-digits.rest.now (codes "END" ++ 10 ∷ rest) c.in_ok-digits.ensures.parts.0 (decimal_lacks n 32 (omega arith) fits) (sym c.in_ok-digits.ensures.parts.1 ∙ is ∙ closing_parts n rest) in
    let second = one_cut 10 c.in_ok-word.word.now (codes "END") c.in_ok-word.after.now rest c.in_ok-word.ensures.parts.0 end_lacks (sym c.in_ok-word.ensures.parts.1 ∙ first.1) in
    let both = sym c.in_err-line.was ∙ c.line_of.ensures.end second.0 in
    cc

pub returns-clause-end : goal.returns-clause-end
returns-clause-end c = λ n rest fits is.
    let first = one_cut 32 c.in_ok-digits.digits.now (decimal n) c.in_ok-digits.rest.now (codes "END" ++ 10 ∷ rest) c.in_ok-digits.ensures.parts.0 (decimal_lacks n 32 (omega arith) fits) (sym c.in_ok-digits.ensures.parts.1 ∙ is ∙ closing_parts n rest) in
    let second = one_cut 10 c.in_ok-word.word.now (codes "END") c.in_ok-word.after.now rest c.in_ok-word.ensures.parts.0 end_lacks (sym c.in_ok-word.ensures.parts.1 ∙ first.1) in
    let number : c.in_ok-number.number ≡ n = let both = sym c.in_ok-number.was ∙ c.number_of.ensures n fits first.0 in cc in
    let told : c.in_ok-line.line ≡ line.End c.in_ok-number.number = let both = sym c.in_ok-line.was ∙ c.line_of.ensures.end second.0 in cc in
    (told ∙ ap line.End number, second.1)
