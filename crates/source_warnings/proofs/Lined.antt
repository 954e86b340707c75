-- One line more.
use Rattle.std.proofs.Common.{◌≡◌, ◌∙◌, ◌++◌, ◌∷◌, [], ℕ, true, false, List, Option, refl, sym, ap, append-nil}
use Rattle.std.proofs.lemmas.Grind.{flat_map-append}
use Rattle.asm_spell.specs.Line.{Line}
use Rattle.asm_text.specs.Lines.{Numbered}
use Rattle.source_warnings.specs.declared.own.Before.{Before}
use Rattle.source_warnings.specs.Mentions.{mentions}
use Rattle.source_warnings.specs.Noted.{Noted, first_noted, noted_on}
use Rattle.source_warnings.specs.Private.Known.{Agrees, Knows}
use Rattle.source_warnings.specs.Warnings.{SourceWarning, each_said, external_says, externals_among, externals_read, if_own, is_own, label_read, label_warnings, line_warnings, own_warnings, parsed_line, public_says, publics_among, publics_read}
use Rattle.source_warnings.proofs.Agreeing.{agrees-more, each-agrees}

publics-more : (text : List ℕ) (earlier : List Numbered) (l : Numbered) → publics_among text (earlier ++ l ∷ []) ≡ publics_among text earlier ++ if_own text l (publics_read (parsed_line l.text))
publics-more text earlier l = flat_map-append (λ m. if_own text m (publics_read (parsed_line m.text))) earlier (l ∷ []) ∙ ap (λ n. publics_among text earlier ++ n) (append-nil _)

externals-more : (text : List ℕ) (earlier : List Numbered) (l : Numbered) → externals_among text (earlier ++ l ∷ []) ≡ externals_among text earlier ++ if_own text l (externals_read (parsed_line l.text))
externals-more text earlier l = flat_map-append (λ m. if_own text m (externals_read (parsed_line m.text))) earlier (l ∷ []) ∙ ap (λ n. externals_among text earlier ++ n) (append-nil _)

-- the warnings about a name depend only on what is noted
label-agrees : (one other : Noted) → Agrees one other → (l : Numbered) (label : Option (List ℕ)) → label_warnings one l label ≡ label_warnings other l label
label-agrees one other same l Option.None = refl
label-agrees one other same l (Option.Some name) = rw (same name) refl

says-agrees : (one other : Noted) → Agrees one other → (l : Numbered) (name : List ℕ) (first : Option ℕ) → external_says one l name first ≡ external_says other l name first
says-agrees one other same l name Option.None = rw (same name) refl
says-agrees one other same l name (Option.Some first) = refl

each-same : (one other : List ℕ → Option ℕ → List SourceWarning) → ((name : List ℕ) (first : Option ℕ) → one name first ≡ other name first) → (number : ℕ) (before : Noted) (names : List (List ℕ)) → each_said one number before names ≡ each_said other number before names
each-same one other same number before [] = refl
each-same one other same number before (name ∷ names) = rw (same name (first_noted before name), each-same one other same number (before ++ (name, number) ∷ []) names) refl

own-agrees : (m p x mm pp xx : Noted) → Agrees m mm → Agrees p pp → Agrees x xx → (l : Numbered) (read : Option Line) → own_warnings m p x l read ≡ own_warnings mm pp xx l read
own-agrees m p x mm pp xx same_m same_p same_x l read =
    rw (label-agrees m mm same_m l (label_read read), each-agrees (public_says l) l.number p pp same_p (publics_read read), each-agrees (external_says m l) l.number x xx same_x (externals_read read), each-same (external_says m l) (external_says mm l) (says-agrees m mm same_m l) l.number xx (externals_read read)) refl

module _ (text : List ℕ) (earlier : List Numbered) (l : Numbered) (old : Before) (was : Knows text earlier old) where
  pub own_said : is_own text l ≡ true → own_warnings old.mentioned old.publics old.externals l (parsed_line l.text) ≡ line_warnings text earlier l
  own_said own = rw own (own-agrees old.mentioned old.publics old.externals (mentions text) (publics_among text earlier) (externals_among text earlier) was.known was.publics_noted was.externals_noted l (parsed_line l.text))

  pub own_known : is_own text l ≡ true → (new : Before) → new.mentioned ≡ old.mentioned → Agrees new.publics (old.publics ++ noted_on l.number (publics_read (parsed_line l.text))) → Agrees new.externals (old.externals ++ noted_on l.number (externals_read (parsed_line l.text))) → Knows text (earlier ++ l ∷ []) new
  own_known own new mentioned publics externals = record {
    known = λ name. ap (λ t. first_noted t name) mentioned ∙ was.known name;
    publics_noted = λ name. publics name ∙ (agrees-more old.publics (publics_among text earlier) (noted_on l.number (publics_read (parsed_line l.text))) was.publics_noted name ∙ ap (λ t. first_noted t name) (sym (publics-more text earlier l ∙ rw own refl)));
    externals_noted = λ name. externals name ∙ (agrees-more old.externals (externals_among text earlier) (noted_on l.number (externals_read (parsed_line l.text))) was.externals_noted name ∙ ap (λ t. first_noted t name) (sym (externals-more text earlier l ∙ rw own refl)));
  }

  pub other_said : is_own text l ≡ false → line_warnings text earlier l ≡ []
  other_said other = rw other refl

  pub other_known : is_own text l ≡ false → Knows text (earlier ++ l ∷ []) old
  other_known other = record {
    known = was.known;
    publics_noted = λ name. was.publics_noted name ∙ ap (λ t. first_noted t name) (sym (publics-more text earlier l ∙ rw other (append-nil _)));
    externals_noted = λ name. was.externals_noted name ∙ ap (λ t. first_noted t name) (sym (externals-more text earlier l ∙ rw other (append-nil _)));
  }
