-- What a parse without an error found for a command.
use Rattle.std.proofs.Common.{◌≡◌, ◌∙◌, ◌<◌, ◌≤◌, ◌^◌, ◌⊎◌, arith, inl, inr, ℕ, Bool, true, false, List, [], Option, None, Some, is_some, codes, length, map, ◌∷◌, refl, sym, ap, subst}
use Rattle.std.specs.Prelude.{Err, IfSome, Ok, Result, option_and_then, slice_get}
use Rattle.std.specs.Option.{option_map, option_map_or}
use Rattle.std.specs.Prelude.{find}
use Rattle.std.specs.Str.{bytes_eq}
use Rattle.std.specs.Str.Parse.{ParsesUnsigned}
use Rattle.std.specs.Prelude.{Box}
use Rattle.std.specs.Box.{box_value}
use Rattle.clap.specs.Faults.{defaults_fault, walk_fault}
use Rattle.clap.specs.Words.{App, HasMatchesOf, ReadsOne, Row, Text, all_of, built, fault_of, first_of, found_of, is_simple_and_free, one_of, rows_of, subcommand_name_of, subcommand_of, subcommand_rows, subcommand_rows_of}
use Rattle.clap.specs.declared.parser.matches.ArgMatches.{ArgMatches}
use Rattle.clap.specs.declared.parser.matches.ArgMatches.TheViews.{out-ArgMatches, out-SubCommand}
use Rattle.clap.specs.declared.parser.matches.SubCommand.{SubCommand}
use Rattle.z80dev_commands.specs.Commands.{FindsNumber, AreParsed, ReadsAs, is_on, z80dev}
use Rattle.z80dev_commands.specs.Private.{AreFound, HasTarget, IsFlag, IsNumber}
use Rattle.z80dev_commands.proofs.Values.{each_named, flag_value, has_parser, is_bool, is_up_to, number_value, required_value, requires}

-- the words are parsed without an error, and the parse found these rows for the command with this name
abbrev pub IsMet : List Text → Text → List Row → Type 0
IsMet words name rows = AreParsed words × (subcommand_of z80dev words ≡ Some (name, rows))

rows_met : {Z : Type 0} (o : Option (Box SubCommand Z)) (name : Text) (rows : List Row) → Some name ≡ option_map (λ b. (out-SubCommand (box_value b)).name.now) o
    → Some rows ≡ option_map (λ p. p.1) (subcommand_rows o) → subcommand_rows o ≡ Some (name, rows)
rows_met None name rows is are = absurd (cc is)
rows_met (Some b) name rows is are =
    let one : name ≡ (out-SubCommand (box_value b)).name.now = cc is in
    let all : rows ≡ rows_of (found_of (out-SubCommand (box_value b)).matches) = cc are in
    rw (one, all) refl

pub met_by : (a : App) (words : List Text) (m : ArgMatches) (name : Text) (rows : List Row) → a ≡ z80dev → (is_simple_and_free a ≡ true → fault_of a words ≡ []) → HasMatchesOf a words m
    → Some name ≡ subcommand_name_of m → Some rows ≡ option_map (λ p. p.1) (subcommand_rows_of m) → IsMet words name rows
met_by a words m name rows same kinds has is are = (
  subst (λ a. is_simple_and_free a ≡ true → fault_of a words ≡ []) same kinds refl,
  sym (subst (λ a. HasMatchesOf a words m) same has refl).1 ∙ rows_met (out-ArgMatches m).subcommand name rows is are,
)

-- and if the parse found no command
pub unmet_by : (a : App) (words : List Text) (m : ArgMatches) → a ≡ z80dev → (is_simple_and_free a ≡ true → fault_of a words ≡ []) → HasMatchesOf a words m
    → None ≡ subcommand_name_of m → AreParsed words × (subcommand_of z80dev words ≡ None)
unmet_by a words m same kinds has is = (
  subst (λ a. is_simple_and_free a ≡ true → fault_of a words ≡ []) same kinds refl,
  sym (subst (λ a. HasMatchesOf a words m) same has refl).1 ∙ none (out-ArgMatches m).subcommand is,
)
  where
    none : {Z : Type 0} (o : Option (Box SubCommand Z)) → None ≡ option_map (λ b. (out-SubCommand (box_value b)).name.now) o → subcommand_rows o ≡ None
    none None is = refl
    none (Some b) is = absurd (cc is)

-- words that name no command, since there is at most one and the first is the program's name
pub unnamed : {A : Type 0} (text : A → Text) (words : List A) → length words ≤ 1 → AreParsed (map text words) × (subcommand_of z80dev (map text words) ≡ None)
unfolding walk_fault defaults_fault
unnamed text [] few = (refl, refl)
unnamed text (name ∷ []) few = (refl, refl)
unnamed text (name ∷ word ∷ rest) few = absurd (omega (arith, few))

pub has_text : (name id : Text) (rows : List Row) → each_named name (requires id) (built z80dev).subs ≡ true → AreFound name rows → is_some (first_of id rows) ≡ true
has_text name id rows is met = required_value z80dev met.0 name id rows is met.2 met.1

pub has_texts : (name id : Text) (rows : List Row) → each_named name (requires id) (built z80dev).subs ≡ true → AreFound name rows → is_some (all_of id rows) ≡ true
has_texts name id rows is met = go (find (λ r. bytes_eq r.id id) rows) (has_text name id rows is met)
  where
    go : (o : Option Row) → is_some (option_and_then (λ r. slice_get r.values 0) o) ≡ true → is_some (option_map (λ r. r.values) o) ≡ true
    go None e = absurd (cc e)
    go (Some r) e = refl

pub reads_flag : (name id : Text) (rows : List Row) → each_named name (has_parser is_bool id) (built z80dev).subs ≡ true → AreFound name rows → IsFlag id rows
reads_flag name id rows is met = flag_value z80dev met.0 name id rows is met.2 met.1

pub reads_number : (most : ℕ) (name id : Text) (rows : List Row) → each_named name (has_parser (is_up_to most) id) (built z80dev).subs ≡ true → AreFound name rows → IsNumber id most rows
reads_number most name id rows is met = number_value most z80dev met.0 name id rows is met.2 met.1

pub has_target : (name : Text) (rows : List Row) → each_named name (requires (codes "IMG")) (built z80dev).subs ≡ true → each_named name (has_parser (is_up_to 31) (codes "N")) (built z80dev).subs ≡ true
    → each_named name (has_parser is_bool (codes "no-lock")) (built z80dev).subs ≡ true → AreFound name rows → HasTarget rows
has_target name rows image user lock met = (has_text name (codes "IMG") rows image met, reads_number 31 name (codes "N") rows user met, reads_flag name (codes "no-lock") rows lock met)

-- What `get_one` answers for a number: the value reads (`G`) as a type of `bits` bits does, and that type can hold `most`.
module _ (E : Type 0) (G : Text → Result ℕ E → Type 0) (bits most : ℕ) (fits : most < 2 ^ bits) (reads : (t : Text) (r : Result ℕ E) → G t r → ParsesUnsigned bits 10 t r) where
  pub number_is : (id : Text) (rows : List Row) (read : Option Text) (answer : Option ℕ) → one_of id rows ≡ read → IsNumber id most rows → (read ≡ None → answer ≡ None)
      → ((t : Text) → read ≡ Some t → ReadsOne G t answer) → FindsNumber id answer rows × IfSome answer (λ n. n ≤ most)
  number_is id rows read answer is number none value =
      let first = sym number.0 ∙ is in
      go read answer first (subst (λ o. IfSome o (λ text. (n : ℕ) × ReadsAs text n × (n ≤ most))) first number.1) none value
    where
      go : (o : Option Text) (answer : Option ℕ) → first_of id rows ≡ o → IfSome o (λ text. (n : ℕ) × ReadsAs text n × (n ≤ most)) → (o ≡ None → answer ≡ None)
          → ((t : Text) → o ≡ Some t → ReadsOne G t answer) → FindsNumber id answer rows × IfSome answer (λ n. n ≤ most)
      go None None first number none value = (first, tt)
      go None (Some n) first number none value = absurd (cc (none refl))
      go (Some t) (Some n) first number none value =
          let p = reads t (Ok n) (value t refl) in
          let same : n ≡ number.0 = p.1 ∙ number.1.1 in
          ((t, first, (number.1.0, sym p.1, rw same number.1.2)), rw same number.2)
      go (Some t) None first number none value =
          let fails = value t refl in
          let below : number.0 < 2 ^ bits = omega arith in
          absurd (reads t (Err fails.0) fails.1 (number.1.0, rw number.1.1 below))

-- what `get_flag` answers
pub flag_is : (id : Text) (rows : List Row) (read : Option Text) (answer : Bool) → one_of id rows ≡ read → IsFlag id rows → (read ≡ None → answer ≡ false) → (read ≡ Some (codes "true") → answer ≡ true)
    → (read ≡ Some (codes "false") → answer ≡ false) → is_on id rows ≡ answer
flag_is id rows read answer is flag none yes_ no_ = go read is (subst (λ o. IfSome o (λ text. (text ≡ codes "true") ⊎ (text ≡ codes "false"))) is flag) none yes_ no_
  where
    on : Option Text → Bool
    on o = option_map_or (λ text. bytes_eq text (codes "true")) o false

    go : (o : Option Text) → one_of id rows ≡ o → IfSome o (λ text. (text ≡ codes "true") ⊎ (text ≡ codes "false")) → (o ≡ None → answer ≡ false) → (o ≡ Some (codes "true") → answer ≡ true)
        → (o ≡ Some (codes "false") → answer ≡ false) → is_on id rows ≡ answer
    go None is flag none yes_ no_ = ap on is ∙ sym (none refl)
    go (Some text) is (inl e) none yes_ no_ = ap on is ∙ ap (λ t. on (Some t)) e ∙ sym (yes_ (ap Some e))
    go (Some text) is (inr e) none yes_ no_ = ap on is ∙ ap (λ t. on (Some t)) e ∙ sym (no_ (ap Some e))
