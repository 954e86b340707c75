-- If a parse has no error, each required argument has a value, and each value is one that its argument accepts.
use Rattle.std.proofs.lemmas.Bool.Decides.{nat_tests}
use Rattle.std.proofs.Common.{◌≡◌, ◌∙◌, ◌<◌, ◌≤◌, leb-true, le_trans, ◌&&◌, ◌||◌, ℕ, Bool, cond, true, false, not, zero, suc, refl, sym, ap, subst, arith, List, [], ◌∷◌, ◌++◌, length, drop, Option, Some, None, is_some, true≢false, nat_lt, codes, ◌⊎◌, inl, inr}
use Rattle.std.specs.Prelude.{IfSome, encode_utf8, find, nat_le, option_and_then, slice_get}
use Rattle.std.specs.List.{AllByRecursion, fold, list_all, list_any}
use Rattle.std.specs.Option.{option_map, option_map_or}
use Rattle.std.specs.Str.{bytes_eq, chars}
use Rattle.std.specs.Str.Parse.{digits_value, without_leading_plus}
use Rattle.std.proofs.lemmas.Slice.Eq.{bytes_eq-Decides}
use Rattle.clap.specs.Lexer.{long_of, short_of}
use Rattle.clap.specs.Facts.{explicit_source, parser_of_value, unwrap_or_range}
use Rattle.clap.proofs.ValueTestLemmas.{accepts-Accepts}
use Rattle.clap.specs.Walk.{Held, Names, Outcome, Row, Rule, Step, Text, Waiting, Walk, action_of, after_flag, after_step, answers_to, arg_by_id, arg_by_index}
use Rattle.clap.specs.Walk.{arg_by_long, arg_by_short, at_row, attached_value, bundle, bundle_met, bundle_step, default_rows, done, finished, first_of, one_of}
use Rattle.clap.specs.Walk.{flag_met, has_row, idle, is_empty, is_pending, long_met, long_or_other, more_values, most_values, next, nothing_held, option}
use Rattle.clap.specs.Walk.{option_met, option_word, plain, plain_word, positional, reacted, reading_by, refused, row_text, rows_after, settled, settled_rows, short_met}
use Rattle.clap.specs.Walk.{short_or_plain, stop_after, subcommand, subcommand_met, subcommand_or_other, takes_several, takes_values, to_positional, trailing, used}
use Rattle.clap.specs.Walk.{used_as, used_by_id, value, values_or_missing, waits, walk, walk_from, walked, walked_from, with_default, with_values, without}
use Rattle.clap.specs.Walk.{word_met}
use Rattle.clap.specs.Simple.{App, Shape, argument_words, built, entered, label_of, names_of, rows_at, subcommand_of}
use Rattle.clap.specs.Takes.{is_given}
use Rattle.clap.specs.Kinds.{Kinds, check_kinds, or_else, range_kinds, request_kinds, value_kinds}
use Rattle.clap.specs.Values.{is_request, read_as}
use Rattle.clap.specs.ValueTests.{accepts}
use Rattle.clap.specs.Faults.{action_fault, bundle_fault, bundle_step_fault, default_fault, defaults_fault, entered_fault, fault_of, flag_word_fault, flags_fault, given_default_fault, level_fault, long_fault, option_fault, other_fault, positional_fault, react_fault, repeat_fault, set_fault, settle_fault, short_fault, step_fault, stray_fault, turn_fault, use_fault, values_fault, walk_fault, word_fault}
use Rattle.clap.specs.declared.error.kind.ErrorKind.{ErrorKind}
use Rattle.clap.specs.declared.error.kind.ErrorKind.TheVariants as kind
use Rattle.clap.specs.declared.builder.value_parser.Reading.{Reading}
use Rattle.clap.specs.declared.builder.value_parser.Reading.TheVariants as reading
use Rattle.clap.specs.declared.builder.value_parser.ValueParser.{ValueParser}
use Rattle.clap.specs.declared.builder.value_parser.ValueParser.TheVariants as parser
use Rattle.clap.specs.declared.builder.action.ArgAction.{ArgAction}
use Rattle.clap.specs.declared.builder.action.ArgAction.TheVariants as action
use Rattle.clap.specs.declared.parser.matches.ValueSource.{ValueSource}
use Rattle.clap.specs.declared.parser.matches.ValueSource.TheVariants as source
use Rattle.z80dev_commands.specs.Commands.{ReadsAs}
use Rattle.z80dev_commands.specs.Private.{IsFlag, IsNumber}

-- whether an argument with this id accepts the value
abbrev pub is_taken : List Rule → Text → Text → Bool
is_taken c id v = list_any (λ a. bytes_eq a.id id && accepts a.ignore_case (parser_of_value a.parser) v) c

abbrev AreTaken : List Rule → Text → List Text → Type 0
AreTaken c id = AllByRecursion (λ v. is_taken c id v ≡ true)

-- a row has values, an argument with its id accepts them, and they are read as they are written
abbrev IsKept : List Rule → Row → Type 0
IsKept c r = (0 < length r.values) × AreTaken c r.id r.values × (r.reading ≡ reading.AsWritten)

abbrev AreKept : List Rule → List Row → Type 0
AreKept c = AllByRecursion (IsKept c)

-- ---- rules whose uses leave a value

-- whether the action keeps the values that are given
abbrev keeps_values : ArgAction → Bool
keeps_values action.Set = true
keeps_values action.Append = true
keeps_values action.SetTrue = true
keeps_values action.SetFalse = true
keeps_values _ = false

-- whether at least one value is needed, or there is one for a use without a value
abbrev some_stand : Rule → Bool
some_stand a = nat_lt 0 (unwrap_or_range a.range).start_inclusive || not (is_empty a.missing)

-- whether each use without an error leaves a value
abbrev pub is_valued : Rule → Bool
is_valued a = is_request (action_of a) || (keeps_values (action_of a) && some_stand a)

abbrev pub is_as_written : Reading → Bool
is_as_written reading.AsWritten = true
is_as_written _ = false

as_written : (how : Reading) → is_as_written how ≡ true → how ≡ reading.AsWritten
as_written reading.AsWritten e = refl
as_written _ e = absurd (true≢false (sym e))

-- whether this is true of all rules, and each value is read as it is written
abbrev pub are_valued : List Rule → Bool
are_valued = list_all (λ a. is_valued a && is_as_written (reading_by a))

-- ---- the first of two that fails

first : (a b : Kinds) → or_else a b ≡ [] → a ≡ []
first [] b e = refl
first (k ∷ ks) b e = e

second : (a b : Kinds) → or_else a b ≡ [] → b ≡ []
second [] b e = e
second (k ∷ ks) b e = absurd (cc e)

both : (a b : Bool) → (a && b) ≡ true → (a ≡ true) × (b ≡ true)
both true b e = (refl, e)
both false b e = absurd (true≢false (sym e))

wanted : (a b : Bool) → (not a || b) ≡ true → a ≡ true → b ≡ true
wanted true b e is = e
wanted false b e is = absurd (true≢false (sym is))

-- ---- lists with an element that has a property

joined : {X : Type 0} (P : X → Type 0) (xs ys : List X) → AllByRecursion P xs → AllByRecursion P ys → AllByRecursion P (xs ++ ys)
joined P [] ys h g = g
joined P (x ∷ xs) ys h g = (h.0, joined P xs ys h.1 g)

-- an element that a search found has the property, and passed the test
found : {X : Type 0} (P : X → Type 0) (p : X → Bool) (xs : List X) → AllByRecursion P xs → IfSome (find p xs) (λ x. P x × (p x ≡ true))
found P p [] h = tt
found P p (x ∷ rest) h = go (p x) refl (found P p rest h.1)
  where
    go : (b : Bool) → p x ≡ b → IfSome (find p rest) (λ x. P x × (p x ≡ true)) → IfSome (cond b (Some x) (find p rest)) (λ x. P x × (p x ≡ true))
    go true is below = (h.0, is)
    go false is below = below

-- ---- what an argument takes

-- the argument accepts all values that its parser accepts
abbrev Suits : List Rule → Rule → Type 0
Suits c a = (v : Text) → accepts a.ignore_case (parser_of_value a.parser) v ≡ true → is_taken c a.id v ≡ true

either_true : (a b : Bool) → (a ≡ true) ⊎ (b ≡ true) → (a || b) ≡ true
either_true true b e = refl
either_true false b (inl e) = absurd (true≢false (sym e))
either_true false b (inr e) = e

and_true : (a b : Bool) → a ≡ true → b ≡ true → (a && b) ≡ true
and_true true b is e = e
and_true false b is e = absurd (true≢false (sym is))

suits_more : (b : Rule) (c xs : List Rule) → AllByRecursion (Suits c) xs → AllByRecursion (Suits (b ∷ c)) xs
suits_more b c [] h = tt
suits_more b c (a ∷ rest) h = ((λ v e. either_true (bytes_eq b.id a.id && accepts b.ignore_case (parser_of_value b.parser) v) (is_taken c a.id v) (inr (h.0 v e))), suits_more b c rest h.1)

suit : (c : List Rule) → AllByRecursion (Suits c) c
suit [] = tt
suit (a ∷ rest) = ((λ v e. either_true (bytes_eq a.id a.id && accepts a.ignore_case (parser_of_value a.parser) v) (is_taken rest a.id v) (inl (and_true (bytes_eq a.id a.id) _ ((bytes_eq-Decides a.id a.id).1 refl) e))), suits_more a rest rest (suit rest))

no_kind : (b : Bool) (k : ErrorKind) → cond b [] (k ∷ []) ≡ [] → b ≡ true
no_kind true k e = refl
no_kind false k e = absurd (cc e)

taken : (c : List Rule) (a : Rule) (values : List Text) → Suits c a → values_fault a values ≡ [] → AreTaken c a.id values
taken c a [] suits e = tt
taken c a (v ∷ vs) suits e = (suits v (no_kind _ _ (first _ _ e)), taken c a vs suits (second (value_kinds a.ignore_case (parser_of_value a.parser) v) _ e))

-- ---- one use

some_left : (xs ys : List Text) → 0 < length xs → 0 < length (xs ++ ys)
some_left [] ys lt = absurd (omega (arith, lt))
some_left (x ∷ xs) ys lt = omega arith

-- no value is an error if at least one is needed
none_wanted : (least most : ℕ) (b : Bool) → nat_lt 0 least ≡ b → range_kinds least most 0 ≡ [] → b ≡ false
none_wanted least most false is e = refl
none_wanted least most true is e = absurd (cc (rw is at e))

one_stands : (values : List Text) (least : Bool) → (least || not (is_empty values)) ≡ true → least ≡ false → 0 < length values
one_stands (v ∷ vs) least e none = omega arith
one_stands [] true e none = absurd (true≢false none)
one_stands [] false e none = absurd (true≢false (sym e))

some_values : (a : Rule) (values : List Text) → some_stand a ≡ true
    → range_kinds (unwrap_or_range a.range).start_inclusive (most_values a) (length values) ≡ [] → 0 < length (values_or_missing a values)
some_values a (v ∷ vs) valued e = omega arith
some_values a [] valued e = one_stands a.missing _ valued (none_wanted (unwrap_or_range a.range).start_inclusive (most_values a) _ refl e)

module _ (c : List Rule) where
  change_keeps : (id : Text) (change : Row → List Row) (missing rows : List Row) → ((r : Row) → r.id ≡ id → IsKept c r → AreKept c (change r)) → AreKept c missing
      → AreKept c rows → AreKept c (at_row id change missing rows)
  change_keeps id change missing [] each new h = new
  change_keeps id change missing (r ∷ rs) each new h = go (bytes_eq r.id id) refl (change_keeps id change missing rs each new h.1)
    where
      go : (b : Bool) → bytes_eq r.id id ≡ b → AreKept c (at_row id change missing rs) → AreKept c (cond b (change r ++ rs) (r ∷ at_row id change missing rs))
      go true is rest = joined (IsKept c) (change r) rs (each r ((bytes_eq-Decides r.id id).0 is) h.0) h.1
      go false is rest = (h.0, rest)

  without_keeps : (id : Text) (rows : List Row) → AreKept c rows → AreKept c (without id rows)
  without_keeps id rows h = change_keeps id (λ _. []) [] rows (λ r same had. tt) tt h

  values_keep : (id : Text) (how : Reading) (from : ValueSource) (values : List Text) (rows : List Row) → how ≡ reading.AsWritten → 0 < length values → AreTaken c id values
      → AreKept c rows → AreKept c (with_values id how from values rows)
  values_keep id how from values rows as_is some are h =
      change_keeps id (more_values from values) (record { id = id; values = values; count = None; source = Some from; reading = how } ∷ []) rows
      (λ r same had. ((some_left r.values values had.0, joined (λ v. is_taken c r.id v ≡ true) r.values values had.1 (subst (λ i. AreTaken c i values) (sym same) are), had.2), tt)) ((some, are, as_is), tt) h

  set_keeps : (again : Bool) (a : Rule) (values : List Text) (rows : List Row) → Suits c a → reading_by a ≡ reading.AsWritten → 0 < length values → set_fault again a values rows ≡ []
      → AreKept c rows → AreKept c (with_values a.id (reading_by a) source.CommandLine values (without a.id rows))
  set_keeps again a values rows suits as_is some e h =
      values_keep a.id (reading_by a) source.CommandLine values (without a.id rows) as_is some (taken c a values suits (second (repeat_fault again a.id rows) _ e)) (without_keeps a.id rows h)

  action_keeps : (x : ArgAction) (stand again : Bool) (a : Rule) (values : List Text) (rows : List Row) → Suits c a → reading_by a ≡ reading.AsWritten → (is_request x || (keeps_values x && stand)) ≡ true
      → (stand ≡ true → 0 < length values) → action_fault x again a values rows ≡ [] → AreKept c rows → AreKept c (used_as x a.id (reading_by a) values rows)
  action_keeps action.Set stand again a values rows suits as_is valued some e h = set_keeps again a values rows suits as_is (some valued) e h
  action_keeps action.SetTrue stand again a values rows suits as_is valued some e h = set_keeps again a values rows suits as_is (some valued) e h
  action_keeps action.SetFalse stand again a values rows suits as_is valued some e h = set_keeps again a values rows suits as_is (some valued) e h
  action_keeps action.Append stand again a values rows suits as_is valued some e h = values_keep a.id (reading_by a) source.CommandLine values rows as_is (some valued) (taken c a values suits e) h
  action_keeps action.Count stand again a values rows suits as_is valued some e h = absurd (true≢false (sym valued))
  action_keeps action.Help stand again a values rows suits as_is valued some e h = h
  action_keeps action.HelpShort stand again a values rows suits as_is valued some e h = h
  action_keeps action.HelpLong stand again a values rows suits as_is valued some e h = h
  action_keeps action.Version stand again a values rows suits as_is valued some e h = h

-- a rule whose uses leave values, which it accepts and reads as they are written
abbrev IsGood : List Rule → Rule → Type 0
IsGood c a = (is_valued a ≡ true) × Suits c a × (reading_by a ≡ reading.AsWritten)

abbrev AreGood : List Rule → Type 0
AreGood c = AllByRecursion (IsGood c) c

good_of : (c : List Rule) → are_valued c ≡ true → AreGood c
good_of c valued = zipped c valued (suit c)
  where
    zipped : (xs : List Rule) → are_valued xs ≡ true → AllByRecursion (Suits c) xs → AllByRecursion (IsGood c) xs
    zipped [] v s = tt
    zipped (a ∷ rest) v s =
        let two = both (is_valued a && is_as_written (reading_by a)) _ v in
        let here = both (is_valued a) _ two.0 in
        ((here.0, s.0, as_written (reading_by a) here.1), zipped rest two.1 s.1)

use_keeps : (c : List Rule) (again : Bool) (a : Rule) (values : List Text) (rows : List Row) → IsGood c a → use_fault again a values rows ≡ [] → AreKept c rows → AreKept c (used a values rows)
use_keeps c again a values rows good e h =
    action_keeps c (action_of a) (some_stand a) again a (values_or_missing a values) rows good.1 good.2 good.0 (λ stand. some_values a values stand (first _ _ e))
    (second (range_kinds (unwrap_or_range a.range).start_inclusive (most_values a) (length values)) _ e) h

-- ---- the rules that a walk finds

good : (c : List Rule) (p : Rule → Bool) → AreGood c → IfSome (find p c) (IsGood c)
good c p all = go (find p c) (found (IsGood c) p c all)
  where
    go : (o : Option Rule) → IfSome o (λ a. IsGood c a × (p a ≡ true)) → IfSome o (IsGood c)
    go None h = tt
    go (Some a) h = h.0

id_keeps : (c : List Rule) (again : Bool) (o : Option Rule) (values : List Text) (rows : List Row) → IfSome o (IsGood c) → option_map_or (λ a. use_fault again a values rows) o [] ≡ []
    → AreKept c rows → AreKept c (used_by_id o values rows)
id_keeps c again None values rows is e h = h
id_keeps c again (Some a) values rows is e h = use_keeps c again a values rows is e h

-- ---- the walk

module _ (c : List Rule) (all : AreGood c) (again : Bool) where
  settle_keeps : (h : Held) → settle_fault c again h ≡ [] → AreKept c h.rows → AreKept c (settled c h).rows
  settle_keeps h e had = go h.pending e
    where
      go : (p : Option (Text × List Text)) → option_map_or (λ p. option_map_or (λ a. use_fault again a p.1 h.rows) (arg_by_id c p.0) []) p [] ≡ []
          → AreKept c (settled_rows c p h.rows)
      go None e = had
      go (Some p) e = id_keeps c again (arg_by_id c p.0) p.1 h.rows (good c (λ a. bytes_eq a.id p.0) all) e had

  react_keeps : (a : Rule) (values : List Text) (h : Held) → IsGood c a → react_fault c again a values h ≡ [] → AreKept c h.rows → AreKept c (reacted c a values h).rows
  react_keeps a values h one e had = use_keeps c again a values (settled c h).rows one (second (settle_fault c again h) _ e) (settle_keeps h (first _ _ e) had)

  option_keeps : (a : Rule) (v : Option Text) (h : Held) → IsGood c a → option_fault c again a v h ≡ [] → AreKept c h.rows → AreKept c (option_met c a v h).0.rows
  option_keeps a (Some v) h one e had = react_keeps a (v ∷ []) h one e had
  option_keeps a None h one e had = settle_keeps h e had

  long_keeps : (o : Option Rule) (v : Option Text) (h : Held) → IfSome o (IsGood c) → long_fault c again o v h ≡ [] → AreKept c h.rows → AreKept c (long_met c o v h).0.rows
  long_keeps None v h one e had = had
  long_keeps (Some a) v h one e had = go (takes_values a) v e
    where
      go : (takes : Bool) (v : Option Text) → cond takes (option_fault c again a v h) (cond (is_some v) (kind.TooManyValues ∷ []) (react_fault c again a [] h)) ≡ []
          → AreKept c (cond takes (option_met c a v h) (flag_met c a v h)).0.rows
      go true v e = option_keeps a v h one e had
      go false (Some v) e = had
      go false None e = react_keeps a [] h one e had

  -- one letter of a group of short flags, if what follows keeps the values
  short_keeps : (o : Option Rule) (rest : Text) (h : Held) (f : Held → Kinds) (g : Held → Held × Outcome) → ((h : Held) → f h ≡ [] → AreKept c h.rows → AreKept c (g h).0.rows)
      → IfSome o (IsGood c) → short_fault c again o rest h f ≡ [] → AreKept c h.rows → AreKept c (short_met c o rest h g).0.rows
  short_keeps None rest h f g each one e had = had
  short_keeps (Some a) rest h f g each one e had = go (takes_values a) e
    where
      go : (takes : Bool) → cond takes (option_fault c again a (attached_value rest) h) (or_else (react_fault c again a [] h) (f (reacted c a [] h))) ≡ []
          → AreKept c (cond takes (option_met c a (attached_value rest) h) (g (reacted c a [] h))).0.rows
      go true e = option_keeps a (attached_value rest) h one e had
      go false e = each (reacted c a [] h) (second (react_fault c again a [] h) _ e) (react_keeps a [] h one (first _ _ e) had)

  step_keeps : (o : Option ℕ) (flags : Text) (skip : ℕ) (so_far : Outcome) (h : Held) (f : Text → ℕ → Held → Kinds) (g : Text → ℕ → Outcome → Held → Held × Outcome)
      → ((t : Text) (n : ℕ) (s : Outcome) (h : Held) → f t n h ≡ [] → AreKept c h.rows → AreKept c (g t n s h).0.rows)
      → bundle_step_fault c again o flags skip h f ≡ [] → AreKept c h.rows → AreKept c (bundle_step c o flags skip so_far h g).0.rows
  step_keeps None flags skip so_far h f g each e had = had
  step_keeps (Some x) flags zero so_far h f g each e had =
      let rest = drop (length (encode_utf8 x)) flags in
      short_keeps (arg_by_short c x) rest h (f rest 0) (g rest 0 done) (each rest 0 done) (good c _ all) e had
  step_keeps (Some x) flags (suc skip) so_far h f g each e had = each (drop (length (encode_utf8 x)) flags) skip so_far h e had

  bundle_keeps : (k : ℕ) (flags : Text) (skip : ℕ) (so_far : Outcome) (h : Held) → flags_fault c again k flags skip h ≡ [] → AreKept c h.rows
      → AreKept c (bundle_met c k flags skip so_far h).0.rows
  unfolding flags_fault bundle_met
  bundle_keeps zero flags skip so_far h e had = had
  bundle_keeps (suc k) flags skip so_far h e had =
      step_keeps (slice_get (chars flags) 0) flags skip so_far h (flags_fault c again k) (bundle_met c k) (λ t n s h e had. bundle_keeps k t n s h e had) e had

  plain_keeps : (waiting : Waiting) (word : Text) (h : Held) → AreKept c h.rows → AreKept c (plain_word c waiting word h).0.rows
  plain_keeps idle word h had = had
  plain_keeps positional word h had = had
  plain_keeps (option id) word h had = go (arg_by_id c id)
    where
      go : (o : Option Rule) → AreKept c (option_word o id word h).0.rows
      go None = had
      go (Some a) = had

  flag_keeps : (waiting : Waiting) (word : Text) (h : Held) (outcome : Outcome) → AreKept c h.rows → AreKept c (after_flag c waiting word h outcome).0.rows
  flag_keeps waiting word h done had = had
  flag_keeps waiting word h (waits id) had = had
  flag_keeps waiting word h plain had = plain_keeps waiting word h had
  flag_keeps waiting word h refused had = plain_keeps waiting word h had

module _ (s : Shape) (all : AreGood s.rules) where
  short_word_keeps : (o : Option Text) (waiting : Waiting) (word : Text) (h : Held) → option_map_or (λ flags. bundle_fault s.rules s.args_override_self flags h) o [] ≡ []
      → AreKept s.rules h.rows → AreKept s.rules (short_or_plain s.rules waiting word o h).0.rows
  short_word_keeps None waiting word h e had = plain_keeps s.rules all s.args_override_self waiting word h had
  short_word_keeps (Some flags) waiting word h e had =
      flag_keeps s.rules all s.args_override_self waiting word (bundle s.rules flags h).0 (bundle s.rules flags h).1
      (bundle_keeps s.rules all s.args_override_self (length flags) flags h.skip plain (record h { skip = 0 }) e had)

  long_word_keeps : (o : Option (Text × Option Text)) (waiting : Waiting) (word : Text) (h : Held) → flag_word_fault s.rules s.args_override_self o word h ≡ []
      → AreKept s.rules h.rows → AreKept s.rules (long_or_other s.rules waiting word o h).0.rows
  long_word_keeps None waiting word h e had = short_word_keeps (short_of word) waiting word h e had
  long_word_keeps (Some p) waiting word h e had =
      let met = long_met s.rules (arg_by_long s.rules p.0) p.1 h in
      flag_keeps s.rules all s.args_override_self waiting word met.0 met.1
      (long_keeps s.rules all s.args_override_self (arg_by_long s.rules p.0) p.1 h (good s.rules _ all) e had)

  other_keeps : (o : Option Text) (waiting : Waiting) (position : ℕ) (word : Text) (h : Held) → other_fault s o word h ≡ []
      → AreKept s.rules h.rows → AreKept s.rules (subcommand_or_other s.rules o waiting position word h).0.rows
  other_keeps (Some name) waiting position word h e had = had
  other_keeps None waiting position word h e had = go (bytes_eq word (45 ∷ 45 ∷ [])) e
    where
      go : (b : Bool) → cond b [] (flag_word_fault s.rules s.args_override_self (long_of word) word h) ≡ []
          → AreKept s.rules (cond b (h, trailing position) (long_or_other s.rules waiting word (long_of word) h)).0.rows
      go true e = had
      go false e = long_word_keeps (long_of word) waiting word h e had

  word_keeps : (names : Names) (is_trailing : Bool) (waiting : Waiting) (position : ℕ) (word : Text) (h : Held) → word_fault s names is_trailing waiting word h ≡ []
      → AreKept s.rules h.rows → AreKept s.rules (word_met s.rules names is_trailing waiting position word h).0.rows
  word_keeps names true waiting position word h e had = had
  word_keeps names false waiting position word h e had = other_keeps (subcommand_met names waiting word) waiting position word h e had

  after_keeps : (word : Text) (w : Walk) (h : Held) (step : Step) → step_fault s w.position h step ≡ [] → AreKept s.rules h.rows → AreKept s.rules (after_step s.rules word w h step).held.rows
  after_keeps word w h (next waiting) e had = had
  after_keeps word w h (trailing position) e had = had
  after_keeps word w h (subcommand name) e had = had
  after_keeps word w h value e had = go (arg_by_index s.rules w.position) e
    where
      settles : (b : Bool) → cond b [] (settle_fault s.rules s.args_override_self h) ≡ [] → AreKept s.rules (cond b h (settled s.rules h)).rows
      settles true e = had
      settles false e = settle_keeps s.rules all s.args_override_self h e had

      go : (o : Option Rule) → option_map_or (λ a. positional_fault s.rules s.args_override_self a h) o (stray_fault s) ≡ [] → AreKept s.rules (to_positional s.rules o word w h).held.rows
      go None e = had
      go (Some a) e = settles (is_pending a h.pending && takes_several a) e

  turn_keeps : (names : Names) (w : Walk) (word : Text) → turn_fault s names w word ≡ [] → AreKept s.rules w.held.rows → AreKept s.rules (walked s.rules names w word).held.rows
  unfolding walked
  turn_keeps names w word e had = go w.stopped e
    where
      go : (o : Option (Text × List Text)) → turn_fault s names (record w { stopped = o }) word ≡ [] → AreKept s.rules (walked_from s.rules names o w word).held.rows
      go None e =
          let met = word_met s.rules names w.is_trailing w.waiting w.position word w.held in
          after_keeps word w met.0 met.1 (second (word_fault s names w.is_trailing w.waiting word w.held) _ e)
          (word_keeps names w.is_trailing w.waiting w.position word w.held (first _ _ e) had)
      go (Some p) e = had

  walk_keeps : (names : Names) (w : Walk) (words : List Text) → walk_fault s names w words ≡ [] → AreKept s.rules w.held.rows → AreKept s.rules (fold (walked s.rules names) w words).held.rows
  unfolding walk_fault
  walk_keeps names w [] e had = had
  walk_keeps names w (word ∷ rest) e had =
      walk_keeps names (walked s.rules names w word) rest (second (turn_fault s names w word) _ e) (turn_keeps names w word (first _ _ e) had)

-- ---- defaults

module _ (c : List Rule) where
  default_keeps : (rows : List Row) (a : Rule) → IsGood c a → default_fault rows a ≡ [] → AreKept c rows → AreKept c (with_default rows a)
  default_keeps rows a good e had = go (has_row a.id rows) a.defaults e
    where
      fault : (b : Bool) (kinds : Kinds) → cond b [] kinds ≡ [] → b ≡ false → kinds ≡ []
      fault true kinds e is = absurd (true≢false is)
      fault false kinds e is = e

      not_empty : (v : Text) (vs : List Text) → is_empty (v ∷ vs) ≡ false
      not_empty v vs = grind (arith, nat_tests)

      go : (b : Bool) (values : List Text) → cond (b || is_empty values) [] (given_default_fault a values) ≡ [] → AreKept c (cond b rows (default_rows a.id (reading_by a) values rows))
      go true values e = had
      go false [] e = had
      go false (v ∷ vs) e = values_keep c a.id (reading_by a) source.DefaultValue (v ∷ vs) rows good.2 (omega arith) (taken c a (v ∷ vs) good.1 (second (request_kinds (action_of a)) _ (fault _ _ e (not_empty v vs)))) had

  defaults_keep : (rows : List Row) (rest : List Rule) → AllByRecursion (IsGood c) rest → defaults_fault rows rest ≡ [] → AreKept c rows → AreKept c (fold with_default rows rest)
  unfolding defaults_fault
  defaults_keep rows [] good e had = had
  defaults_keep rows (a ∷ rest) good e had =
      defaults_keep (with_default rows a) rest good.1 (second (default_fault rows a) _ e) (default_keeps rows a good.0 (first _ _ e) had)

-- ---- a level

-- at the end of a level without an error, each row has values that its argument accepts
level_keeps : (s : Shape) (words : List Text) → are_valued s.rules ≡ true → level_fault s [] nothing_held words false [] ≡ [] → AreKept s.rules (rows_after s.rules [] words)
level_keeps s words valued e =
    let all = good_of s.rules valued in
    let end = (walk s.rules [] nothing_held words).held in
    let walked_fault = walk_fault s [] (walk_from nothing_held) words in
    let after = second walked_fault _ e in
    let last = second (settle_fault s.rules s.args_override_self end) _ after in
    let had : AreKept s.rules end.rows = walk_keeps s all [] (walk_from nothing_held) words (first walked_fault _ e) tt in
    let settles = settle_keeps s.rules all s.args_override_self end (first _ _ after) had in
    defaults_keep s.rules (settled s.rules end).rows s.rules all (first _ _ last) settles

-- ---- what has to be given

-- whether an argument with this id is required
abbrev pub is_required : List Rule → Text → Bool
is_required rules id = list_any (λ a. a.required && bytes_eq a.id id) rules

nothing_missing : (wants_help wants_subcommand wants_argument : Bool) → check_kinds wants_help wants_subcommand wants_argument ≡ [] → wants_argument ≡ false
nothing_missing true b c e = absurd (cc e)
nothing_missing false true c e = absurd (cc e)
nothing_missing false false true e = absurd (cc e)
nothing_missing false false false e = refl

neither : (a b : Bool) → (a || b) ≡ false → (a ≡ false) × (b ≡ false)
neither true b e = absurd (true≢false e)
neither false b e = (refl, e)

given : (rules : List Rule) (id : Text) (rows : List Row) → is_required rules id ≡ true → list_any (λ a. a.required && not (is_given a.id rows)) rules ≡ false → is_given id rows ≡ true
given [] id rows is e = absurd (true≢false (sym is))
given (a ∷ rest) id rows is e =
    go (a.required && bytes_eq a.id id) refl is (λ is. given rest id rows is (neither (a.required && not (is_given a.id rows)) _ e).1)
  where
    not_not : (b : Bool) → not b ≡ false → b ≡ true
    not_not true e = refl
    not_not false e = absurd (true≢false e)

    go : (b : Bool) → (a.required && bytes_eq a.id id) ≡ b → (b || is_required rest id) ≡ true → (is_required rest id ≡ true → is_given id rows ≡ true) → is_given id rows ≡ true
    go true here is below =
        let two = both a.required _ here in
        let same : a.id ≡ id = (bytes_eq-Decides a.id id).0 two.1 in
        let no : (a.required && not (is_given a.id rows)) ≡ false = (neither (a.required && not (is_given a.id rows)) _ e).0 in
        ap (λ i. is_given i rows) (sym same) ∙ not_not (is_given a.id rows) (rw two.0 at no)
    go false here is below = below is

front : (values : List Text) → 0 < length values → is_some (slice_get values 0) ≡ true
front [] some = absurd (omega (arith, some))
front (v ∷ vs) some = refl

value_there : (c : List Rule) (id : Text) (rows : List Row) → is_given id rows ≡ true → AreKept c rows → is_some (first_of id rows) ≡ true
value_there c id rows e had = go (find (λ r. bytes_eq r.id id) rows) (found (IsKept c) (λ r. bytes_eq r.id id) rows had) e
  where
    go : (o : Option Row) → IfSome o (λ r. IsKept c r × (bytes_eq r.id id ≡ true)) → option_map_or (λ r. explicit_source r.source) o false ≡ true
        → is_some (option_and_then (λ r. slice_get r.values 0) o) ≡ true
    go None is e = absurd (true≢false (sym e))
    go (Some r) is e = front r.values is.0.0

level_value : (s : Shape) (words : List Text) (id : Text) → are_valued s.rules ≡ true → is_required s.rules id ≡ true → level_fault s [] nothing_held words false [] ≡ []
    → is_some (first_of id (rows_after s.rules [] words)) ≡ true
level_value s words id valued is e =
    let end = (walk s.rules [] nothing_held words).held in
    let last = second _ _ (second (settle_fault s.rules s.args_override_self end) _ (second (walk_fault s [] (walk_from nothing_held) words) _ e)) in
    value_there s.rules id (finished s.rules end) (given s.rules id (finished s.rules end) is (asks s.subcommand_negates_reqs (nothing_missing _ _ _ last))) (level_keeps s words valued e)
  where
    asks : (negates : Bool) → {b : Bool} → (not (negates && false) && b) ≡ false → b ≡ false
    asks true e = e
    asks false e = e

-- ---- what a flag and a number read as

abbrev pub is_bool : ValueParser → Bool
is_bool parser.Bool = true
is_bool _ = false

-- whether the parser accepts only numbers, of at most `most`
abbrev pub is_up_to : ℕ → ValueParser → Bool
is_up_to most (parser.Unsigned low high) = nat_le high most
is_up_to most _ = false

-- whether each argument with this id has such a parser
abbrev pub have_parser : (ValueParser → Bool) → List Rule → Text → Bool
have_parser p rules id = list_all (λ a. not (bytes_eq a.id id) || p (parser_of_value a.parser)) rules

bool_text_of : (p : ValueParser) (ignore_case : Bool) (v : Text) → is_bool p ≡ true → accepts ignore_case p v ≡ true → (v ≡ codes "true") ⊎ (v ≡ codes "false")
bool_text_of parser.Bool ignore_case v is e = go (bytes_eq v (codes "true")) refl e
  where
    go : (b : Bool) → bytes_eq v (codes "true") ≡ b → (b || bytes_eq v (codes "false")) ≡ true → (v ≡ codes "true") ⊎ (v ≡ codes "false")
    go true is e = inl ((bytes_eq-Decides v (codes "true")).0 is)
    go false is e = inr ((bytes_eq-Decides v (codes "false")).0 e)
bool_text_of _ ignore_case v is e = absurd (true≢false (sym is))

number_of : (most : ℕ) (p : ValueParser) (ignore_case : Bool) (v : Text) → is_up_to most p ≡ true → accepts ignore_case p v ≡ true → (n : ℕ) × ReadsAs v n × (n ≤ most)
number_of most (parser.Unsigned low high) ignore_case v is e =
    let in_bounds = accepts-Accepts ignore_case (parser.Unsigned low high) v e in
    let below : high ≤ most = leb-true high most is in
    (digits_value 10 (without_leading_plus v), (in_bounds.0, refl, in_bounds.1), le_trans in_bounds.3 below)
number_of most _ ignore_case v is e = absurd (true≢false (sym is))

-- what holds of the texts that such a parser accepts holds of each value that is accepted
module _ (p : ValueParser → Bool) (Q : Text → Type 0) (each : (q : ValueParser) (ignore_case : Bool) (v : Text) → p q ≡ true → accepts ignore_case q v ≡ true → Q v) where
  taken_by : (c : List Rule) (id v : Text) → have_parser p c id ≡ true → is_taken c id v ≡ true → Q v
  taken_by [] id v is e = absurd (true≢false (sym e))
  taken_by (a ∷ rest) id v is e = go (bytes_eq a.id id) (accepts a.ignore_case (parser_of_value a.parser) v) refl (both _ _ is).0 e (taken_by rest id v (both _ _ is).1)
    where
      go : (same takes : Bool) → accepts a.ignore_case (parser_of_value a.parser) v ≡ takes → (not same || p (parser_of_value a.parser)) ≡ true → ((same && takes) || is_taken rest id v) ≡ true
          → (is_taken rest id v ≡ true → Q v) → Q v
      go true true takes is e below = each (parser_of_value a.parser) a.ignore_case v is takes
      go true false takes is e below = below e
      go false true takes is e below = below e
      go false false takes is e below = below e

  -- the value of an argument is read as it is written, and is a text that its parser accepts
  read_there : (c : List Rule) (id : Text) (rows : List Row) → have_parser p c id ≡ true → AreKept c rows → (one_of id rows ≡ first_of id rows) × IfSome (first_of id rows) Q
  read_there c id rows is had = go (find (λ r. bytes_eq r.id id) rows) (found (IsKept c) (λ r. bytes_eq r.id id) rows had)
    where
      at : (how : Reading) (values : List Text) → how ≡ reading.AsWritten → AreTaken c id values
          → (option_map (read_as how) (slice_get values 0) ≡ slice_get values 0) × IfSome (slice_get values 0) Q
      at how [] as_is h = (refl, tt)
      at how (v ∷ vs) as_is h = (ap (λ r. Some (read_as r v)) as_is, taken_by c id v is h.0)

      go : (o : Option Row) → IfSome o (λ r. IsKept c r × (bytes_eq r.id id ≡ true))
          → (option_and_then row_text o ≡ option_and_then (λ r. slice_get r.values 0) o) × IfSome (option_and_then (λ r. slice_get r.values 0) o) Q
      go None h = (refl, tt)
      go (Some r) h = at r.reading r.values h.0.2 (subst (λ i. AreTaken c i r.values) ((bytes_eq-Decides r.id id).0 h.1) h.0.1)

-- ---- a subcommand

-- The level of the parse at which the rows of a subcommand were found.
record IsLevel (subs : List Shape) (name : Text) (rows : List Row) : Type 0 where
  shape : Shape
  words : List Text
  tests : (q : Shape → Bool) → list_all q subs ≡ true → q shape ≡ true
  named : shape.name ≡ name
  ends : rows_after shape.rules [] words ≡ rows
  parsed : level_fault shape [] nothing_held words false [] ≡ []

entered_level : (a : App) (stop : Option (Text × List Text)) (p : Text × List Row) → entered a stop ≡ Some p → entered_fault a stop ≡ [] → IsLevel a.subs p.0 p.1
entered_level a None p met e = absurd (cc met)
entered_level a (Some q) p met e = go (find (λ s. answers_to q.0 (label_of s)) a.subs) (tested (λ s. answers_to q.0 (label_of s)) a.subs) met e
  where
    Tests : List Shape → Shape → Type 0
    Tests subs s = (q : Shape → Bool) → list_all q subs ≡ true → q s ≡ true

    tested : (p : Shape → Bool) (subs : List Shape) → IfSome (find p subs) (Tests subs)
    tested p [] = tt
    tested p (s ∷ rest) = pick (p s) (find p rest) (tested p rest)
      where
        pick : (b : Bool) (o : Option Shape) → IfSome o (Tests rest) → IfSome (cond b (Some s) o) (Tests (s ∷ rest))
        pick true o below = λ q all. (both (q s) _ all).0
        pick false None below = tt
        pick false (Some t) below = λ q all. below q (both (q s) _ all).1

    go : (o : Option Shape) → IfSome o (Tests a.subs) → option_map (λ s. rows_at s q.1) o ≡ Some p
        → option_map_or (λ s. level_fault s [] nothing_held q.1 false []) o [] ≡ [] → IsLevel a.subs p.0 p.1
    go None is met e = absurd (cc met)
    go (Some s) is met e =
        let pair : rows_at s q.1 ≡ p = cc met in
        record {
          shape = s;
          words = q.1;
          tests = is;
          named = ap (λ (x : Text × List Row). x.0) pair;
          ends = ap (λ (x : Text × List Row). x.1) pair;
          parsed = e;
        }

level_of : (a : App) (words : List Text) (name : Text) (rows : List Row) → subcommand_of a words ≡ Some (name, rows) → fault_of a words ≡ [] → IsLevel (built a).subs name rows
level_of a words name rows met e =
    let top = (built a).top in
    let own = walk_fault top (names_of (built a)) (walk_from nothing_held) (argument_words a words) in
    entered_level (built a) (stop_after top.rules (names_of (built a)) (argument_words a words)) (name, rows) met (first _ _ (second own _ e))

-- whether each subcommand with this name passes a test
abbrev pub each_named : Text → (Shape → Bool) → List Shape → Bool
each_named name test = list_all (λ s. not (bytes_eq s.name name) || test s)

test_at : (name : Text) (test : Shape → Bool) (subs : List Shape) (rows : List Row) → each_named name test subs ≡ true → (l : IsLevel subs name rows) → test l.shape ≡ true
test_at name test subs rows is l = wanted (bytes_eq l.shape.name name) _ (l.tests (λ s. not (bytes_eq s.name name) || test s) is) ((bytes_eq-Decides l.shape.name name).1 l.named)

-- whether uses leave values, and an argument with this id is required
abbrev pub requires : Text → Shape → Bool
requires id s = are_valued s.rules && is_required s.rules id

-- whether uses leave values, and the arguments with this id have such a parser
abbrev pub has_parser : (ValueParser → Bool) → Text → Shape → Bool
has_parser p id s = are_valued s.rules && have_parser p s.rules id

-- a parse without an error that names a subcommand has a value for each required argument of it
pub required_value : (a : App) (words : List Text) (name id : Text) (rows : List Row) → each_named name (requires id) (built a).subs ≡ true
    → subcommand_of a words ≡ Some (name, rows) → fault_of a words ≡ [] → is_some (first_of id rows) ≡ true
required_value a words name id rows is met e =
    let l = level_of a words name rows met e in
    let two = both (are_valued l.shape.rules) _ (test_at name (requires id) (built a).subs rows is l) in
    subst (λ r. is_some (first_of id r) ≡ true) l.ends (level_value l.shape l.words id two.0 two.1 l.parsed)

-- and the value of an argument, if it has one, is a text that its parser accepts, read as it is written
read_value : (p : ValueParser → Bool) (Q : Text → Type 0) → ((q : ValueParser) (ignore_case : Bool) (v : Text) → p q ≡ true → accepts ignore_case q v ≡ true → Q v)
    → (a : App) (words : List Text) (name id : Text) (rows : List Row) → each_named name (has_parser p id) (built a).subs ≡ true
    → subcommand_of a words ≡ Some (name, rows) → fault_of a words ≡ [] → (one_of id rows ≡ first_of id rows) × IfSome (first_of id rows) Q
read_value p Q each a words name id rows is met e =
    let l = level_of a words name rows met e in
    let two = both (are_valued l.shape.rules) _ (test_at name (has_parser p id) (built a).subs rows is l) in
    subst (λ r. (one_of id r ≡ first_of id r) × IfSome (first_of id r) Q) l.ends (read_there p Q each l.shape.rules id (rows_after l.shape.rules [] l.words) two.1 (level_keeps l.shape l.words two.0 l.parsed))

-- so the value of a flag is `true` or `false`
pub flag_value : (a : App) (words : List Text) (name id : Text) (rows : List Row) → each_named name (has_parser is_bool id) (built a).subs ≡ true
    → subcommand_of a words ≡ Some (name, rows) → fault_of a words ≡ [] → IsFlag id rows
flag_value a words name id rows is met e =
    let read = read_value is_bool (λ v. (v ≡ codes "true") ⊎ (v ≡ codes "false")) bool_text_of a words name id rows is met e in
    subst (λ o. IfSome o (λ v. (v ≡ codes "true") ⊎ (v ≡ codes "false"))) (sym read.0) read.1

-- and the value of a number is a number
pub number_value : (most : ℕ) (a : App) (words : List Text) (name id : Text) (rows : List Row) → each_named name (has_parser (is_up_to most) id) (built a).subs ≡ true
    → subcommand_of a words ≡ Some (name, rows) → fault_of a words ≡ [] → IsNumber id most rows
number_value most = read_value (is_up_to most) (λ v. (n : ℕ) × ReadsAs v n × (n ≤ most)) (number_of most)
