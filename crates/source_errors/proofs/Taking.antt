-- Taking lines, one after the other.
use Rattle.std.proofs.Common.{◌≡◌, ◌∙◌, ◌+◌, ap, sym, refl, arith, Bool, true, false, cond, List, [], ◌∷◌, ◌++◌, Option, Some, None, Ok, Err, append-nil, append_assoc, length, map}
use Rattle.std.specs.Prelude.{is_ok}
use Rattle.std.specs.Option.{option_map, option_to_list}
use Rattle.std.proofs.lemmas.List.{length-map, length_push, map-append}
use Rattle.asm_spell.specs.Line.{Line}
use Rattle.asm_text.specs.Lines.{Numbered}
use Rattle.asm_names.specs.declared.kind.SourceLine.{SourceLine}
use Rattle.asm_names.specs.Faults.{first}
use Rattle.asm_names.specs.Lines.{Taken, lines_of, taken_of}
use Rattle.asm_names.specs.Names.{defines, has_clash, names, with_names}
use Rattle.asm_module.specs.Reads.Read.{read_line}
use Rattle.asm_module.specs.Whys.{line_why}
use Rattle.asm_module.specs.declared.fault.Why.{Why}
use Rattle.asm_module.specs.declared.line_fault.LineFault.{LineFault}
use Rattle.source_errors.specs.Counted.{after_colon, lines_counted, counted_after, counts, counts_as, counts_by, early, early_after, early_by, meant_as, takens}
use Rattle.source_errors.specs.Findings.{finding_of, name_told}
use Rattle.source_errors.specs.declared.counting.Counting.{Counting}
use Rattle.source_errors.specs.declared.counting.Origin.{Origin}
use Rattle.source_errors.specs.Private.State.{Appends, IsCounting, Refuses, Takes, counted_in, counted_of}

-- the lines so far, as those that count
pub takens_of : (os : List Origin) (ls : List SourceLine) → length os ≡ length ls → takens (counted_of os ls) ≡ lines_of ls
takens_of [] [] same = refl
takens_of [] (l ∷ ls) same = absurd (omega (arith, same))
takens_of (o ∷ os) [] same = absurd (omega (arith, same))
takens_of (o ∷ os) (l ∷ ls) same = ap (λ rest. taken_of l ∷ rest) (takens_of os ls (omega (arith, same)))

counted_more : (os : List Origin) (ls : List SourceLine) (o : Origin) (l : SourceLine) → length os ≡ length ls → counted_of (os ++ o ∷ []) (ls ++ l ∷ []) ≡ counted_of os ls ++ counted_of (o ∷ []) (l ∷ [])
counted_more [] [] o l same = refl
counted_more [] (m ∷ ls) o l same = absurd (omega (arith, same))
counted_more (p ∷ os) [] o l same = absurd (omega (arith, same))
counted_more (p ∷ os) (m ∷ ls) o l same =
    ap (λ rest. record { from = record { number = m.number; text = p.text.items }; is_read = p.is_read; taken = taken_of m } ∷ rest) (counted_more os ls o l (omega (arith, same)))

-- A line that counts was appended, and its names were added.
pub appended : (old new : Counting) (line : SourceLine) (o : Origin) → IsCounting old
    → ((before : List Taken) (l : Taken) → names (before ++ l ∷ []) ≡ with_names (names before) (defines (length before) l.line))
    → new.table ≡ with_names old.table (defines (length old.lines.items) (taken_of line).line) → new.lines.items ≡ old.lines.items ++ line ∷ [] → new.origins.items ≡ old.origins.items ++ o ∷ []
    → new.findings ≡ old.findings → Appends (record { number = line.number; text = o.text.items }) o.is_read (Some (taken_of line)) old new
appended old new line o was one_more table lines origins findings = record {
  sound = record {
    many = ap length origins ∙ length_push old.origins.items o ∙ ap (λ n. n + 1) was.many ∙ sym (length_push old.lines.items line) ∙ sym (ap length lines);
    table =
        table
        ∙ ap (λ k. with_names old.table (defines k (taken_of line).line)) (sym (length-map old.lines.items taken_of))
        ∙ ap (λ t. with_names t (defines (length (lines_of old.lines.items)) (taken_of line).line)) was.table
        ∙ sym (one_more (lines_of old.lines.items) (taken_of line))
        ∙ ap names (sym (map-append taken_of old.lines.items (line ∷ [])) ∙ ap lines_of (sym lines));
  };
  lines = ap (λ os. counted_of os new.lines.items) origins ∙ ap (λ ls. counted_of (old.origins.items ++ o ∷ []) ls) lines ∙ counted_more old.origins.items old.lines.items o line was.many;
  findings = findings;
}

-- No line was appended.
pub unchanged : (c : Counting) (from : Numbered) (is_read : Bool) → IsCounting c → Appends from is_read None c c
unchanged c from is_read was = record { sound = was; lines = sym (append-nil (counted_in c)); findings = refl }

-- the lines that count so far, as the code has them
before_is : (c : Counting) → IsCounting c → takens (counted_in c) ≡ lines_of c.lines.items
before_is c was = takens_of c.origins.items c.lines.items was.many

-- The line itself counts.
pub takes_itself : (old new : Counting) (l : Numbered) (line : Line) → IsCounting old → read_line l.text ≡ Ok line
    → has_clash (names (lines_of old.lines.items)) (defines (length (lines_of old.lines.items)) line) ≡ false → Appends l true (Some (record { number = l.number; line = line })) old new → Takes l old new
takes_itself old new l line was read once added = record {
  sound = added.sound;
  lines = added.lines ∙ ap (λ more. counted_in old ++ more) (sym counts_itself);
  findings = ap (map finding_of) (ap (λ v. v.items) added.findings) ∙ sym (append-nil (map finding_of old.findings.items)) ∙ ap (λ f. map finding_of old.findings.items ++ option_to_list f) (sym no_error);
} where
  once_before : has_clash (names (takens (counted_in old))) (defines (length (takens (counted_in old))) line) ≡ false
  once_before = ap (λ ls. has_clash (names ls) (defines (length ls) line)) (before_is old was) ∙ once

  itself : counts_as (takens (counted_in old)) l.number l.text ≡ Some (record { number = l.number; line = line })
  itself = ap (counts_by (takens (counted_in old)) l.number) read ∙ ap (λ b. cond b None (Some (record { number = l.number; line = line }))) once_before

  counts_itself : lines_counted (counted_in old) l ≡ record { from = l; is_read = true; taken = record { number = l.number; line = line } } ∷ []
  counts_itself =
      ap (λ r. option_to_list (option_map (λ t. record { from = l; is_read = is_ok r; taken = t }) (counts (takens (counted_in old)) l))) read
      ∙ ap (λ o. option_to_list (option_map (λ t. record { from = l; is_read = true; taken = t })
      (first (o ∷ counts_as (takens (counted_in old)) l.number (meant_as l.text) ∷ counts_as (takens (counted_in old)) l.number (after_colon l.text) ∷ [])))) itself

  no_error : early (takens (counted_in old)) l ≡ None
  no_error = ap (early_by (takens (counted_in old)) l) read ∙ ap (λ b. cond b (Some (record { line = l; why = Why.Duplicate; name = None })) None) once_before

-- The line has an error, and counts as another one.
module _ (old new : Counting) (l : Numbered) (was : IsCounting old) where
  instead : Option Taken
  instead = first (counts_as (lines_of old.lines.items) l.number (meant_as l.text) ∷ counts_as (lines_of old.lines.items) l.number (after_colon l.text) ∷ [])

  -- the same, given that the line itself does not count
  takes_instead : (why : Why) (is_read : Bool) → Refuses l why None is_read old new → is_ok (read_line l.text) ≡ is_read → counts_as (takens (counted_in old)) l.number l.text ≡ None
      → early (takens (counted_in old)) l ≡ Some (record { line = l; why = why; name = None }) → Takes l old new
  takes_instead why is_read refused read not_itself error = record {
    sound = refused.sound;
    lines = refused.lines ∙ ap (λ more. counted_in old ++ more) (sym counts_instead);
    findings = refused.findings ∙ ap (λ f. map finding_of old.findings.items ++ option_to_list f) (sym error);
  } where
    counts_instead : lines_counted (counted_in old) l ≡ option_to_list (option_map (λ t. record { from = l; is_read = is_read; taken = t })
        (first (counts_as (lines_of old.lines.items) l.number (meant_as l.text) ∷ counts_as (lines_of old.lines.items) l.number (after_colon l.text) ∷ [])))
    counts_instead =
        ap (λ b. option_to_list (option_map (λ t. record { from = l; is_read = b; taken = t }) (counts (takens (counted_in old)) l))) read
        ∙ ap (λ o. option_to_list (option_map (λ t. record { from = l; is_read = is_read; taken = t })
        (first (o ∷ counts_as (takens (counted_in old)) l.number (meant_as l.text) ∷ counts_as (takens (counted_in old)) l.number (after_colon l.text) ∷ [])))) not_itself
        ∙ ap (λ ls. option_to_list (option_map (λ t. record { from = l; is_read = is_read; taken = t })
        (first (counts_as ls l.number (meant_as l.text) ∷ counts_as ls l.number (after_colon l.text) ∷ [])))) (before_is old was)

  pub takes_unread : (why : LineFault) → read_line l.text ≡ Err why → Refuses l (line_why why) None false old new → Takes l old new
  takes_unread why read refused =
      takes_instead (line_why why) false refused (ap is_ok read) (ap (counts_by (takens (counted_in old)) l.number) read) (ap (early_by (takens (counted_in old)) l) read)

  pub takes_twice : (line : Line) → read_line l.text ≡ Ok line → has_clash (names (lines_of old.lines.items)) (defines (length (lines_of old.lines.items)) line) ≡ true
      → Refuses l Why.Duplicate None true old new → Takes l old new
  takes_twice line read twice refused =
      takes_instead Why.Duplicate true refused (ap is_ok read)
      (ap (counts_by (takens (counted_in old)) l.number) read ∙ ap (λ b. cond b None (Some (record { number = l.number; line = line }))) twice_before)
      (ap (early_by (takens (counted_in old)) l) read ∙ ap (λ b. cond b (Some (record { line = l; why = Why.Duplicate; name = None })) None) twice_before)
    where
      twice_before : has_clash (names (takens (counted_in old))) (defines (length (takens (counted_in old))) line) ≡ true
      twice_before = ap (λ ls. has_clash (names ls) (defines (length ls) line)) (before_is old was) ∙ twice

pub no_name_told : (why : Why) → name_told why None ≡ None
no_name_told (Why.Macro why) = refl
no_name_told (Why.Stmt why) = refl
no_name_told Why.Duplicate = refl
no_name_told Why.Undefined = refl
no_name_told Why.PublicNotLabel = refl
no_name_told Why.EquCircle = refl
no_name_told Why.TooManyStatements = refl
no_name_told Why.TooManyNames = refl
no_name_told Why.NoMemory = refl

-- The lines so far, with those that are left, are all lines.
pub record Goes (all rest : List Numbered) (c : Counting) : Type 0 where
  pub sound : IsCounting c
  pub lines : counted_after (counted_in c) rest ≡ counted_after [] all
  pub findings : map finding_of c.findings.items ++ early_after (counted_in c) rest ≡ early_after [] all

pub goes_on : (old new : Counting) (l : Numbered) (rest all : List Numbered) → Takes l old new → Goes all (l ∷ rest) old → Goes all rest new
goes_on old new l rest all takes was = record {
  sound = takes.sound;
  lines = ap (λ cs. counted_after cs rest) takes.lines ∙ was.lines;
  findings =
      ap (λ fs. fs ++ early_after (counted_in new) rest) takes.findings
      ∙ ap (λ cs. (map finding_of old.findings.items ++ option_to_list (early (takens (counted_in old)) l)) ++ early_after cs rest) takes.lines
      ∙ append_assoc (map finding_of old.findings.items) (option_to_list (early (takens (counted_in old)) l)) (early_after (counted_in old ++ lines_counted (counted_in old) l) rest)
      ∙ was.findings;
}

pub all_gone : (all : List Numbered) (c : Counting) → Goes all [] c → (counted_in c ≡ counted_after [] all) × (map finding_of c.findings.items ≡ early_after [] all)
all_gone all c was = (was.lines, sym (append-nil (map finding_of c.findings.items)) ∙ was.findings)

pub none_gone : (all : List Numbered) (c : Counting) → IsCounting c → counted_in c ≡ [] → c.findings.items ≡ [] → Goes all all c
none_gone all c sound lines findings = record {
  sound = sound;
  lines = ap (λ cs. counted_after cs all) lines;
  findings = ap (λ fs. map finding_of fs ++ early_after (counted_in c) all) findings ∙ ap (λ cs. early_after cs all) lines;
}
