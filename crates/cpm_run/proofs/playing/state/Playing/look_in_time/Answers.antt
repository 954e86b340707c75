use Rattle.std.proofs.Common.{◌∙◌, arith, inl, inr, refl, sym}
use Rattle.cpm_console.specs.declared.station.Patience.TheVariants as how
use Rattle.cpm_run.proofs.Looking.{looks_after}
use Rattle.cpm_run.proofs.playing.state.Playing.look_in_time.Goals as goal

pub returns-in-Poll-clause-looks : goal.returns-in-Poll-clause-looks
returns-in-Poll-clause-looks g c = λ start before a watched none held empty.
    looks_after _ _ how.Poll c.look.result start before _ _ a c.look.ensures.looked c.look.ensures.allowance c.look.ensures.output c.look.ensures.ahead (c.look.ensures.looks start before a watched empty (sym c.requires.patience ∙ c.in-Poll.is, none))

pub returns-then-is_look_overdue-clause-looks : goal.returns-then-is_look_overdue-clause-looks
returns-then-is_look_overdue-clause-looks g c = λ start before a watched none held empty.
    looks_after _ _ how.Glance c.look-then-is_look_overdue.result start before _ _ a c.look-then-is_look_overdue.ensures.looked c.look-then-is_look_overdue.ensures.allowance c.look-then-is_look_overdue.ensures.output c.look-then-is_look_overdue.ensures.ahead
    (c.look-then-is_look_overdue.ensures.looks start before a watched empty (
      λ polls. c.in_default.not-Poll (c.requires.patience ∙ polls),
      elim (c.is_look_overdue.ensures.yes c.if-is_look_overdue.true) [
        | inl long ↦ inl (let last = watched.last in omega (arith, long, last))
        | inr spent ↦ inr (let allowed = watched.allowance in omega (arith, spent, allowed))
      ],
    ))

pub returns-clause-looks : goal.returns-clause-looks
returns-clause-looks g c = λ start before a watched none held empty. record {
  so_far = a;
  watched = watched;
  polled = λ polls. absurd (c.in_default.not-Poll (c.requires.patience ∙ polls));
  shown = λ polls. absurd (c.in_default.not-Poll (c.requires.patience ∙ polls));
  lately = c.is_look_overdue.ensures.no c.if-is_look_overdue.false;
  calm = let left = c.is_look_overdue.ensures.allowed c.if-is_look_overdue.false in let allowed = watched.allowance in omega (arith, left, allowed);
  held = held;
  none = empty;
}

pub returns-clause-still : goal.returns-clause-still
returns-clause-still g c = record { cpu = refl; turns = refl; looked = λ past. (omega arith, past) }
