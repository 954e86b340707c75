-- What each step of building a command adds.
use Rattle.std.proofs.Common.{◌≡◌, ◌∙◌, ◌||◌, false, ap, ap₂, subst}
use Rattle.std.specs.Prelude.{IfOk, Ok, Result}
use Rattle.std.proofs.lemmas.Result.{IfOk-weaker}
use Rattle.clap.specs.Words.{AddsArg, AddsSubcommand, App, Rule, Shape, app_of, rule_of, with_rule, with_subcommand}
use Rattle.clap.specs.declared.builder.arg.Arg.{Arg}
use Rattle.clap.specs.declared.builder.command.Command.{Command}
use Rattle.clap.specs.declared.builder.command.Command.TheViews.{out-Command}
use Rattle.z80dev_commands.specs.Private.{alone, with_target, with_telling}

-- the command has these rules, and no global argument
abbrev pub IsMade : Command → App → Type 0
IsMade c a = (app_of c ≡ a) × ((out-Command c).has_globals ≡ false)

pub with_argument : (old new : Command) (arg : Arg) (a : App) (r : Rule) → AddsArg old arg new → rule_of arg ≡ r → arg.global ≡ false → IsMade old a → IsMade new (with_rule a r)
with_argument old new arg a r adds is local made = (adds.shape local ∙ ap₂ with_rule made.0 is, adds.globals ∙ ap₂ (λ x y. x || y) made.1 local)

-- the same after the arguments of the image that it changes are added
pub with_image : (old new : Command) (a : App) → app_of new ≡ with_target (app_of old) → (out-Command new).has_globals ≡ false → IsMade old a → IsMade new (with_target a)
with_image old new a is local made = (is ∙ ap with_target made.0, local)

-- the same after the options of what `run` tells are added
pub with_told : (old new : Command) (a : App) → app_of new ≡ with_telling (app_of old) → (out-Command new).has_globals ≡ false → IsMade old a → IsMade new (with_telling a)
with_told old new a is local made = (is ∙ ap with_telling made.0, local)

pub with_command : (old sub new : Command) (a : App) (s : Shape) → AddsSubcommand old sub new → (out-Command sub).has_globals ≡ false → app_of old ≡ a → app_of sub ≡ alone s
    → app_of new ≡ with_subcommand a s
with_command old sub new a s adds local before is = adds.shape local ∙ ap₂ with_subcommand before (ap (λ (x : App). x.top) is)

-- the same after a command is added, unless memory ran out for one of them
pub with_made : {E : Type 0} (old sub new : Result Command E) (a : App) (s : Shape) → IfOk old (λ c. app_of c ≡ a) → IfOk sub (λ c. app_of c ≡ alone s)
    → IfOk sub (λ c. (out-Command c).has_globals ≡ false) → IfOk new (λ n. (o : Command) × (m : Command) × (old ≡ Ok o) × (sub ≡ Ok m) × AddsSubcommand o m n)
    → IfOk new (λ c. app_of c ≡ with_subcommand a s)
with_made {E = E} old sub new a s before is local adds = IfOk-weaker new _ _ (λ n made. with_command made.0 made.1 n a s made.4
    (subst (λ (r : Result Command E). IfOk r (λ c. (out-Command c).has_globals ≡ false)) made.3 local)
    (subst (λ (r : Result Command E). IfOk r (λ c. app_of c ≡ a)) made.2 before)
    (subst (λ (r : Result Command E). IfOk r (λ c. app_of c ≡ alone s)) made.3 is)) adds
