use Rattle.std.proofs.Common.{rules, ◌≡◌, ◌<◌, ◌+◌, ◌∙◌, ℕ, Vec, length, map, take, ap}
use Rattle.std.specs.Global.{Global}
use Rattle.asm_names.specs.Meanings.{external_in, externals}
use Rattle.asm_module.proofs.Holding.Collected.{given_more, is_given}
use Rattle.asm_module.proofs.module_names.externals_of.Goals as goal
use Rattle.asm_module.proofs.module_names.externals_of.Goals.{in-Some+in_ok-one+in_ok-put, in_default}

pub loop-at-preserved : goal.loop-at-preserved
loop-at-preserved c =
    let names = c.args.table.now in
    let lt : c.loop-at.at < length names = search rules in
    elim c.match-get.branch as (λ _. map (λ (name : Vec ℕ Global). name.items) c.match-get.externals.items ≡ externals (take (c.loop-at.at + 1) names)) [
      | in-Some+in_ok-one+in_ok-put w ↦
          ap (λ all. map (λ (name : Vec ℕ Global). name.items) all.items) w.externals-is
          ∙ given_more (λ (name : Vec ℕ Global). name.items) external_in names c.loop-at.at (w.in-Some.name.now, w.in-Some.kind) c.loop-at.externals.items w.put.new.items.items w.in_ok-one.one w.in-Some.ensures
          w.in_ok-one.ensures w.in_ok-put.ensures c.loop-at.invariant
      | in_default w ↦ is_given (λ (name : Vec ℕ Global). name.items) external_in names c.loop-at.at lt w.in_default.ensures
    ]
