-- Which definitions lead to which, step by step.
use Rattle.std.proofs.Common.{◌≡◌, ℕ, List, inl, inr, subst}
use Rattle.std.specs.List.{Contains}
use Rattle.asm_names.specs.Orders.Circles.{LeadsTo}
use Rattle.asm_names.specs.Orders.Circles.LeadsTo.{next, further}
use Rattle.asm_names.specs.Private.Standing.{Reaches}

pub leads_on : {named : ℕ → List ℕ} {a b c : ℕ} → LeadsTo named a b → LeadsTo named b c → LeadsTo named a c
leads_on (next names) more = further names more
leads_on (further names rest) more = further names (leads_on rest more)

pub reaches_leads : {named : ℕ → List ℕ} {a b c : ℕ} → Reaches named a b → LeadsTo named b c → LeadsTo named a c
reaches_leads (inl same) more = rw same more
reaches_leads (inr leads) more = leads_on leads more

pub reaches_on : {named : ℕ → List ℕ} {a b c : ℕ} → Reaches named a b → Reaches named b c → Reaches named a c
reaches_on first (inl same) = rw same at first
reaches_on first (inr leads) = inr (reaches_leads first leads)

pub reaches_named : {named : ℕ → List ℕ} {a b c : ℕ} → Reaches named a b → Contains (named b) c → LeadsTo named a c
reaches_named first names = reaches_leads first (next names)
