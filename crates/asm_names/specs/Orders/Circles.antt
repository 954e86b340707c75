-- Which things lead to which, given what each names.
-- In words: docs/LANGUAGE.md, section 'EQU'.
use Rattle.std.specs.Prelude.{List}
use Rattle.std.specs.List.{Contains}

-- One thing leads to another: it names it, or it names a thing that leads to it.
pub data LeadsTo {A : Type 0} (named : A → List A) : A → A → Type 0 where
  next : {a b : A} → Contains (named a) b → LeadsTo named a b
  further : {a b c : A} → Contains (named a) b → LeadsTo named b c → LeadsTo named a c

-- The thing leads back to itself.
abbrev pub IsOnCircle : {A : Type 0} → (A → List A) → A → Type 0
IsOnCircle named a = LeadsTo named a a
