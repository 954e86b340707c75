use Rattle.std.specs.Prelude.{◌≡◌, ◌≢◌, ℕ, ◌+◌, List, [], ◌∷◌, ◌++◌, length}
use Rattle.std.specs.List.{flat_map, AllByRecursion}

-- Files of lines, grammars of such files, and the first bad line of a file that breaks its grammar.

abbrev pub line_feed : ℕ
line_feed = 0x0A

-- a file of whole lines: each ends with a line feed
abbrev pub lines_text : List (List ℕ) → List ℕ
lines_text lines = flat_map (λ line. line ++ line_feed ∷ []) lines

-- the lines of a file that begins with its header, continues with as many middle lines as there may be, and ends with a
-- last line
pub record AreFramed (header : List ℕ) (Middle Last : List ℕ → Type 0) (May : ℕ → Type 0) (lines : List (List ℕ)) : Type 0 where
  pub middle : List (List ℕ)
  pub last : List ℕ
  pub each : AllByRecursion Middle middle
  pub count : May (length middle)
  pub ends : Last last
  pub lines_are : lines ≡ header ∷ middle ++ last ∷ []

-- A grammar is a set of lists of lines. A file that is not in the grammar breaks it at line n, counted from 1: some
-- file of the grammar begins with the lines before line n, but none begins with these and the whole line that comes
-- next. So line n is the first that may not be there or that has no line feed; or it is missing; or it comes after the
-- last line.
pub record BreaksAt (Grammar : List (List ℕ) → Type 0) (text : List ℕ) (n : ℕ) : Type 0 where
  pub none : (lines : List (List ℕ)) → Grammar lines → text ≢ lines_text lines
  pub before : List (List ℕ)
  pub rest : List ℕ
  pub text_is : text ≡ lines_text before ++ rest
  pub number : n ≡ length before + 1
  pub completion : List (List ℕ)
  pub begins : Grammar (before ++ completion)
  pub stops : (line after : List ℕ) (more : List (List ℕ)) → rest ≡ line ++ line_feed ∷ after → ¬ Grammar (before ++ line ∷ more)
