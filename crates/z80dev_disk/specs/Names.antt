-- Names of files as the program prints them, which are also the names of the files on the host. A name has eight bytes and three of its
-- type, each part padded with blanks.
use Rattle.std.specs.Prelude.{ℕ, ◌-◌, ◌==◌, Bool, ◌&&◌, not, List, [], ◌++◌, codes, drop, if◌then◌else◌, length, nat_le, reverse, take}
use Rattle.std.specs.List.{list_all, prefix_len}

-- a part of a name without the blanks at its end
abbrev pub trimmed : List ℕ → List ℕ
trimmed part = take (length part - prefix_len (λ b. b == 0x20) (reverse part)) part

-- the word if the condition holds, otherwise nothing
abbrev pub when : Bool → List ℕ → List ℕ
when so word = if so then word else []

-- The name on the host: `NAME` or `NAME.TYP`. The point is there only if there is a type.
abbrev pub host_name : List ℕ → List ℕ
host_name name = trimmed (take 8 name) ++ (when (not (length (trimmed (drop 8 name)) == 0)) (codes ".") ++ trimmed (drop 8 name))

-- whether a name on the host may contain this byte: a printable character or a blank, except `/` and the point
abbrev pub is_host_byte : ℕ → Bool
is_host_byte b = nat_le 0x20 b && nat_le b 0x7E && not (b == 0x2F) && not (b == 0x2E)

-- whether the host can have a file of this name
abbrev pub is_host_name : List ℕ → Bool
is_host_name name = not (length (host_name name) == 0) && list_all is_host_byte name
