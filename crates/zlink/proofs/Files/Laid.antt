-- Bytes of statements that are written one after the other.
use Rattle.std.proofs.Common.{◌≡◌, ℕ, ◌+◌, ◌<◌, List, [], ◌∷◌, ◌++◌, length, map, take, get_or, refl, sym, ap, subst, ◌∙◌, arith, append_assoc}
use Rattle.std.proofs.lemmas.List.{append-nil, length-map, length-take-le}
use Rattle.zmo_object.specs.declared.module.statement.Statement as S
use Rattle.zmo_object.specs.Modules.{ModuleStatement, statement_of}
use Rattle.zlink.specs.Private.Pieces.{AreLaid}
use Rattle.zlink.proofs.Files.Elements.{mapped-more}

-- the bytes of one more statement
pub laid-push : (P : ℕ → ModuleStatement → List ℕ → Type 0) (k n : ℕ) (ss : List ModuleStatement) (s : ModuleStatement) (bytes one : List ℕ) → n ≡ k + length ss → AreLaid P k ss bytes → P n s one → AreLaid P k (ss ++ s ∷ []) (bytes ++ one)
laid-push P k n [] s bytes one at laid piece =
    let here : n ≡ k = omega arith in
    (one, [], (ap (λ b. b ++ one) laid ∙ sym (append-nil one)), subst (λ j. P j s one) here piece, refl)
laid-push P k n (x ∷ ss) s bytes one at laid piece =
    let next : n ≡ (k + 1) + length ss = omega arith in
    (laid.0, laid.1 ++ one, (ap (λ b. b ++ one) laid.2 ∙ append_assoc laid.0 laid.1 one), laid.3, laid-push P (k + 1) n ss s laid.1 one next laid.4 piece)

-- one turn of the loop over the statements of a module
pub laid-step : (P : ℕ → ModuleStatement → List ℕ → Type 0) (first k : ℕ) (ss : List S.Statement) (s : S.Statement) (bytes one : List ℕ) → k < length ss → s ≡ get_or ss k s
    → AreLaid P first (map statement_of (take k ss)) bytes → P (first + k) (statement_of s) one → AreLaid P first (map statement_of (take (k + 1) ss)) (bytes ++ one)
laid-step P first k ss s bytes one lt is laid piece =
    let at : first + k ≡ first + length (map statement_of (take k ss)) = omega (arith, length-map (take k ss) statement_of, length-take-le k ss) in
    subst (λ xs. AreLaid P first xs (bytes ++ one)) (sym (mapped-more statement_of ss k s lt is)) (laid-push P first (first + k) (map statement_of (take k ss)) (statement_of s) bytes one at laid piece)
