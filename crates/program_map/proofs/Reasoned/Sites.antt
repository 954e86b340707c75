-- One more site.
use Rattle.std.proofs.Common.{◌≡◌, ◌∙◌, ◌+◌, ◌++◌, ◌∷◌, [], ℕ, zero, suc, ap, map, arith, add-one}
use Rattle.std.specs.List.{range_with_len}
use Rattle.std.proofs.lemmas.List.{map-append}
use Rattle.source_warnings.specs.declared.jumps.part.Site.{Site}
use Rattle.program_map.specs.Reasons.Programs.{sites_of}

range-more : (a n : ℕ) → range_with_len a (suc n) ≡ range_with_len a n ++ (a + n) ∷ []
range-more a zero = let e : a ≡ a + 0 = omega arith in ap (λ m. m ∷ []) e
range-more a (suc n) =
    let e : (a + 1) + n ≡ a + suc n = omega arith in
    ap (λ l. a ∷ l) (range-more (a + 1) n ∙ ap (λ m. range_with_len (a + 1) n ++ m ∷ []) e)

pub sites-more : (number k : ℕ) → sites_of number (k + 1) ≡ sites_of number k ++ record { «module» = number; statement = k } ∷ []
sites-more number k =
    let site : ℕ → Site = λ n. record { «module» = number; statement = n } in
    let e : 0 + k ≡ k = omega arith in
    ap (λ n. map site (range_with_len 0 n)) (add-one k) ∙ (ap (map site) (range-more 0 k ∙ ap (λ m. range_with_len 0 k ++ m ∷ []) e) ∙ map-append site (range_with_len 0 k) (k ∷ []))
