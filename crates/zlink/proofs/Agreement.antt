-- The definitions of the linker and those of the checker say the same about a shape, each in its own types.
use Rattle.std.proofs.Common.{◌≡◌, ℕ, zero, suc, ◌+◌, All, Bool, List, Option, None, Some, Ok, length, map, refl, sym, ap, subst, ◌∙◌, arith}
use Rattle.std.specs.List.{slice_get, slice_index_or}
use Rattle.std.specs.Option.{option_map, option_map_or}
use Rattle.std.proofs.lemmas.List.{get_or-map, length-map}
use Rattle.std.proofs.lemmas.Option.{slice_get-map}
use Rattle.relax.specs.declared.shape.Statement.{Statement as Sized}
use Rattle.relax.specs.declared.shape.Statement.TheVariants as sized
use Rattle.cert_check.specs.declared.shape.Statement.TheVariants as telling
use Rattle.relax.specs.Choice.{Choice}
use Rattle.relax.specs.Choice as ruler
use Rattle.cert_check.specs.Choice as cert
use Rattle.relax.specs.Growth as growth
use Rattle.relax.specs.declared.growth.Verdict.{Verdict}
use Rattle.relax.specs.declared.growth.Verdict.TheVariants.{Best, Range, TooLarge}
use Rattle.cert_check.specs.Forcing as forcing
use Rattle.cert_check.specs.Accepts as accepts
use Rattle.std.proofs.Math.Path.{fun_ext}
use Rattle.std.proofs.lemmas.List.Elements.{All-map, All-weaker}
use Rattle.relax.specs.declared.growth.Growth.{Growth}
use Rattle.cert_check.specs.Texts.{ReadsSizes, ReadsCert}
use Rattle.zlink.specs.Certified.{IsCertified, told_size, told_verdict}

size_of-same : (long : Bool) (s : Sized) → cert.size_of long (told_size s) ≡ ruler.size_of long s
size_of-same long (sized.Fixed n) = refl
size_of-same long (sized.Jump t) = refl
size_of-same long (sized.Short t) = refl

size_at-same : (c : Choice) (shape : List Sized) (k : ℕ) → cert.size_at c (map told_size shape) k ≡ ruler.size_at c shape k
size_at-same c shape k = ap (λ o. option_map_or (cert.size_of (c k)) o 0) (slice_get-map told_size shape k) ∙ there (slice_get shape k)
  where
    there : (o : Option Sized) → option_map_or (cert.size_of (c k)) (option_map told_size o) 0 ≡ option_map_or (ruler.size_of (c k)) o 0
    there None = refl
    there (Some s) = size_of-same (c k) s

pub bytes-same : (c : Choice) (shape : List Sized) (k : ℕ) → cert.bytes_before c (map told_size shape) k ≡ ruler.bytes_before c shape k
unfolding cert.bytes_before ruler.bytes_before
bytes-same c shape zero = refl
bytes-same c shape (suc k) = omega (arith, bytes-same c shape k, size_at-same c shape k)

pub place-same : (c : Choice) (shape : List Sized) (k : ℕ) → cert.place c (map told_size shape) k ≡ ruler.place c shape k
place-same c shape k = ap (λ n. 256 + n) (bytes-same c shape k)

pub total-same : (c : Choice) (shape : List Sized) → cert.total c (map told_size shape) ≡ ruler.total c shape
total-same c shape = ap (cert.bytes_before c (map told_size shape)) (length-map shape told_size) ∙ bytes-same c shape (length shape)

-- a statement of the linker's shape is the same statement in the checker's shape
at-same : (shape : List Sized) (k : ℕ) (s : Sized) → slice_get shape k ≡ Some s → slice_get (map told_size shape) k ≡ Some (told_size s)
at-same shape k s there = slice_get-map told_size shape k ∙ ap (option_map told_size) there

jump-back : (shape : List Sized) (k t : ℕ) → cert.IsJump (map told_size shape) k t → ruler.IsJump shape k t
jump-back shape k t jump = from (slice_get shape k) (sym (slice_get-map told_size shape k) ∙ jump)
  where
    from : (o : Option Sized) → option_map told_size o ≡ Some (telling.Jump t) → o ≡ Some (sized.Jump t)
    from None e = absurd (cc e)
    from (Some (sized.Fixed n)) e = absurd (cc e)
    from (Some (sized.Jump u)) e = let same : u ≡ t = cc e in ap (λ x. Some (sized.Jump x)) same
    from (Some (sized.Short u)) e = absurd (cc e)

short-back : (shape : List Sized) (k t : ℕ) → cert.IsShort (map told_size shape) k t → ruler.IsShort shape k t
short-back shape k t short = from (slice_get shape k) (sym (slice_get-map told_size shape k) ∙ short)
  where
    from : (o : Option Sized) → option_map told_size o ≡ Some (telling.Short t) → o ≡ Some (sized.Short t)
    from None e = absurd (cc e)
    from (Some (sized.Fixed n)) e = absurd (cc e)
    from (Some (sized.Jump u)) e = absurd (cc e)
    from (Some (sized.Short u)) e = let same : u ≡ t = cc e in ap (λ x. Some (sized.Short x)) same

reaches-there : (c : Choice) (shape : List Sized) (k t : ℕ) → ruler.Reaches c shape k t → cert.Reaches c (map told_size shape) k t
reaches-there c shape k t reaches = rw (place-same c shape k, place-same c shape t) reaches

reaches-back : (c : Choice) (shape : List Sized) (k t : ℕ) → cert.Reaches c (map told_size shape) k t → ruler.Reaches c shape k t
reaches-back c shape k t reaches = rw (← place-same c shape k, ← place-same c shape t) reaches

pub settled-there : (c : Choice) (shape : List Sized) → ruler.IsSettled c shape → cert.IsSettled c (map told_size shape)
settled-there c shape settled k t jump short = reaches-there c shape k t (settled k t (jump-back shape k t jump) short)

pub settled-back : (c : Choice) (shape : List Sized) → cert.IsSettled c (map told_size shape) → ruler.IsSettled c shape
settled-back c shape settled k t jump short = reaches-back c shape k t (settled k t (at-same shape k (sized.Jump t) jump) short)

pub valid-there : (c : Choice) (shape : List Sized) → ruler.IsValid c shape → cert.IsValid c (map told_size shape)
valid-there c shape valid = record {
  settled = settled-there c shape valid.settled;
  shorts = λ k t short. reaches-there c shape k t (valid.shorts k t (short-back shape k t short));
  fits = rw (total-same c shape) valid.fits;
}

pub valid-back : (c : Choice) (shape : List Sized) → cert.IsValid c (map told_size shape) → ruler.IsValid c shape
valid-back c shape valid = record {
  settled = settled-back c shape valid.settled;
  shorts = λ k t short. reaches-back c shape k t (valid.shorts k t (at-same shape k (sized.Short t) short));
  fits = rw (← total-same c shape) valid.fits;
}

pub forcing-there : (shape : List Sized) (order : List ℕ) → growth.IsForcing shape order → forcing.IsForcing (map told_size shape) order
forcing-there shape order is i lt = let miss = is i lt in record {
  target = miss.target;
  jump = at-same shape _ (sized.Jump miss.target) miss.jump;
  short = miss.short;
  misses = λ reaches. miss.misses (reaches-back _ shape _ miss.target reaches);
}

pub forcing-back : (shape : List Sized) (order : List ℕ) → forcing.IsForcing (map told_size shape) order → growth.IsForcing shape order
forcing-back shape order is i lt = let miss = is i lt in record {
  target = miss.target;
  jump = jump-back shape _ miss.target miss.jump;
  short = miss.short;
  misses = λ reaches. miss.misses (reaches-there _ shape _ miss.target reaches);
}

pub fits-there : (c : Choice) (shape : List Sized) (k : ℕ) → ruler.Fits c shape k → cert.Fits c (map told_size shape) k
fits-there c shape k fits t jump = reaches-there c shape k t (fits t (jump-back shape k t jump))

pub fits-back : (c : Choice) (shape : List Sized) (k : ℕ) → cert.Fits c (map told_size shape) k → ruler.Fits c shape k
fits-back c shape k fits t jump = reaches-back c shape k t (fits t (at-same shape k (sized.Jump t) jump))

pub best-there : (c : Choice) (shape : List Sized) → ruler.IsBest c shape → cert.IsBest c (map told_size shape)
best-there c shape best = record {
  valid = valid-there c shape best.valid;
  least = λ other valid. rw (total-same c shape, total-same other shape) (best.least other (valid-back other shape valid));
}

pub best-back : (c : Choice) (shape : List Sized) → cert.IsBest c (map told_size shape) → ruler.IsBest c shape
best-back c shape best = record {
  valid = valid-back c shape best.valid;
  least = λ other valid. rw (← total-same c shape, ← total-same other shape) (best.least other (valid-there other shape valid));
}

-- the verdict that the linker reaches is one that the checker's rule shows
shown-there : (c : Choice) (shape : List Sized) (v : Verdict) → growth.Holds c shape v → accepts.IsVerdictOf c (map told_size shape) (told_verdict v)
shown-there c shape (Best n) holds = (valid-there c shape holds.0.valid, total-same c shape ∙ holds.1)
shown-there c shape (Range k) holds = record {
  target = holds.lowest.target;
  jump = at-same shape k (sized.Short holds.lowest.target) holds.lowest.jump;
  misses = λ reaches. holds.lowest.misses (reaches-back c shape k holds.lowest.target reaches);
}
shown-there c shape (TooLarge n) holds = (total-same c shape ∙ holds.bytes, holds.above)

-- a shape by the linker's definition is a shape by the checker's
pub shape-there : (shape : List Sized) → ruler.IsShape shape → cert.IsShape (map told_size shape)
shape-there shape is = record {
  few = rw (length-map shape told_size) is.few;
  each = subst (λ n. All (cert.IsStatement n) (map told_size shape)) (sym (length-map shape told_size)) (statements shape is.each);
}
  where
    one : (n : ℕ) (s : Sized) → ruler.IsStatement n s → cert.IsStatement n (told_size s)
    one n (sized.Fixed m) ok = ok
    one n (sized.Jump t) ok = ok
    one n (sized.Short t) ok = ok

    statements : (xs : List Sized) → All (ruler.IsStatement (length shape)) xs → All (cert.IsStatement (length shape)) (map told_size xs)
    statements xs all = All-map (cert.IsStatement (length shape)) told_size xs (All-weaker (ruler.IsStatement (length shape)) (λ s. cert.IsStatement (length shape) (told_size s)) (one (length shape)) xs all)

-- and a shape by the checker's definition is one by the linker's
pub shape-back : (shape : List Sized) → cert.IsShape (map told_size shape) → ruler.IsShape shape
shape-back shape is = record {
  few = rw (← length-map shape told_size) is.few;
  each = statements;
}
  where
    one : (n : ℕ) (s : Sized) → cert.IsStatement n (told_size s) → ruler.IsStatement n s
    one n (sized.Fixed m) ok = ok
    one n (sized.Jump t) ok = ok
    one n (sized.Short t) ok = ok

    statements : All (ruler.IsStatement (length shape)) shape
    statements k d lt =
        let told = is.each k (told_size d) (rw (length-map shape told_size) lt) in
        let counted = subst (λ n. cert.IsStatement n (slice_index_or (map told_size shape) k (told_size d))) (length-map shape told_size) told in
        one (length shape) (slice_index_or shape k d) (subst (cert.IsStatement (length shape)) (get_or-map told_size shape k d (told_size d) lt) counted)

-- the sizes file and the certificate of a growth prove its verdict
pub certified : (shape : List Sized) (grown : Growth) (sizes text : List ℕ) → growth.IsGrowth shape grown
    → ReadsSizes sizes (Ok (map told_size shape)) → ReadsCert text (Ok (grown.order.items, told_verdict grown.verdict)) → IsCertified shape grown.order.items grown.verdict sizes text
certified shape grown sizes text is sizes_are text_is = record {
  own = sizes_are.1;
  spelled = text_is.1;
  accepted = record {
    shape = map told_size shape;
    order = grown.order.items;
    is_shape = sizes_are.0;
    sizes_are = sizes_are.1;
    is_cert = text_is.0;
    cert_is = text_is.1;
    forcing = forcing-there shape grown.order.items is.order.forcing;
    shown = shown-there (growth.after grown.order.items) shape grown.verdict (subst (λ c. growth.Holds c shape grown.verdict) (fun_ext is.long) is.verdict);
  };
}
