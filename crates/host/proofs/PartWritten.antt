-- Bytes that are written part by part.
use Rattle.std.proofs.Common.{◌≡◌, ℕ, ◌+◌, ◌-◌, ◌<◌, ◌≤◌, Bor, List, [], ◌++◌, Result, Ok, Err, length, get_or, refl, take, drop, ap, sym, subst, ◌∙◌, arith}
use Rattle.std.proofs.Math.Seq.{take-add}
use Rattle.std.proofs.lemmas.List.{append_assoc, drop-drop, length-drop, flat_map_more, take-append-drop, take_all, take_more, take_at}
use Rattle.std.proofs.lemmas.Bool.{false≢true}
use Rattle.std.proofs.lemmas.Grind.{flat_map-append}
use Rattle.std.proofs.KnownBytes.{Appends-kept, Appends-trans}
use Rattle.std.specs.Io.KnownBytes.{Appends}
use Rattle.std.specs.List.{flat_map}
use Rattle.std.specs.Result.{IsErr}
use Rattle.host.specs.declared.streams.writing.WriteFailed.{WriteFailed}
use Rattle.host.specs.Streams.Stream.{Stream, counted}
use Rattle.host.specs.Streams.Writing.{AppendsFront, Flushed, PrintsBytes, Puts}

-- the first of the bytes are written, `rest` is still to be written, and the stream has not failed
pub record Written (old new : Stream) (bytes rest : List ℕ) : Type 0 where
  pub count : ℕ
  pub rest_is : rest ≡ drop count bytes
  pub appended : Appends old.bytes new.bytes (take count bytes)
  pub unfailed : new.failures ≡ old.failures

-- more of them are written
pub more : (old mid new : Stream) (bytes rest : List ℕ) (n : ℕ) → Written old mid bytes rest → n ≤ length rest
    → Appends mid.bytes new.bytes (take n rest) → new.failures ≡ mid.failures → Written old new bytes (take (length rest - n) (drop n rest))
more old mid new bytes rest n was within put same = record {
  count = was.count + n;
  rest_is = take_all _ _ (omega (arith, length-drop n rest)) ∙ ap (drop n) was.rest_is ∙ drop-drop n was.count bytes;
  appended = rw (take-add was.count n bytes) (Appends-trans old.bytes mid.bytes new.bytes _ _ was.appended (subst (λ r. Appends mid.bytes new.bytes (take n r)) was.rest_is put));
  unfailed = same ∙ was.unfailed;
}

-- If the first bytes of one part are written after what comes before it, the first bytes of everything are.
pub front_of_all : (old mid new : Stream) (before piece after : List ℕ) (n : ℕ) → Appends old.bytes mid.bytes before → Appends mid.bytes new.bytes (take n piece)
    → (m : ℕ) × Appends old.bytes new.bytes (take m (before ++ piece ++ after))
front_of_all old mid new before piece after n first rest =
    let front = before ++ take n piece in
    let whole : before ++ piece ++ after ≡ front ++ (drop n piece ++ after) =
    ap (λ p. before ++ p ++ after) (sym (take-append-drop n piece)) ∙ ap (λ p. p ++ after) (sym (append_assoc before (take n piece) (drop n piece))) ∙ append_assoc front (drop n piece) after in
    (length front, subst (Appends old.bytes new.bytes) (sym (ap (take (length front)) whole ∙ take_at front (drop n piece ++ after) (length front) refl)) (Appends-trans old.bytes mid.bytes new.bytes before (take n piece) first rest))

-- A call that did not write all the bytes wrote the first of them, and the stream failed.
pub not_put : (old new : Stream) (bytes : List ℕ) (result : Result Unit WriteFailed) → IsErr result → AppendsFront old new bytes → new.failures ≡ counted old.failures → Puts old new bytes result
not_put old new bytes (Ok _) none front failed = absurd (false≢true none)
not_put old new bytes (Err _) none front failed = (front, failed)

-- all parts are those before one, that one, and those after it
pub parts : (pieces : List (Bor (List ℕ))) (k : ℕ) (d : Bor (List ℕ)) → k < length pieces
    → flat_map (λ piece. piece.now) pieces ≡ flat_map (λ piece. piece.now) (take k pieces) ++ (get_or pieces k d).now ++ flat_map (λ piece. piece.now) (drop (k + 1) pieces)
parts pieces k d lt =
    let f : Bor (List ℕ) → List ℕ = λ piece. piece.now in
    ap (flat_map f) (sym (take-append-drop (k + 1) pieces)) ∙ flat_map-append f (take (k + 1) pieces) (drop (k + 1) pieces)
    ∙ ap (λ front. flat_map f front ++ flat_map f (drop (k + 1) pieces)) (take_more pieces k d lt)
    ∙ ap (λ front. front ++ flat_map f (drop (k + 1) pieces)) (sym (flat_map_more f [] (take k pieces) (get_or pieces k d)))

-- all bytes are written, and then those that a buffer holds back are written out
pub handed_on : (old mid new : Stream) (bytes : List ℕ) (result : Result Unit WriteFailed) → Puts old mid bytes (Ok tt) → Flushed mid new result → PrintsBytes old new bytes result
handed_on old mid new bytes (Ok _) put flushed = ((Appends-kept old.bytes mid.bytes new.bytes bytes put.0 flushed.0, flushed.1 ∙ put.1), flushed.2)
handed_on old mid new bytes (Err _) put flushed =
    ((length bytes, subst (Appends old.bytes new.bytes) (sym (take_all (length bytes) bytes (omega (arith)))) (Appends-kept old.bytes mid.bytes new.bytes bytes put.0 flushed.0)), flushed.1 ∙ ap counted put.1)
