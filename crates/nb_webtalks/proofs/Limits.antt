-- A body has at most so many bytes, whatever comes.
use Rattle.std.proofs.Common.{◌≡◌, ℕ, ◌≤◌, Bool, true, false, List, [], length, take, nat_lt, refl, sym, subst, arith, if◌then◌else◌}
use Rattle.std.proofs.lemmas.List.{length-take}
use Rattle.std.proofs.lemmas.Bool.{ltb-false}
use Rattle.nb_responses.specs.Heads.{Framing, sized, chunked, to_end, bad, framing}
use Rattle.nb_responses.specs.Chunks.{Response, response, large}
use Rattle.nb_responses.specs.Responses.{ReadsBody, Final, no_block, no_head, by_head, by_body, most_bytes, sized_verdict}
use Rattle.nb_readings.specs.Readings.{read_so_far}
use Rattle.nb_readings.proofs.ReadingLemmas.{reading_is}

is_within : (r : Response) (b : Bool) → nat_lt most_bytes (length r.bytes) ≡ b → length (if b then response large (take most_bytes r.bytes) else r).bytes ≤ most_bytes
is_within r true e = omega (arith, length-take most_bytes r.bytes)
is_within r false e = ltb-false most_bytes (length r.bytes) e

is_sized : (size : ℕ) (text : List ℕ) (b : Bool) → nat_lt most_bytes size ≡ b → length (if b then response large [] else response (sized_verdict size text) (take size text)).bytes ≤ most_bytes
is_sized size text true e = omega arith
is_sized size text false e = let few = ltb-false most_bytes size e in omega (arith, length-take size text, few)

of_body : (f : Framing) (text : List ℕ) (r : Response) → ReadsBody text f r → length r.bytes ≤ most_bytes
of_body (sized size) text r is = subst (λ (x : Response). length x.bytes ≤ most_bytes) (sym is) (is_sized size text (nat_lt most_bytes size) refl)
of_body chunked text r (read, c, is) = subst (λ (x : Response). length x.bytes ≤ most_bytes) (sym is) (is_within read (nat_lt most_bytes (length read.bytes)) refl)
of_body to_end text r is = subst (λ (x : Response). length x.bytes ≤ most_bytes) (sym is) (is_within (response _ text) (nat_lt most_bytes (length text)) refl)
of_body bad text r is = subst (λ (x : Response). length x.bytes ≤ most_bytes) (sym is) (omega arith)

of_final : (text : List ℕ) (r : Response) → Final text r → length r.bytes ≤ most_bytes
of_final text _ (no_block verdict e) = omega arith
of_final text _ (no_head block rest e none) = omega arith
of_final text _ (by_head block rest h verdict e is final says) = omega arith
of_final text r (by_body block rest h _ e is final none reads) = of_body (framing h) rest r reads

pub bodies_are_limited : (stream : List ℕ) → length (read_so_far stream).bytes ≤ most_bytes
bodies_are_limited stream = let r = reading_is stream in of_final r.rest (read_so_far stream) r.ends
