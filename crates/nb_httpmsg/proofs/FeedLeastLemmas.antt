-- A reader takes no byte past the one that decides the body or fills the block.
use Rattle.std.proofs.Common.{◌≡◌, ◌≤◌, ◌<◌, ℕ, suc, ◌+◌, ◌-◌, List, [], ◌∷◌, ◌++◌, length, take, drop, Bool, refl, ap, ◌∙◌, sym, subst, arith, leb, append-nil, append_assoc, length-append}
use Rattle.std.specs.List.{flat_map}
use Rattle.std.proofs.lemmas.Bool.{leb-true, leb-false}
use Rattle.std.proofs.lemmas.List.{drop_at, take_at, drop-append-le, take-append-le, take-append-drop}
use Rattle.httparse.specs.Grammar.{print_chunk_line}
use Rattle.nb_responses.specs.Lines.{first_block, unfinished, limit}
use Rattle.nb_responses.specs.Chunks.{Verdict, more, response, print_chunk, chunk_bytes}
use Rattle.nb_readings.specs.Readings.{chunked_read}
use Rattle.nb_responses.proofs.Cases.{either}
use Rattle.nb_httpmsg.specs.declared.place.Place.{Place}
use Rattle.nb_httpmsg.specs.declared.place.Place.TheVariants.{Size, Bytes, End, Trailer}
use Rattle.nb_httpmsg.specs.declared.line.LineRead.{LineRead}
use Rattle.nb_httpmsg.specs.Reader.{Reader, IsOpenTrailer}
use Rattle.nb_httpmsg.specs.Feeding.{InSize, InBytes, InEnd, InTrailer, StandsAt, verdict_of, StandsForBody, Feeds, IsSizeRead, IsTrailerRead}
use Rattle.nb_httpmsg.specs.Leasts.{IsNotEnough, TakesLeast, FeedsLeast}
use Rattle.nb_httpmsg.proofs.LeastLemmas.{less}
use Rattle.nb_httpmsg.proofs.FeedLemmas.{standing, kept_front}

-- after a part of what a step takes the reader would be there
record StillReads (old : Reader) (tail p part : List ℕ) : Type 0 where
  place : Place
  line : List ℕ
  some : List ℕ
  at : StandsAt place line (tail ++ part) (p ++ some)
  undecided : verdict_of place ≡ more
  room : length old.block + length some < 4096
  among : length some ≤ length part

least_by : (old new : Reader) (taken gathered : List ℕ) → new.block ≡ old.block ++ gathered → length gathered ≤ length taken
    → ((tail part later p : List ℕ) → StandsAt old.place old.line tail p → taken ≡ part ++ later → 0 < length later → StillReads old tail p part) → FeedsLeast old new taken
least_by old new taken gathered e few step = record {
  gathered = gathered;
  block = e;
  among = few;
  least = λ text before part later s spelled l.
      let w : StillReads old s.tail s.part part = step s.tail part later s.part s.at spelled l in
      let had : List ℕ = before ++ old.block in
      let there : StandsForBody w.place w.line (text ++ part) (had ++ w.some) = standing w.place w.line (text ++ part) (had ++ w.some) s.chunks (s.tail ++ part) (s.part ++ w.some) s.all
      (ap (λ t. t ++ part) s.is_text ∙ append_assoc (flat_map print_chunk s.chunks) s.tail part)
      (ap (λ b. b ++ w.some) s.is_bytes ∙ append_assoc (flat_map chunk_bytes s.chunks) s.part w.some) w.at in
      record {
        gathered = w.some;
        reads = there.reads ∙ ap (λ v. response v (had ++ w.some)) w.undecided;
        room = w.room;
        among = w.among;
      };
}

-- a size line
pub size_least : (old new : Reader) (line bytes : List ℕ) (taken : ℕ) (r : LineRead) → old.place ≡ Size → line ≡ old.line ++ take taken bytes → IsSizeRead line r → length old.line < r.len
    → new.block ≡ old.block → length old.block < 4096 → FeedsLeast old new (take (r.len - length old.line) bytes)
size_least old new line bytes taken r at spelled read far same room = least_by old new (take (r.len - length old.line) bytes) [] (same ∙ sym (append-nil old.block)) (omega arith) (λ tail part later p s e l.
    let here : InSize old.line tail p = subst (λ q. StandsAt q old.line tail p) at s in
    let front : take r.len line ≡ (old.line ++ part) ++ later = kept_front line old.line bytes taken r.len spelled read.within (omega (arith, far)) ∙ ap (λ t. old.line ++ t) e ∙ sym (append_assoc old.line part later) in
    record {
      place = Size;
      line = old.line ++ part;
      some = [];
      at = record { is_tail = ap (λ t. t ++ part) here.is_tail; is_part = append-nil p ∙ here.is_part; unread = read.least (old.line ++ part) later front l };
      undecided = refl;
      room = omega (arith, room);
      among = omega arith;
    })

-- a trailer
pub trailer_least : (used : ℕ) (old new : Reader) (line bytes : List ℕ) (taken : ℕ) (r : LineRead) → old.place ≡ Trailer used → line ≡ old.line ++ take taken bytes → IsTrailerRead used line r
    → length old.line < r.len → new.block ≡ old.block → length old.block < 4096 → FeedsLeast old new (take (r.len - length old.line) bytes)
trailer_least used old new line bytes taken r at spelled read far same room = least_by old new (take (r.len - length old.line) bytes) [] (same ∙ sym (append-nil old.block)) (omega arith) (λ tail part later p s e l.
    let here : InTrailer used old.line tail p = subst (λ q. StandsAt q old.line tail p) at s in
    let front : take r.len line ≡ (old.line ++ part) ++ later = kept_front line old.line bytes taken r.len spelled read.within (omega (arith, far)) ∙ ap (λ t. old.line ++ t) e ∙ sym (append_assoc old.line part later) in
    let longer : old.line ++ part ≡ print_chunk_line here.last ++ (here.rest ++ part) = ap (λ t. t ++ part) here.is_line ∙ append_assoc (print_chunk_line here.last) here.rest part in
    let within : used ≤ length (old.line ++ part) = omega (arith, here.is_used, ap length longer, length-append (print_chunk_line here.last) (here.rest ++ part)) in
    let unread : IsOpenTrailer used (old.line ++ part) = read.least (old.line ++ part) later front l within in
    record {
      place = Trailer used;
      line = old.line ++ part;
      some = [];
      at = record {
        last = here.last;
        rest = here.rest ++ part;
        chunk = here.chunk;
        is_line = longer;
        is_tail = ap (λ t. t ++ part) here.is_tail;
        is_part = append-nil p ∙ here.is_part;
        is_used = here.is_used;
        size = here.size;
        unended = ap (first_block (limit - used + 1)) (sym (ap (drop used) longer ∙ drop_at (print_chunk_line here.last) (here.rest ++ part) used (sym here.is_used))) ∙ unread.unended;
        short = unread.short;
      };
      undecided = refl;
      room = omega (arith, room);
      among = omega arith;
    })

-- bytes of a chunk
pub bytes_least : (left : ℕ) (old new : Reader) (taken : List ℕ) → old.place ≡ Bytes left → length taken ≤ left → new.block ≡ old.block ++ taken → length old.block + length taken ≤ 4096 → FeedsLeast old new taken
bytes_least left old new taken at few same room = least_by old new taken taken same (omega arith) (λ tail part later p s e l.
    let here : InBytes left tail p = subst (λ q. StandsAt q old.line tail p) at s in
    let short : length part < length taken = less part later taken e l in
    record {
      place = Bytes (left - length part);
      line = old.line;
      some = part;
      at = record {
        line = here.line;
        chunk = here.chunk;
        is_tail = ap (λ t. t ++ part) here.is_tail ∙ append_assoc (print_chunk_line here.line) p part;
        size = omega (arith, here.size, length-append p part, short, few);
        more = omega (arith, short, few);
      };
      undecided = refl;
      room = omega (arith, room, short);
      among = omega arith;
    })

none_of : (xs : List ℕ) → length xs ≡ 0 → xs ≡ []
none_of [] e = refl
none_of (x ∷ xs) e = absurd (some (length xs) e)
  where
    some : (n : ℕ) → suc n ≡ 0 → ⊥
    some n e = omega (arith, e)

-- a byte of a chunk's line end
pub end_least : (cr : Bool) (byte : ℕ) (old new : Reader) → old.place ≡ End cr → new.block ≡ old.block → length old.block < 4096 → FeedsLeast old new (byte ∷ [])
end_least cr byte old new at same room = least_by old new (byte ∷ []) [] (same ∙ sym (append-nil old.block)) (omega arith) (λ tail part later p s e l.
    let here : InEnd cr tail p = subst (λ q. StandsAt q old.line tail p) at s in
    let none : part ≡ [] = none_of part (omega (arith, less part later (byte ∷ []) e l)) in
    record {
      place = End cr;
      line = old.line;
      some = [];
      at = subst (λ t. InEnd cr t (p ++ [])) (sym (ap (λ t. tail ++ t) none ∙ append-nil tail)) (subst (InEnd cr tail) (sym (append-nil p)) here);
      undecided = refl;
      room = omega (arith, room);
      among = omega arith;
    })

-- no bytes
pub nothing_least : (r : Reader) → FeedsLeast r r []
nothing_least r = record {
  gathered = [];
  block = sym (append-nil r.block);
  among = omega arith;
  least = λ text before part later s e l. absurd (none (length part) (less part later [] e l));
}
  where
    none : (n : ℕ) → n < 0 → ⊥
    none n l = omega (arith, l)

-- bytes after others
pub both_least : (a b c : Reader) (xs ys : List ℕ) → Feeds a b xs → FeedsLeast a b xs → FeedsLeast b c ys → FeedsLeast a c (xs ++ ys)
both_least a b c xs ys feeds first second = record {
  gathered = first.gathered ++ second.gathered;
  block = second.block ∙ ap (λ t. t ++ second.gathered) first.block ∙ append_assoc a.block first.gathered second.gathered;
  among = omega (arith, length-append first.gathered second.gathered, length-append xs ys, first.among, second.among);
  least = λ text before part later s e l. either (leb (length xs) (length part))
      (λ on.
      let long : length xs ≤ length part = leb-true (length xs) (length part) on in
      let p : List ℕ = drop (length xs) part in
      let begins : part ≡ xs ++ drop (length xs) part = sym (take-append-drop (length xs) part)
      ∙ ap (λ t. t ++ drop (length xs) part) (sym (take-append-le (length xs) part later long) ∙ ap (take (length xs)) (sym e) ∙ take_at xs ys (length xs) refl) in
      let left : ys ≡ drop (length xs) part ++ later = sym (drop_at xs ys (length xs) refl) ∙ ap (drop (length xs)) e ∙ drop-append-le (length xs) part later long in
      let w : IsNotEnough (text ++ xs) (before ++ b.block) (length b.block) (drop (length xs) part) = second.least (text ++ xs) before (drop (length xs) part) later (feeds text before s) left l in
      let grown : (before ++ b.block) ++ w.gathered ≡ (before ++ a.block) ++ (first.gathered ++ w.gathered) =
      ap (λ t. (before ++ t) ++ w.gathered) first.block ∙ ap (λ t. t ++ w.gathered) (sym (append_assoc before a.block first.gathered)) ∙ append_assoc (before ++ a.block) first.gathered w.gathered in
      let had : length b.block ≡ length a.block + length first.gathered = ap length first.block ∙ length-append a.block first.gathered in
      let size : length (first.gathered ++ w.gathered) ≡ length first.gathered + length w.gathered = length-append first.gathered w.gathered in
      record {
        gathered = first.gathered ++ w.gathered;
        reads = sym (ap chunked_read (append_assoc text xs (drop (length xs) part) ∙ ap (λ t. text ++ t) (sym begins))) ∙ w.reads ∙ ap (response more) grown;
        room = omega (arith, w.room, had, size);
        among = omega (arith, size, first.among, w.among, ap length begins, length-append xs (drop (length xs) part));
      })
      (λ off.
      let short : length part < length xs = leb-false (length xs) (length part) off in
      let begins : xs ≡ part ++ drop (length part) xs = sym (take-append-drop (length part) xs)
      ∙ ap (λ t. t ++ drop (length part) xs) (sym (take-append-le (length part) xs ys (omega (arith, short))) ∙ ap (take (length part)) e ∙ take_at part later (length part) refl) in
      first.least text before part (drop (length part) xs) s begins (omega (arith, short, ap length begins, length-append part (drop (length part) xs))));
}

-- what a call that begins with an empty block takes
pub takes_least : (old new : Reader) (taken : List ℕ) → old.block ≡ [] → FeedsLeast old new taken → TakesLeast old taken
takes_least old new taken empty least = λ text bytes part later s e l.
    let same : bytes ++ old.block ≡ bytes = ap (λ t. bytes ++ t) empty ∙ append-nil bytes in
    subst (λ b. IsNotEnough text b 0 part) same
    (subst (λ n. IsNotEnough text (bytes ++ old.block) n part) (ap length empty)
    (least.least text bytes part later (subst (StandsForBody old.place old.line text) (sym same) s) e l))
