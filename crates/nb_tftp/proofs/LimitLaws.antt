-- A file has at most 65,535 blocks.
use Rattle.std.proofs.Common.{◌≡◌, ◌≤◌, ◌<◌, ℕ, zero, suc, ◌*◌, ◌==◌, List, [], ◌∷◌, ◌++◌, length, Option, Some, None, Bool, true, false, ◌&&◌, ◌||◌, refl, ap, ◌∙◌, sym, subst, arith, leb, ltb, lit≤, append_assoc}
use Rattle.std.proofs.Math.Nat.{le_trans, mul-le-mul_left}
use Rattle.std.specs.Option.{option_map_or, is_some}
use Rattle.std.proofs.lemmas.Bool.{false≢true, eqb-true, eqb-false, leb-true}
use Rattle.std.proofs.lemmas.List.{append-nil}
use Rattle.nb_terms.specs.declared.acts.Acts.{Acts}
use Rattle.nb_tftpmsg.specs.Packets.{Message, rrq, block, ack, error, oack}
use Rattle.nb_tftpmsg.specs.Reading.{packet_read}
use Rattle.nb_tftpmsg.proofs.PacketLemmas.{IsBytes, reading_sound}
use Rattle.nb_tftp.specs.declared.answer.Answer.{Answer}
use Rattle.nb_tftp.specs.declared.answer.Answer.TheVariants.{Ignored, Stranger, Again, Agreed, Declined, Taken, Ended}
use Rattle.nb_tftp.specs.Asks.{Begun, acts_of}
use Rattle.nb_tftp.specs.Decisions.{end_of_block, is_block_size}
use Rattle.nb_tftp.specs.Received.{Received, packet_in, has_block_number, is_block, port_with, size_with}
use Rattle.nb_tftp.specs.Blocks.{FoundBlock, count_with, file_with}
use Rattle.nb_tftp.specs.History.{Call, came, ticked, Entry, entry, got, is_ended, EachEntry}
use Rattle.nb_tftp.specs.Sentences.{MeetsWith, AsksSoWith, answer_to, grants_first}
use Rattle.nb_tftp.proofs.StandsLemmas.{or_left}
use Rattle.nb_tftp.specs.Limits.{StopsAtEnd, HaveBytes}
use Rattle.nb_tftp.proofs.BlockLemmas.{either_way, found_at}
use Rattle.nb_tftp.proofs.ReceivedLemmas.{and_left, and_right, by_option, no_blocks, none_counted, no_size, blocks_at, Waits, is_next, fits, size_or_grant, kept_blocks, kept_size, kept_waits, grant_next, granted_size, granted_waits, more_count, more_size, more_waits}
use Rattle.nb_tftp.proofs.AnswerLemmas.{Means, means}
use Rattle.nb_tftp.proofs.HistoryLemmas.{got-append, is_ended-append}
use Rattle.nb_tftp.proofs.FoundLemmas.{found_all, file_fits, bounded_blocks}

number_small : (body : List ℕ) (n : ℕ) (p : Option Message) → IsBytes body → packet_read body ≡ p → option_map_or (has_block_number n) p false ≡ true → n ≤ 65535
number_small body n None are is number = absurd (false≢true number)
number_small body n (Some (block k bytes)) are is number =
    let small = (reading_sound body (block k bytes) are is).0 in
    let same = eqb-true k n number in
    omega arith
number_small body n (Some (rrq path options)) are is number = absurd (false≢true number)
number_small body n (Some (ack k)) are is number = absurd (false≢true number)
number_small body n (Some (error code text)) are is number = absurd (false≢true number)
number_small body n (Some (oack blksize tsize)) are is number = absurd (false≢true number)

found_small : (size port : ℕ) (got : List Received) → HaveBytes got → (n : ℕ) (found : FoundBlock) → found_at size port got n ≡ Some found → suc n ≤ 65535
found_small size port got are n found is =
    let at = found_all size (λ m. IsBytes m.body) port got n found are is in
    number_small found.one.body (suc n) (packet_in found.one) at.one refl (and_left (is_block (suc n) found.one) (port == found.one.port) at.number)

-- a block's number has two bytes
pub few_of_bytes : (opts : Bool) (got : List Received) → HaveBytes got → count_with opts got ≤ 65535
few_of_bytes opts got are = by_option (port_with opts got)
    (λ none. rw (no_blocks opts got none) (lit≤ tt))
    (λ port some. rw (blocks_at opts got port some) (bounded_blocks (size_with opts got) port got 65535 (length got) (found_small (size_with opts got) port got are)))

-- as many full blocks at most
at_most : (a size k : ℕ) → a ≤ size * k → k ≤ 65535 → a ≤ size * 65535
at_most a size k all few = le_trans all (mul-le-mul_left size few)

pub size_of_bytes : (opts : Bool) (got : List Received) → HaveBytes got → length (file_with opts got) ≤ size_with opts got * 65535
size_of_bytes opts got are = at_most (length (file_with opts got)) (size_with opts got) (count_with opts got) (file_fits opts got) (few_of_bytes opts got are)

-- a size that is one to agree on
fit_size : (size : ℕ) → is_block_size size ≡ true → size ≤ 1432
fit_size size fit = leb-true size 1432 (and_right (leb 8 size) (leb size 1432) fit)

-- where no block came, the size may be another
still_fit : (opts : Bool) (got : List Received) (m : Received) → count_with opts (got ++ m ∷ []) ≡ count_with opts got → size_with opts got ≤ 1432 → 0 < count_with opts (got ++ m ∷ []) → size_with opts (got ++ m ∷ []) ≤ 1432
still_fit opts got m same fit some = size_or_grant opts got m
    (λ kept. subst (λ s. s ≤ 1432) (sym kept) fit)
    (λ none on. let empty = none_counted opts got none in absurd (omega arith))

-- where no end was told, the next block has a number too, and the size is one to agree on
record Goes (opts : Bool) (h : List Entry) : Type 0 where
  few : count_with opts (got h) ≤ 65535
  fit : 0 < count_with opts (got h) → size_with opts (got h) ≤ 1432
  on : is_ended h ≡ false → Waits opts (got h) × (count_with opts (got h) < 65535) × (size_with opts (got h) ≤ 1432)

or_right : (a b : Bool) → (a || b) ≡ false → b ≡ false
or_right true b is = absurd (false≢true (sym is))
or_right false b is = is

not_over : (h : List Entry) (call : Call) (acts : Acts) → is_ended (h ++ entry call acts ∷ []) ≡ false → is_some acts.over ≡ false
not_over h call acts unended = or_right (is_ended h) (is_some acts.over) (sym (is_ended-append h (entry call acts)) ∙ unended)

kept_count : (opts : Bool) (h : List Entry) (m : Received) (now : ℕ) (acts : Acts) → Waits opts (got h) → (is_next opts (got h) m && fits (size_with opts (got h)) m) ≡ false → count_with opts (got (h ++ entry (came m now) acts ∷ [])) ≡ count_with opts (got h)
kept_count opts h m now acts waits other = ap (count_with opts) (got-append h (entry (came m now) acts)) ∙ ap length (kept_blocks opts (got h) m waits other)

quiet_goes : (opts : Bool) (h : List Entry) (m : Received) (now : ℕ) (acts : Acts) → Waits opts (got h) → count_with opts (got h) < 65535 → size_with opts (got h) ≤ 1432 → is_next opts (got h) m ≡ false → grants_first opts (port_with opts (got h)) m ≡ false → Goes opts (h ++ entry (came m now) acts ∷ [])
quiet_goes opts h m now acts waits small fit other ungranted =
    let more = got-append h (entry (came m now) acts) in
    let same = kept_count opts h m now acts waits (ap (λ b. b && fits (size_with opts (got h)) m) other) in
    let size : size_with opts (got (h ++ entry (came m now) acts ∷ [])) ≡ size_with opts (got h) = ap (size_with opts) more ∙ kept_size opts (got h) m ungranted in
    record {
      few = omega arith;
      fit = λ _. omega arith;
      on = λ _. (subst (Waits opts) (sym more) (kept_waits opts (got h) m waits other ungranted), omega arith, omega arith);
    }

end_none : (size n len : ℕ) → is_some (end_of_block size n len) ≡ false → (n == 65535) ≡ false
end_none size n len is = either_way (ltb len size)
    (λ short. absurd (false≢true (sym (rw short at is))))
    (λ full. either_way (n == 65535) (λ last. absurd (false≢true (sym (rw (full, last) at is)))) (λ more. more))

-- an end is told
over_goes : (opts : Bool) (h : List Entry) (m : Received) (now : ℕ) (acts : Acts) → Waits opts (got h) → count_with opts (got h) < 65535 → size_with opts (got h) ≤ 1432 → (is_next opts (got h) m && fits (size_with opts (got h)) m) ≡ false → is_some acts.over ≡ true → Goes opts (h ++ entry (came m now) acts ∷ [])
over_goes opts h m now acts waits small fit other over =
    let more = got-append h (entry (came m now) acts) in
    let same = kept_count opts h m now acts waits other in
    record {
      few = omega arith;
      fit = subst (λ g. 0 < count_with opts g → size_with opts g ≤ 1432) (sym more) (still_fit opts (got h) m (ap (count_with opts) (sym more) ∙ same) fit);
      on = λ unended. absurd (false≢true (sym (not_over h (came m now) acts unended) ∙ over));
    }

answer_goes : (opts : Bool) (b : Begun) (h : List Entry) (m : Received) (now : ℕ) (a : Answer) → Means opts (port_with opts (got h)) (size_with opts (got h)) (count_with opts (got h)) m.port (packet_in m) a → Waits opts (got h) → count_with opts (got h) < 65535 → size_with opts (got h) ≤ 1432 → Goes opts (h ++ entry (came m now) (acts_of b m.port a) ∷ [])
answer_goes opts b h m now Ignored means waits small fit = quiet_goes opts h m now (acts_of b m.port Ignored) waits small fit means.0 (or_left (grants_first opts (port_with opts (got h)) m) _ means.1)
answer_goes opts b h m now Stranger means waits small fit = quiet_goes opts h m now (acts_of b m.port Stranger) waits small fit means.0 (or_left (grants_first opts (port_with opts (got h)) m) _ means.1)
answer_goes opts b h m now (Again n) means waits small fit = quiet_goes opts h m now (acts_of b m.port (Again n)) waits small fit means.0 (or_left (grants_first opts (port_with opts (got h)) m) _ means.1)
answer_goes opts b h m now (Ended cause) means waits small fit = over_goes opts h m now (acts_of b m.port (Ended cause)) waits small fit means.0 refl
answer_goes opts b h m now (Declined rec) means waits small fit = over_goes opts h m now (acts_of b m.port (Declined rec)) waits small fit means refl
answer_goes opts b h m now (Agreed granted) means waits small fit =
    let acts : Acts = acts_of b m.port (Agreed granted) in
    let more = got-append h (entry (came m now) acts) in
    let same = kept_count opts h m now acts waits (ap (λ b. b && fits (size_with opts (got h)) m) (grant_next opts (got h) m means.1)) in
    let size : size_with opts (got (h ++ entry (came m now) acts ∷ [])) ≡ granted = ap (size_with opts) more ∙ granted_size opts (got h) m means.0 means.1 ∙ sym means.2 in
    let agreed = fit_size granted means.3 in
    record {
      few = omega arith;
      fit = λ _. omega arith;
      on = λ _. (subst (Waits opts) (sym more) (granted_waits opts (got h) m waits means.0 means.1), omega arith, omega arith);
    }
answer_goes opts b h m now (Taken n len over) means waits small fit =
    let acts : Acts = acts_of b m.port (Taken n len over) in
    let number = means.0 in
    let more = got-append h (entry (came m now) acts) in
    let next : count_with opts (got (h ++ entry (came m now) acts ∷ [])) ≡ suc (count_with opts (got h)) = ap (count_with opts) more ∙ more_count opts (got h) m waits means.2 means.3 in
    let size : size_with opts (got (h ++ entry (came m now) acts ∷ [])) ≡ size_with opts (got h) = ap (size_with opts) more ∙ more_size opts (got h) m means.2 in
    record {
      few = omega arith;
      fit = λ _. omega arith;
      on = λ unended.
          let other = eqb-false n 65535 (end_none (size_with opts (got h)) n len (sym (ap is_some means.4) ∙ not_over h (came m now) acts unended)) in (
            subst (Waits opts) (sym more) (more_waits opts (got h) m waits means.2 means.3),
            either_way (n == 65535) (λ is. absurd (other (eqb-true n 65535 is))) (λ is. omega (arith, other)),
            omega arith,
          );
    }

call_goes : (opts : Bool) (b : Begun) (h : List Entry) (call : Call) (acts : Acts) → AsksSoWith opts b h (entry call acts) → Waits opts (got h) → count_with opts (got h) < 65535 → size_with opts (got h) ≤ 1432 → Goes opts (h ++ entry call acts ∷ [])
call_goes opts b h (came m now) acts asks waits small fit =
    let fixed = port_with opts (got h) in
    let size = size_with opts (got h) in
    let last = count_with opts (got h) in
    subst (λ (x : Acts). Goes opts (h ++ entry (came m now) x ∷ [])) (sym asks)
    (answer_goes opts b h m now (answer_to opts fixed size last m) (means opts fixed size last m.rec m.port (packet_in m)) waits small fit)
call_goes opts b h (ticked now) acts asks waits small fit =
    let same : got (h ++ entry (ticked now) acts ∷ []) ≡ got h = got-append h (entry (ticked now) acts) ∙ append-nil (got h) in
    let number : count_with opts (got (h ++ entry (ticked now) acts ∷ [])) ≡ count_with opts (got h) = ap (count_with opts) same in
    let size : size_with opts (got (h ++ entry (ticked now) acts ∷ [])) ≡ size_with opts (got h) = ap (size_with opts) same in
    record { few = omega arith; fit = λ _. omega arith; on = λ _. (subst (Waits opts) (sym same) waits, omega arith, omega arith) }

goes_on : (opts : Bool) (b : Begun) (before es : List Entry) → Goes opts before → EachEntry (AsksSoWith opts b) before es → EachEntry (λ h e. is_ended h ≡ false) before es → Goes opts (before ++ es)
goes_on opts b before [] goes asks stops = rw (append-nil before) goes
goes_on opts b before (e ∷ es) goes asks stops =
    let now = goes.on stops.0 in
    let rest = goes_on opts b (before ++ e ∷ []) es (call_goes opts b before e.call e.acts asks.0 now.0 now.1 now.2) asks.1 stops.1 in
    subst (Goes opts) (append_assoc before (e ∷ []) es) rest

start_goes : (opts : Bool) → Goes opts []
start_goes opts =
    let size : size_with opts [] ≡ 512 = no_size opts [] refl in
    record { few = lit≤ tt; fit = λ _. omega arith; on = λ _. (λ size port can. record { behind = ([], refl, refl); few = lit≤ tt; all = refl }, lit≤ tt, omega arith) }

all_goes : (opts : Bool) (b : Begun) (start : ℕ) (h : List Entry) → MeetsWith opts b start h → StopsAtEnd h → Goes opts h
all_goes opts b start h meets stops = goes_on opts b [] h (start_goes opts) meets.sending stops

-- a transfer ends at block 65,535
pub few_of_calls : (opts : Bool) (b : Begun) (start : ℕ) (h : List Entry) → MeetsWith opts b start h → StopsAtEnd h → count_with opts (got h) ≤ 65535
few_of_calls opts b start h meets stops = (all_goes opts b start h meets stops).few

pub size_of_calls : (opts : Bool) (b : Begun) (start : ℕ) (h : List Entry) → MeetsWith opts b start h → StopsAtEnd h → length (file_with opts (got h)) ≤ size_with opts (got h) * 65535
size_of_calls opts b start h meets stops = at_most (length (file_with opts (got h))) (size_with opts (got h)) (count_with opts (got h)) (file_fits opts (got h)) (few_of_calls opts b start h meets stops)

-- the blocks that can have a number, in the largest size
most : (a size k : ℕ) → a ≤ size * k → (0 < k → size ≤ 1432) → k ≤ 65535 → a ≤ 93846120
most a size zero all fit few = omega arith
most a size (suc k) all fit few =
    let total = at_most a size (suc k) all few in
    let agreed = fit (omega arith) in
    omega arith

pub most_of_calls : (opts : Bool) (b : Begun) (start : ℕ) (h : List Entry) → MeetsWith opts b start h → StopsAtEnd h → length (file_with opts (got h)) ≤ 93846120
most_of_calls opts b start h meets stops =
    let all = all_goes opts b start h meets stops in
    most (length (file_with opts (got h))) (size_with opts (got h)) (count_with opts (got h)) (file_fits opts (got h)) all.fit all.few
