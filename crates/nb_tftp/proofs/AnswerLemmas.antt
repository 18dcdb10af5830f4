-- What the answer to a datagram says of it.
use Rattle.std.proofs.Common.{◌≡◌, ℕ, suc, ◌+◌, ◌-◌, ◌<◌, List, [], ◌∷◌, length, take, drop, Option, Some, None, Bool, true, false, cond, ◌&&◌, ◌||◌, refl, ap, ◌∙◌, sym, subst, arith, leb, ltb, eqb, add-one}
use Rattle.std.specs.Prelude.{unwrap_or}
use Rattle.std.specs.Option.{option_map_or, is_some, is_none}
use Rattle.std.proofs.lemmas.Bool.{false≢true, eqb-true, ltb-true, ltb-false, lt-leb, le-leb}
use Rattle.std.proofs.Math.Seq.{take-length}
use Rattle.nb_tftpmsg.specs.Packets.{Message, rrq, block, ack, error, oack}
use Rattle.nb_tftpmsg.specs.Reading.{packet_read}
use Rattle.nb_tftpmsg.proofs.PacketLemmas.{IsBytes, reading_sound}
use Rattle.nb_tftp.specs.declared.answer.Answer.{Answer}
use Rattle.nb_tftp.specs.declared.answer.Answer.TheVariants.{Ignored, Stranger, Again, Agreed, Declined, Taken, Ended}
use Rattle.nb_tftp.specs.Asks.{range_of_block}
use Rattle.nb_tftp.specs.Ends.{refused_by}
use Rattle.nb_tftp.specs.Decisions.{from_server, packet_decided, block_decided, end_of_block, is_block_size}
use Rattle.nb_tftp.specs.Received.{Received, has_block_number, block_bytes_of, is_error, is_oack, stated_size}
use Rattle.nb_tftp.specs.History.{came, given_of}
use Rattle.nb_tftp.proofs.BlockLemmas.{either_way}

-- it is the next block
abbrev pub next_of : Option ℕ → ℕ → ℕ → Option Message → Bool
next_of fixed last port p = option_map_or (has_block_number (suc last)) p false && from_server fixed port

abbrev pub fits_of : ℕ → Option Message → Bool
fits_of size p = leb (length (option_map_or block_bytes_of p [])) size

abbrev pub grants_of : Bool → Option ℕ → Option Message → Bool
grants_of opts fixed p = opts && (is_none fixed && option_map_or is_oack p false)

abbrev pub answers_of : Bool → Option ℕ → ℕ → ℕ → Option Message → Bool
answers_of opts fixed last port p =
    grants_of opts fixed p || (from_server fixed port && (option_map_or (has_block_number (last + 1)) p false || option_map_or is_error p false))

abbrev Quiet : Bool → Option ℕ → ℕ → ℕ → Option Message → Type 0
Quiet opts fixed last port p = (next_of fixed last port p ≡ false) × (answers_of opts fixed last port p ≡ false)

-- what each answer says
abbrev pub Means : Bool → Option ℕ → ℕ → ℕ → ℕ → Option Message → Answer → Type 0
Means opts fixed size last port p (Taken n len over) =
    (n ≡ suc last) × (len ≡ length (option_map_or block_bytes_of p [])) × (next_of fixed last port p ≡ true) × (fits_of size p ≡ true) × (over ≡ end_of_block size n len)
Means opts fixed size last port p (Ended cause) = ((next_of fixed last port p && fits_of size p) ≡ false) × (eqb cause.code 0 ≡ false)
Means opts fixed size last port p (Agreed granted) =
    (fixed ≡ None) × ((opts && option_map_or is_oack p false) ≡ true) × (granted ≡ option_map_or stated_size p 512) × (is_block_size granted ≡ true)
Means opts fixed size last port p (Declined rec) = (next_of fixed last port p && fits_of size p) ≡ false
Means opts fixed size last port p Ignored = Quiet opts fixed last port p
Means opts fixed size last port p Stranger = Quiet opts fixed last port p
Means opts fixed size last port p (Again n) = Quiet opts fixed last port p

and_off : (a : Bool) → (a && false) ≡ false
and_off true = refl
and_off false = refl

-- what is no OACK grants nothing
no_grant : (opts : Bool) (fixed : Option ℕ) (x : Bool) → x ≡ false → ((opts && (is_none fixed && false)) || x) ≡ false
no_grant false fixed x is = is
no_grant true None x is = is
no_grant true (Some p) x is = is

block_means : (opts : Bool) (fixed : Option ℕ) (size last rec port n : ℕ) (bytes : List ℕ) → from_server fixed port ≡ true → Means opts fixed size last port (Some (block n bytes)) (block_decided fixed size last rec n bytes)
block_means opts fixed size last rec port n bytes server = either_way (eqb n (last + 1))
    (λ on.
    let number : eqb n (suc last) ≡ true = ap (λ k. eqb n k) (sym (add-one last)) ∙ on in
    either_way (ltb size (length bytes))
    (λ long.
    let over : size < length bytes = ltb-true size (length bytes) long in
    rw (on, long) (ap (λ f. (eqb n (suc last) && from_server fixed port) && f) (lt-leb (length bytes) size over) ∙ and_off (eqb n (suc last) && from_server fixed port), refl))
    (λ short. rw (on, short) (eqb-true n (suc last) number, refl, ap (λ b. b && from_server fixed port) number ∙ server, le-leb (length bytes) size (ltb-false size (length bytes) short), refl)))
    (λ off.
    let number : eqb n (suc last) ≡ false = ap (λ k. eqb n k) (sym (add-one last)) ∙ off in
    let quiet : Quiet opts fixed last port (Some (block n bytes)) =
    (ap (λ b. b && from_server fixed port) number, no_grant opts fixed (from_server fixed port && (eqb n (last + 1) || false)) (ap (λ b. from_server fixed port && (b || false)) off ∙ and_off (from_server fixed port))) in
    rw off (either_way (ltb 0 n && (is_some fixed && eqb last n)) (λ again. rw again quiet) (λ other. rw other quiet)))

-- either answer of the port's test
by_server : (opts : Bool) (fixed : Option ℕ) (size last port : ℕ) (p : Message) (a b : Answer) → (from_server fixed port ≡ true → Means opts fixed size last port (Some p) a) → (from_server fixed port ≡ false → Means opts fixed size last port (Some p) b)
    → Means opts fixed size last port (Some p) (cond (from_server fixed port) a b)
by_server opts fixed size last port p a b yours other = either_way (from_server fixed port)
    (λ on. subst (λ (x : Answer). Means opts fixed size last port (Some p) x) (ap (λ t. cond t a b) (sym on)) (yours on))
    (λ off. subst (λ (x : Answer). Means opts fixed size last port (Some p) x) (ap (λ t. cond t a b) (sym off)) (other off))

no_answer : (opts : Bool) (fixed : Option ℕ) (port : ℕ) (test : Bool) → from_server fixed port ≡ false → ((opts && (is_none fixed && false)) || (from_server fixed port && test)) ≡ false
no_answer opts fixed port test off = no_grant opts fixed (from_server fixed port && test) (ap (λ b. b && test) off)

nothing_in : (opts : Bool) (fixed : Option ℕ) (port : ℕ) → ((opts && (is_none fixed && false)) || (from_server fixed port && false)) ≡ false
nothing_in opts fixed port = no_grant opts fixed (from_server fixed port && false) (and_off (from_server fixed port))

oack_means : (opts : Bool) (fixed : Option ℕ) (size last rec port : ℕ) (blksize tsize : Option ℕ) → Means opts fixed size last port (Some (oack blksize tsize)) (packet_decided opts fixed size last rec port (oack blksize tsize))
oack_means false fixed size last rec port blksize tsize = (refl, and_off (from_server fixed port))
oack_means true None size last rec port blksize tsize =
    either_way (is_block_size (unwrap_or blksize 512)) (λ on. rw on (refl, refl, refl, on)) (λ off. rw off refl)
oack_means true (Some p) size last rec port blksize tsize = either_way (eqb p port)
    (λ on. rw on (either_way (eqb last 0) (λ first. rw first (refl, and_off (eqb p port))) (λ later. rw later (refl, and_off (eqb p port)))))
    (λ off. rw off (refl, and_off (eqb p port)))

packet_means : (opts : Bool) (fixed : Option ℕ) (size last rec port : ℕ) (p : Message) → Means opts fixed size last port (Some p) (packet_decided opts fixed size last rec port p)
packet_means opts fixed size last rec port (block n bytes) =
    by_server opts fixed size last port (block n bytes) (block_decided fixed size last rec n bytes) Stranger
    (λ on. block_means opts fixed size last rec port n bytes on)
    (λ off. (ap (λ b. eqb n (suc last) && b) off ∙ and_off (eqb n (suc last)), no_answer opts fixed port (eqb n (last + 1) || false) off))
packet_means opts fixed size last rec port (error code text) =
    by_server opts fixed size last port (error code text) (Ended (refused_by rec code)) Stranger (λ on. (refl, refl)) (λ off. (refl, no_answer opts fixed port true off))
packet_means opts fixed size last rec port (rrq path asked) =
    by_server opts fixed size last port (rrq path asked) Ignored Stranger (λ on. (refl, nothing_in opts fixed port)) (λ off. (refl, nothing_in opts fixed port))
packet_means opts fixed size last rec port (ack n) =
    by_server opts fixed size last port (ack n) Ignored Stranger (λ on. (refl, nothing_in opts fixed port)) (λ off. (refl, nothing_in opts fixed port))
packet_means opts fixed size last rec port (oack blksize tsize) = oack_means opts fixed size last rec port blksize tsize

pub means : (opts : Bool) (fixed : Option ℕ) (size last rec port : ℕ) (p : Option Message) → Means opts fixed size last port p (option_map_or (packet_decided opts fixed size last rec port) p Ignored)
means opts fixed size last rec port None = (refl, nothing_in opts fixed port)
means opts fixed size last rec port (Some p) = packet_means opts fixed size last rec port p

-- where a block's bytes stand in its body
pub block_body : (body : List ℕ) (n : ℕ) (p : Option Message) → IsBytes body → packet_read body ≡ p → option_map_or (has_block_number n) p false ≡ true → drop 4 body ≡ option_map_or block_bytes_of p []
block_body body n None are is number = absurd (false≢true number)
block_body body n (Some (block k bytes)) are is number = ap (λ b. drop 4 b) (reading_sound body (block k bytes) are is).1
block_body body n (Some (rrq path options)) are is number = absurd (false≢true number)
block_body body n (Some (ack k)) are is number = absurd (false≢true number)
block_body body n (Some (error code text)) are is number = absurd (false≢true number)
block_body body n (Some (oack blksize tsize)) are is number = absurd (false≢true number)

empty_is : (bytes : List ℕ) → length bytes ≡ 0 → [] ≡ bytes
empty_is [] none = refl
empty_is (b ∷ bs) none = absurd (omega arith)

-- the range that is given is the block
pub given_block : (m : Received) (now : ℕ) (bytes : List ℕ) (len : ℕ) → drop 4 m.body ≡ bytes → len ≡ length bytes → given_of (came m now) (range_of_block len) ≡ bytes
given_block m now bytes len there same = either_way (eqb len 0)
    (λ none. let empty : length bytes ≡ 0 = sym same ∙ eqb-true len 0 none in rw none (empty_is bytes empty))
    (λ some.
    let count : 4 + len - 4 ≡ length bytes = omega arith in
    rw some (ap (λ k. take k (drop 4 m.body)) count ∙ ap (λ bs. take (length bytes) bs) there ∙ take-length bytes))
