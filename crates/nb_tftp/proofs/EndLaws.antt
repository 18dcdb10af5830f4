-- The end that a call tells, by what was received and when.
use Rattle.std.proofs.Common.{◌≡◌, ◌≤◌, ◌<◌, ℕ, zero, suc, ◌+◌, ◌==◌, List, [], ◌∷◌, ◌++◌, length, Option, Some, None, Bool, true, false, cond, ◌&&◌, refl, ap, ◌∙◌, sym, subst, arith, ltb, eq-eqb}
use Rattle.std.specs.Prelude.{unwrap_or}
use Rattle.std.specs.List.{AllByRecursion}
use Rattle.std.specs.Option.{option_map_or, is_some, IfSome}
use Rattle.std.proofs.lemmas.Bool.{eqb-true, ltb-true, ltb-false}
use Rattle.std.proofs.lemmas.Option.{none-some, same_Some}
use Rattle.nb_retry.specs.declared.retry.Due.{Due}
use Rattle.nb_retry.specs.declared.retry.Due.TheVariants.{Not, Again as TryAgain, Over as PlanOver}
use Rattle.nb_retry.specs.Plans.{asked_at}
use Rattle.nb_terms.specs.declared.acts.Acts.{Acts}
use Rattle.nb_terms.specs.declared.cause.Cause.{Cause}
use Rattle.nb_tftpmsg.specs.Packets.{Message, rrq, block, ack, error, oack}
use Rattle.nb_tftp.specs.declared.answer.Answer.{Answer}
use Rattle.nb_tftp.specs.declared.answer.Answer.TheVariants.{Ignored, Stranger, Again, Agreed, Declined, Taken, Ended}
use Rattle.nb_tftp.specs.Ends.{ok_cause, refused_by, timed_out, broken_block, too_many_blocks}
use Rattle.nb_tftp.specs.Asks.{Begun, acts_of, due_acts}
use Rattle.nb_tftp.specs.Decisions.{from_server, packet_decided, end_of_block, is_block_size}
use Rattle.nb_tftp.specs.Received.{Received, packet_in, block_bytes, has_block_number, block_bytes_of, is_oack, stated_size, port_with, size_with}
use Rattle.nb_tftp.specs.Blocks.{FoundBlock, blocks_with, blocks_to, count_with, whole_with, last_block}
use Rattle.nb_tftp.specs.History.{Call, came, ticked, Entry, entry, got, ends_ok, due_of, last_advance, watched, Watch}
use Rattle.nb_tftp.specs.Sentences.{MeetsWith, OkWhereWholeWith, TriesUnanswered}
use Rattle.nb_tftp.specs.Endings.{IsFullWith, RanOut, EndingWith, by_whole_file, by_refusal, by_long_block, by_unfit_size, by_last_number, by_silence}
use Rattle.nb_tftp.proofs.BlockLemmas.{either_way, found_at}
use Rattle.nb_tftp.proofs.ReceivedLemmas.{by_option, no_blocks, blocks_at}
use Rattle.nb_tftp.proofs.HistoryLemmas.{last_advance-append, watched-append}
use Rattle.nb_tftp.proofs.FoundLemmas.{found_short, bytes_found, no_last}
use Rattle.nb_tftp.proofs.StandsLemmas.{PlanOf}
use Rattle.nb_tftp.proofs.PlainLaws.{EachEntry-last, asks_last}
use Rattle.nb_tftp.proofs.SilenceLemmas.{ran_out}

-- what a packet is that is answered by an end
data Told (asked : Bool) (fixed : Option ℕ) (size last rec port : ℕ) (p : Message) (a : Answer) (cause : Cause) : Type 0 where
  told_refused : (number : ℕ) (text : List ℕ) → p ≡ error number text → from_server fixed port ≡ true → cause ≡ refused_by rec number → Told asked fixed size last rec port p a cause
  told_broken : (n : ℕ) (bytes : List ℕ) → p ≡ block n bytes → n ≡ last + 1 → size < length bytes → from_server fixed port ≡ true → cause ≡ broken_block rec → Told asked fixed size last rec port p a cause
  told_unfit : (blksize tsize : Option ℕ) → p ≡ oack blksize tsize → asked ≡ true → fixed ≡ None → is_block_size (unwrap_or blksize 512) ≡ false → cause ≡ broken_block rec → Told asked fixed size last rec port p a cause
  told_taken : (n len : ℕ) → a ≡ Taken n len (end_of_block size n len) → end_of_block size n len ≡ Some cause → Told asked fixed size last rec port p a cause

block_told : (b : Begun) (asked : Bool) (fixed : Option ℕ) (size last rec port n : ℕ) (bytes : List ℕ) (cause : Cause) (server next long again : Bool)
    → from_server fixed port ≡ server → (n == last + 1) ≡ next → ltb size (length bytes) ≡ long
    → (acts_of b port (cond server (cond next (cond long (Ended (broken_block rec)) (Taken n (length bytes) (end_of_block size n (length bytes)))) (cond again (Again n) Ignored)) Stranger)).over ≡ Some cause
    → Told asked fixed size last rec port (block n bytes) (cond server (cond next (cond long (Ended (broken_block rec)) (Taken n (length bytes) (end_of_block size n (length bytes)))) (cond again (Again n) Ignored)) Stranger) cause
block_told b asked fixed size last rec port n bytes cause false next long again from number over is = absurd (none-some cause is)
block_told b asked fixed size last rec port n bytes cause true false long true from number over is = absurd (none-some cause is)
block_told b asked fixed size last rec port n bytes cause true false long false from number over is = absurd (none-some cause is)
block_told b asked fixed size last rec port n bytes cause true true true again from number over is =
    told_broken n bytes refl (eqb-true n (last + 1) number) (ltb-true size (length bytes) over) from (sym (same_Some (broken_block rec) cause is))
block_told b asked fixed size last rec port n bytes cause true true false again from number over is = told_taken n (length bytes) refl is

error_told : (b : Begun) (asked : Bool) (fixed : Option ℕ) (size last rec port code : ℕ) (text : List ℕ) (cause : Cause) (server : Bool) → from_server fixed port ≡ server
    → (acts_of b port (cond server (Ended (refused_by rec code)) Stranger)).over ≡ Some cause
    → Told asked fixed size last rec port (error code text) (cond server (Ended (refused_by rec code)) Stranger) cause
error_told b asked fixed size last rec port code text cause false from is = absurd (none-some cause is)
error_told b asked fixed size last rec port code text cause true from is = told_refused code text refl from (sym (same_Some (refused_by rec code) cause is))

none_told : {P : Type 0} (b : Begun) (port : ℕ) (cause : Cause) (server : Bool) → (acts_of b port (cond server Ignored Stranger)).over ≡ Some cause → P
none_told b port cause true is = absurd (none-some cause is)
none_told b port cause false is = absurd (none-some cause is)

-- an OACK ends it that comes first, with a size that is none to agree on
grant_told : (b : Begun) (asked : Bool) (fixed : Option ℕ) (size last rec port : ℕ) (blksize tsize : Option ℕ) (cause : Cause) (server first fit : Bool)
    → (last == 0) ≡ first → is_block_size (unwrap_or blksize 512) ≡ fit
    → (acts_of b port (cond asked (cond server (cond (is_some fixed) (cond first (Again 0) Ignored) (cond fit (Agreed (unwrap_or blksize 512)) (Declined rec))) Stranger) Ignored)).over ≡ Some cause
    → (a : Answer) → Told asked fixed size last rec port (oack blksize tsize) a cause
grant_told b false fixed size last rec port blksize tsize cause server first fit e1 e2 is a = absurd (none-some cause is)
grant_told b true fixed size last rec port blksize tsize cause false first fit e1 e2 is a = absurd (none-some cause is)
grant_told b true (Some p) size last rec port blksize tsize cause true true fit e1 e2 is a = absurd (none-some cause is)
grant_told b true (Some p) size last rec port blksize tsize cause true false fit e1 e2 is a = absurd (none-some cause is)
grant_told b true None size last rec port blksize tsize cause true first true e1 e2 is a = absurd (none-some cause is)
grant_told b true None size last rec port blksize tsize cause true first false e1 e2 is a = told_unfit blksize tsize refl refl refl e2 (sym (same_Some (broken_block rec) cause is))

packet_told : (b : Begun) (asked : Bool) (fixed : Option ℕ) (size last rec port : ℕ) (p : Message) (cause : Cause) → (acts_of b port (packet_decided asked fixed size last rec port p)).over ≡ Some cause → Told asked fixed size last rec port p (packet_decided asked fixed size last rec port p) cause
packet_told b asked fixed size last rec port (block n bytes) cause is =
    block_told b asked fixed size last rec port n bytes cause (from_server fixed port) (n == last + 1) (ltb size (length bytes)) (ltb 0 n && (is_some fixed && last == n)) refl refl refl is
packet_told b asked fixed size last rec port (error code text) cause is = error_told b asked fixed size last rec port code text cause (from_server fixed port) refl is
packet_told b asked fixed size last rec port (rrq path options) cause is = none_told b port cause (from_server fixed port) is
packet_told b asked fixed size last rec port (ack n) cause is = none_told b port cause (from_server fixed port) is
packet_told b asked fixed size last rec port (oack blksize tsize) cause is =
    grant_told b asked fixed size last rec port blksize tsize cause (from_server fixed port) (last == 0) (is_block_size (unwrap_or blksize 512)) refl refl is _

from_it : (fixed : Option ℕ) (port : ℕ) → from_server fixed port ≡ true → IfSome fixed (λ p. port ≡ p)
from_it None port is = tt
from_it (Some p) port is = sym (eqb-true p port is)

short_more : (size : ℕ) (bs : List (List ℕ)) (o : Option FoundBlock) → AllByRecursion (λ b. length b ≤ size) bs → ((f : FoundBlock) → o ≡ Some f → length (block_bytes f.one) ≤ size) → AllByRecursion (λ b. length b ≤ size) (bs ++ bytes_found o)
short_more size [] None all short = tt
short_more size [] (Some f) all short = (short f refl, tt)
short_more size (b ∷ bs) o all short = (all.0, short_more size bs o all.1 short)

short_to : (size port : ℕ) (received : List Received) (n : ℕ) → AllByRecursion (λ b. length b ≤ size) (blocks_to size port received n)
short_to size port received zero = tt
short_to size port received (suc n) = short_more size (blocks_to size port received n) (found_at size port received n) (short_to size port received n) (λ f is. found_short size port received n f is)

short_blocks : (opts : Bool) (received : List Received) → AllByRecursion (λ b. length b ≤ size_with opts received) (blocks_with opts received)
short_blocks opts received = by_option (port_with opts received)
    (λ none. subst (λ (bs : List (List ℕ)). AllByRecursion (λ b. length b ≤ size_with opts received) bs) (sym (no_blocks opts received none)) tt)
    (λ port some. subst (λ (bs : List (List ℕ)). AllByRecursion (λ b. length b ≤ size_with opts received) bs) (sym (blocks_at opts received port some)) (short_to (size_with opts received) port received (length received)))

last_short : (size : ℕ) (bs : List (List ℕ)) (last : List ℕ) → AllByRecursion (λ b. length b ≤ size) bs → last_block bs ≡ Some last → length last ≤ size
last_short size [] last all is = absurd (none-some last is)
last_short size (b ∷ []) last all is = subst (λ (x : List ℕ). length x ≤ size) (same_Some b last is) all.0
last_short size (b ∷ c ∷ bs) last all is = last_short size (c ∷ bs) last all.1 is

-- a file of 65,535 blocks that isn't whole has a full last one
full_file : (opts : Bool) (received : List Received) → count_with opts received ≡ 65535 → whole_with opts received ≡ false → IsFullWith opts received
full_file opts received all open_yet = by_option (last_block (blocks_with opts received))
    (λ none. let empty : count_with opts received ≡ 0 = no_last (blocks_with opts received) none in absurd (omega arith))
    (λ last is.
    let short = last_short (size_with opts received) (blocks_with opts received) last (short_blocks opts received) is in
    let long = ltb-false (length last) (size_with opts received) (sym (ap (λ (o : Option (List ℕ)). option_map_or (λ block. ltb (length block) (size_with opts received)) o false) is) ∙ open_yet) in
    record { all = all; last = last; is_last = is; full = omega arith })

-- a block that ends the transfer
taken_ends : (opts : Bool) (b : Begun) (start : ℕ) (h : List Entry) (m : Received) (now : ℕ) (acts : Acts) (size n len : ℕ) (cause : Cause)
    → MeetsWith opts b start (h ++ entry (came m now) acts ∷ []) → acts ≡ acts_of b m.port (Taken n len (end_of_block size n len)) → end_of_block size n len ≡ Some cause → acts.over ≡ Some cause
    → EndingWith opts start h (entry (came m now) acts) cause
taken_ends opts b start h m now acts size n len cause meets asks ends over =
    let e : Entry = entry (came m now) acts in
    let whole : ends_ok acts ≡ whole_with opts (got (h ++ e ∷ [])) = EachEntry-last (OkWhereWholeWith opts) [] h e meets.whole in
    let told : ends_ok acts ≡ (cause.code == 0) = ap (λ (o : Option Cause). option_map_or (λ c. c.code == 0) o false) over in
    either_way (ltb len size)
    (λ short.
    let is : cause ≡ ok_cause = sym (same_Some ok_cause cause (rw short at ends)) in
    by_whole_file is (sym whole ∙ told ∙ ap (λ (c : Cause). c.code == 0) is))
    (λ long. either_way (n == 65535)
    (λ last.
    let is : cause ≡ too_many_blocks = sym (same_Some too_many_blocks cause (rw (long, last) at ends)) in
    let place : last_advance (h ++ e ∷ []) ≡ n = last_advance-append h e ∙ ap (λ (x : Acts). unwrap_or x.advance (last_advance h)) asks in
    by_last_number is (full_file opts (got (h ++ e ∷ [])) (sym meets.advance ∙ place ∙ eqb-true n 65535 last) (sym whole ∙ told ∙ ap (λ (c : Cause). c.code == 0) is)))
    (λ more. absurd (none-some cause (rw (long, more) at ends))))

told_ends : (opts : Bool) (b : Begun) (start : ℕ) (h : List Entry) (m : Received) (now : ℕ) (acts : Acts) (p : Message) (a : Answer) (cause : Cause)
    → Told opts (port_with opts (got h)) (size_with opts (got h)) (count_with opts (got h)) m.rec m.port p a cause → packet_in m ≡ Some p
    → MeetsWith opts b start (h ++ entry (came m now) acts ∷ []) → acts ≡ acts_of b m.port a → acts.over ≡ Some cause
    → EndingWith opts start h (entry (came m now) acts) cause
told_ends opts b start h m now acts p a cause (told_refused number text is from why) at meets asks over =
    by_refusal m now number refl why (record { text = text; packet = at ∙ ap (λ x. Some x) is; server = from_it (port_with opts (got h)) m.port from })
told_ends opts b start h m now acts p a cause (told_broken n bytes is number long from why) at meets asks over =
    let packet : packet_in m ≡ Some (block n bytes) = at ∙ ap (λ x. Some x) is in
    by_long_block m now refl why (record {
      next = ap (λ (o : Option Message). option_map_or (has_block_number (count_with opts (got h) + 1)) o false) packet ∙ eq-eqb n (count_with opts (got h) + 1) number;
      long = subst (λ (o : Option Message). size_with opts (got h) < length (option_map_or block_bytes_of o [])) (sym packet) long;
      server = from_it (port_with opts (got h)) m.port from;
    })
told_ends opts b start h m now acts p a cause (told_unfit blksize tsize is asked none unfit why) at meets asks over =
    let packet : packet_in m ≡ Some (oack blksize tsize) = at ∙ ap (λ x. Some x) is in
    by_unfit_size m now refl why (record {
      asked = asked;
      first = none;
      grant = ap (λ (o : Option Message). option_map_or is_oack o false) packet;
      unfit = ap (λ (o : Option Message). is_block_size (option_map_or stated_size o 512)) packet ∙ unfit;
    })
told_ends opts b start h m now acts p a cause (told_taken n len is ends) at meets asks over =
    taken_ends opts b start h m now acts (size_with opts (got h)) n len cause meets (asks ∙ ap (acts_of b m.port) is) ends over

came_by_packet : (opts : Bool) (b : Begun) (start : ℕ) (h : List Entry) (m : Received) (now : ℕ) (acts : Acts) (cause : Cause) (o : Option Message) → packet_in m ≡ o
    → MeetsWith opts b start (h ++ entry (came m now) acts ∷ []) → acts ≡ acts_of b m.port (option_map_or (packet_decided opts (port_with opts (got h)) (size_with opts (got h)) (count_with opts (got h)) m.rec m.port) o Ignored) → acts.over ≡ Some cause
    → EndingWith opts start h (entry (came m now) acts) cause
came_by_packet opts b start h m now acts cause None at meets asks over = absurd (none-some cause (sym (ap (λ (x : Acts). x.over) asks) ∙ over))
came_by_packet opts b start h m now acts cause (Some p) at meets asks over =
    told_ends opts b start h m now acts p (packet_decided opts (port_with opts (got h)) (size_with opts (got h)) (count_with opts (got h)) m.rec m.port p) cause
    (packet_told b opts (port_with opts (got h)) (size_with opts (got h)) (count_with opts (got h)) m.rec m.port p cause (sym (ap (λ (x : Acts). x.over) asks) ∙ over)) at meets asks over

due_told : (b : Begun) (fixed : Option ℕ) (last : ℕ) (due : Due) (cause : Cause) → (due_acts b fixed last due).over ≡ Some cause → (due ≡ PlanOver) × (cause ≡ timed_out)
due_told b fixed last Not cause is = absurd (none-some cause is)
due_told b fixed last (TryAgain n) cause is = absurd (none-some cause is)
due_told b fixed last PlanOver cause is = (refl, sym (same_Some timed_out cause is))

tick_ends : (opts : Bool) (b : Begun) (start : ℕ) (h : List Entry) (now : ℕ) (acts : Acts) (cause : Cause) → MeetsWith opts b start (h ++ entry (ticked now) acts ∷ []) → acts.over ≡ Some cause → EndingWith opts start h (entry (ticked now) acts) cause
tick_ends opts b start h now acts cause meets over =
    let e : Entry = entry (ticked now) acts in
    let asks = asks_last opts b start h e meets in
    let told = due_told b (port_with opts (got h)) (count_with opts (got h)) (due_of acts) cause (sym (ap (λ (x : Acts). x.over) asks) ∙ over) in
    let watch : Watch = record (watched start h) { times = (watched start h).times ++ asked_at now PlanOver ∷ [] } in
    let same : watched start (h ++ e ∷ []) ≡ watch = watched-append start h e ∙ ap (λ d. record (watched start h) { times = (watched start h).times ++ asked_at now d ∷ [] }) told.0 in
    by_silence now refl told.1
    (subst (λ (w : Watch). RanOut w now) (sym same) (ran_out watch (watched start h).times now refl (subst PlanOf same meets.tries)))
    (EachEntry-last (TriesUnanswered opts start) [] h e meets.unanswered)

call_ends : (opts : Bool) (b : Begun) (start : ℕ) (h : List Entry) (call : Call) (acts : Acts) (cause : Cause) → MeetsWith opts b start (h ++ entry call acts ∷ []) → acts.over ≡ Some cause → EndingWith opts start h (entry call acts) cause
call_ends opts b start h (came m now) acts cause meets over = came_by_packet opts b start h m now acts cause (packet_in m) refl meets (asks_last opts b start h (entry (came m now) acts) meets) over
call_ends opts b start h (ticked now) acts cause meets over = tick_ends opts b start h now acts cause meets over

-- each cause stands in what was received and when
pub ends_as_told : (opts : Bool) (b : Begun) (start : ℕ) (h : List Entry) (e : Entry) (cause : Cause) → MeetsWith opts b start (h ++ e ∷ []) → e.acts.over ≡ Some cause → EndingWith opts start h e cause
ends_as_told opts b start h e cause meets over = call_ends opts b start h e.call e.acts cause meets over
