-- An open on a connection has one answer to what comes next: what it puts is said of what came.
use Rattle.std.proofs.Common.{◌≡◌, ℕ, List, [], ◌∷◌, ◌++◌, sym, ◌∙◌, ap, subst, append_assoc, append-nil}
use Rattle.nb_defs.specs.Records.{Out}
use Rattle.nb_stack.specs.Client.{Client}
use Rattle.nb_talks.specs.Talking.{Came, by_segment, by_time, Talker, Talk}
use Rattle.nb_talks.specs.TalkPromises.{Put}
use Rattle.nb_talks.proofs.TalkPromiseLaws.{one_answer}
use Rattle.nb_machine.specs.Lives.{OpenInput, message, tcp_segment, time, task, close, Exchange, exchange, Live, continued}
use Rattle.nb_machine.specs.Connections.{Connection, connection_of, arrived_segment, Talking, talk_of, put_records, PutsAsked, PutsAt, KeepsAt, EachExchange, KeepsTalk}

-- a fact of the last exchange
pub last_exchange : (P : List Exchange → Exchange → Type 0) (before xs : List Exchange) (x : Exchange) → EachExchange P before (xs ++ x ∷ []) → P (before ++ xs) x
last_exchange P before [] x h = subst (λ z. P z x) (sym (append-nil before)) h.0
last_exchange P before (y ∷ xs) x h = subst (λ z. P z x) (append_assoc before (y ∷ []) xs) (last_exchange P (before ++ y ∷ []) xs x h.1)

asked_one : {T : Type 0} (t : Talker T) (c : Connection) (d : Talk T) (asked : List (Came T)) (a b : Put) → PutsAsked t c d asked a → PutsAsked t c d asked b → a ≡ b
asked_one t c d [] a b p q = absurd p
asked_one t c d (x ∷ xs) a b p q = one_answer t c.link.isn c.since d x a b p q

puts_one : {T : Type 0} (t : Talking T) (c : Connection) (d : Talk T) (input : OpenInput) (a b : Put) → PutsAt t c d input a → PutsAt t c d input b → a ≡ b
puts_one t c d (message rec port body now) a b p q = absurd p
puts_one t c d (tcp_segment rec g now) a b p q = one_answer t.talker c.link.isn c.since d (by_segment (arrived_segment rec g) now) a b p q
puts_one t c d (time now) a b p q = one_answer t.talker c.link.isn c.since d (by_time now) a b p q
puts_one t c d (task x now) a b p q = asked_one t.talker c d (t.reads (task x now)) a b p q
puts_one t c d (close cause) a b p q = p ∙ sym q

kept_one : {T : Type 0} (t : Talking T) (c : Connection) (before : List Exchange) (input : OpenInput) (link : Client) (put put' : List Out) → KeepsAt t c before (exchange input link put) → KeepsAt t c before (exchange input link put') → put ≡ put'
kept_one t c before input link put put' a b =
    a.records ∙ ap (put_records c link) (puts_one t c (talk_of t c before) input a.put b.put a.puts b.puts) ∙ sym b.records

-- its answer is one, whatever is said on it
pub talk_one : {T : Type 0} (t : Talking T) (isn : ℕ) (l : Live) (input : OpenInput) (link : Client) (put put' : List Out) → KeepsTalk t isn (continued l (exchange input link put)) → KeepsTalk t isn (continued l (exchange input link put')) → put ≡ put'
talk_one t isn l input link put put' a b =
    kept_one t (connection_of isn l) l.exchanges input link put put'
    (last_exchange (KeepsAt t (connection_of isn l)) [] l.exchanges (exchange input link put) a)
    (last_exchange (KeepsAt t (connection_of isn l)) [] l.exchanges (exchange input link put') b)
